-- The journals of every history hold.
use Rattle.std.proofs.Common.{◌≡◌, ◌≤◌, ◌<◌, ◌+◌, ◌∙◌, ap, sym, subst, ℕ, zero, suc, Bool, true, false, cond, eqb}
use Rattle.std.proofs.Common.{not, List, [], ◌∷◌, length, get_or, take, filter, refl, arith}
use Rattle.std.specs.Prelude.{Option, Some, None, unwrap_or, ◌&&◌, ◌||◌, ◌==◌, slice_get}
use Rattle.std.specs.Cmp.Lexicographic.{pointwise, pointwise_decides, bytes_decides}
use Rattle.std.specs.List.{list_all, list_any}
use Rattle.std.proofs.lemmas.Bool.{and_parts, eqb-true, eq-eqb, lt-ltb, le-leb}
use Rattle.lks_base.specs.Checking.{plan_fault, has_honest, unless, each as each_fault, has_peer, has_counted, is_fit}
use Rattle.lks_base.specs.Checking.{member_fault, copy_fault, peer_fault}
use Rattle.lks_base.specs.Kinds.{is_second, is_kind}
use Rattle.lks_base.specs.declared.events.Event.{Event}
use Rattle.lks_base.specs.declared.names.HashKind.{HashKind}
use Rattle.lks_base.specs.declared.names.HashKind.TheVariants.{Sha256, Sha512_256}
use Rattle.lks_base.specs.declared.plans.AuPlan.{AuPlan}
use Rattle.lks_base.specs.declared.plans.Holding.{Holding}
use Rattle.lks_base.specs.declared.plans.PeerPlan.{PeerPlan}
use Rattle.lks_base.specs.declared.plans.Plan.{Plan}
use Rattle.lks_base.specs.declared.plans.PlanFault.TheVariants.{Bounds, Repeat, BlockCount}
use Rattle.lks_base.specs.declared.records.Record.{Record}
use Rattle.lks_base.proofs.PlanBounds.{one_copy}
use Rattle.lks_base.proofs.PlanLaws.{no_first, stands, fifth, all_of, lists_stand}
use Rattle.lks_hash.specs.Hashes.{key_of}
use Rattle.lks_hash.specs.Running.{hashes_of}
use Rattle.lks_law.specs.Facts.{HasJournal}
use Rattle.lks_law.specs.Histories.{IsHistory}
use Rattle.lks_law.specs.Journal.{Opening, Repair, said_by, deposit_of, contents_at, contents_of, opening_of}
use Rattle.lks_law.proofs.Linked.{Each}
use Rattle.lks_law.specs.Polls.{Station, ballot_for, votes_behind, ballot_behind}
use Rattle.lks_law.specs.Safe.{Evidence}
use Rattle.lks_law.specs.Voting.{poll_named}
use Rattle.lks_law.specs.World.{Standing, is_honest, station_of, deposits as deposits_of, peer_at, world}
use Rattle.lks_law.proofs.Growing.{IsLater, each_map, front_deposit, contents_length, version_length}
use Rattle.lks_law.proofs.Holding.{opening_later, repair_later, repair_within, plan_is_lawful}
use Rattle.lks_law.proofs.Journals.{deposits_are, AreDeposits, journals_are_own, rules_are, evidence_in}
use Rattle.lks_law.proofs.Knowing.{is_had}
use Rattle.lks_law.proofs.Linking.{AreApart, found_at, place_at}
use Rattle.lks_law.proofs.Lists.{filter_at}
use Rattle.lks_law.proofs.Matching.{VoteFact, inner_facts, voted_over}
use Rattle.lks_law.proofs.Starts.{world_holds}
use Rattle.lks_law.proofs.Worlds.{IsSound}
use Rattle.lks_tally.specs.declared.ballots.Ballot.{Ballot}
use Rattle.lks_tally.specs.declared.ballots.Vote.{Vote}
use Rattle.lks_tally.specs.Counting.{key_for}
use Rattle.lks_evidence.specs.declared.findings.Shelf.{Shelf}
use Rattle.lks_evidence.specs.Histories.{AreShelvesOf}
use Rattle.lks_evidence.specs.Holding.{Stands, SetHolds}
use Rattle.lks_evidence.specs.Records as mine
use Rattle.lks_evidence.specs.Rules.{has_shelf, is_new, deposited_blocks, is_deposited, is_held, is_over, is_for}
use Rattle.lks_evidence.specs.Rules.{is_committed, is_joined, bears_out, shelf_of, bears_out_if, is_founded}
use Rattle.lks_evidence.proofs.Added.{IsBehind, behind}
use Rattle.lks_evidence.proofs.Deposited.{deposited_once, behind_front}
use Rattle.lks_evidence.proofs.Told.{opened_once, same_version, joined_once, committed_once}

-- ---- a standing is of a peer of the plan

list_at : {X : Type 0} (test : X → Bool) (xs : List X) (i : ℕ) (x : X) → list_all test xs ≡ true
    → slice_get xs i ≡ Some x → test x ≡ true
list_at test [] i x all at = absurd cc
list_at test (y ∷ ys) zero x all at =
    let same : y ≡ x = cc in ap test (sym same) ∙ (and_parts (test y) (list_all test ys) all).0
list_at test (y ∷ ys) (suc i) x all at = list_at test ys i x (and_parts (test y) (list_all test ys) all).1 at

abbrev counts_so : List AuPlan → Holding → Bool
counts_so aus c = has_counted aus c.au (length c.blocks)

copy_counts : (aus : List AuPlan) (before : List Holding) (c : Holding) → copy_fault aus before c ≡ None
    → counts_so aus c ≡ true
unfolding copy_fault
copy_counts aus before c e = stands _ BlockCount (no_first _ _ e)

peer_counts : (aus : List AuPlan) (peers before : List PeerPlan) (p : PeerPlan)
    → peer_fault aus peers before p ≡ None → list_all (counts_so aus) p.copies ≡ true
unfolding peer_fault
peer_counts aus peers before p e =
    all_of (copy_fault aus) (counts_so aus) (copy_counts aus) [] p.copies
    (fifth (unless (is_fit p) Bounds) (unless (not (has_peer before p.id)) Repeat)
    (each_fault (member_fault peers p.id) [] p.refs) (each_fault (member_fault peers p.id) [] p.friends)
    (each_fault (copy_fault aus) [] p.copies) e)

record IsOwned (plan : Plan) (s : Standing) : Type 0 where
  p : PeerPlan
  i : ℕ
  there : slice_get plan.peers i ≡ Some p
  honest : is_honest p ≡ true
  own : s.own ≡ station_of plan p
  behind_it : IsBehind (deposits_of plan.aus p.copies) s.journal

owned : (plan : Plan) (history : List Event) (place : ℕ) (s : Standing)
    → slice_get (world plan history).peers place ≡ Some s → IsOwned plan s
owned plan history place s at =
    by_peer (slice_get (filter is_honest plan.peers) place) refl ((journals_are_own plan history).each place s at)
  where
    by_peer : (o : Option PeerPlan) → slice_get (filter is_honest plan.peers) place ≡ o
        → HasJournal plan (world plan history).tick o s → IsOwned plan s
    by_peer None e has = absurd has
    by_peer (Some p) e has =
        let found = filter_at is_honest plan.peers place p e in
        record {
          p = p;
          i = found.0;
          there = found.1;
          honest = found.2;
          own = has.0;
          behind_it = behind s.own (deposits_of plan.aus p.copies) has.1.heard s.journal has.1.made;
        }

-- what it deposited it deposited once, with the plan's count
module _ (plan : Plan) (good : plan_fault plan ≡ None) (s : Standing) (is : IsOwned plan s) where
  once_in : (journal : List Record) → IsBehind (deposits_of plan.aus is.p.copies) journal
      → (au : ℕ) (blocks : List (List ℕ)) → deposit_of au journal ≡ Some blocks
      → (mine.deposits au journal ≡ 1) × (is_deposited plan.aus au journal ≡ true)
  once_in =
      deposited_once plan.aus is.p.copies (lists_stand plan good).0
      (list_at (λ (p : PeerPlan). list_all (counts_so plan.aus) p.copies) plan.peers is.i is.p
      (all_of (peer_fault plan.aus plan.peers) (λ (p : PeerPlan). list_all (counts_so plan.aus) p.copies)
      (peer_counts plan.aus plan.peers) [] plan.peers (lists_stand plan good).1) is.there)
      (one_copy plan good is.i is.p is.there)

  front_in : (i : ℕ) (r : Record) → slice_get s.journal i ≡ Some r → IsLater r
      → IsBehind (deposits_of plan.aus is.p.copies) (take i s.journal)
  unfolding AreDeposits
  front_in i r at new =
      subst (λ js. IsBehind (deposits_of plan.aus is.p.copies) (take i js)) (sym is.behind_it.is)
      (behind_front (deposits_of plan.aus is.p.copies) is.behind_it.rest i r (deposits_are plan.aus is.p.copies)
      is.behind_it.later new (ap (λ js. slice_get js i) (sym is.behind_it.is) ∙ at))

some_blocks : (o : Option (List (List ℕ))) (n : ℕ) → n < length (unwrap_or o [])
    → (blocks : List (List ℕ)) × (o ≡ Some blocks)
some_blocks None n lt = absurd (omega (arith, lt))
some_blocks (Some blocks) n lt = (blocks, refl)

-- ---- shelves

shelf_place : (peers : List Standing) (set : List Shelf) (k : ℕ) (s : Shelf) → AreShelvesOf peers set
    → slice_get set k ≡ Some s
    → (t : Standing) × (slice_get peers k ≡ Some t) × (s.peer ≡ t.own.id) × (s.list.items ≡ t.journal)
shelf_place [] [] k s are at = absurd cc
shelf_place [] (x ∷ set) k s are at = absurd are
shelf_place (t ∷ peers) [] k s are at = absurd are
shelf_place (t ∷ peers) (x ∷ set) zero s are at =
    let same : x ≡ s = cc in
    (t, refl, ap (λ (y : Shelf). y.peer) (sym same) ∙ are.0, ap (λ (y : Shelf). y.list.items) (sym same) ∙ are.1)
shelf_place (t ∷ peers) (x ∷ set) (suc k) s are at = shelf_place peers set k s are.2 at

-- the shelf of a peer has its journal
shelf_known : (peers : List Standing) (set : List Shelf) (v : ℕ) (s : Shelf) → AreShelvesOf peers set
    → shelf_of set v ≡ Some s → (t : Standing) × (peer_at v peers ≡ Some t) × (s.list.items ≡ t.journal)
unfolding shelf_of peer_at
shelf_known [] [] v s are e = absurd cc
shelf_known [] (x ∷ set) v s are e = absurd are
shelf_known (t ∷ peers) [] v s are e = absurd are
shelf_known (t ∷ peers) (x ∷ set) v s are e = by_test (eqb x.peer v) refl e (shelf_known peers set v s are.2)
  where
    by_test : (b : Bool) → eqb x.peer v ≡ b → cond b (Some x) (shelf_of set v) ≡ Some s
        → (shelf_of set v ≡ Some s → (t : Standing) × (peer_at v peers ≡ Some t) × (s.list.items ≡ t.journal))
        → (u : Standing) × (cond (eqb t.own.id v) (Some t) (peer_at v peers) ≡ Some u) × (s.list.items ≡ u.journal)
    by_test true is f later =
        let same : x ≡ s = cc in (
          t,
          ap (λ b. cond b (Some t) (peer_at v peers)) (ap (λ n. eqb n v) (sym are.0) ∙ is),
          ap (λ (y : Shelf). y.list.items) (sym same)
              ∙ are.1,
        )
    by_test false is f later =
        let rest = later f in
        (rest.0, ap (λ b. cond b (Some t) (peer_at v peers)) (ap (λ n. eqb n v) (sym are.0) ∙ is) ∙ rest.1, rest.2)

-- no earlier shelf is of the same peer
none_before : (peers : List Standing) (set : List Shelf) (k : ℕ) (t : Standing) → AreShelvesOf peers set
    → AreApart peers → slice_get peers k ≡ Some t → has_shelf (take k set) t.own.id ≡ false
none_before [] set k t are apart at = absurd cc
none_before (p ∷ peers) [] k t are apart at = absurd are
none_before (p ∷ peers) (x ∷ set) zero t are apart at = refl
none_before (p ∷ peers) (x ∷ set) (suc k) t are apart at =
    by_test (eqb x.peer t.own.id) refl (none_before peers set k t are.2 apart.1 at)
  where
    by_test : (b : Bool) → eqb x.peer t.own.id ≡ b → has_shelf (take k set) t.own.id ≡ false
        → (b || has_shelf (take k set) t.own.id) ≡ false
    by_test false is rest = rest
    by_test true is rest =
        let known = place_at peers k t apart.1 at in
        let none = subst (λ n. peer_at n peers ≡ None) (sym are.0 ∙ eqb-true x.peer t.own.id is) apart.0 in
        absurd cc

honest_in : (peers : List PeerPlan) (i : ℕ) (p : PeerPlan) → slice_get peers i ≡ Some p → is_honest p ≡ true
    → has_honest peers p.id ≡ true
unfolding has_honest
honest_in [] i p at honest = absurd cc
honest_in (q ∷ qs) zero p at honest =
    let same : q ≡ p = cc in
    subst
    (λ (x : PeerPlan).
    ((x.id == p.id && not x.corrupt) || list_any (λ (y : PeerPlan). y.id == p.id && not y.corrupt) qs)
    ≡ true) (sym same)
    (rw (eq-eqb p.id p.id refl, honest) refl)
honest_in (q ∷ qs) (suc i) p at honest =
    ap (λ b. (q.id == p.id && not q.corrupt) || b) (honest_in qs i p at honest)
    ∙ or_last (q.id == p.id && not q.corrupt)
  where
    or_last : (b : Bool) → (b || true) ≡ true
    or_last true = refl
    or_last false = refl

each_all : {X : Type 0} (P : X → Type 0) (xs : List X) → Each P xs → (k : ℕ) (d : X) → k < length xs → P (get_or xs k d)
each_all P [] each k d lt = absurd (omega (arith, lt))
each_all P (x ∷ xs) each zero d lt = each.0
each_all P (x ∷ xs) each (suc k) d lt = each_all P xs each.1 k d (omega (arith, lt))

-- ---- an honest voter's journal bears out its vote

kind_same : (a b : HashKind) → a ≡ b → is_kind a b ≡ true
kind_same Sha256 b e = subst (λ k. is_kind Sha256 k ≡ true) e refl
kind_same Sha512_256 b e = subst (λ k. is_kind Sha512_256 k ≡ true) e refl

module _ (plan : Plan) (good : plan_fault plan ≡ None) (peers : List Standing) (k : ℕ) (s t : Standing) (n : ℕ)
    (o : Opening) (v : Vote) (b count : ℕ)
    (at : peer_at s.own.id peers ≡ Some s) (from : peer_at v.voter peers ≡ Some t) (sound : IsSound peers k s)
    (voter : IsSound peers k t) (is : IsOwned plan t)
    (opened : opening_of n s.journal ≡ Some o) (fact : VoteFact peers s.own s.journal sound.records n v)
    (counts : count ≡ length (contents_of o.au s.journal)) (within : b < count) where
  borne : bears_out plan.aus (ballot_for s.own.id n o count) t.journal v ≡ true
  unfolding bears_out is_joined is_committed is_for is_over
  borne =
      let q = poll_named s.own.id n in
      let w = voted_over peers k s t n o v at from sound voter opened fact in
      let snap = w.snap in
      let version = version_length snap.join.au snap.commitment.version t.journal in
      let whole = w.whole in
      let held = some_blocks (deposit_of snap.join.au t.journal) b (omega (arith, version, whole, counts, within)) in
      let deposit : is_deposited plan.aus o.au t.journal
      ≡ true = subst (λ a. is_deposited plan.aus a t.journal ≡ true) (sym w.au)
      (once_in plan good t is t.journal is.behind_it snap.join.au held.0 held.1).1 in
      let joined = joined_once q t.journal snap.join snap.joined_once snap.joined in
      let committed = committed_once q t.journal snap.commitment snap.committed_once snap.committed in
      let newest : snap.commitment.version ≤ mine.version_now o.au t.journal =
      subst (λ a. snap.commitment.version ≤ mine.version_now a t.journal) (sym w.au)
      (let there = snap.there in let told = same_version snap.join.au t.journal in omega (arith, there, told))
      in
      let over : v.hashes
      ≡ hashes_of (is_second o.kind) (key_for (ballot_for s.own.id n o count) v.voter)
      (contents_at o.au snap.commitment.version t.journal) =
      w.over
      ∙ (λ i. hashes_of (is_second o.kind)
      (key_of (is_second o.kind) s.own.id n o.nonce v.voter o.au (sym counts i))
      (contents_at (sym w.au i) snap.commitment.version t.journal)) in
      rw (
        deposit,
        joined.0,
        joined.1,
        eq-eqb snap.join.au o.au (sym w.au),
        committed,
        snap.committed,
        (bytes_decides snap.commitment.nonce o.nonce).1 (sym w.nonce),
        kind_same snap.commitment.kind o.kind (sym w.kind),
        le-leb snap.commitment.version (mine.version_now o.au t.journal) newest,
        (pointwise_decides {E = pointwise eqb} bytes_decides v.hashes
            (hashes_of (is_second o.kind) (key_for (ballot_for s.own.id n o count) v.voter)
            (contents_at o.au snap.commitment.version t.journal))).1 over,
      ) refl

-- ---- each replaced block of a history stands

module _ (plan : Plan) (history : List Event) (good : plan_fault plan ≡ None) (is : IsHistory plan history)
    (set : List Shelf) (are : AreShelvesOf (world plan history).peers set) where
  stand : (k : ℕ) (t : Standing) → slice_get (world plan history).peers k ≡ Some t
      → (i : ℕ) (p : Record) (r : Repair) → slice_get t.journal i ≡ Some p → (said_by p).replaced ≡ Some r
      → Stands plan set t.own.id t.journal (take i t.journal) r
  unfolding is_held deposited_blocks is_founded
  stand k t at i p r there says =
      let peers = (world plan history).peers in
      let holds = world_holds plan history good is in
      let own = place_at peers k t holds.apart at in
      let sound = holds.linked.each t.own.id t own in
      let of_plan = owned plan history k t at in
      let rules : t.own.rules ≡ plan.rules = rules_are plan history k t at in
      let before = take i t.journal in
      let evidence = subst (λ rs. Evidence rs t.own.id before r) rules
      (evidence_in plan history k t (plan_is_lawful plan good) at i p r there says) in
      let o = evidence.opening in
      let votes = votes_behind before r o in
      let q = ballot_behind t.own.id before r o in
      let within = repair_within peers t.own t.journal i p r sound.records there says in
      let size = contents_length r.au t.journal in
      let held = some_blocks (deposit_of r.au t.journal) r.block (omega (arith, within, size)) in
      let front : deposit_of r.au before
      ≡ Some held.0 = front_deposit r.au t.journal i p sound.begun (repair_later p r says) there ∙ held.1 in
      let many : length (contents_of r.au t.journal)
      ≡ length held.0 = size ∙ ap (λ x. length (unwrap_or x [])) held.1 in
      let fewer : length (contents_of r.au before)
      ≡ length held.0 = contents_length r.au before ∙ ap (λ x. length (unwrap_or x [])) front in
      let whole_once = once_in plan good t of_plan t.journal of_plan.behind_it r.au held.0 held.1 in
      let front_once = once_in plan good t of_plan before
      (front_in plan good t of_plan i p there (repair_later p r says)) r.au held.0 front in
      let opened = opening_later r.number t.journal i o evidence.opened in
      let all_of_it : length (contents_of r.au before)
      ≡ length (contents_of o.au t.journal) = fewer ∙ sym many
      ∙ ap (λ a. length (contents_of a t.journal)) (sym evidence.of_au) in
      record {
        held =
            rw (front_once.1, whole_once.0, front, lt-ltb r.block (length held.0) (omega (arith, within, many)))
            refl;
        evidence = evidence;
        once = opened_once r.number t.journal i o (sound.single.openings_are r.number) evidence.opened;
        whole =
            each_all (λ v. length v.hashes ≡ length (contents_of r.au before)) votes
            (each_map (VoteFact peers t.own t.journal sound.records r.number)
            (λ v. length v.hashes ≡ length (contents_of r.au before)) votes
            (λ v fact. is_had (λ (x : Opening). length v.hashes ≡ length (contents_of x.au t.journal))
            (opening_of r.number t.journal) o opened fact.1
            ∙ sym all_of_it)
            (inner_facts peers t.own t.journal sound.records r.number o.inner i));
        founded =
            each_all (λ v. is_founded plan.aus set q v ≡ true) votes
            (each_map (VoteFact peers t.own t.journal sound.records r.number)
            (λ v. is_founded plan.aus set q v ≡ true) votes
            (λ v fact. founded_by v q (shelf_of set v.voter) refl
            (λ u from voter of. borne plan good peers _ t u r.number o v r.block (length (contents_of r.au before))
            own from sound voter of opened fact all_of_it (omega (arith, within, many, fewer))))
            (inner_facts peers t.own t.journal sound.records r.number o.inner i));
      }
    where
      founded_by : (v : Vote) (q : Ballot) (x : Option Shelf) → shelf_of set v.voter ≡ x
          → ((u : Standing) → peer_at v.voter (world plan history).peers ≡ Some u
          → IsSound (world plan history).peers (0 + length history) u → IsOwned plan u
          → bears_out plan.aus q u.journal v ≡ true)
          → bears_out_if plan.aus q x v ≡ true
      founded_by v q None e borne_by = refl
      founded_by v q (Some s) e borne_by =
          let known = shelf_known (world plan history).peers set v.voter s are e in
          let place = found_at v.voter (world plan history).peers known.0 known.1 in
          ap (λ js. bears_out plan.aus q js v) known.2
          ∙ borne_by known.0 known.1 ((world_holds plan history good is).linked.each v.voter known.0 known.1)
          (owned plan history place.0 known.0 place.1)

  pub history_holds : SetHolds plan set
  unfolding is_new
  history_holds = record {
    shelves = λ k s at.
        let x = shelf_place (world plan history).peers set k s are at in
        let of_plan = owned plan history k x.0 x.1 in
        let id : x.0.own.id ≡ of_plan.p.id = ap (λ (y : Station). y.id) of_plan.own in
        let honest : has_honest plan.peers x.0.own.id
        ≡ true = ap (has_honest plan.peers) id
        ∙ honest_in plan.peers of_plan.i of_plan.p of_plan.there of_plan.honest in
        let new = none_before (world plan history).peers set k x.0 are (world_holds plan history good is).apart x.1 in
        rw (x.2, honest, new) refl;
    repairs = λ k s at i p r there says.
        let x = shelf_place (world plan history).peers set k s are at in
        subst (λ id. Stands plan set id s.list.items (take i s.list.items) r) (sym x.2)
        (subst (λ js. Stands plan set x.0.own.id js (take i js) r) (sym x.3)
        (stand k x.0 x.1 i p r (subst (λ js. slice_get js i ≡ Some p) x.3 there) says));
  }
