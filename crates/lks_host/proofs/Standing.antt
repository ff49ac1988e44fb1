-- A host after a reaction.
use Rattle.std.proofs.Common.{◌≡◌, ◌∙◌, ap, sym, subst, inl, inr, refl, true, ℕ, Bool, List, [], ◌∷◌, ◌++◌}
use Rattle.std.proofs.lemmas.Bool.{and_parts, cases_Bool, eqb-true}
use Rattle.std.specs.Prelude.{Option, None, Some, find, map, option_map}
use Rattle.lks_base.specs.Checking.{plan_fault}
use Rattle.lks_base.specs.declared.plans.PeerPlan.{PeerPlan}
use Rattle.lks_base.specs.declared.plans.Plan.{Plan}
use Rattle.lks_base.specs.declared.records.Record.{Record}
use Rattle.lks_disk.specs.Face.{Face}
use Rattle.lks_host.specs.Bodies.{bodies_of, AreRead, ReadBack}
use Rattle.lks_host.specs.Hosted.{StandsFor, IsMadeBy}
use Rattle.lks_host.specs.declared.hosts.Host.{Host}
use Rattle.lks_journal.specs.Settled.{IsSettled}
use Rattle.lks_law.proofs.Batches.{batch_more, each_alone}
use Rattle.lks_law.specs.Batches.{together, with_batch, alone}
use Rattle.lks_law.specs.Fitting.{AreFitting}
use Rattle.lks_law.specs.Polls.{Station}
use Rattle.lks_law.specs.State.{State, after, after_all, blank, state_of}
use Rattle.lks_law.specs.World.{station_of, standing_of, honest_peer, is_honest_at}
use Rattle.lks_peer.specs.Knows.{Knowing, knowing_of}

-- records after records
state_more : (own : Station) (s : State) (xs ys : List Record)
    → after_all own s (xs ++ ys) ≡ after_all own (after_all own s xs) ys
state_more own s [] ys = refl
state_more own s (x ∷ xs) ys = state_more own (after own s x) xs ys

fit_more : (own : Station) (s : State) (xs ys : List Record) → AreFitting own s xs
    → AreFitting own (after_all own s xs) ys → AreFitting own s (xs ++ ys)
fit_more own s [] ys first next = next
fit_more own s (x ∷ xs) ys first next = (first.0, fit_more own (after own s x) xs ys first.1 next)

-- records that fit the state in which a host is fit behind those of its batches
pub fit_behind : (own : Station) (state : State) (batches : List (List Record)) (records : List Record)
    → state ≡ state_of own (together batches) → AreFitting own (blank own) (together batches)
    → AreFitting own state records → AreFitting own (blank own) (together (with_batch batches records))
unfolding state_of
fit_behind own state batches records is before fits =
    subst (AreFitting own (blank own)) (sym (batch_more batches records))
    (fit_more own (blank own) (together batches) records before
    (subst (λ (s : State). AreFitting own s records) is fits))

state_behind : (own : Station) (state : State) (batches : List (List Record)) (records : List Record)
    → state ≡ state_of own (together batches)
    → after_all own state records ≡ state_of own (together (with_batch batches records))
unfolding state_of
state_behind own state batches records is =
    ap (λ (s : State). after_all own s records) is ∙ sym (state_more own (blank own) (together batches) records)
    ∙ ap (after_all own (blank own)) (sym (batch_more batches records))

-- the peer and the journal have one batch more
pub stands_after : {D : Type 0} (f : Face D) (before after : Host D) (batches : List (List Record))
    (records : List Record)
    → StandsFor f before batches
    → after.peer.own ≡ before.peer.own → after.peer.state ≡ after_all before.peer.own before.peer.state records
    → AreFitting before.peer.own before.peer.state records
    → IsSettled f after.journal (bodies_of (with_batch batches records)) → AreRead (with_batch batches records)
    → StandsFor f after (with_batch batches records)
stands_after f before after batches records stood same state fits disk read = record {
  state =
      state ∙ state_behind before.peer.own before.peer.state batches records stood.state
      ∙ ap (λ (o : Station). state_of o (together (with_batch batches records))) (sym same);
  disk = disk;
  read = read;
  fit =
      subst (λ (o : Station). AreFitting o (blank o) (together (with_batch batches records))) (sym same)
      (fit_behind before.peer.own before.peer.state batches records stood.state stood.fit fits);
}

-- a peer that is restored is the same peer
pub restored : (plan : Plan) (pool : List ℕ) (o : Option PeerPlan) (list : List Record) (own : Station)
    (peer : Knowing)
    → option_map (station_of plan) o ≡ Some own
    → option_map (λ (q : PeerPlan). knowing_of pool (record { own = station_of plan q; journal = list })) o
    ≡ Some peer
    → peer ≡ knowing_of pool (record { own = own; journal = list })
restored plan pool None list own peer made is = absurd cc
restored plan pool (Some p) list own peer made is =
    let same : station_of plan p ≡ own = cc in
    let there : knowing_of pool (record { own = station_of plan p; journal = list }) ≡ peer = cc in
    sym there ∙ ap (λ (o : Station). knowing_of pool (record { own = o; journal = list })) same

-- what fits the peer as it stood fits the one of the plan
pub fits_made : (plan : Plan) (o : Option PeerPlan) (own : Station) (list : List Record)
    → option_map (station_of plan) o ≡ Some own → AreFitting own (blank own) list
    → (p : PeerPlan) → o ≡ Some p → AreFitting (station_of plan p) (blank (station_of plan p)) list
fits_made plan None own list made fits p is = absurd cc
fits_made plan (Some q) own list made fits p is =
    let same : own ≡ station_of plan p = cc in
    subst (λ (x : Station). AreFitting x (blank x) list) same fits

-- what is found passes the test
find_holds : {X : Type 0} (q : X → Bool) (xs : List X) (p : X) → find q xs ≡ Some p → q p ≡ true
find_holds q [] p is = absurd cc
find_holds q (x ∷ xs) p is = elim (cases_Bool (q x)) [
  | inl pass ↦
      let first : Some x ≡ Some p = rw pass at is in
      let same : x ≡ p = cc in
      subst (λ y. q y ≡ true) same pass
  | inr fails ↦ find_holds q xs p (rw fails at is)
]

-- a peer that begins stands as one of this plan does
pub made_begun : (plan : Plan) (pool : List ℕ) (id : ℕ) (peer : Knowing) → plan_fault plan ≡ None
    → option_map (λ (p : PeerPlan). knowing_of pool (standing_of plan p)) (honest_peer id plan) ≡ Some peer
    → IsMadeBy plan peer.own
made_begun plan pool id peer good begun = from_found (honest_peer id plan) refl begun
  where
    named : (p : PeerPlan) → is_honest_at id p ≡ true → p.id ≡ id
    named p is = eqb-true p.id id (and_parts _ _ is).0

    from_found : (o : Option PeerPlan) → honest_peer id plan ≡ o
        → option_map (λ (p : PeerPlan). knowing_of pool (standing_of plan p)) o ≡ Some peer → IsMadeBy plan peer.own
    from_found None found is = absurd cc
    from_found (Some p) found is =
        let same : knowing_of pool (standing_of plan p) ≡ peer = cc in
        let own : station_of plan p ≡ peer.own = ap (λ (k : Knowing). k.own) same in
        let number : peer.own.id
        ≡ id = sym (ap (λ (o : Station). o.id) own)
        ∙ named p (find_holds (is_honest_at id) plan.peers p found) in
        record {
          good = good;
          made = ap (λ (n : ℕ). option_map (station_of plan) (honest_peer n plan)) number
              ∙ ap (option_map (station_of plan)) found ∙ ap (λ (o : Station). Some o) own;
        }

-- a host begins with a batch for each deposit
pub stands_begun : {D : Type 0} (f : Face D) (host : Host D) (plan : Plan) (pool : List ℕ) (p : PeerPlan)
    (list : List Record)
    → host.peer ≡ knowing_of pool (standing_of plan p) → list ≡ (standing_of plan p).journal
    → AreFitting (station_of plan p) (blank (station_of plan p)) (standing_of plan p).journal
    → IsSettled f host.journal (bodies_of (map alone list)) → AreRead (map alone list)
    → StandsFor f host (map alone (standing_of plan p).journal)
stands_begun f host plan pool p list peer is fit disk read =
    let js = (standing_of plan p).journal in
    let own : host.peer.own ≡ station_of plan p = ap (λ (k : Knowing). k.own) peer in
    record {
      state =
          ap (λ (k : Knowing). k.state) peer ∙ ap (state_of (station_of plan p)) (sym (each_alone js))
          ∙ ap (λ (o : Station). state_of o (together (map alone js))) (sym own);
      disk = subst (λ (xs : List Record). IsSettled f host.journal (bodies_of (map alone xs))) is disk;
      read = subst (λ (xs : List Record). AreRead (map alone xs)) is read;
      fit =
          subst (λ (o : Station). AreFitting o (blank o) (together (map alone js))) (sym own)
          (subst (AreFitting (station_of plan p) (blank (station_of plan p))) (sym (each_alone js)) fit);
    }

-- batches behind batches read back too
pub read_both : (xs ys : List (List Record)) → AreRead xs → AreRead ys → AreRead (xs ++ ys)
read_both [] ys first next = next
read_both (x ∷ xs) ys first next = (first.0, read_both xs ys first.1 next)

-- so does a batch more
pub read_more : (batches : List (List Record)) (records : List Record) → AreRead batches → ReadBack records
    → AreRead (with_batch batches records)
read_more batches [] read one = read
read_more batches (r ∷ rs) read one = read_both batches ((r ∷ rs) ∷ []) read ((one (λ e. cc)).read, tt)
