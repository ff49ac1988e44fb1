-- Every event keeps what journals and envelopes say of one another.
use Rattle.std.proofs.Common.{◌≡◌, ◌≤◌, ◌<◌, ◌^◌, ◌+◌, ◌∙◌, ◌⊎◌, inl, inr, ap, sym, subst, ℕ, zero, suc, Bool, true}
use Rattle.std.proofs.Common.{false, cond, eqb, List, [], ◌∷◌, ◌++◌, length, Result, Ok, Err, refl, arith}
use Rattle.std.specs.Prelude.{Option, Some, None, is_some, map, slice_get, get_or}
use Rattle.std.specs.List.{filter_map, cons_option}
use Rattle.std.proofs.lemmas.Bool.{eqb-true, eq-eqb}
use Rattle.std.proofs.lemmas.List.{append-nil, length-append}
use Rattle.std.proofs.lemmas.List.Elements.{filter_map-append}
use Rattle.lks_base.specs.declared.events.Envelope.{Envelope}
use Rattle.lks_base.specs.declared.events.Event.{Event}
use Rattle.lks_base.specs.declared.events.Event.TheVariants.{Step, Cut, Tick, Lose, Forge, Crash}
use Rattle.lks_base.specs.declared.events.PeerStep.{PeerStep}
use Rattle.lks_base.specs.declared.events.PeerStep.TheVariants as step
use Rattle.lks_base.specs.declared.messages.Message.{Message}
use Rattle.lks_base.specs.declared.names.Judged.{Judged}
use Rattle.lks_base.specs.declared.reactions.Input.{Input}
use Rattle.lks_base.specs.declared.reactions.Input.TheVariants as input
use Rattle.lks_base.specs.declared.reactions.Outgoing.{Outgoing}
use Rattle.lks_base.specs.declared.reactions.Reaction.{Reaction}
use Rattle.lks_base.specs.declared.records.Record.{Record}
use Rattle.lks_base.specs.declared.records.Record.TheVariants as records
use Rattle.lks_message.specs.declared.fault.MsgFault.{MsgFault}
use Rattle.lks_message.specs.Reading.{decode_of}
use Rattle.lks_message.proofs.Laws.{read_spells}
use Rattle.lks_base.specs.declared.names.PollName.{PollName}
use Rattle.lks_law.specs.Journal.{Opening, opening_in, opening_of, openings}
use Rattle.lks_law.specs.Sessions.{Join, Commitment, is_poll, first_in, join_in, join_of, commitment_in}
use Rattle.lks_law.specs.Sessions.{commitment_of, hashes_in, hashes_of_vote}
use Rattle.lks_law.proofs.Keyed.{same_poll}
use Rattle.lks_law.specs.Polls.{Station}
use Rattle.lks_law.specs.World.{Standing, World, Deed, got, delivers, own_deed_of, deed_of, peer_at, with_records}
use Rattle.lks_law.specs.World.{sent_by, reaction_at, peers_after, letters_sent, after_step, happens, happen_all}
use Rattle.lks_law.specs.Table.{reaction}
use Rattle.lks_law.proofs.Linked.{Each, Any, Heard, IsFrom, Fact}
use Rattle.lks_law.proofs.Growing.{opening_first, each_append, each_map, IsLater, openings_grow, IsBegun, begun_more}
use Rattle.lks_law.proofs.Linking.{GrowsTo, Grows, any_grows, heard_grows, fact_grows, at_own, extended, at_after}
use Rattle.lks_law.proofs.Linking.{peers_grow, AreApart, apart_after}
use Rattle.lks_law.proofs.Kept.{Kept}
use Rattle.lks_law.proofs.Journals.{kept_reaction}
use Rattle.lks_law.proofs.Letters.{Sends, reads_so, is_spelling}
use Rattle.lks_law.proofs.Doing.{MayAdd, IsCommon, Does, does_all}

-- forged bytes are bytes of a corrupt peer
abbrev pub ForgesSo : (ℕ → Bool) → Event → Type 0
ForgesSo corrupt (Step s) = Unit {0}
ForgesSo corrupt (Cut s kept) = Unit {0}
ForgesSo corrupt (Tick by) = Unit {0}
ForgesSo corrupt (Lose envelope) = Unit {0}
ForgesSo corrupt (Forge from to bytes) = (corrupt from ≡ true) × ((i : ℕ) → get_or bytes i 0 < 256)
ForgesSo corrupt (Crash peer) = Unit {0}

-- at most one record opens a poll, and at most one joins, commits and votes in a session
pub record IsSingle (js : List Record) : Type 0 where
  pub openings_are : (n : ℕ) → length (filter_map (opening_in n) js) ≤ 1
  pub joins : (q : PollName) → length (filter_map (join_in q) js) ≤ 1
  pub commitments : (q : PollName) → length (filter_map (commitment_in q) js) ≤ 1
  pub votes : (q : PollName) → length (filter_map (hashes_in q) js) ≤ 1

none_first : {X : Type 0} (has : Record → Option X) (js : List Record) → first_in has js ≡ None
    → length (filter_map has js) ≡ 0
none_first has [] e = refl
none_first {X = X} has (j ∷ js) e = here (has j) e (none_first has js)
  where
    here : (o : Option X) → cond (is_some o) o (first_in has js) ≡ None
        → (first_in has js ≡ None → length (filter_map has js) ≡ 0) → length (cons_option o (filter_map has js)) ≡ 0
    here None e rest = rest e
    here (Some x) e rest = absurd cc

-- a list grows by records of which each is new, one at most or none such
single_more : {X : Type 0} (has : Record → Option X) (js added : List Record)
    → Each (λ r. (x : X) → has r ≡ Some x → first_in has js ≡ None) added
    → (length added ≤ 1) ⊎ Each (λ r. has r ≡ None) added
    → length (filter_map has js) ≤ 1 → length (filter_map has (js ++ added)) ≤ 1
single_more {X = X} has js added fresh few was =
    let all = ap length (filter_map-append has js added)
    ∙ length-append _ _ in by_few added fresh few all
  where
    none : (rs : List Record) → Each (λ r. has r ≡ None) rs → length (filter_map has rs) ≡ 0
    none [] e = refl
    none (r ∷ rs) e = ap (λ o. length (cons_option o (filter_map has rs))) e.0 ∙ none rs e.1

    by_one : (r : Record) (o : Option X) → has r ≡ o → ((x : X) → has r ≡ Some x → first_in has js ≡ None)
        → length (filter_map has js) + length (cons_option o []) ≤ 1
    by_one r None is fresh = omega (arith, was)
    by_one r (Some x) is fresh = let nothing = none_first has js (fresh x is) in omega (arith, nothing)

    by_few : (rs : List Record) → Each (λ r. (x : X) → has r ≡ Some x → first_in has js ≡ None) rs
        → (length rs ≤ 1) ⊎ Each (λ r. has r ≡ None) rs
        → length (filter_map has (js ++ added)) ≡ length (filter_map has js) + length (filter_map has rs)
        → length (filter_map has (js ++ added)) ≤ 1
    by_few rs fresh (inr common) all = let nothing = none rs common in omega (arith, nothing, was, all)
    by_few [] fresh (inl short) all = omega (arith, was, all)
    by_few (r ∷ []) fresh (inl short) all = let one = by_one r (has r) refl fresh.0 in omega (arith, one, all)
    by_few (r ∷ t ∷ rs) fresh (inl short) all = absurd (omega (arith, short))

by_name : {X : Type 0} (b : Bool) (x y : X) (p q : PollName) (P : PollName → Type 0) → is_poll p q ≡ b
    → cond b (Some x) None ≡ Some y → P p → P q
by_name true x y p q P same e at = subst P (same_poll p q same) at
by_name false x y p q P same e at = absurd cc

by_number : {X : Type 0} (b : Bool) (x y : X) (m n : ℕ) (P : ℕ → Type 0) → eqb m n ≡ b
    → cond b (Some x) None ≡ Some y → P m → P n
by_number true x y m n P same e at = subst P (eqb-true m n same) at
by_number false x y m n P same e at = absurd cc

module _ (peers : List Standing) (own : Station) (js after : List Record) where
  new_opening : (n : ℕ) (r : Record) → MayAdd peers own js after r → (o : Opening) → opening_in n r ≡ Some o
      → first_in (opening_in n) js ≡ None
  new_opening n (records.PollOpened m au nonce inner tick limits kind) may o e =
      sym (opening_first n js)
      ∙ by_number (eqb m n) (record { au = au; nonce = nonce; inner = inner; limits = limits; kind = kind }) o m
      n (λ k. opening_of k js ≡ None) refl e may.0
  new_opening n r may o e = absurd cc

  new_join : (q : PollName) (r : Record) → MayAdd peers own js after r → (j : Join) → join_in q r ≡ Some j
      → first_in (join_in q) js ≡ None
  unfolding join_of
  new_join q (records.Joined p au tick low repairs) may j e =
      by_name _ _ j p q (λ x. join_of x js ≡ None) refl e may.0
  new_join q r may j e = absurd cc

  new_commitment : (q : PollName) (r : Record) → MayAdd peers own js after r → (c : Commitment)
      → commitment_in q r ≡ Some c → first_in (commitment_in q) js ≡ None
  unfolding commitment_of
  new_commitment q (records.Committed p nonce version kind) may c e =
      by_name _ _ c p q (λ x. commitment_of x js ≡ None) refl e may.0
  new_commitment q r may c e = absurd cc

  new_vote : (q : PollName) (r : Record) → MayAdd peers own js after r → (h : List (List ℕ))
      → hashes_in q r ≡ Some h → first_in (hashes_in q) js ≡ None
  unfolding hashes_of_vote
  new_vote q (records.Voted p hashes) may h e = by_name _ hashes h p q (λ x. hashes_of_vote x js ≡ None) refl e may.0
  new_vote q r may h e = absurd cc

none_of_opening : (n : ℕ) (r : Record) → IsCommon r → opening_in n r ≡ None
none_of_opening n (records.PollOpened m au nonce inner tick limits kind) common = absurd common
none_of_opening n r common = refl

none_of_join : (q : PollName) (r : Record) → IsCommon r → join_in q r ≡ None
none_of_join q (records.Joined p au tick low repairs) common = absurd common
none_of_join q (records.Committed p nonce version kind) common = absurd common
none_of_join q (records.Voted p hashes) common = absurd common
none_of_join q r common = refl

none_of_commitment : (q : PollName) (r : Record) → IsCommon r → commitment_in q r ≡ None
none_of_commitment q (records.Committed p nonce version kind) common = absurd common
none_of_commitment q (records.Joined p au tick low repairs) common = absurd common
none_of_commitment q (records.Voted p hashes) common = absurd common
none_of_commitment q r common = refl

none_of_vote : (q : PollName) (r : Record) → IsCommon r → hashes_in q r ≡ None
none_of_vote q (records.Voted p hashes) common = absurd common
none_of_vote q (records.Joined p au tick low repairs) common = absurd common
none_of_vote q (records.Committed p nonce version kind) common = absurd common
none_of_vote q r common = refl

single_after : (peers : List Standing) (own : Station) (js : List Record) (r : Reaction) → Does peers own js r
    → IsSingle js → IsSingle (js ++ r.records)
single_after peers own js r does is = record {
  openings_are =
      λ n. more (opening_in n) (λ x may. new_opening peers own js _ n x may) (none_of_opening n)
      (is.openings_are n);
  joins =
      λ q. more (join_in q) (λ x may. new_join peers own js _ q x may) (none_of_join q)
      (is.joins q);
  commitments =
      λ q. more (commitment_in q) (λ x may. new_commitment peers own js _ q x may)
      (none_of_commitment q) (is.commitments q);
  votes =
      λ q. more (hashes_in q) (λ x may. new_vote peers own js _ q x may) (none_of_vote q)
      (is.votes q);
}
  where
    common : {X : Type 0} (has : Record → Option X) → ((x : Record) → IsCommon x → has x ≡ None)
        → (length r.records ≤ 1) ⊎ Each IsCommon r.records
        → (length r.records ≤ 1) ⊎ Each (λ x. has x ≡ None) r.records
    common has none (inl short) = inl short
    common has none (inr all) = inr (each_map IsCommon _ r.records none all)

    more : {X : Type 0} (has : Record → Option X)
        → ((x : Record) → MayAdd peers own js (js ++ r.records) x → (y : X) → has x ≡ Some y
        → first_in has js ≡ None)
        → ((x : Record) → IsCommon x → has x ≡ None)
        → length (filter_map has js) ≤ 1 → length (filter_map has (js ++ r.records)) ≤ 1
    more {X = X} has fresh none was =
        single_more has js r.records (each_map _ _ r.records fresh does.adds_all) (common has none does.few) was

-- of a peer, after so many events
pub record IsSound (peers : List Standing) (k : ℕ) (s : Standing) : Type 0 where
  pub records : Each (Fact peers s.own s.journal) s.journal
  pub few : openings s.journal ≤ k
  pub proof : length s.own.proof ≤ 64
  pub kept : Kept s.own s.journal
  pub begun : IsBegun s.journal
  pub single : IsSingle s.journal

pub record Linked (peers : List Standing) (bag : List Envelope) (k : ℕ) : Type 0 where
  pub each : (id : ℕ) (s : Standing) → peer_at id peers ≡ Some s → IsSound peers k s
  pub bagged : Each (IsFrom peers) bag

may_later : (peers : List Standing) (own : Station) (js after : List Record) (r : Record)
    → MayAdd peers own js after r → IsLater r
may_later peers own js after (records.Deposit au blocks) may = may
may_later peers own js after r may = tt

may_fact : (peers later : List Standing) (own : Station) (js added : List Record) → Grows peers later
    → Each IsLater added → (r : Record) → MayAdd peers own js (js ++ added) r → Fact later own (js ++ added) r
may_fact peers later own js added g is_later (records.Deposit au blocks) may = absurd may
may_fact peers later own js added g is_later (records.PollOpened n au nonce inner tick limits kind) may = may.1
may_fact peers later own js added g is_later (records.Joined q au tick low repairs) may =
    fact_grows peers later own js added g is_later (records.Joined q au tick low repairs) may.1
may_fact peers later own js added g is_later (records.Committed q nonce version kind) may =
    fact_grows peers later own js added g is_later (records.Committed q nonce version kind) may.1
may_fact peers later own js added g is_later (records.Voted q hashes) may =
    fact_grows peers later own js added g is_later (records.Voted q hashes) may.1
may_fact peers later own js added g is_later r may = fact_grows peers later own js added g is_later r may

abbrev pub KnownAs : List Standing → ℕ → Input → Type 0
KnownAs peers id (input.Got from m judged) = Heard (peer_at from peers) id m
KnownAs peers id i = Unit {0}

abbrev pub HasRoom : ℕ → Type 0
HasRoom k = k + 1 < 2 ^ 32

sound_later : (peers later : List Standing) (k : ℕ) (s : Standing) → Grows peers later → IsSound peers k s
    → IsSound later (k + 1) s
sound_later peers later k s g is =
    let few = is.few in
    record {
      records = subst (λ js. Each (Fact later s.own js) js) (append-nil s.journal)
          (each_append _ s.journal [] (each_map _ _ s.journal
          (λ r fact. fact_grows peers later s.own s.journal [] g tt r fact) is.records) tt);
      few = omega (arith, few);
      proof = is.proof;
      kept = is.kept;
      begun = is.begun;
      single = is.single;
    }

sound_grown : (peers later : List Standing) (k : ℕ) (s : Standing) (r : Reaction) → Grows peers later
    → IsSound peers k s → Does peers s.own s.journal r → Kept s.own (s.journal ++ r.records)
    → IsSound later (k + 1) (record { own = s.own; journal = s.journal ++ r.records })
sound_grown peers later k s r g is does kept =
    let after = s.journal ++ r.records in
    let is_later = each_map _ IsLater r.records
    (λ x may. may_later peers s.own s.journal after x may) does.adds_all in
    let few = is.few in
    let one = does.one in
    let all = openings_grow s.journal r.records in
    record {
      records = each_append _ s.journal r.records
          (each_map _ _ s.journal
          (λ x fact. fact_grows peers later s.own s.journal r.records g is_later x fact) is.records)
          (each_map _ _ r.records
          (λ x may. may_fact peers later s.own s.journal r.records g is_later x may) does.adds_all);
      few = omega (arith, few, one, all);
      proof = is.proof;
      kept = kept;
      begun = begun_more s.journal r.records is_later is.begun;
      single = single_after peers s.own s.journal r does is.single;
    }

from_later : (peers later : List Standing) (bag : List Envelope) → Grows peers later → Each (IsFrom peers) bag
    → Each (IsFrom later) bag
from_later peers later bag g all = each_map _ _ bag (λ e from. record {
  heard = λ m reads. heard_grows _ _ e.to m (g e.from) (from.heard m reads);
  spelled =
      any_grows _ _ _ _ (g e.from) (λ s t more is. is) from.spelled;
}) all

record Stepped (peers later : List Standing) (sent : List Envelope) (k : ℕ) : Type 0 where
  grows : Grows peers later
  each : (id : ℕ) (s : Standing) → peer_at id later ≡ Some s → IsSound later (k + 1) s
  bagged : Each (IsFrom later) sent

same_grow : (peers : List Standing) → Grows peers peers
same_grow peers id = by_peer (peer_at id peers)
  where
    by_peer : (o : Option Standing) → GrowsTo o o
    by_peer None = tt
    by_peer (Some s) = record { own = refl; added = []; later = tt; is = sym (append-nil s.journal) }

module _ (peers : List Standing) (k tick : ℕ)
    (each : (id : ℕ) (s : Standing) → peer_at id peers ≡ Some s → IsSound peers k s) (room : HasRoom k) where
  does_at : (i : Input) (id : ℕ) (s : Standing) → peer_at id peers ≡ Some s → KnownAs peers id i
      → Does peers s.own s.journal (reaction s.own s.journal tick i)
  does_at i id s at known =
      let is = each id s at in
      let few = is.few in
      does_all peers s.own s.journal is.records (omega (arith, few, room)) is.proof tick i
      (subst (λ n. KnownAs peers n i) (sym (at_own id peers s at)) known)

  stepped : (d : Deed) → KnownAs peers d.peer d.input
      → Stepped peers (with_records d.peer (reaction_at tick (peer_at d.peer peers) d.input).records peers)
      (map (sent_by d.peer) (reaction_at tick (peer_at d.peer peers) d.input).sends) k
  stepped d known = by_actor (peer_at d.peer peers) refl
    where
      nobody : (b : Bool) (o : Option Standing) → extended b [] o ≡ o
      nobody b None = refl
      nobody true (Some s) = λ i. Some (record { own = s.own; journal = append-nil s.journal i })
      nobody false (Some s) = refl

      sent_from : (later : List Standing) (t : Standing) → peer_at d.peer later ≡ Some t → (sends : List Outgoing)
          → Each (Sends t.journal) sends → Each (IsFrom later) (map (sent_by d.peer) sends)
      sent_from later t at [] all = tt
      sent_from later t at (o ∷ os) all = (
        record {
          heard = λ m reads. subst (λ x. Heard x o.to m) (sym at) (reads_so t.journal o all.0 m reads);
          spelled = subst (Any _) (sym at) (is_spelling t.journal o all.0);
        },
        sent_from later t at os all.1,
      )

      by_actor : (a : Option Standing) → peer_at d.peer peers ≡ a
          → Stepped peers (with_records d.peer (reaction_at tick a d.input).records peers)
          (map (sent_by d.peer) (reaction_at tick a d.input).sends) k
      by_actor None none =
          let g : Grows peers _ = peers_grow d.peer [] peers tt in
          record {
            grows = g;
            each =
                λ id s at. sound_later peers _ k s g
                (each id s
                (sym (nobody (eqb d.peer id) (peer_at id peers)) ∙ sym (at_after id d.peer [] peers) ∙ at));
            bagged = tt;
          }
      by_actor (Some a) at =
          let r = reaction a.own a.journal tick d.input in
          let later = with_records d.peer r.records peers in
          let does = does_at d.input d.peer a at known in
          let is_later = each_map _ IsLater r.records
          (λ x may. may_later peers a.own a.journal _ x may) does.adds_all in
          let g : Grows peers later = peers_grow d.peer r.records peers is_later in
          let grown : Standing = record { own = a.own; journal = a.journal ++ r.records } in
          let actor : peer_at d.peer later
          ≡ Some grown = at_after d.peer d.peer r.records peers
          ∙ ap (λ b. extended b r.records (peer_at d.peer peers)) (eq-eqb d.peer d.peer refl)
          ∙ ap (extended true r.records) at in
          record {
            grows = g;
            each =
                λ id s there. by_id later g does id s (eqb d.peer id) refl (peer_at id peers) refl
                (sym (at_after id d.peer r.records peers) ∙ there);
            bagged = sent_from later grown actor r.sends does.sends_all;
          }
        where
          the : Reaction
          the = reaction a.own a.journal tick d.input

          by_id : (later : List Standing) → Grows peers later → Does peers a.own a.journal the
              → (id : ℕ) (s : Standing) (b : Bool) → eqb d.peer id ≡ b → (o : Option Standing)
              → peer_at id peers ≡ o → extended b the.records o ≡ Some s → IsSound later (k + 1) s
          by_id later g does id s b same None was is = absurd cc
          by_id later g does id s true same (Some p) was is =
              let actor : a ≡ p = only a p (sym at ∙ ap (λ n. peer_at n peers) (eqb-true d.peer id same) ∙ was) in
              let sound : IsSound later _
              _ = sound_grown peers later k a the g
              (each d.peer a at) does (kept_reaction a.own a.journal tick d.input (each d.peer a at).kept) in
              let grown : (λ (x : Standing). IsSound later (k + 1)
              (record { own = x.own; journal = x.journal ++ the.records })) p = subst
              (λ (x : Standing). IsSound later (k + 1)
              (record { own = x.own; journal = x.journal ++ the.records })) actor sound in
              subst (IsSound later _) (only (record { own = p.own; journal = p.journal ++ the.records }) s is)
              grown
            where
              only : (x y : Standing) → Some x ≡ Some y → x ≡ y
              only x y e = cc
          by_id later g does id s false same (Some p) was is =
              let same : p ≡ s = cc in
              subst (IsSound later _) same (sound_later peers later k p g (each id p was))

-- What a delivery gives was sent so.

pub place_of : {X : Type 0} (P : X → Type 0) (xs : List X) (i : ℕ) → Each P xs → Any P (slice_get xs i)
place_of P [] i all = tt
place_of P (x ∷ xs) zero all = all.0
place_of P (x ∷ xs) (suc i) all = place_of P xs i all.1

abbrev KnownDeed : List Standing → Deed → Type 0
KnownDeed peers d = KnownAs peers d.peer d.input

given_known : (peers : List Standing) (judged : Judged) (o : Option Envelope) → Any (IsFrom peers) o
    → Any (KnownDeed peers) (delivers o judged)
given_known peers judged None from = tt
given_known peers judged (Some e) from = by_message (decode_of e.bytes) refl
  where
    by_message : (r : Result Message MsgFault) → decode_of e.bytes ≡ r
        → Any (KnownDeed peers) (got e judged (elim r [ Ok m ↦ Some m | Err fault ↦ None ]))
    by_message (Ok m) reads = from.heard m reads
    by_message (Err fault) reads = tt

deed_known : (peers : List Standing) (bag : List Envelope) (s : PeerStep) → Each (IsFrom peers) bag
    → Any (KnownDeed peers) (deed_of bag s)
unfolding deed_of own_deed_of
deed_known peers bag (step.Deliver i judged) all = given_known peers judged _ (place_of _ bag i all)
deed_known peers bag (step.OpenPoll peer au) all = tt
deed_known peers bag (step.Widen peer n) all = tt
deed_known peers bag (step.Shut peer n) all = tt
deed_known peers bag (step.Tally peer n) all = tt
deed_known peers bag (step.Nudge peer n) all = tt
deed_known peers bag (step.GiveUp peer n) all = tt
deed_known peers bag (step.Work peer q) all = tt
deed_known peers bag (step.Expire peer q) all = tt
deed_known peers bag (step.Check peer) all = tt
deed_known peers bag (step.Tune peer quorum minority repairs) all = tt

-- no peer of this number is honest
abbrev pub Outsiders : (ℕ → Bool) → List Standing → Type 0
Outsiders corrupt peers = (id : ℕ) → corrupt id ≡ true → peer_at id peers ≡ None

outside_later : (corrupt : ℕ → Bool) (peers later : List Standing) → Grows peers later → Outsiders corrupt peers
    → Outsiders corrupt later
outside_later corrupt peers later g out id is = by_peer (peer_at id peers) (peer_at id later) (g id) (out id is)
  where
    by_peer : (o p : Option Standing) → GrowsTo o p → o ≡ None → p ≡ None
    by_peer None None g e = refl
    by_peer None (Some t) g e = absurd g
    by_peer (Some s) None g e = refl
    by_peer (Some s) (Some t) g e = absurd cc

pub record Holds (corrupt : ℕ → Bool) (w : World) (k : ℕ) : Type 0 where
  pub linked : Linked w.peers w.bag k
  pub outside : Outsiders corrupt w.peers
  pub apart : AreApart w.peers

module _ (corrupt : ℕ → Bool) where
  sends_hold : (w : World) (k : ℕ) (d : Option Deed) → Any (KnownDeed w.peers) d → HasRoom k → Holds corrupt w k
      → Stepped w.peers (peers_after w.tick w.peers d) (letters_sent w.tick w.peers d) k
  sends_hold w k None known room holds = record {
    grows = same_grow w.peers;
    each = λ id s at. sound_later w.peers w.peers k s (same_grow w.peers) (holds.linked.each id s at);
    bagged = tt;
  }
  sends_hold w k (Some d) known room holds = stepped w.peers k w.tick holds.linked.each room d known

  step_holds : (w : World) (k : ℕ) (s : PeerStep) (out : Bool) → HasRoom k → Holds corrupt w k
      → Holds corrupt (after_step w s out) (k + 1)
  unfolding after_step
  step_holds w k s out room holds =
      let all = sends_hold w k _ (deed_known w.peers w.bag s holds.linked.bagged) room holds in
      let later = peers_after w.tick w.peers _ in
      record {
        linked =
            record {
              each = all.each;
              bagged = by_way out (from_later w.peers later w.bag all.grows holds.linked.bagged) all.bagged;
            };
        outside = outside_later corrupt w.peers later all.grows holds.outside;
        apart = apart_by (deed_of w.bag s);
      }
    where
      apart_by : (d : Option Deed) → AreApart (peers_after w.tick w.peers d)
      apart_by None = holds.apart
      apart_by (Some d) = apart_after d.peer _ w.peers holds.apart

      by_way : (out : Bool) → Each (IsFrom (peers_after w.tick w.peers (deed_of w.bag s))) w.bag
          → Each (IsFrom (peers_after w.tick w.peers (deed_of w.bag s)))
          (letters_sent w.tick w.peers (deed_of w.bag s))
          → Each (IsFrom (peers_after w.tick w.peers (deed_of w.bag s)))
          (cond out (w.bag ++ letters_sent w.tick w.peers (deed_of w.bag s)) w.bag)
      by_way true old new = each_append _ w.bag _ old new
      by_way false old new = old

  still_holds : (w : World) (k : ℕ) → Holds corrupt w k → Holds corrupt w (k + 1)
  still_holds w k holds = record {
    linked =
        record {
          each = λ id s at. sound_later w.peers w.peers k s (same_grow w.peers) (holds.linked.each id s at);
          bagged = holds.linked.bagged;
        };
    outside = holds.outside;
    apart = holds.apart;
  }

  forged : {peers : List Standing} (from to : ℕ) (bytes : List ℕ) → ForgesSo corrupt (Forge from to bytes)
      → peer_at from peers ≡ None → IsFrom peers (record { from = from; to = to; bytes = bytes })
  forged from to bytes asks nobody = record {
    heard = λ m reads. subst (λ o. Heard o to m) (sym nobody) ((read_spells bytes m asks.1 reads).0, tt);
    spelled = subst (Any _) (sym nobody) tt;
  }

  happens_holds : (w : World) (k : ℕ) (e : Event) → ForgesSo corrupt e → HasRoom k → Holds corrupt w k
      → Holds corrupt (happens w e) (k + 1)
  unfolding happens
  happens_holds w k (Step s) asks room holds = step_holds w k s true room holds
  happens_holds w k (Cut s true) asks room holds = step_holds w k s false room holds
  happens_holds w k (Cut s false) asks room holds = still_holds w k holds
  happens_holds w k (Tick by) asks room holds =
      let still = still_holds w k holds in
      record { linked = still.linked; outside = still.outside; apart = still.apart }
  happens_holds w k (Lose i) asks room holds = still_holds w k holds
  happens_holds w k (Crash peer) asks room holds = still_holds w k holds
  happens_holds w k (Forge from to bytes) asks room holds =
      let still = still_holds w k holds in
      record {
        linked = record {
          each = still.linked.each;
          bagged =
              each_append _ w.bag _ still.linked.bagged (forged from to bytes asks (holds.outside from asks.0), tt);
        };
        outside = still.outside;
        apart = still.apart;
      }

  pub all_hold : (w : World) (k : ℕ) (history : List Event) → Each (ForgesSo corrupt) history
      → k + length history ≤ 4096 → Holds corrupt w k → Holds corrupt (happen_all w history) (k + length history)
  all_hold w k [] asks few holds = subst (Holds corrupt w) (omega arith) holds
  all_hold w k (e ∷ es) asks few holds =
      let longer : k + 1 + length es ≡ k + length (e ∷ es) = omega arith in
      subst (Holds corrupt _) longer
      (all_hold (happens w e) _ es asks.1 (omega (arith, longer, few))
      (happens_holds w k e asks.0 (omega (arith, few)) holds))
