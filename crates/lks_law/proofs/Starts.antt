-- The beginning, and every history.
use Rattle.std.proofs.Common.{◌≡◌, ◌≤◌, ◌<◌, ◌^◌, ◌+◌, ◌∙◌, ap, sym, subst, ℕ, Bool, true, false, cond, eqb, List, []}
use Rattle.std.proofs.Common.{◌∷◌, ◌++◌, length, filter, refl, arith}
use Rattle.std.specs.Prelude.{Option, Some, None, not, map, nat_le, ◌||◌, ◌&&◌}
use Rattle.std.specs.List.{filter_map, cons_option, list_all, list_any}
use Rattle.std.proofs.lemmas.Bool.{eqb-true, eq-eqb, and_parts, leb-true, not-true}
use Rattle.std.proofs.lemmas.List.{append-nil}
use Rattle.std.proofs.lemmas.List.Folds.{list_any-append}
use Rattle.lks_base.specs.Checking.{plan_fault, is_within, is_fit, each as each_fault, has_peer, has_corrupt}
use Rattle.lks_base.specs.Checking.{peer_fault}
use Rattle.lks_base.specs.declared.plans.PlanFault.TheVariants.{Repeat}
use Rattle.lks_base.proofs.PlanBounds.{sound_copy}
use Rattle.lks_base.proofs.PlanLaws.{no_first, no_second, stands, fit_peers, fit_proof, lists_stand, numbered_aus}
use Rattle.lks_base.specs.declared.events.Event.{Event}
use Rattle.lks_base.specs.declared.events.Event.TheVariants.{Step, Cut, Tick, Lose, Forge, Crash}
use Rattle.lks_base.specs.declared.plans.AuPlan.{AuPlan}
use Rattle.lks_base.specs.declared.plans.Holding.{Holding}
use Rattle.lks_base.specs.declared.plans.PeerPlan.{PeerPlan}
use Rattle.lks_base.specs.declared.plans.Plan.{Plan}
use Rattle.lks_base.specs.declared.records.Record.{Record}
use Rattle.lks_base.specs.declared.records.Record.TheVariants.{Deposit}
use Rattle.lks_law.specs.Fitting.{AreSmall}
use Rattle.lks_law.specs.Journal.{openings, opening_in}
use Rattle.lks_law.specs.Sessions.{join_in, commitment_in, hashes_in}
use Rattle.lks_law.specs.Polls.{Station}
use Rattle.lks_law.specs.World.{Standing, World, is_honest, station_of, standing_of, deposit_for, deposits, start}
use Rattle.lks_law.specs.World.{peer_at, happens, world}
use Rattle.lks_law.specs.Histories.{IsHistory, MayHappen, MayAllHappen}
use Rattle.lks_law.proofs.Linked.{Each, Fact}
use Rattle.lks_law.proofs.Doing.{none_open, not_open}
use Rattle.lks_law.proofs.Growing.{each_append}
use Rattle.lks_law.proofs.Linking.{AreApart}
use Rattle.lks_law.proofs.Lists.{each_at, each_from}
use Rattle.lks_law.proofs.Journals.{AreDeposits, deposits_are, kept_deposits}
use Rattle.lks_law.proofs.Worlds.{ForgesSo, IsSingle, IsSound, Holds, all_hold}

-- the number of an AU has two bytes
abbrev IsShortAu : AuPlan → Type 0
IsShortAu au = au.id < 2 ^ 16

short_each : (aus : List AuPlan) → list_all (λ a. is_within 0 65535 a.id) aus ≡ true → Each IsShortAu aus
short_each [] all = tt
short_each (a ∷ aus) all =
    let parts = and_parts _ _ all in
    let most = leb-true a.id 65535 (and_parts _ (nat_le a.id 65535) parts.0).1 in
    (omega (arith, most), short_each aus parts.1)

-- 1 to 512 blocks, none of them too large
abbrev pub IsSoundCopy : Holding → Type 0
IsSoundCopy c = (1 ≤ length c.blocks) × (length c.blocks ≤ 512) × AreSmall c.blocks

abbrev HasSoundCopies : PeerPlan → Type 0
HasSoundCopies p = Each IsSoundCopy p.copies

all_sound : (plan : Plan) → plan_fault plan ≡ None → Each HasSoundCopies plan.peers
all_sound plan good =
    each_at HasSoundCopies plan.peers (λ i p at. each_from IsSoundCopy p.copies (sound_copy plan good i p at))

module _ (peers : List Standing) (own : Station) (js : List Record) where
  held_facts : (au : AuPlan) (copies : List Holding) → IsShortAu au → Each IsSoundCopy copies
      → Each (Fact peers own js) (filter_map (deposit_for au) copies)
  held_facts au [] short small = tt
  held_facts au (c ∷ cs) short small = by_test (eqb c.au au.id) small.0 (held_facts au cs short small.1)
    where
      by_test : (b : Bool) → IsSoundCopy c → Each (Fact peers own js) (filter_map (deposit_for au) cs)
          → Each (Fact peers own js)
          (cons_option (cond b (Some (Deposit au.id c.blocks)) None) (filter_map (deposit_for au) cs))
      by_test true sound rest = ((short, sound.1, sound.2), rest)
      by_test false sound rest = rest

  deposit_facts : (aus : List AuPlan) (copies : List Holding) → Each IsShortAu aus → Each IsSoundCopy copies
      → Each (Fact peers own js) (deposits aus copies)
  unfolding deposits
  deposit_facts [] copies short small = tt
  deposit_facts (au ∷ aus) copies short small =
      each_append _ _ _ (held_facts au copies short.0 small) (deposit_facts aus copies short.1 small)

none_opened : (js : List Record) → AreDeposits js → openings js ≡ 0
unfolding AreDeposits
none_opened [] all = none_open
none_opened (Deposit au blocks ∷ js) all = not_open _ js refl (none_opened js all)
none_opened (r ∷ js) all = absurd cc

none_twice : (js : List Record) → AreDeposits js → IsSingle js
unfolding AreDeposits
none_twice js all = record {
  openings_are = λ n. let none = none_had (opening_in n) (λ au blocks. refl) js all in omega (arith, none);
  joins = λ q. let none = none_had (join_in q) (λ au blocks. refl) js all in omega (arith, none);
  commitments = λ q. let none = none_had (commitment_in q) (λ au blocks. refl) js all in omega (arith, none);
  votes = λ q. let none = none_had (hashes_in q) (λ au blocks. refl) js all in omega (arith, none);
}
  where
    none_had : {X : Type 0} (has : Record → Option X)
        → ((au : ℕ) (blocks : List (List ℕ)) → has (Deposit au blocks) ≡ None) → (rs : List Record) → AreDeposits rs
        → length (filter_map has rs) ≡ 0
    none_had has none [] all = refl
    none_had has none (Deposit au blocks ∷ rs) all =
        ap (λ o. length (cons_option o (filter_map has rs))) (none au blocks) ∙ none_had has none rs all
    none_had has none (r ∷ rs) all = absurd cc

module _ (plan : Plan) (short : Each IsShortAu plan.aus) where
  sound_start : (peers : List Standing) (p : PeerPlan) → is_fit p ≡ true → Each IsSoundCopy p.copies
      → IsSound peers 0 (standing_of plan p)
  unfolding AreDeposits
  sound_start peers p fit small =
      let all = deposits_are plan.aus p.copies in
      let none = none_opened (deposits plan.aus p.copies) all in
      record {
        records = deposit_facts peers (station_of plan p) (deposits plan.aus p.copies) plan.aus p.copies short small;
        few = omega (arith, none);
        proof = fit_proof p fit;
        kept = kept_deposits (station_of plan p) (deposits plan.aus p.copies) all;
        begun =
            record {
              begun = deposits plan.aus p.copies;
              rest = [];
              is = sym (append-nil (deposits plan.aus p.copies));
              deposits = all;
              later = tt;
            };
        single = none_twice (deposits plan.aus p.copies) all;
      }

  sound_in : (peers : List Standing) (ps : List PeerPlan) → list_all is_fit ps ≡ true → Each HasSoundCopies ps
      → (id : ℕ) (s : Standing) → peer_at id (map (standing_of plan) (filter is_honest ps)) ≡ Some s
      → IsSound peers 0 s
  unfolding peer_at
  sound_in peers [] fit small id s at = absurd cc
  sound_in peers (p ∷ ps) fit small id s at =
      let fits = and_parts _ _ fit in
      by_tests (is_honest p) (eqb p.id id) refl (sound_start peers p fits.0 small.0)
      (sound_in peers ps fits.1 small.1 id s) at
    where
      rest : List Standing
      rest = map (standing_of plan) (filter is_honest ps)

      by_id : (b : Bool) → IsSound peers 0 (standing_of plan p) → (peer_at id rest ≡ Some s → IsSound peers 0 s)
          → cond b (Some (standing_of plan p)) (peer_at id rest) ≡ Some s → IsSound peers 0 s
      by_id true is later at = let same : standing_of plan p ≡ s = cc in subst (IsSound peers 0) same is
      by_id false is later at = later at

      by_tests : (h b : Bool) → eqb p.id id ≡ b → IsSound peers 0 (standing_of plan p)
          → (peer_at id rest ≡ Some s → IsSound peers 0 s)
          → peer_at id (map (standing_of plan) (cond h (p ∷ filter is_honest ps) (filter is_honest ps))) ≡ Some s
          → IsSound peers 0 s
      by_tests true b same is later at = by_id (eqb p.id id) is later at
      by_tests false b same is later at = later at

-- Numbers of peers stand once.

abbrev named_so : ℕ → PeerPlan → Bool
named_so id p = eqb p.id id

ids_apart : (aus : List AuPlan) (all before ps : List PeerPlan) (id : ℕ)
    → each_fault (peer_fault aus all) before ps ≡ None → list_any (named_so id) before ≡ true
    → list_any (named_so id) ps ≡ false
unfolding peer_fault has_peer
ids_apart aus all before [] id e was = refl
ids_apart aus all before (q ∷ qs) id e was =
    let here = no_first _ _ e in
    let later = no_second _ (each_fault (peer_fault aus all) (before ++ q ∷ []) qs) e in
    let new : list_any (named_so q.id) before
    ≡ false = not-true _
    (stands (not (has_peer before q.id)) Repeat
    (no_first _ _ (no_second _ _ here)))
    in
    let still : list_any _ (before ++ q ∷ [])
    ≡ true = list_any-append (named_so id) before _
    ∙ ap (λ b. b || list_any (named_so id) (q ∷ [])) was in
    by_id (eqb q.id id) refl new (ids_apart aus all _ qs id later still)
  where
    by_id : (b : Bool) → eqb q.id id ≡ b → list_any (named_so q.id) before ≡ false
        → list_any (named_so id) qs ≡ false → (b || list_any (named_so id) qs) ≡ false
    by_id true same new rest =
        absurd
        (let both = sym was ∙ ap (λ k. list_any (named_so k) before) (sym (eqb-true q.id id same)) ∙ new in cc)
    by_id false same new rest = rest

nobody_named : (plan : Plan) (ps : List PeerPlan) (id : ℕ) → list_any (named_so id) ps ≡ false
    → peer_at id (map (standing_of plan) (filter is_honest ps)) ≡ None
unfolding peer_at
nobody_named plan [] id none = refl
nobody_named plan (p ∷ ps) id none = by_tests (is_honest p) (eqb p.id id) refl none (nobody_named plan ps id)
  where
    rest : List Standing
    rest = map (standing_of plan) (filter is_honest ps)

    by_tests : (h b : Bool) → eqb p.id id ≡ b → (b || list_any (named_so id) ps) ≡ false
        → (list_any (named_so id) ps ≡ false → peer_at id rest ≡ None)
        → peer_at id (map (standing_of plan) (cond h (p ∷ filter is_honest ps) (filter is_honest ps))) ≡ None
    by_tests h true same none later = absurd cc
    by_tests true false same none later =
        ap (λ b. cond b (Some (standing_of plan p)) (peer_at id rest)) same ∙ later none
    by_tests false false same none later = later none

abbrev corrupt_so : ℕ → PeerPlan → Bool
corrupt_so id p = eqb p.id id && p.corrupt

none_corrupt : (ps : List PeerPlan) (id : ℕ) → list_any (named_so id) ps ≡ false → list_any (corrupt_so id) ps ≡ false
none_corrupt [] id none = refl
none_corrupt (p ∷ ps) id none = by_id (eqb p.id id) none (none_corrupt ps id)
  where
    by_id : (b : Bool) → (b || list_any (named_so id) ps) ≡ false
        → (list_any (named_so id) ps ≡ false → list_any (corrupt_so id) ps ≡ false)
        → ((b && p.corrupt) || list_any (corrupt_so id) ps) ≡ false
    by_id true none later = absurd cc
    by_id false none later = later none

apart : (plan : Plan) (aus : List AuPlan) (all before ps : List PeerPlan) (id : ℕ)
    → each_fault (peer_fault aus all) before ps ≡ None → list_any (corrupt_so id) ps ≡ true
    → peer_at id (map (standing_of plan) (filter is_honest ps)) ≡ None
unfolding peer_at
apart plan aus all before [] id e some = absurd cc
apart plan aus all before (p ∷ ps) id e some =
    let later = no_second _ _ e in
    by_tests (eqb p.id id) p.corrupt refl some (apart plan aus all (before ++ p ∷ []) ps id later)
    (λ same. ids_apart aus all _ ps id later
    (list_any-append _ before _ ∙ last (list_any _ before) (eqb p.id id) same))
  where
    rest : List Standing
    rest = map (standing_of plan) (filter is_honest ps)

    last : (a b : Bool) → b ≡ true → (a || (b || false)) ≡ true
    last true b e = refl
    last false true e = refl
    last false false e = absurd cc

    by_tests : (b c : Bool) → eqb p.id id ≡ b → ((b && c) || list_any (corrupt_so id) ps) ≡ true
        → (list_any (corrupt_so id) ps ≡ true → peer_at id rest ≡ None)
        → (eqb p.id id ≡ true → list_any (named_so id) ps ≡ false)
        → peer_at id (map (standing_of plan) (cond (not c) (p ∷ filter is_honest ps) (filter is_honest ps)))
        ≡ None
    by_tests true true same some later none = nobody_named plan ps id (none same)
    by_tests true false same some later none = absurd (let both = sym some ∙ none_corrupt ps id (none same) in cc)
    by_tests false true same some later none = later some
    by_tests false false same some later none =
        ap (λ b. cond b (Some (standing_of plan p)) (peer_at id rest)) same ∙ later some

apart_start : (plan : Plan) (aus : List AuPlan) (all before ps : List PeerPlan)
    → each_fault (peer_fault aus all) before ps ≡ None → AreApart (map (standing_of plan) (filter is_honest ps))
apart_start plan aus all before [] e = tt
apart_start plan aus all before (p ∷ ps) e =
    let later = no_second _ _ e in
    let seen : list_any _ (before ++ p ∷ [])
    ≡ true = list_any-append _ before _
    ∙ last (list_any (named_so p.id) before) (eqb p.id p.id) (eq-eqb p.id p.id refl) in
    by_test (is_honest p) (nobody_named plan ps p.id (ids_apart aus all _ ps p.id later seen))
    (apart_start plan aus all (before ++ p ∷ []) ps later)
  where
    last : (a b : Bool) → b ≡ true → (a || (b || false)) ≡ true
    last true b e = refl
    last false true e = refl
    last false false e = absurd cc

    by_test : (b : Bool) → peer_at p.id (map (standing_of plan) (filter is_honest ps)) ≡ None
        → AreApart (map (standing_of plan) (filter is_honest ps))
        → AreApart (map (standing_of plan) (cond b (p ∷ filter is_honest ps) (filter is_honest ps)))
    by_test true none rest = (none, rest)
    by_test false none rest = rest

-- Every history.

abbrev corrupt_in : Plan → ℕ → Bool
corrupt_in plan id = has_corrupt plan.peers id

forges_so : (plan : Plan) (w : World) (e : Event) → MayHappen plan w e → ForgesSo (corrupt_in plan) e
forges_so plan w (Step s) may = tt
forges_so plan w (Cut s kept) may = tt
forges_so plan w (Tick by) may = tt
forges_so plan w (Lose envelope) may = tt
forges_so plan w (Forge from to bytes) may = (may.corrupt, may.are)
forges_so plan w (Crash peer) may = tt

all_forge_so : (plan : Plan) (w : World) (history : List Event) → MayAllHappen plan w history
    → Each (ForgesSo (corrupt_in plan)) history
all_forge_so plan w [] may = tt
all_forge_so plan w (e ∷ es) may = (forges_so plan w e may.0, all_forge_so plan (happens w e) es may.1)

start_holds : (plan : Plan) → plan_fault plan ≡ None → Holds (corrupt_in plan) (start plan) 0
unfolding start has_corrupt
start_holds plan good = record {
  linked =
      record {
        each = λ id s at. sound_in plan (short_each plan.aus (numbered_aus plan good)) _ plan.peers
            (fit_peers plan good) (all_sound plan good) id s at;
        bagged = tt;
      };
  outside = λ id is. apart plan plan.aus plan.peers [] plan.peers id (lists_stand plan good).1 is;
  apart = apart_start plan plan.aus plan.peers [] plan.peers (lists_stand plan good).1;
}

pub world_holds : (plan : Plan) (history : List Event) → plan_fault plan ≡ None → IsHistory plan history
    → Holds (λ id. has_corrupt plan.peers id) (world plan history) (0 + length history)
unfolding world
world_holds plan history good is =
    let few = is.few in
    all_hold _ _ 0 history (all_forge_so plan _ history is.may)
    (omega (arith, few)) (start_holds plan good)
