-- Whatever is due may happen next.
use Rattle.std.proofs.Common.{◌≡◌, ◌≤◌, ◌+◌, ◌∙◌, sym, subst, ℕ, zero, suc, Bool, true, false, cond, List, [], ◌∷◌}
use Rattle.std.proofs.Common.{◌++◌, length, filter, refl, arith}
use Rattle.std.specs.Prelude.{Some, None, is_some, map, slice_get}
use Rattle.std.specs.List.{filter_map, cons_option, flat_map, range_with_len}
use Rattle.lks_base.specs.declared.events.Due.{Due}
use Rattle.lks_base.specs.declared.events.Due.TheVariants.{Delivery, Own}
use Rattle.lks_base.specs.declared.events.Event.{Event}
use Rattle.lks_base.specs.declared.events.PeerStep.{PeerStep}
use Rattle.lks_base.specs.declared.events.PeerStep.TheVariants.{Tally, Work}
use Rattle.lks_base.specs.declared.names.PollName.{PollName}
use Rattle.lks_base.specs.declared.plans.Plan.{Plan}
use Rattle.lks_base.specs.declared.records.Record.{Record}
use Rattle.lks_law.proofs.Happening.{delivery_may, standing_honest}
use Rattle.lks_law.specs.Due.{is_pending, pending, works_at, tallies_at, ready_at, ready, turn_at, turn_of, turns_at}
use Rattle.lks_law.specs.Due.{turns, first_own, first_due, next_to_deliver, next_to_settle, next_to_finish, or_else}
use Rattle.lks_law.specs.Due.{dues, is_work, IsEventOf, IsDue}
use Rattle.lks_law.specs.Histories.{IsHonest, MayStep, MayHappen, WasSent}
use Rattle.lks_law.specs.Journal.{openings, is_running, is_voting, is_widened, unanswered_request}
use Rattle.lks_law.specs.Questions.{Verdicts, judgement_on, question_on, event_of}
use Rattle.lks_law.specs.Questions.{OwnAsksNothing}
use Rattle.lks_law.specs.Reaction.{may_tally}
use Rattle.lks_law.specs.World.{World, Standing, world}

module _ (plan : Plan) (w : World) where
  -- an envelope was sent, or a peer may take a step of its own, which asks nothing
  abbrev pub Can : Due → Type 0
  Can (Delivery i) = WasSent w i
  Can (Own s) = MayStep plan w s × (question_on w s ≡ None)

  abbrev CanEach : List Due → Type 0
  CanEach [] = Unit {0}
  CanEach (d ∷ ds) = Can d × CanEach ds

  abbrev OwnEach : List PeerStep → Type 0
  OwnEach [] = Unit {0}
  OwnEach (s ∷ ss) = (MayStep plan w s × (question_on w s ≡ None)) × OwnEach ss

  each_at : (ds : List Due) (k : ℕ) (d : Due) → CanEach ds → slice_get ds k ≡ Some d → Can d
  each_at [] k d each at = absurd cc
  each_at (x ∷ xs) zero d each at = let same : x ≡ d = cc in subst Can same each.0
  each_at (x ∷ xs) (suc k) d each at = each_at xs k d each.1 at

  can_append : (ds es : List Due) → CanEach ds → CanEach es → CanEach (ds ++ es)
  can_append [] es first then = then
  can_append (d ∷ ds) es first then = (first.0, can_append ds es first.1 then)

  can_else : (ds es : List Due) → CanEach ds → CanEach es → CanEach (or_else ds es)
  can_else [] es first then = then
  can_else (d ∷ ds) es first then = first

  own_can : (ss : List PeerStep) → OwnEach ss → CanEach (map Own ss)
  own_can [] each = tt
  own_can (s ∷ ss) each = (each.0, own_can ss each.1)

  own_append : (ss ts : List PeerStep) → OwnEach ss → OwnEach ts → OwnEach (ss ++ ts)
  own_append [] ts first then = then
  own_append (s ∷ ss) ts first then = (first.0, own_append ss ts first.1 then)

  waits_can : (q : ℕ → Bool) (a n : ℕ) → a + n ≤ length w.bag → CanEach (map Delivery (filter q (range_with_len a n)))
  waits_can q a zero le = tt
  waits_can q a (suc n) le = by_test (q a) (waits_can q (a + 1) n (omega arith))
    where
      by_test : (b : Bool) → CanEach (map Delivery (filter q (range_with_len (a + 1) n)))
          → CanEach
          (map Delivery (cond b (a ∷ filter q (range_with_len (a + 1) n)) (filter q (range_with_len (a + 1) n))))
      by_test true rest = (omega arith, rest)
      by_test false rest = rest

  abbrev AreHonest : List Standing → Type 0
  AreHonest ss = (place : ℕ) (s : Standing) → slice_get ss place ≡ Some s → IsHonest plan s.own.id

  tallies_can : (id : ℕ) → IsHonest plan id → (ns : List ℕ) → OwnEach (map (Tally id) ns)
  tallies_can id honest [] = tt
  tallies_can id honest (n ∷ ns) = ((honest, refl), tallies_can id honest ns)

  votes_can : (id : ℕ) → IsHonest plan id → (qs : List PollName) → OwnEach (map (Work id) qs)
  votes_can id honest [] = tt
  votes_can id honest (q ∷ qs) = ((honest, refl), votes_can id honest qs)

  ready_can : (ss : List Standing) → AreHonest ss → OwnEach (flat_map ready_at ss)
  unfolding works_at tallies_at
  ready_can [] honest = tt
  ready_can (s ∷ ss) honest =
      own_append _ _ (own_append _ _ (votes_can s.own.id (honest 0 s refl) _) (tallies_can s.own.id (honest 0 s refl)
      (filter (λ n. may_tally n s.journal) (range_with_len 1 (openings s.journal))))) (ready_can ss
      (λ k x at. honest (suc k) x at))

  turn_can : (id : ℕ) → IsHonest plan id → (journal : List Record) (n : ℕ) (rest : List PeerStep) → OwnEach rest
      → OwnEach (cons_option (turn_of id journal n) rest)
  unfolding turn_of
  turn_can id honest journal n rest can = by_running (is_running n journal)
    where
      by_turn : (asked voting widened : Bool) → OwnEach (cons_option (turn_at id n asked voting widened) rest)
      by_turn true voting widened = ((honest, refl), can)
      by_turn false true true = ((honest, refl), can)
      by_turn false true false = ((honest, refl), can)
      by_turn false false widened = can

      by_running : (b : Bool)
          → OwnEach
          (cons_option
          (cond b
          (turn_at id n (is_some (unanswered_request n journal)) (is_voting n journal) (is_widened n journal))
          None) rest)
      by_running true = by_turn (is_some _) (is_voting n journal) (is_widened n journal)
      by_running false = can

  turns_of : (id : ℕ) → IsHonest plan id → (journal : List Record) (ns : List ℕ)
      → OwnEach (filter_map (turn_of id journal) ns)
  turns_of id honest journal [] = tt
  turns_of id honest journal (n ∷ ns) = turn_can id honest journal n _ (turns_of id honest journal ns)

  turns_can : (ss : List Standing) → AreHonest ss → OwnEach (flat_map turns_at ss)
  unfolding turns_at
  turns_can [] honest = tt
  turns_can (s ∷ ss) honest =
      own_append _ _ (turns_of s.own.id (honest 0 s refl) s.journal _) (turns_can ss (λ k x at. honest (suc k) x at))

module _ (plan : Plan) (history : List Event) where
  waiting_can : CanEach plan (world plan history) (map Delivery (pending plan history))
  unfolding pending
  waiting_can =
      waits_can plan (world plan history) (is_pending history) 0 (length (world plan history).bag) (omega arith)

  works_can : CanEach plan (world plan history) (map Own (ready (world plan history)))
  unfolding ready
  works_can = own_can plan _ _ (ready_can plan _ (world plan history).peers (standing_honest plan history))

  others_can : CanEach plan (world plan history) (map Own (turns (world plan history)))
  unfolding turns
  others_can = own_can plan _ _ (turns_can plan _ (world plan history).peers (standing_honest plan history))

  settling_can : CanEach plan (world plan history)
      (map Delivery (pending plan history) ++ map Own (ready (world plan history)))
  settling_can = can_append plan _ _ _ waiting_can works_can

  all_can : CanEach plan (world plan history) (dues plan history)
  unfolding dues
  all_can = can_else plan _ _ _ settling_can others_can

  -- what is due at any place can be done
  pub due_can : (k : ℕ) (d : Due) → slice_get (dues plan history) k ≡ Some d → Can plan (world plan history) d
  due_can k d at = each_at plan _ _ k d all_can at

-- What comes first is due.

delivers_there : (waiting : List ℕ) → first_due waiting [] ≡ slice_get (map Delivery waiting) 0
delivers_there [] = refl
delivers_there (i ∷ is) = refl

settles_there : (waiting : List ℕ) (works : List PeerStep)
    → first_due waiting works ≡ slice_get (map Delivery waiting ++ map Own works) 0
settles_there [] [] = refl
settles_there [] (s ∷ ss) = refl
settles_there (i ∷ is) works = refl

finishes_there : (waiting : List ℕ) (works others : List PeerStep)
    → first_due waiting (works ++ others)
    ≡ slice_get (or_else (map Delivery waiting ++ map Own works) (map Own others)) 0
finishes_there [] [] [] = refl
finishes_there [] [] (s ∷ ss) = refl
finishes_there [] (s ∷ ss) others = refl
finishes_there (i ∷ is) works others = refl

pub first_of_dues : (plan : Plan) (history : List Event) → next_to_finish plan history ≡ slice_get (dues plan history) 0
unfolding dues next_to_finish
first_of_dues plan history = finishes_there _ _ _

module _ (plan : Plan) (history : List Event) where
  pub deliver_can : (d : Due) → next_to_deliver plan history ≡ Some d → Can plan (world plan history) d
  unfolding next_to_deliver
  deliver_can d next =
      each_at plan (world plan history) (map Delivery (pending plan history)) 0 d (waiting_can plan history)
      (sym (delivers_there (pending plan history)) ∙ next)

  pub settle_can : (d : Due) → next_to_settle plan history ≡ Some d → Can plan (world plan history) d
  unfolding next_to_settle
  settle_can d next = each_at plan _ _ 0 d (settling_can plan history) (sym (settles_there _ _) ∙ next)

  pub finish_can : (d : Due) → next_to_finish plan history ≡ Some d → Can plan (world plan history) d
  finish_can d next = due_can plan history 0 d (sym (first_of_dues plan history) ∙ next)

  -- what can be done may happen, and a peer asks nothing by it

  pub can_happen : (verdict : Verdicts) (d : Due) → Can plan (world plan history) d
      → MayHappen plan (world plan history) (event_of verdict plan history d)
  can_happen verdict (Delivery i) can = delivery_may verdict plan history i can
  can_happen verdict (Own s) can = can.0

  pub can_ask : (d : Due) → Can plan (world plan history) d → OwnAsksNothing (world plan history) d
  can_ask (Delivery i) can = tt
  can_ask (Own s) can = can.1

  pub event_is_of : (verdict : Verdicts) (d : Due) → IsEventOf d (event_of verdict plan history d)
  event_is_of verdict (Delivery i) = (judgement_on verdict _ _, refl)
  event_is_of verdict (Own s) = refl

  pub is_due : (verdict : Verdicts) (k : ℕ) (d : Due) → slice_get (dues plan history) k ≡ Some d
      → IsDue plan history (event_of verdict plan history d)
  is_due verdict k d at = record { due = d; place = k; there = at; made = event_is_of verdict d }

-- A turn is no work.

abbrev AreNoWork : List PeerStep → Type 0
AreNoWork [] = Unit {0}
AreNoWork (s ∷ ss) = (is_work s ≡ false) × AreNoWork ss

no_work_append : (ss ts : List PeerStep) → AreNoWork ss → AreNoWork ts → AreNoWork (ss ++ ts)
no_work_append [] ts first then = then
no_work_append (s ∷ ss) ts first then = (first.0, no_work_append ss ts first.1 then)

no_work_of : (id : ℕ) (journal : List Record) (ns : List ℕ) → AreNoWork (filter_map (turn_of id journal) ns)
unfolding turn_of
no_work_of id journal [] = tt
no_work_of id journal (n ∷ ns) = by_running (is_running n journal) (no_work_of id journal ns)
  where
    by_turn : (asked voting widened : Bool) (rest : List PeerStep) → AreNoWork rest
        → AreNoWork (cons_option (turn_at id n asked voting widened) rest)
    by_turn true voting widened rest none = (refl, none)
    by_turn false true true rest none = (refl, none)
    by_turn false true false rest none = (refl, none)
    by_turn false false widened rest none = none

    by_running : (b : Bool) → AreNoWork (filter_map (turn_of id journal) ns)
        → AreNoWork
        (cons_option
        (cond b
        (turn_at id n (is_some (unanswered_request n journal)) (is_voting n journal) (is_widened n journal))
        None) (filter_map (turn_of id journal) ns))
    by_running true none = by_turn (is_some _) (is_voting n journal) (is_widened n journal) (filter_map _ ns) none
    by_running false none = none

no_work_in : (ss : List Standing) → AreNoWork (flat_map turns_at ss)
unfolding turns_at
no_work_in [] = tt
no_work_in (s ∷ ss) = no_work_append _ _ (no_work_of s.own.id s.journal _) (no_work_in ss)

pub turn_is_no_work : (w : World) (s : PeerStep) → first_own (turns w) ≡ Some (Own s) → is_work s ≡ false
unfolding turns
turn_is_no_work w s is = by_turns (flat_map turns_at w.peers) (no_work_in w.peers) is
  where
    by_turns : (ss : List PeerStep) → AreNoWork ss → first_own ss ≡ Some (Own s) → is_work s ≡ false
    by_turns [] none is = absurd cc
    by_turns (t ∷ ts) none is = let same : t ≡ s = cc in subst (λ x. is_work x ≡ false) same none.0
