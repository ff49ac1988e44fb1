-- A journal is its batches, one after another.
use Rattle.std.proofs.Common.{◌≡◌, ◌∙◌, ap, sym, ℕ, zero, suc, Bool, true, false, cond, eqb, List, [], ◌∷◌, ◌++◌}
use Rattle.std.proofs.Common.{length, drop, refl, append_assoc}
use Rattle.std.specs.Prelude.{Option, Some, None, map, slice_get}
use Rattle.std.specs.Option.{option_map_or}
use Rattle.std.proofs.Math.Seq.{drop-append_seam}
use Rattle.std.proofs.lemmas.List.{append-nil}
use Rattle.lks_base.specs.declared.events.Event.{Event}
use Rattle.lks_base.specs.declared.events.Event.TheVariants.{Step, Cut, Tick, Lose, Forge, Crash}
use Rattle.lks_base.specs.declared.plans.Plan.{Plan}
use Rattle.lks_base.specs.declared.records.Record.{Record}
use Rattle.lks_law.specs.Batches.{with_batch, alone, together, journal_at, added_at, batches_from, batches_at}
use Rattle.lks_law.specs.World.{Standing, World, Deed, effect_of, with_records, peers_after}
use Rattle.lks_law.specs.World.{after_step, happens, happen_all, world}

-- ---- lists of batches

together_more : (batches : List (List Record)) (added : List Record)
    → together (batches ++ added ∷ []) ≡ together batches ++ added
together_more [] added = append-nil added
together_more (b ∷ bs) added = ap (λ js. b ++ js) (together_more bs added) ∙ sym (append_assoc b _ added)

pub batch_more : (batches : List (List Record)) (added : List Record)
    → together (with_batch batches added) ≡ together batches ++ added
batch_more batches [] = sym (append-nil _)
batch_more batches (r ∷ rs) = together_more batches _

pub each_alone : (list : List Record) → together (map alone list) ≡ list
each_alone [] = refl
each_alone (r ∷ rs) = ap (λ js. r ∷ js) (each_alone rs)

-- ---- one event more

from_more : (place : ℕ) (w : World) (batches : List (List Record)) (history : List Event) (e : Event)
    → batches_from place w batches (history ++ e ∷ [])
    ≡ with_batch (batches_from place w batches history)
    (added_at place (happen_all w history) (happens (happen_all w history) e))
from_more place w batches [] e = refl
from_more place w batches (d ∷ ds) e = from_more place (happens w d) _ ds e

-- the batches after one event more
pub batches_more : (place : ℕ) (plan : Plan) (history : List Event) (e : Event)
    → batches_at place plan (history ++ e ∷ [])
    ≡ with_batch (batches_at place plan history)
    (added_at place (world plan history) (happens (world plan history) e))
unfolding batches_at world
batches_more place plan history e = from_more place _ _ history e

-- ---- journals only grow

-- the journal of this place goes on from what it was
abbrev Grows : ℕ → List Standing → List Standing → Type 0
Grows place before after =
    (added : List Record)
    × (option_map_or (λ (s : Standing). s.journal) (slice_get after place) []
    ≡ option_map_or (λ (s : Standing). s.journal) (slice_get before place) [] ++ added)

stays : (place : ℕ) (ss : List Standing) → Grows place ss ss
stays place ss = ([], sym (append-nil _))

records_grow : (id : ℕ) (added : List Record) (ss : List Standing) (place : ℕ)
    → Grows place ss (with_records id added ss)
records_grow id added [] place = stays place []
records_grow id added (s ∷ ss) place = by_id (eqb s.own.id id) place (λ k. records_grow id added ss k)
  where
    by_id : (b : Bool) (place : ℕ) → ((k : ℕ) → Grows k ss (with_records id added ss))
        → Grows place (s ∷ ss)
        (cond b (record { own = s.own; journal = s.journal ++ added } ∷ ss) (s ∷ with_records id added ss))
    by_id true zero rest = (added, refl)
    by_id true (suc k) rest = stays k ss
    by_id false zero rest = stays zero (s ∷ ss)
    by_id false (suc k) rest = rest k

deed_grows : (tick : ℕ) (ss : List Standing) (d : Option Deed) (place : ℕ) → Grows place ss (peers_after tick ss d)
deed_grows tick ss None place = stays place ss
deed_grows tick ss (Some d) place = records_grow d.peer (effect_of tick ss (Some d)).records ss place

event_grows : (place : ℕ) (w : World) (e : Event) → Grows place w.peers (happens w e).peers
unfolding happens after_step
event_grows place w (Step s) = deed_grows w.tick w.peers _ place
event_grows place w (Cut s true) = deed_grows w.tick w.peers _ place
event_grows place w (Cut s false) = stays place w.peers
event_grows place w (Tick by) = stays place w.peers
event_grows place w (Lose envelope) = stays place w.peers
event_grows place w (Forge from to bytes) = stays place w.peers
event_grows place w (Crash peer) = stays place w.peers

-- what a journal has more is what was added
pub added_is : (before after added : List Record) → after ≡ before ++ added → drop (length before) after ≡ added
added_is before after added is = ap (drop _) is ∙ drop-append_seam before added

grown_by : (place : ℕ) (w : World) (e : Event)
    → journal_at place w ++ added_at place w (happens w e) ≡ journal_at place (happens w e)
grown_by place w e =
    let more = event_grows place w e in
    ap (λ js. journal_at place w ++ js)
    (added_is _ _ more.0 more.1)
    ∙ sym more.1

from_is : (place : ℕ) (w : World) (batches : List (List Record)) (history : List Event)
    → together batches ≡ journal_at place w
    → together (batches_from place w batches history) ≡ journal_at place (happen_all w history)
from_is place w batches [] is = is
from_is place w batches (e ∷ es) is =
    from_is place (happens w e) _ es (batch_more batches _ ∙ ap (λ js. js ++ added_at place w (happens w e)) is
    ∙ grown_by place w e)

pub batches_are : (plan : Plan) (history : List Event) (place : ℕ)
    → together (batches_at place plan history) ≡ journal_at place (world plan history)
unfolding batches_at world
batches_are plan history place = from_is place _ _ history (each_alone _)
