-- A journal in batches: what an event adds to it is one batch.
use Rattle.std.specs.Prelude.{ℕ, List, [], ◌∷◌, ◌++◌, length, drop, map, slice_get}
use Rattle.std.specs.List.{flat_map}
use Rattle.std.specs.Option.{option_map_or}
use Rattle.lks_base.specs.declared.events.Event.{Event}
use Rattle.lks_base.specs.declared.plans.Plan.{Plan}
use Rattle.lks_base.specs.declared.records.Record.{Record}
use Rattle.lks_law.specs.World.{Standing, World, start, happens}

-- one batch more, unless there are no records
abbrev pub with_batch : List (List Record) → List Record → List (List Record)
with_batch batches [] = batches
with_batch batches (r ∷ rs) = batches ++ (r ∷ rs) ∷ []

abbrev pub alone : Record → List Record
alone r = r ∷ []

-- the records of batches, one after another
abbrev pub together : List (List Record) → List Record
together batches = flat_map (λ batch. batch) batches

-- the journal of the honest peer at this place
abbrev pub journal_at : ℕ → World → List Record
journal_at place w = option_map_or (λ (s : Standing). s.journal) (slice_get w.peers place) []

-- what this journal has more in a later world
abbrev pub added_at : ℕ → World → World → List Record
added_at place before after = drop (length (journal_at place before)) (journal_at place after)

abbrev pub batches_from : ℕ → World → List (List Record) → List Event → List (List Record)
batches_from place w batches [] = batches
batches_from place w batches (e ∷ es) =
    batches_from place (happens w e) (with_batch batches (added_at place w (happens w e))) es

-- the batches of the honest peer at this place: one for each deposit, and then one for each event that added records
unfoldable pub batches_at : ℕ → Plan → List Event → List (List Record)
batches_at place plan history = batches_from place (start plan) (map alone (journal_at place (start plan))) history
