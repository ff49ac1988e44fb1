-- What the lines below the entries count and look up.
use Rattle.std.specs.Prelude.{ℕ, Bool, false, not, ◌&&◌, ◌==◌, if◌then◌else◌, Option, Some, None, List, [], take}
use Rattle.std.specs.Prelude.{slice_get, sum_by, count_by}
use Rattle.std.specs.List.{flat_map, filter_map}
use Rattle.std.specs.Option.{option_map_or}
use Rattle.lks_base.specs.Notes.{Ending, noted}
use Rattle.lks_base.specs.Steps.{Act, act_of}
use Rattle.lks_base.specs.declared.entries.Entry.{Entry}
use Rattle.lks_base.specs.declared.entries.Note.{Note}
use Rattle.lks_base.specs.declared.events.Event.{Event}
use Rattle.lks_base.specs.declared.events.Event.TheVariants as happened
use Rattle.lks_base.specs.declared.events.PeerStep.{PeerStep}
use Rattle.lks_base.specs.declared.names.Outcome.{Outcome}

-- whose step it is: of a delivery, the receiver's
unfoldable pub step_actor : ℕ → PeerStep → ℕ
step_actor to s = actor_in (act_of s) where
  actor_in : Act → ℕ
  actor_in (Act.Own peer) = peer
  actor_in (Act.Delivery envelope judged) = to

-- whose step an event is: 0 where it is no peer's step
abbrev pub event_actor : ℕ → Event → ℕ
event_actor to (happened.Step s) = step_actor to s
event_actor to (happened.Cut s kept) = step_actor to s
event_actor to (happened.Tick by) = 0
event_actor to (happened.Lose envelope) = 0
event_actor to (happened.Forge sender receiver bytes) = 0
event_actor to (happened.Crash peer) = 0

-- whose notes the entry has: 0 where it is no peer's step
unfoldable pub actor : Entry → ℕ
actor entry = event_actor entry.to entry.event

-- the notes of the entry, where they are this peer's
unfoldable pub own_notes : ℕ → Entry → List Note
own_notes peer entry = if actor entry == peer then entry.notes else []

-- all notes of a peer, in order
unfoldable pub notes_of : ℕ → List Entry → List Note
notes_of peer entries = flat_map (own_notes peer) entries

-- a note that a block of this AU was replaced
unfoldable pub replaces : ℕ → Note → Bool
replaces au note = option_map_or (λ a. a == au) (noted note).replaced false

-- how often blocks of a peer's copy were replaced
unfoldable pub version : ℕ → List Note → ℕ
version au notes = count_by (replaces au) notes

-- a note of a vote in this poll, of a voter in its inner circle
unfoldable pub is_inner_vote : ℕ → Note → Bool
is_inner_vote number note = option_map_or (λ v. v.number == number && v.inner) (noted note).voted false

-- a note of a vote in this poll, of another voter
unfoldable pub is_outer_vote : ℕ → Note → Bool
is_outer_vote number note = option_map_or (λ v. v.number == number && not v.inner) (noted note).voted false

-- how many votes of its inner circle a poll had
unfoldable pub inner_votes : ℕ → List Note → ℕ
inner_votes number notes = count_by (is_inner_vote number) notes

-- how many votes of other voters a poll had
unfoldable pub outer_votes : ℕ → List Note → ℕ
outer_votes number notes = count_by (is_outer_vote number) notes

-- how this poll ended, where the note says so
unfoldable pub outcome_in : ℕ → Note → Option Outcome
outcome_in number note = outcome_if (noted note).closed where
  outcome_if : Option Ending → Option Outcome
  outcome_if None = None
  outcome_if (Some end) = if end.number == number then Some end.outcome else None

-- how a poll ended first, if it did
unfoldable pub outcome_of : ℕ → List Note → Option Outcome
outcome_of number notes = slice_get (filter_map (outcome_in number) notes) 0

-- by how many ticks the entry moves the clock on
unfoldable pub ticks_in : Entry → ℕ
ticks_in entry = ticks_of entry.event where
  ticks_of : Event → ℕ
  ticks_of (happened.Step s) = 0
  ticks_of (happened.Cut s kept) = 0
  ticks_of (happened.Tick by) = by
  ticks_of (happened.Lose envelope) = 0
  ticks_of (happened.Forge sender receiver bytes) = 0
  ticks_of (happened.Crash peer) = 0

-- the tick before the entry at this place
abbrev pub tick_at : ℕ → List Entry → ℕ
tick_at place entries = sum_by ticks_in (take place entries)
