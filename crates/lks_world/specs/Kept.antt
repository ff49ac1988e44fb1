-- Histories that go on as long as there is room.
use Rattle.std.specs.Prelude.{nat_lt, if◌then◌else◌, List, [], ◌∷◌, ◌++◌, length}
use Rattle.lks_base.specs.declared.events.Event.{Event}
use Rattle.lks_base.specs.declared.limits.TheConstants.{MOST_EVENTS}

-- one more event, unless the history is full
abbrev pub with_event : List Event → Event → List Event
with_event history e = if nat_lt (length history) MOST_EVENTS then history ++ e ∷ [] else history
