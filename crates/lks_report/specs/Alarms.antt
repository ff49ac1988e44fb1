-- Which notes are alarms, and which entries and histories have one.
use Rattle.std.specs.Prelude.{ℕ, Bool, true, false, Option, Some, None, List, [], ◌∷◌}
use Rattle.std.specs.List.{list_any}
use Rattle.lks_outside.specs.declared.alarms.Alarm.{Alarm}
use Rattle.lks_base.specs.Notes.{Ending, noted}
use Rattle.lks_base.specs.declared.entries.Entry.{Entry}
use Rattle.lks_base.specs.declared.entries.Note.{Note}
use Rattle.lks_base.specs.declared.names.Outcome.{Outcome}
use Rattle.lks_base.specs.declared.names.Outcome.TheVariants.{Agreed, Inquorate, Split, NoSupplier}

-- a poll that ends so is an alarm
unfoldable pub is_alarming_end : Outcome → Bool
is_alarming_end Agreed = false
is_alarming_end Inquorate = false
is_alarming_end (Split block) = true
is_alarming_end (NoSupplier block) = true

-- a note that is an alarm
unfoldable pub is_alarm : Note → Bool
is_alarm note = is_raised (noted note).closed (noted note).overdue where
  is_raised : Option Ending → Option ℕ → Bool
  is_raised (Some end) overdue = is_alarming_end end.outcome
  is_raised None (Some au) = true
  is_raised None None = false

-- an entry with such a note
unfoldable pub is_alarming : Entry → Bool
is_alarming entry = list_any is_alarm entry.notes

-- some note is an alarm
unfoldable pub is_alarmed : List Entry → Bool
is_alarmed entries = list_any is_alarming entries

-- some alarm was raised
abbrev pub has_any : List Alarm → Bool
has_any [] = false
has_any (alarm ∷ later) = true
