-- The one line of a drill.
use Rattle.std.specs.Prelude.{ℕ, Bool, true, false, is_some, List, [], ◌∷◌, length, codes, decimal, count_by}
use Rattle.std.specs.List.{flat_map}
use Rattle.std.specs.Option.{option_map_or}
use Rattle.lks_base.specs.Notes.{noted}
use Rattle.lks_base.specs.declared.entries.Entry.{Entry}
use Rattle.lks_base.specs.declared.entries.Note.{Note}
use Rattle.lks_base.specs.declared.names.Outcome.{Outcome}
use Rattle.lks_base.specs.declared.names.Outcome.TheVariants.{Agreed, Inquorate, Split, NoSupplier}
use Rattle.lks_report.specs.Alarms.{is_alarm}
use Rattle.lks_report.specs.Text.{line}
use Rattle.lks_report.specs.Words.{spaced_words}

-- the notes of all entries, in order
unfoldable pub all_notes : List Entry → List Note
all_notes entries = flat_map (λ e. e.notes) entries

-- a note that a poll was opened
unfoldable pub is_opening : Note → Bool
is_opening note = is_some (noted note).opened

-- a poll that ends so is agreed
abbrev pub is_agreed_end : Outcome → Bool
is_agreed_end Agreed = true
is_agreed_end Inquorate = false
is_agreed_end (Split block) = false
is_agreed_end (NoSupplier block) = false

-- a note that a poll ended, agreed
unfoldable pub is_agreement : Note → Bool
is_agreement note = option_map_or (λ e. is_agreed_end e.outcome) (noted note).closed false

-- a note that a block was replaced
unfoldable pub is_replacement : Note → Bool
is_replacement note = is_some (noted note).replaced

-- the line of a drill: its seed, and how many entries, opened polls, agreed polls, replaced blocks and alarms it has
unfoldable pub summary_text : ℕ → List Entry → List ℕ
summary_text seed entries =
    line (spaced_words (codes "drill" ∷ decimal seed ∷ codes "events" ∷ decimal (length entries)
    ∷ codes "polls" ∷ decimal (count_by is_opening (all_notes entries))
    ∷ codes "agreed" ∷ decimal (count_by is_agreement (all_notes entries))
    ∷ codes "replaced" ∷ decimal (count_by is_replacement (all_notes entries))
    ∷ codes "alarms" ∷ decimal (count_by is_alarm (all_notes entries)) ∷ []))
