-- The report of a run, line by line.
use Rattle.std.specs.Prelude.{ℕ, if◌then◌else◌, Option, Some, None, List, [], ◌∷◌, ◌++◌, length, codes, decimal}
use Rattle.std.specs.List.{flat_map, enumerate_from}
use Rattle.std.specs.Option.{option_map_or}
use Rattle.lks_outside.specs.declared.alarms.Alarm.{Alarm}
use Rattle.lks_outside.specs.declared.alarms.AlarmKind.{AlarmKind}
use Rattle.lks_outside.specs.declared.alarms.AlarmKind.TheVariants as raised
use Rattle.lks_base.specs.Notes.{noted}
use Rattle.lks_base.specs.declared.entries.Entry.{Entry}
use Rattle.lks_base.specs.declared.entries.Note.{Note}
use Rattle.lks_base.specs.declared.names.Outcome.{Outcome}
use Rattle.lks_base.specs.declared.plans.AuPlan.{AuPlan}
use Rattle.lks_base.specs.declared.plans.PeerPlan.{PeerPlan}
use Rattle.lks_base.specs.declared.plans.Plan.{Plan}
use Rattle.lks_base.specs.Checking.{has_copy}
use Rattle.lks_law.specs.Alarms.{alarm_noted}
use Rattle.lks_report.specs.Words.{spaced_words, event_words, notes_words, outcome_words}
use Rattle.lks_report.specs.Scans.{actor, notes_of, version, inner_votes, outer_votes, outcome_of, tick_at}

-- words and the end of their line
abbrev pub line : List ℕ → List ℕ
line words = words ++ 10 ∷ []

-- an entry: its number, its event, its notes, and how many envelopes it sent
unfoldable pub entry_line : ℕ → Entry → List ℕ
entry_line number entry =
    line (decimal number ++ codes " " ++ event_words entry.from entry.to entry.event
    ++ codes " | " ++ notes_words entry.notes ++ codes " | " ++ decimal entry.sends)

-- a line for each entry, numbered from 1
unfoldable pub entry_lines : List Entry → List ℕ
entry_lines entries = flat_map (λ n. entry_line n.0 n.1) (enumerate_from 1 entries)

-- an AU that the peer holds, with the version of its copy
unfoldable pub copy_line : PeerPlan → List Note → AuPlan → List ℕ
copy_line peer notes au =
    if has_copy peer.copies au.id
    then line (spaced_words (codes "copy" ∷ decimal peer.id ∷ decimal au.id ∷ decimal (version au.id notes) ∷ []))
    else []

-- the copies of an honest peer
unfoldable pub peer_copies : List AuPlan → List Entry → PeerPlan → List ℕ
peer_copies aus entries peer =
    if peer.corrupt then [] else flat_map (copy_line peer (notes_of peer.id entries)) aus

-- the copies of all honest peers
unfoldable pub copy_lines : Plan → List Entry → List ℕ
copy_lines plan entries = flat_map (peer_copies plan.aus entries) plan.peers

-- how a poll ended, or that it still runs
unfoldable pub status_words : Option Outcome → List ℕ
status_words None = codes "running"
status_words (Some outcome) = outcome_words outcome

-- a poll of the peer, with its inner and its outer votes
unfoldable pub poll_line : ℕ → List Note → ℕ → ℕ → List ℕ
poll_line peer notes number au =
    line (spaced_words (codes "poll" ∷ decimal peer ∷ decimal number ∷ decimal au
    ∷ decimal (inner_votes number notes) ∷ decimal (outer_votes number notes)
    ∷ status_words (outcome_of number notes) ∷ []))

-- the line of the poll that a note opens
unfoldable pub opened_line : ℕ → List Note → Note → List ℕ
opened_line peer notes note = option_map_or (λ o. poll_line peer notes o.number o.au) (noted note).opened []

-- the polls of an honest peer, in the order in which they were opened
unfoldable pub peer_polls : List Entry → PeerPlan → List ℕ
peer_polls entries peer =
    if peer.corrupt then [] else flat_map (opened_line peer.id (notes_of peer.id entries)) (notes_of peer.id entries)

-- the polls of all honest peers
unfoldable pub poll_lines : Plan → List Entry → List ℕ
poll_lines plan entries = flat_map (peer_polls entries) plan.peers

-- the words of what an alarm is of
abbrev pub kind_words : AlarmKind → List (List ℕ)
kind_words (raised.Split number block) = codes "split" ∷ decimal number ∷ decimal block ∷ []
kind_words (raised.NoSupplier number block) = codes "no-supplier" ∷ decimal number ∷ decimal block ∷ []
kind_words (raised.Overdue au) = codes "overdue" ∷ decimal au ∷ []

-- the line of an alarm: its peer, its tick, and what it is of
abbrev pub alarm_text : Alarm → List ℕ
alarm_text alarm = line (spaced_words (codes "alarm" ∷ decimal alarm.peer ∷ decimal alarm.tick ∷ kind_words alarm.kind))

-- the line of a note that is an alarm
unfoldable pub alarm_line : ℕ → ℕ → Note → List ℕ
alarm_line peer tick note = option_map_or alarm_text (alarm_noted peer tick note) []

-- the alarms of an entry, at this tick
unfoldable pub entry_alarms : ℕ → Entry → List ℕ
entry_alarms tick entry = flat_map (alarm_line (actor entry) tick) entry.notes

-- the alarms of all entries, in order
unfoldable pub alarm_lines : List Entry → List ℕ
alarm_lines entries = flat_map (λ n. entry_alarms (tick_at n.0 entries) n.1) (enumerate_from 0 entries)

-- the last line: how many entries there were
unfoldable pub end_line : List Entry → List ℕ
end_line entries = line (spaced_words (codes "end" ∷ decimal (length entries) ∷ []))

-- the whole report
unfoldable pub text_of : Plan → List Entry → List ℕ
text_of plan entries =
    line (codes "lockss report 1") ++ entry_lines entries ++ copy_lines plan entries
    ++ poll_lines plan entries ++ alarm_lines entries ++ end_line entries
