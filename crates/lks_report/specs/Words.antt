-- The words of events and notes. They are parted by single spaces, and numbers are decimal.
use Rattle.std.specs.Prelude.{ℕ, Bool, true, false, List, [], ◌∷◌, ◌++◌, length, codes, decimal}
use Rattle.std.specs.List.{join_with_byte, join_by}
use Rattle.lks_base.specs.declared.entries.Note.{Note}
use Rattle.lks_base.specs.declared.entries.Note.TheVariants as noted
use Rattle.lks_base.specs.declared.events.Event.{Event}
use Rattle.lks_base.specs.declared.events.Event.TheVariants as happened
use Rattle.lks_base.specs.declared.events.PeerStep.{PeerStep}
use Rattle.lks_base.specs.declared.events.PeerStep.TheVariants as step
use Rattle.lks_base.specs.declared.names.Judged.{Judged}
use Rattle.lks_base.specs.declared.names.Judged.TheVariants.{NotAsked, Accepted, Refused}
use Rattle.lks_base.specs.declared.names.Outcome.{Outcome}
use Rattle.lks_base.specs.declared.names.Outcome.TheVariants as closing
use Rattle.lks_words.specs.Printing.{behind}
use Rattle.lks_words.specs.Steps.{own_words}

-- words with a space between each two
abbrev pub spaced_words : List (List ℕ) → List ℕ
spaced_words words = join_with_byte 32 words

-- what the judge of effort proofs said, where it was asked
unfoldable pub judged_words : Judged → List ℕ
judged_words NotAsked = []
judged_words Accepted = codes " accepted"
judged_words Refused = codes " refused"

-- of a delivery, from whom and to whom, and what the judge said
unfoldable pub delivery_words : ℕ → ℕ → PeerStep → List ℕ
delivery_words from to (step.OpenPoll peer au) = []
delivery_words from to (step.Widen peer number) = []
delivery_words from to (step.Shut peer number) = []
delivery_words from to (step.Tally peer number) = []
delivery_words from to (step.Nudge peer number) = []
delivery_words from to (step.GiveUp peer number) = []
delivery_words from to (step.Work peer poll) = []
delivery_words from to (step.Expire peer poll) = []
delivery_words from to (step.Check peer) = []
delivery_words from to (step.Tune peer quorum minority repairs) = []
delivery_words from to (step.Deliver envelope judged) = behind 32 decimal (from ∷ to ∷ []) ++ judged_words judged

-- a step, as scripts say it, and behind a delivery its two peers
unfoldable pub step_words : ℕ → ℕ → PeerStep → List ℕ
step_words from to s = own_words s ++ delivery_words from to s

-- an event; one that the power cut says whether the journal has it
unfoldable pub event_words : ℕ → ℕ → Event → List ℕ
event_words from to (happened.Step s) = step_words from to s
event_words from to (happened.Cut s true) = codes "cut kept " ++ step_words from to s
event_words from to (happened.Cut s false) = codes "cut lost " ++ step_words from to s
event_words from to (happened.Tick by) = spaced_words (codes "tick" ∷ decimal by ∷ [])
event_words from to (happened.Lose envelope) = spaced_words (codes "lose" ∷ decimal envelope ∷ [])
event_words from to (happened.Forge sender receiver bytes) =
    spaced_words (codes "forge" ∷ decimal sender ∷ decimal receiver ∷ decimal (length bytes) ∷ [])
event_words from to (happened.Crash peer) = spaced_words (codes "crash" ∷ decimal peer ∷ [])

-- how a poll ended, with the block that it is about
unfoldable pub outcome_words : Outcome → List ℕ
outcome_words closing.Agreed = codes "agreed"
outcome_words closing.Inquorate = codes "inquorate"
outcome_words (closing.Split block) = codes "split-" ++ decimal block
outcome_words (closing.NoSupplier block) = codes "no-supplier-" ++ decimal block

-- an admission that was of low grade or not
unfoldable pub grade_word : Bool → List ℕ
grade_word true = codes "low"
grade_word false = codes "high"

-- a note; one on the peer's part in another peer's poll names that poll by its poller and its number
unfoldable pub note_words : Note → List ℕ
note_words (noted.Opened number au) = spaced_words (codes "opened" ∷ decimal number ∷ decimal au ∷ [])
note_words (noted.Nominated number voter) = spaced_words (codes "nominated" ∷ decimal number ∷ decimal voter ∷ [])
note_words (noted.Outer number count) = spaced_words (codes "outer" ∷ decimal number ∷ decimal count ∷ [])
note_words (noted.VoteIn number voter inner) = spaced_words (codes "vote-in" ∷ decimal number ∷ decimal voter ∷ [])
note_words (noted.Shut number) = spaced_words (codes "shut" ∷ decimal number ∷ [])
note_words (noted.Asked number block voter) =
    spaced_words (codes "asked" ∷ decimal number ∷ decimal block ∷ decimal voter ∷ [])
note_words (noted.RepairBad number block voter) =
    spaced_words (codes "repair-bad" ∷ decimal number ∷ decimal block ∷ decimal voter ∷ [])
note_words (noted.Replaced number au block size) =
    spaced_words (codes "replaced" ∷ decimal number ∷ decimal au ∷ decimal block ∷ decimal size ∷ [])
note_words (noted.Closed number outcome) = spaced_words (codes "closed" ∷ decimal number ∷ outcome_words outcome ∷ [])
note_words (noted.Overdue au) = spaced_words (codes "overdue" ∷ decimal au ∷ [])
note_words (noted.Joined poll au low) =
    spaced_words (codes "joined" ∷ decimal poll.poller ∷ decimal poll.number ∷ decimal au ∷ grade_word low ∷ [])
note_words (noted.Committed poll version) =
    spaced_words (codes "committed" ∷ decimal poll.poller ∷ decimal poll.number ∷ decimal version ∷ [])
note_words (noted.Voted poll) = spaced_words (codes "voted" ∷ decimal poll.poller ∷ decimal poll.number ∷ [])
note_words (noted.Served poll block) =
    spaced_words (codes "served" ∷ decimal poll.poller ∷ decimal poll.number ∷ decimal block ∷ [])
note_words (noted.Ended poll) = spaced_words (codes "ended" ∷ decimal poll.poller ∷ decimal poll.number ∷ [])
note_words (noted.Tuned quorum minority repairs) =
    spaced_words (codes "tuned" ∷ decimal quorum ∷ decimal minority ∷ decimal repairs ∷ [])

-- the notes of an entry, or a hyphen for none
unfoldable pub notes_words : List Note → List ℕ
notes_words [] = codes "-"
notes_words (note ∷ notes) = join_by note_words (codes ", ") (note ∷ notes)
