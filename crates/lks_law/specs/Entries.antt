-- What a report says of each event of a history.
use Rattle.std.specs.Prelude.{ℕ, Bool, false, if◌then◌else◌, min, Option, Some, None, List, [], ◌∷◌, ◌++◌, length}
use Rattle.std.specs.Prelude.{slice_get}
use Rattle.std.specs.List.{filter_map}
use Rattle.lks_base.specs.Checking.{has_member}
use Rattle.lks_base.specs.Steps.{Act, act_of}
use Rattle.lks_base.specs.declared.entries.Entry.{Entry}
use Rattle.lks_base.specs.declared.entries.Note.{Note}
use Rattle.lks_base.specs.declared.entries.Note.TheVariants as note
use Rattle.lks_base.specs.declared.events.Envelope.{Envelope}
use Rattle.lks_base.specs.declared.events.Event.{Event}
use Rattle.lks_base.specs.declared.events.Event.TheVariants.{Step, Cut, Tick, Lose, Forge, Crash}
use Rattle.lks_base.specs.declared.events.PeerStep.{PeerStep}
use Rattle.lks_base.specs.declared.plans.Plan.{Plan}
use Rattle.lks_base.specs.declared.records.Record.{Record}
use Rattle.lks_base.specs.declared.records.Record.TheVariants.{Deposit, PollOpened, Nominated, OuterOpened, VoteIn}
use Rattle.lks_base.specs.declared.records.Record.TheVariants.{Shut, Asked, RepairBad, Replaced, Closed, Overdue}
use Rattle.lks_base.specs.declared.records.Record.TheVariants.{Joined, Committed, Voted, Served, Ended, Tuned}
use Rattle.lks_law.specs.Journal.{Opening, opening_of}
use Rattle.lks_law.specs.World.{World, Deed, Standing, start, happens, deed_of, effect_of, peer_at}

abbrev pub has_inner : Option Opening → ℕ → Bool
has_inner None v = false
has_inner (Some opening) v = has_member opening.inner v

-- whether the journal's poll n has this peer in its inner circle
unfoldable pub is_inner : List Record → ℕ → ℕ → Bool
is_inner journal n v = has_inner (opening_of n journal) v

-- a length as a note has it: in its limits no record has a longer list
abbrev pub reported_count : ℕ → ℕ
reported_count n = min n 65535

-- the note of a record of another peer's poll, or of the peer itself
unfoldable pub session_note_of : Record → Option Note
session_note_of (Deposit au blocks) = None
session_note_of (PollOpened number au nonce inner tick limits kind) = None
session_note_of (Nominated number voter nominees) = None
session_note_of (OuterOpened number outer) = None
session_note_of (VoteIn number voter hashes) = None
session_note_of (Shut number) = None
session_note_of (Asked number block voter) = None
session_note_of (RepairBad number block voter) = None
session_note_of (Replaced number au block bytes) = None
session_note_of (Closed number outcome tick) = None
session_note_of (Overdue au tick) = Some (note.Overdue au)
session_note_of (Joined poll au tick low repairs) = Some (note.Joined poll au low)
session_note_of (Committed poll nonce version kind) = Some (note.Committed poll version)
session_note_of (Voted poll hashes) = Some (note.Voted poll)
session_note_of (Served poll block) = Some (note.Served poll block)
session_note_of (Ended poll) = Some (note.Ended poll)
session_note_of (Tuned quorum minority repairs) = Some (note.Tuned quorum minority repairs)

-- the note of a record, given who is in the inner circle of which poll; a deposit has none
unfoldable pub note_with : (ℕ → ℕ → Bool) → Record → Option Note
note_with is_in (Deposit au blocks) = None
note_with is_in (PollOpened number au nonce inner tick limits kind) = Some (note.Opened number au)
note_with is_in (Nominated number voter nominees) = Some (note.Nominated number voter)
note_with is_in (OuterOpened number outer) = Some (note.Outer number (reported_count (length outer)))
note_with is_in (VoteIn number voter hashes) = Some (note.VoteIn number voter (is_in number voter))
note_with is_in (Shut number) = Some (note.Shut number)
note_with is_in (Asked number block voter) = Some (note.Asked number block voter)
note_with is_in (RepairBad number block voter) = Some (note.RepairBad number block voter)
note_with is_in (Replaced number au block bytes) = Some (note.Replaced number au block (reported_count (length bytes)))
note_with is_in (Closed number outcome tick) = Some (note.Closed number outcome)
note_with is_in (Overdue au tick) = session_note_of (Overdue au tick)
note_with is_in (Joined poll au tick low repairs) = session_note_of (Joined poll au tick low repairs)
note_with is_in (Committed poll nonce version kind) = session_note_of (Committed poll nonce version kind)
note_with is_in (Voted poll hashes) = session_note_of (Voted poll hashes)
note_with is_in (Served poll block) = session_note_of (Served poll block)
note_with is_in (Ended poll) = session_note_of (Ended poll)
note_with is_in (Tuned quorum minority repairs) = session_note_of (Tuned quorum minority repairs)

-- the note of a record, in a journal that has it
abbrev pub note_of : List Record → Record → Option Note
note_of journal r = note_with (is_inner journal) r

abbrev pub notes_at : Option Standing → List Record → List Note
notes_at None added = []
notes_at (Some s) added = filter_map (note_of (s.journal ++ added)) added

-- the notes of what a deed adds
abbrev pub notes_of : ℕ → List Standing → Option Deed → List Note
notes_of tick peers None = []
notes_of tick peers (Some d) = notes_at (peer_at d.peer peers) (effect_of tick peers (Some d)).records

abbrev pub sender_of : Option Envelope → ℕ
sender_of None = 0
sender_of (Some e) = e.from

abbrev pub receiver_of : Option Envelope → ℕ
receiver_of None = 0
receiver_of (Some e) = e.to

-- the envelope that a step delivers
abbrev pub carried_envelope : List Envelope → PeerStep → Option Envelope
carried_envelope bag s = carried_in (act_of s) where
  carried_in : Act → Option Envelope
  carried_in (Act.Own peer) = None
  carried_in (Act.Delivery envelope judged) = slice_get bag envelope

abbrev pub entry_for : Event → Option Envelope → List Note → ℕ → Entry
entry_for event envelope notes sends =
    record { event = event; from = sender_of envelope; to = receiver_of envelope; notes = notes; sends = sends }

unfoldable pub entry_of : World → Event → Entry
entry_of w (Step s) =
    entry_for (Step s) (carried_envelope w.bag s) (notes_of w.tick w.peers (deed_of w.bag s))
    (length (effect_of w.tick w.peers (deed_of w.bag s)).sends)
entry_of w (Cut s kept) =
    entry_for (Cut s kept) (carried_envelope w.bag s)
    (if kept then notes_of w.tick w.peers (deed_of w.bag s) else []) 0
entry_of w (Forge from to bytes) = entry_for (Forge from to bytes) None [] 1
entry_of w (Tick by) = entry_for (Tick by) None [] 0
entry_of w (Lose envelope) = entry_for (Lose envelope) None [] 0
entry_of w (Crash peer) = entry_for (Crash peer) None [] 0

abbrev pub entries_from : World → List Event → List Entry
entries_from w [] = []
entries_from w (e ∷ es) = entry_of w e ∷ entries_from (happens w e) es

-- an entry for each event of a history
unfoldable pub entries : Plan → List Event → List Entry
entries plan history = entries_from (start plan) history
