-- What a host says of a refusal of its journal.
use Rattle.std.specs.Prelude.{◌≡◌, Bool, true, false, Result, Ok, Err, IfErr}
use Rattle.lks_host.specs.declared.faults.HostFault.{HostFault}
use Rattle.lks_host.specs.declared.faults.HostFault.TheVariants.{Failed, Cut, Memory, Stale}
use Rattle.lks_journal.specs.declared.faults.JournalFault.{JournalFault}
use Rattle.lks_journal.specs.declared.faults.JournalFault.TheVariants as journal

-- The refusal of the journal of which a host tells. That of a result that is stale makes no call of the journal, as
-- want of memory may make none.
abbrev pub told_by : HostFault → JournalFault
told_by Failed = journal.Failed
told_by Cut = journal.Cut
told_by Memory = journal.Memory
told_by (Stale expected found) = journal.Memory

-- the answer that the journal gave, without its value
abbrev pub as_journal : {T : Type 0} → Result T HostFault → Result (Unit {0}) JournalFault
as_journal (Ok _) = Ok tt
as_journal (Err fault) = Err (told_by fault)

-- the host is broken after it
abbrev pub breaks : HostFault → Bool
breaks Failed = true
breaks Cut = true
breaks Memory = true
breaks (Stale expected found) = false

-- the answer is a refusal after which the host is broken
abbrev pub is_refused : {T : Type 0} → Result T HostFault → Bool
is_refused (Ok _) = false
is_refused (Err fault) = breaks fault

-- no result was stale
abbrev pub IsFresh : {T : Type 0} → Result T HostFault → Type 0
IsFresh result = IfErr result (λ fault. breaks fault ≡ true)
