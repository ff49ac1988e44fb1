-- A host over a journal that was read and sorted.
use Rattle.std.specs.Prelude.{◌≡◌, ℕ, List, [], ◌++◌, length, map, take, All, Result, IfOk, OnErr}
use Rattle.lks_base.specs.declared.records.Record.{Record}
use Rattle.lks_disk.specs.Face.{Face}
use Rattle.lks_field.specs.Frames.{frames, HoldsBodies}
use Rattle.lks_host.specs.Bodies.{bodies_of}
use Rattle.lks_host.specs.Hosted.{StandsFor, disk_hosted}
use Rattle.lks_host.specs.declared.faults.HostFault.{HostFault}
use Rattle.lks_host.specs.declared.hosts.Host.{Host}
use Rattle.lks_journal.specs.Settled.{IsSettled}
use Rattle.lks_journal.specs.declared.journals.Journal.{Journal}
use Rattle.lks_law.specs.Batches.{alone, together}
use Rattle.lks_host.specs.Fits.{IsSpelled}
use Rattle.lks_host.specs.Owners.{missing_of}

-- the journal was read as these bodies, and is at rest with them where its disk tells
pub record IsReadAs {D : Type 0} (f : Face D) (journal : Journal D) (bodies : List (List ℕ)) : Type 0 where
  pub end : journal.end ≡ length (frames bodies)
  pub settled : f.told journal.disk → IsSettled f journal bodies

-- it is at rest with these batches, each in its one spelling, which together have these records
pub record IsFiled {D : Type 0} (f : Face D) (journal : Journal D) (list : List Record)
    (batches : List (List Record)) : Type 0 where
  pub spelled : All IsSpelled batches
  pub all : list ≡ together batches
  pub settled : IsSettled f journal (bodies_of batches)

-- these batches, and one for each of the deposits that their records lack
abbrev pub with_missing : List Record → List Record → List (List Record) → List (List Record)
with_missing begun list batches = batches ++ map alone (missing_of begun list)

-- a crash leaves the batches from before, and behind them a front of those that were to be appended
pub record LeavesFront {D : Type 0} (f : Face D) (before more : List (List Record)) (disk : D) : Type 0 where
  pub leaves : (c : List ℕ) → f.may_leave disk c → (n : ℕ) × HoldsBodies (bodies_of (before ++ take n more)) c

-- The host stands for the batches and the deposits that they lack. Refused, a crash leaves the batches from before and
-- a front of these deposits. Where none is lacking, no call of the disk is made.
pub record Adopts {D : Type 0} (f : Face D) (begun list : List Record) (journal : Journal D)
    (result : Result (Host D) (D × HostFault)) : Type 0 where
  pub stands : f.told journal.disk → (batches : List (List Record)) → IsFiled f journal list batches
      → IfOk result (λ host. StandsFor f host (with_missing begun list batches))
  pub front : f.told journal.disk → (batches : List (List Record)) → IsFiled f journal list batches
      → OnErr result (LeavesFront f batches (map alone (missing_of begun list)) (disk_hosted result))
  pub idle : missing_of begun list ≡ [] → IfOk result (λ host. host.journal ≡ journal)
