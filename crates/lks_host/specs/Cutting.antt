-- A step while the power fails.
use Rattle.std.specs.Prelude.{◌≡◌, ◌≤◌, ◌<◌, ◌⊎◌, ℕ, false, List, [], Result, OnOk, OnErr, IsErrOf}
use Rattle.lks_base.specs.declared.reactions.Reaction.{Reaction}
use Rattle.lks_base.specs.declared.records.Record.{Record}
use Rattle.lks_disk.specs.Counts.{Rose, raised}
use Rattle.lks_disk.specs.Face.{Face}
use Rattle.lks_host.specs.Bodies.{bodies_of}
use Rattle.lks_host.specs.Faults.{IsFresh, is_refused}
use Rattle.lks_host.specs.Hosted.{StandsFor}
use Rattle.lks_journal.specs.Adding.{HoldsEither}
use Rattle.lks_host.specs.declared.faults.HostFault.{HostFault}
use Rattle.lks_host.specs.declared.faults.HostFault.TheVariants.{Failed, Cut}
use Rattle.lks_host.specs.declared.hosts.Host.{Host}
use Rattle.lks_host.specs.declared.outcomes.AfterCut.{AfterCut}
use Rattle.lks_host.specs.declared.outcomes.AfterCut.TheVariants.{Whole, Kept, Lost}
use Rattle.lks_law.specs.Batches.{with_batch}

-- the step adds records, and its append has fewer calls of the disk than its four
pub record IsCutShort (r : Reaction) (calls : ℕ) : Type 0 where
  pub adds : r.records ≡ [] → ⊥
  pub few : calls < 4

-- What the host stands for afterwards: all of it or nothing of it, and nothing where fewer than two calls were made. A
-- fuse burned exactly where it was cut off.
abbrev pub CutsOff : {D : Type 0} → Face D → List (List Record) → Reaction → ℕ → Host D → Host D → AfterCut → Type 0
CutsOff f batches r calls old new (Whole x) =
    (x ≡ r) × StandsFor f new (with_batch batches r.records) × ((r.records ≡ []) ⊎ (4 ≤ calls))
    × (f.burns new.journal.disk ≡ f.burns old.journal.disk)
CutsOff f batches r calls old new (Kept records) =
    (records ≡ r.records) × IsCutShort r calls × (2 ≤ calls) × StandsFor f new (with_batch batches r.records)
    × (f.burns new.journal.disk ≡ raised (f.burns old.journal.disk))
CutsOff f batches r calls old new Lost =
    IsCutShort r calls × StandsFor f new batches × (f.burns new.journal.disk ≡ raised (f.burns old.journal.disk))

-- After a refusal a crash leaves the batches from before, or those that a step was to make of them.
pub record Falls {D : Type 0} (f : Face D) (before after : List (List Record)) (disk : D) : Type 0 where
  pub leaves : (c : List ℕ) → f.may_leave disk c → HoldsEither (bodies_of before) (bodies_of after) c

-- The fuse that the power cut ended was one of so many calls and this choice. At a refusal it burned, or it didn't.
pub record HadFuse {D T : Type 0} (f : Face D) (calls choice : ℕ) (old new : Host D)
    (result : Result T HostFault) : Type 0 where
  pub allowed : f.calls new.journal.disk ≡ calls
  pub chosen : f.choice new.journal.disk ≡ choice
  pub burns : OnErr result
      ((f.burns new.journal.disk ≡ f.burns old.journal.disk) ⊎
      (f.burns new.journal.disk ≡ raised (f.burns old.journal.disk)))

-- The power was cut, once. It is the same peer, no fuse is set, and the host is broken where it was refused, and takes
-- steps again at `Ok`. The count of faults rose where the answer says so, and not at `Ok`, and the answer is never a
-- cut.
pub record IsBack {D T : Type 0} (f : Face D) (old new : Host D) (result : Result T HostFault) : Type 0 where
  pub broken : new.broken ≡ is_refused result
  pub own : new.peer.own ≡ old.peer.own
  pub pool : new.peer.pool ≡ old.peer.pool
  pub cuts : f.cuts new.journal.disk ≡ raised (f.cuts old.journal.disk)
  pub unfused : f.fused new.journal.disk ≡ false
  pub later : f.faults old.journal.disk ≤ f.faults new.journal.disk
  pub failed : IsErrOf result Failed → Rose (f.faults old.journal.disk) (f.faults new.journal.disk)
  pub ok : OnOk result (f.faults new.journal.disk ≡ f.faults old.journal.disk)
  pub no_cut : IsErrOf result Cut → ⊥
  pub fresh : IsFresh result
