-- Disks that are read back, and the journals on them.
use Rattle.std.specs.Prelude.{◌≡◌, ◌≤◌, ℕ, false, Option, Some, None, Result, IfOk, IsErrOf, List, [], ◌∷◌, ◌++◌}
use Rattle.std.specs.Prelude.{length, map, slice_get, slice_set}
use Rattle.std.specs.List.{flat_map}
use Rattle.lks_base.specs.declared.events.Event.{Event}
use Rattle.lks_base.specs.declared.plans.Plan.{Plan}
use Rattle.lks_disk.specs.Counts.{Rose}
use Rattle.lks_disk.specs.Face.{Face}
use Rattle.lks_field.specs.Frames.{HoldsBodies}
use Rattle.lks_gather.specs.Texts.{AreFiles, Filed, journal_text}
use Rattle.lks_law.specs.Alarms.{alarms}
use Rattle.lks_print.specs.Scripts.{plan_text}
use Rattle.lks_report.specs.Alarms.{has_any}
use Rattle.lks_world.specs.Sites.{id_for}
use Rattle.lks_world.specs.declared.faults.WorldFault.{WorldFault}
use Rattle.lks_world.specs.declared.faults.WorldFault.TheVariants.{Disk}
use Rattle.lockss.specs.Promise.{Writes}
use Rattle.lockss.specs.declared.ends.Played.{Played}
use Rattle.lockss.specs.declared.ends.Played.TheVariants.{Stopped, Told, Unmade, Untold}
use Rattle.lockss.specs.declared.journals.Preface.{Preface}

-- a disk with a journal, and no fuse
pub record IsJournal {D : Type 0} (f : Face D) (disk : D) : Type 0 where
  pub bodies : List (List ℕ)
  pub holds : HoldsBodies bodies (f.seen disk)
  pub unfused : f.fused disk ≡ false

-- A disk that was read: no byte changed, a crash leaves only what it could leave before, the fuse and the power are as
-- they were, and the count of faults didn't fall.
pub record IsReopened {D : Type 0} (f : Face D) (old new : D) : Type 0 where
  pub bytes : f.seen new ≡ f.seen old
  pub crash : (c : List ℕ) → f.may_leave new c → f.may_leave old c
  pub later : f.faults old ≤ f.faults new
  pub fused : f.fused new ≡ f.fused old
  pub calls : f.calls new ≡ f.calls old
  pub choice : f.choice new ≡ f.choice old
  pub burns : f.burns new ≡ f.burns old
  pub cuts : f.cuts new ≡ f.cuts old

-- Each disk has a peer that owns it, or none. Those that are owned have journals.
pub record CanRead {D : Type 0} (f : Face D) (owners : List (Option ℕ)) (disks : List D) : Type 0 where
  pub enough : length owners ≤ length disks
  pub journals : (place id : ℕ) (disk : D) → slice_get owners place ≡ Some (Some id)
      → slice_get disks place ≡ Some disk → IsJournal f disk

-- disks that are owned were read, and all others are as they were
abbrev pub AreReopened : {D : Type 0} → Face D → List (Option ℕ) → List D → List D → Type 0
AreReopened f [] disks after = after ≡ disks
AreReopened f (o ∷ owners) [] after = ⊥
AreReopened f (o ∷ owners) (d ∷ disks) [] = ⊥
AreReopened f (None ∷ owners) (d ∷ disks) (e ∷ after) = (e ≡ d) × AreReopened f owners disks after
AreReopened f (Some id ∷ owners) (d ∷ disks) (e ∷ after) = IsReopened f d e × AreReopened f owners disks after

-- the disk that this peer owns failed
pub record HasFailed {D : Type 0} (f : Face D) (owners : List (Option ℕ)) (disks after : List D) (id : ℕ) : Type 0 where
  pub place : ℕ
  pub disk : D
  pub now : D
  pub named : slice_get owners place ≡ Some (Some id)
  pub there : slice_get disks place ≡ Some disk
  pub stays : slice_get after place ≡ Some now
  pub rose : Rose (f.faults disk) (f.faults now)

-- what reading did to the disks
pub record ReadsBack {D : Type 0} (f : Face D) (owners : List (Option ℕ)) (disks after : List D)
    (fault : Option WorldFault) : Type 0 where
  pub are : AreReopened f owners disks after
  pub cause : (id : ℕ) → fault ≡ Some (Disk id) → HasFailed f owners disks after id

-- what reading one disk did to all, and which journal it gave
pub record IsReadAt {D : Type 0} (f : Face D) (peer place : ℕ) (disks after : List D)
    (result : Result Filed WorldFault) : Type 0 where
  pub disk : D
  pub now : D
  pub there : slice_get disks place ≡ Some disk
  pub back : after ≡ slice_set disks place now
  pub read : IsReopened f disk now
  pub filed : IfOk result (λ j. (j.peer ≡ peer) × HoldsBodies j.bodies (f.seen disk))
  pub cause : (id : ℕ) → IsErrOf result (Disk id) → (peer ≡ id) × Rose (f.faults disk) (f.faults now)

-- the journals on the disks that are owned, in order
abbrev pub AreOn : {D : Type 0} → Face D → List (Option ℕ) → List D → List Filed → Type 0
AreOn f [] disks [] = Unit {0}
AreOn f [] disks (j ∷ journals) = ⊥
AreOn f (o ∷ owners) [] journals = ⊥
AreOn f (None ∷ owners) (d ∷ disks) journals = AreOn f owners disks journals
AreOn f (Some id ∷ owners) (d ∷ disks) [] = ⊥
AreOn f (Some id ∷ owners) (d ∷ disks) (j ∷ journals) =
    (j.peer ≡ id) × HoldsBodies j.bodies (f.seen d) × AreOn f owners disks journals

-- what is told before the journals of a history, whose disks are whose, and whether there is an alarm
pub record IsPreface (plan : Plan) (history : List Event) (p : Preface) : Type 0 where
  pub text : p.text.items ≡ plan_text plan
  pub owners : p.owners.items ≡ map id_for plan.peers
  pub alarmed : p.alarmed ≡ has_any (alarms plan history)

-- What came of it: all journals were read back, and then all was written or less; or a fault came, and nothing was
-- written.
abbrev pub TellsJournals : {D K : Type 0} → Face D → (K → Option (List ℕ)) → (K → ℕ) → Preface → List D → List D → K
    → K → Played → Type 0
TellsJournals f taken failed p disks after sink sink_after (Told told) =
    ReadsBack f p.owners.items disks after None
    × ((journals : List Filed) × AreOn f p.owners.items disks journals × AreFiles journals
    × Writes taken failed (p.text.items ++ flat_map journal_text journals) p.alarmed sink sink_after told)
TellsJournals f taken failed p disks after sink sink_after (Untold fault) =
    ReadsBack f p.owners.items disks after (Some fault) × (sink_after ≡ sink)
TellsJournals f taken failed p disks after sink sink_after (Stopped fault) = ⊥
TellsJournals f taken failed p disks after sink sink_after (Unmade fault) = ⊥
