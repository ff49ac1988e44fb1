-- What the disks of a world hold.
use Rattle.std.specs.Prelude.{◌≡◌, ◌<◌, ◌≤◌, ◌+◌, ◌*◌, ◌++◌, ◌∷◌, ℕ, false, [], List, Option, Some, None, IfSome}
use Rattle.std.specs.Prelude.{length, drop, slice_get}
use Rattle.std.specs.List.{list_any}
use Rattle.lks_disk.specs.Face.{Face}
use Rattle.lks_base.specs.declared.events.Event.{Event}
use Rattle.lks_base.specs.declared.events.Event.TheVariants.{Step}
use Rattle.lks_base.specs.declared.events.PeerStep.{PeerStep}
use Rattle.lks_base.specs.declared.plans.Plan.{Plan}
use Rattle.lks_disk.specs.Device.{Only}
use Rattle.lks_host.specs.Cutting.{Falls}
use Rattle.lks_host.specs.Bodies.{bodies_of, AreRead}
use Rattle.lks_host.specs.Hosted.{HasFront}
use Rattle.lks_field.specs.Frames.{frames, HoldsBodies}
use Rattle.lks_law.specs.Histories.{MayStep}
use Rattle.lks_law.specs.World.{world}
use Rattle.lks_law.specs.Batches.{batches_at}
use Rattle.lks_world.specs.Disks.{honest_disks}

-- The disk of the honest peer at each place holds the batches of its journal, which read back, and every crash leaves
-- it so. It has at most 33,558,580 bytes of deposits, and 32,768 more for each event: it is never full, since a journal
-- may have 2^31 - 1.
pub record HoldsBatches {D : Type 0} (f : Face D) (plan : Plan) (history : List Event) (place : ℕ) (disk : D) : Type
    0 where
  pub holds : HoldsBodies (bodies_of (batches_at place plan history)) (f.seen disk)
  pub durable : Only (f.seen disk) (f.may_leave disk)
  pub read : AreRead (batches_at place plan history)
  pub room : length (frames (bodies_of (batches_at place plan history))) ≤ 33558580 + 32768 * length history

abbrev pub HaveBatches : {D : Type 0} → Face D → Plan → List Event → List D → Type 0
HaveBatches {D} f plan history disks =
    (place : ℕ) (disk : D) → slice_get (honest_disks plan.peers disks) place ≡ Some disk
    → HoldsBatches f plan history place disk

-- a history with the step that was begun, if one was
abbrev pub with_next : List Event → Option PeerStep → List Event
with_next history None = history
with_next history (Some s) = history ++ Step s ∷ []

-- and this step may be taken in the world of that history
abbrev pub MayBegin : Plan → List Event → Option PeerStep → Type 0
MayBegin plan history next = IfSome next (MayStep plan (world plan history))

-- A crash leaves of it the batches of its journal, or those with the batch of a step that was begun. All but the disk
-- of the peer that takes this step are left as they were.
abbrev pub HaveBatchesOrNext : {D : Type 0} → Face D → Plan → List Event → Option PeerStep → List D → Type 0
HaveBatchesOrNext {D} f plan history next disks =
    (place : ℕ) (disk : D) → slice_get (honest_disks plan.peers disks) place ≡ Some disk
    → Falls f (batches_at place plan history) (batches_at place plan (with_next history next)) disk

-- The disks of a world that was to begin: those of the peers before one place hold what their journals begin with, of
-- that peer's own a crash leaves a front of it or at most one byte, and the later ones are as they were.
pub record HaveBegunUpTo {D : Type 0} (f : Face D) (plan : Plan) (before after : List D) : Type 0 where
  pub place : ℕ
  pub earlier : (i : ℕ) (disk : D) → i < place → slice_get (honest_disks plan.peers after) i ≡ Some disk
      → HoldsBatches f plan [] i disk
  pub own : (disk : D) → slice_get (honest_disks plan.peers after) place ≡ Some disk
      → HasFront f (batches_at place plan []) disk
  pub later : drop (place + 1) (honest_disks plan.peers after) ≡ drop (place + 1) (honest_disks plan.peers before)

-- an empty disk with nothing pending and no fuse
pub record IsFresh {D : Type 0} (f : Face D) (disk : D) : Type 0 where
  pub empty : f.seen disk ≡ []
  pub settled : Only [] (f.may_leave disk)
  pub unfused : f.fused disk ≡ false

abbrev pub AreFresh : {D : Type 0} → Face D → List D → Type 0
AreFresh {D} f disks = (place : ℕ) (disk : D) → slice_get disks place ≡ Some disk → IsFresh f disk

-- no disk has a fuse
abbrev pub AreUnfused : {D : Type 0} → Face D → List D → Type 0
AreUnfused f disks = list_any f.fused disks ≡ false
