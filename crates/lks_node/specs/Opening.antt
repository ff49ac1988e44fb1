-- A store that becomes a journal of the peer's own.
use Rattle.std.specs.Prelude.{◌≡◌, ◌≤◌, ◌<◌, ◌↔◌, ◌⊎◌, ℕ, List, [], length, sum_by, map, Result, Ok, Err}
use Rattle.lks_base.specs.declared.plans.PeerPlan.{PeerPlan}
use Rattle.lks_base.specs.declared.plans.Plan.{Plan}
use Rattle.lks_base.specs.declared.records.Record.{Record}
use Rattle.lks_disk.specs.Counts.{Rose}
use Rattle.lks_disk.specs.Device.{Only}
use Rattle.lks_disk.specs.Face.{Face}
use Rattle.lks_disk.specs.declared.disks.DiskFail.{DiskFail}
use Rattle.lks_disk.specs.declared.disks.DiskFail.TheVariants as device
use Rattle.lks_field.specs.Frames.{HoldsBodies, IsDamagedAt}
use Rattle.lks_host.specs.Adopting.{with_missing, LeavesFront}
use Rattle.lks_host.specs.Bodies.{bodies_of, AreRead}
use Rattle.lks_host.specs.Hosted.{HasFront}
use Rattle.lks_journal.specs.Stays.{Stays}
use Rattle.lks_journal.specs.declared.faults.JournalFault.{JournalFault}
use Rattle.lks_journal.specs.declared.faults.JournalFault.TheVariants as journal
use Rattle.lks_law.specs.Batches.{alone, together}
use Rattle.lks_law.specs.Behind.{latest_tick}
use Rattle.lks_law.specs.Polls.{Station}
use Rattle.lks_law.specs.World.{deposits, station_of}
use Rattle.lks_node.specs.Again.{AreWhole}
use Rattle.lks_node.specs.Being.{IsAt}
use Rattle.lks_node.specs.Going.{Progress, journal_of}
use Rattle.lks_node.specs.declared.ends.Unready.{Unready}
use Rattle.lks_node.specs.declared.ends.Unready.TheVariants.{Failed, Memory, Damaged, Full, Foreign}
use Rattle.lks_node.specs.declared.nodes.Node.{Node}
use Rattle.lks_node.specs.declared.opening.TheConstants.{MOST_BYTES}
use Rattle.lks_host.specs.Owners.{missing_of}
use Rattle.lks_host.specs.Sorted.{SortsAs}
use Rattle.lks_host.specs.declared.sorting.JournalSort.TheVariants as sorting

-- what is said of a refusal of a disk, or of a journal that is read; no fuse is set there
abbrev pub of_disk : DiskFail → Unready
of_disk device.Failed = Failed
of_disk device.Cut = Failed
of_disk device.Memory = Memory

abbrev pub of_journal : JournalFault → Unready
of_journal journal.Full = Failed
of_journal (journal.Damaged offset) = Damaged offset
of_journal journal.Failed = Failed
of_journal journal.Cut = Failed
of_journal journal.Memory = Memory

-- the store of a call that takes one
abbrev pub store_of : {D F : Type 0} → Result (Node D) (D × F) → D
store_of (Ok node) = node.host.journal.disk
store_of (Err e) = e.0

-- it tells what it told, no fuse was set, and the count of faults didn't fall
pub record IsCalm {D : Type 0} (f : Face D) (old new : D) : Type 0 where
  pub told : f.told old ↔ f.told new
  pub unfused : f.fused new ≡ f.fused old
  pub later : f.faults old ≤ f.faults new

-- The batches with which a node begins, over a file of these bytes: the peer's deposits where there are none, else the
-- batches that they hold, and behind these the deposits that they lack.
abbrev pub BeginsWith : List Record → List ℕ → List (List Record) → Type 0
BeginsWith begun file first =
    ((file ≡ []) × (first ≡ map alone begun)) ⊎
    ((held : List (List Record)) × HoldsBodies (bodies_of held) file × AreRead held
    × (first ≡ with_missing begun (together held) held))

-- So a node begins over this store, with its clock at the greatest tick of its journal, which is a whole one of its
-- own.
pub record IsBegun {D : Type 0} (f : Face D) (plan : Plan) (p : PeerPlan) (store : D) (node : Node D) : Type 0 where
  pub first : Progress
  pub unasked : first.heard ≡ []
  pub own : node.host.peer.own ≡ station_of plan p
  pub at : IsAt f plan.aus p.copies first node []
  pub tick : first.tick ≡ latest_tick (journal_of first)
  pub whole : AreWhole (station_of plan p) (deposits plan.aus p.copies) first.batches
  pub held : f.told store → BeginsWith (deposits plan.aus p.copies) (f.seen store) first.batches

-- the bodies of this list were sorted as a whole journal of the peer, or as a front of its deposits
abbrev pub IsSorted : Station → List Record → List (List ℕ) → List Record → Type 0
IsSorted own begun bodies list =
    SortsAs own begun bodies (sorting.Whole list) ⊎ SortsAs own begun bodies (sorting.Begun list)

-- Deposits were being written. Where the store held batches, which are the peer's own, a crash leaves these, and behind
-- them a front of the deposits that they lack. Where it was empty, and nothing was pending on it, a crash leaves a
-- front of the deposits, or at most one byte. What a crash during the calls left isn't said, since `Host::create` and
-- `Host::adopt` don't say it.
abbrev pub BeginsInPart : {D : Type 0} → Face D → Station → List Record → D → D → Type 0
BeginsInPart f own begun store now =
    ((f.seen store ≡ []) × (Only [] (f.may_leave store) → HasFront f (map alone begun) now))
    ⊎
    ((held : List (List Record)) × HoldsBodies (bodies_of held) (f.seen store) × AreRead held
    × IsSorted own begun (bodies_of held) (together held)
    × LeavesFront f held (map alone (missing_of begun (together held))) now)

-- What a refused opening leaves of a store: no byte changed, and a crash at any moment leaves only what it could leave
-- before; or, where a call failed or memory was refused, deposits were being written. A whole journal that isn't taken
-- over is there after every crash.
abbrev pub HandsBack : {D : Type 0} → Face D → Station → List Record → D → D → Unready → Type 0
HandsBack f own begun store now Failed = Stays f store now ⊎ BeginsInPart f own begun store now
HandsBack f own begun store now Memory = Stays f store now ⊎ BeginsInPart f own begun store now
HandsBack f own begun store now (Damaged offset) = Stays f store now
HandsBack f own begun store now Full = Stays f store now × Only (f.seen store) (f.may_leave now)
HandsBack f own begun store now (Foreign batch) = Stays f store now × Only (f.seen store) (f.may_leave now)

-- the count of faults rose, or memory was wanting
abbrev pub IsPlain : ℕ → ℕ → Unready → Type 0
IsPlain before now Failed = Rose before now
IsPlain before now Memory = Unit {0}
IsPlain before now (Damaged offset) = ⊥
IsPlain before now Full = ⊥
IsPlain before now (Foreign batch) = ⊥

-- or the bodies of a journal are another peer's; a disk on which no deposits were being written is as it was
abbrev pub IsUnsorted : {D : Type 0} → Face D → Station → List Record → List (List ℕ) → D → D → Unready → Type 0
IsUnsorted f own begun bodies disk now Failed =
    Rose (f.faults disk) (f.faults now) × (f.told disk → BeginsInPart f own begun disk now)
IsUnsorted f own begun bodies disk now Memory = f.told disk → (now ≡ disk) ⊎ BeginsInPart f own begun disk now
IsUnsorted f own begun bodies disk now (Damaged offset) = ⊥
IsUnsorted f own begun bodies disk now Full = ⊥
IsUnsorted f own begun bodies disk now (Foreign batch) = SortsAs own begun bodies (sorting.Foreign batch) × (now ≡ disk)

-- why a store, with these bytes where it tells them, wasn't made a journal of the peer's own
abbrev pub IsRefused : {D : Type 0} → Face D → Station → List Record → D → D → Unready → Type 0
IsRefused f own begun store now Failed = Rose (f.faults store) (f.faults now)
IsRefused f own begun store now Memory = Unit {0}
IsRefused f own begun store now (Damaged offset) =
    f.told store → IsDamagedAt (f.seen store) offset × (f.seen store ≡ [] → ⊥)
IsRefused f own begun store now Full =
    f.told store
    → (bodies : List (List ℕ)) × HoldsBodies bodies (f.seen store) × (MOST_BYTES < sum_by length bodies)
IsRefused f own begun store now (Foreign batch) =
    f.told store
    → (bodies : List (List ℕ)) × HoldsBodies bodies (f.seen store)
    × SortsAs own begun bodies (sorting.Foreign batch)

-- so it is, and this is left of it where it tells its bytes
pub record IsUnready {D : Type 0} (f : Face D) (own : Station) (begun : List Record) (store now : D)
    (why : Unready) : Type 0 where
  pub cause : IsRefused f own begun store now why
  pub left : f.told store → HandsBack f own begun store now why

-- or it can't be read
abbrev pub IsUnread : {D : Type 0} → Face D → D → D → Unready → Type 0
IsUnread f store now Failed = Rose (f.faults store) (f.faults now)
IsUnread f store now Memory = Unit {0}
IsUnread f store now (Damaged offset) = f.told store → IsDamagedAt (f.seen store) offset × (f.seen store ≡ [] → ⊥)
IsUnread f store now Full = ⊥
IsUnread f store now (Foreign batch) = ⊥
