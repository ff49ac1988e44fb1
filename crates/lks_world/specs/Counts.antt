-- What a world's calls do to the counts of faults of its disks.
use Rattle.std.specs.Prelude.{◌≡◌, ◌≤◌, ◌<◌, ℕ, Option, Some, None, List, length, drop, map, filter, slice_get}
use Rattle.std.specs.Prelude.{Result, Ok, Err}
use Rattle.lks_base.specs.declared.events.Event.{Event}
use Rattle.lks_base.specs.declared.events.PeerStep.{PeerStep}
use Rattle.lks_base.specs.declared.limits.TheConstants.{MOST_EVENTS}
use Rattle.lks_base.specs.declared.plans.PeerPlan.{PeerPlan}
use Rattle.lks_base.specs.declared.plans.Plan.{Plan}
use Rattle.lks_disk.specs.Counts.{Rose, raised}
use Rattle.lks_disk.specs.Face.{Face}
use Rattle.lks_law.specs.World.{is_honest, world}
use Rattle.lks_world.specs.Cuts.{taker_of, FallsShort}
use Rattle.lks_world.specs.Disks.{honest_disks, corrupt_disks}
use Rattle.lks_world.specs.declared.faults.WorldFault.{WorldFault}
use Rattle.lks_world.specs.declared.faults.WorldFault.TheVariants.{Disk}

-- the fault of an answer
abbrev pub fault_in : {T : Type 0} → Result T WorldFault → Option WorldFault
fault_in (Ok _) = None
fault_in (Err fault) = Some fault

-- the disk of this peer failed: its count of faults rose
pub record HasRisen {D : Type 0} (faults : D → ℕ) (ids : List ℕ) (before after : List D) (id : ℕ) : Type 0 where
  pub place : ℕ
  pub disk : D
  pub now : D
  pub named : slice_get ids place ≡ Some id
  pub there : slice_get before place ≡ Some disk
  pub stays : slice_get after place ≡ Some now
  pub rose : Rose (faults disk) (faults now)

-- the disk of this peer was cut off: a fuse burned there that let so many calls pass, and had this choice
pub record HasBurned {D : Type 0} (f : Face D) (ids : List ℕ) (calls choice : ℕ) (before after : List D)
    (id : ℕ) : Type 0 where
  pub place : ℕ
  pub disk : D
  pub now : D
  pub named : slice_get ids place ≡ Some id
  pub there : slice_get before place ≡ Some disk
  pub stays : slice_get after place ≡ Some now
  pub rose : f.burns now ≡ raised (f.burns disk)
  pub allowed : f.calls now ≡ calls
  pub chosen : f.choice now ≡ choice

-- no fuse is set or ended, no count falls, and a disk is blamed only where its count rose
pub record AreCounted {D : Type 0} (f : Face D) (ids : List ℕ) (before after : List D)
    (fault : Option WorldFault) : Type 0 where
  pub count : length after ≡ length before
  pub fuses : map f.fused after ≡ map f.fused before
  pub later : (place : ℕ) (d e : D) → slice_get before place ≡ Some d → slice_get after place ≡ Some e
      → f.faults d ≤ f.faults e
  pub cause : (id : ℕ) → fault ≡ Some (Disk id) → HasRisen f.faults ids before after id

abbrev pub honest_ids : List PeerPlan → List ℕ
honest_ids peers = map (λ p. p.id) (filter is_honest peers)

-- the same of the disks that serve honest peers, and no call was made on any other
pub record ServesHonest {D : Type 0} (f : Face D) (peers : List PeerPlan) (before after : List D)
    (fault : Option WorldFault) : Type 0 where
  pub count : length after ≡ length before
  pub corrupt : corrupt_disks peers after ≡ corrupt_disks peers before
  pub rest : drop (length peers) after ≡ drop (length peers) before
  pub honest : AreCounted f (honest_ids peers) (honest_disks peers before) (honest_disks peers after) fault

-- where the power of the peer falls short in a step, and the step is an event, a fuse of so many calls and this choice
-- burned on its disk
abbrev pub BurnsInStep : {D : Type 0} → Face D → Plan → List Event → ℕ → ℕ → List D → List D → PeerStep → Type 0
BurnsInStep f plan history calls choice before after s =
    FallsShort plan history calls s → length history < MOST_EVENTS
    → HasBurned f (honest_ids plan.peers) calls choice (honest_disks plan.peers before)
    (honest_disks plan.peers after) (taker_of (world plan history).bag s)
