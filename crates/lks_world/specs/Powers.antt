-- How often the power of peers fails in a history, and how often their disks say that it did.
use Rattle.std.specs.Prelude.{◌≡◌, ◌≤◌, ◌⊎◌, ◌==◌, ℕ, Bool, if◌then◌else◌, Option, None, List, [], ◌∷◌, ◌++◌, length}
use Rattle.std.specs.Prelude.{map}
use Rattle.lks_base.specs.declared.events.Event.{Event}
use Rattle.lks_base.specs.declared.events.Event.TheVariants.{Step, Cut, Tick, Lose, Forge, Crash}
use Rattle.lks_base.specs.declared.limits.TheConstants.{MOST_EVENTS}
use Rattle.lks_base.specs.declared.plans.Plan.{Plan}
use Rattle.lks_disk.specs.Counts.{raised}
use Rattle.lks_disk.specs.Face.{Face}
use Rattle.lks_law.specs.World.{World, start, happens}
use Rattle.lks_world.specs.Cuts.{taker_of}
use Rattle.lks_world.specs.declared.faults.WorldFault.{WorldFault}

-- Whose fuse burns in an event: where a step is cut off, the fuse of the peer that takes it.
abbrev pub burns_by : World → Event → List ℕ
burns_by w (Step s) = []
burns_by w (Cut s kept) = taker_of w.bag s ∷ []
burns_by w (Tick by) = []
burns_by w (Lose envelope) = []
burns_by w (Forge from to bytes) = []
burns_by w (Crash peer) = []

-- Whose power is cut in it: there too, and where a peer crashes.
abbrev pub cuts_by : World → Event → List ℕ
cuts_by w (Step s) = []
cuts_by w (Cut s kept) = taker_of w.bag s ∷ []
cuts_by w (Tick by) = []
cuts_by w (Lose envelope) = []
cuts_by w (Forge from to bytes) = []
cuts_by w (Crash peer) = peer ∷ []

abbrev pub burns_from : World → List Event → List ℕ
burns_from w [] = []
burns_from w (e ∷ es) = burns_by w e ++ burns_from (happens w e) es

abbrev pub cuts_from : World → List Event → List ℕ
cuts_from w [] = []
cuts_from w (e ∷ es) = cuts_by w e ++ cuts_from (happens w e) es

-- the peers whose fuses burned in a history, in order, one for each fuse
unfoldable pub burns_in : Plan → List Event → List ℕ
burns_in plan history = burns_from (start plan) history

-- the peers whose power was cut in it, one for each cut
unfoldable pub cuts_in : Plan → List Event → List ℕ
cuts_in plan history = cuts_from (start plan) history

-- in the events from these to those no power failed
pub record IsQuiet (plan : Plan) (before after : List Event) : Type 0 where
  pub burns : burns_in plan after ≡ burns_in plan before
  pub cuts : cuts_in plan after ≡ cuts_in plan before
  pub later : length before ≤ length after

-- what a disk tells of its power: whether a fuse is set, how often one burned, and how often the power was cut
pub record Power : Type 0 where
  pub fused : Bool
  pub burns : ℕ
  pub cuts : ℕ

abbrev pub power_of : {D : Type 0} → Face D → D → Power
power_of f disk = record { fused = f.fused disk; burns = f.burns disk; cuts = f.cuts disk }

-- the counts of the peers of these numbers, once the count of one peer rose
abbrev pub raised_at : ℕ → List ℕ → List ℕ → List ℕ
raised_at id [] counts = counts
raised_at id (i ∷ ids) [] = []
raised_at id (i ∷ ids) (n ∷ counts) = if i == id then raised n ∷ counts else n ∷ raised_at id ids counts

-- once the counts of these peers rose, one after another
abbrev pub raised_each : List ℕ → List ℕ → List ℕ → List ℕ
raised_each [] ids counts = counts
raised_each (id ∷ more) ids counts = raised_each more ids (raised_at id ids counts)

-- From these events to those, the disk of each of these peers counted each fuse that burned there and each cut of its
-- power. The power of at most one peer was cut besides, with or without a fuse that burned: where a fault stopped the
-- step, or where it filled the history before the power failed. In a full history none is.
pub record HavePower {D : Type 0} (f : Face D) (plan : Plan) (before after : List Event) (fault : Option WorldFault)
    (ids : List ℕ) (disks now : List D) : Type 0 where
  pub burned : List ℕ
  pub cut : List ℕ
  pub burned_besides : List ℕ
  pub cut_besides : List ℕ
  pub fuses : burns_in plan after ≡ burns_in plan before ++ burned
  pub powers : cuts_in plan after ≡ cuts_in plan before ++ cut
  pub burns : map f.burns now ≡ raised_each (burned ++ burned_besides) ids (map f.burns disks)
  pub cuts : map f.cuts now ≡ raised_each (cut ++ cut_besides) ids (map f.cuts disks)
  pub one : length cut_besides ≤ 1
  pub fewer : (burned_besides ≡ []) ⊎ (burned_besides ≡ cut_besides)
  pub whole : fault ≡ None → (burned_besides ≡ []) × ((cut_besides ≡ []) ⊎ (MOST_EVENTS ≤ length after))
  pub later : length before ≤ length after
  pub full : MOST_EVENTS ≤ length before → (burned ≡ []) × (cut ≡ []) × (cut_besides ≡ [])

-- The same where the power that was cut besides, if any was, is that of these.
pub record HavePowerOf {D : Type 0} (f : Face D) (plan : Plan) (who : List ℕ) (before after : List Event)
    (fault : Option WorldFault) (ids : List ℕ) (disks now : List D) : Type 0 where
  pub power : HavePower f plan before after fault ids disks now
  pub whose : (power.cut_besides ≡ []) ⊎ (power.cut_besides ≡ who)
