-- Which disk is whose: the i-th disk serves the i-th peer of a plan, and those behind the last peer's serve nobody.
use Rattle.std.specs.Prelude.{if◌then◌else◌, List, [], ◌∷◌}
use Rattle.lks_base.specs.declared.plans.PeerPlan.{PeerPlan}

-- the disks of the honest peers, in order
abbrev pub honest_disks : {D : Type 0} → List PeerPlan → List D → List D
honest_disks [] disks = []
honest_disks (p ∷ ps) [] = []
honest_disks (p ∷ ps) (d ∷ ds) = if p.corrupt then honest_disks ps ds else d ∷ honest_disks ps ds

-- those of the corrupt ones
abbrev pub corrupt_disks : {D : Type 0} → List PeerPlan → List D → List D
corrupt_disks [] disks = []
corrupt_disks (p ∷ ps) [] = []
corrupt_disks (p ∷ ps) (d ∷ ds) = if p.corrupt then d ∷ corrupt_disks ps ds else corrupt_disks ps ds
