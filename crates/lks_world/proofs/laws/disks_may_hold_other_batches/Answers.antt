use Rattle.lks_world.proofs.HeldOnce.{same_bodies, held_bodies, never_others, never_more, never_fresh}
use Rattle.lks_world.proofs.laws.disks_may_hold_other_batches.Goals as goal

pub returns-clause-once : goal.returns-clause-once
returns-clause-once g c = same_bodies

pub returns-clause-disk : goal.returns-clause-disk
returns-clause-disk g c = held_bodies g.D.Disk.face

pub returns-clause-others : goal.returns-clause-others
returns-clause-others g c = never_others g.D.Disk.face

pub returns-clause-more : goal.returns-clause-more
returns-clause-more g c = never_more g.D.Disk.face

pub returns-clause-fresh : goal.returns-clause-fresh
returns-clause-fresh g c = never_fresh g.D.Disk.face
