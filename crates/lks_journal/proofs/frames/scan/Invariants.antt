use Rattle.std.proofs.Common.{length}
use Rattle.lks_journal.specs.Fronts.{IsScanned}
use Rattle.lks_journal.proofs.frames.scan.Given as goal

abbrev pub invariant-frames : goal.invariant-frames
invariant-frames l = IsScanned l.file l.bodies.items l.rest

abbrev pub decreases-frames : goal.decreases-frames
decreases-frames l = length l.rest
