use Rattle.lks_evidence.proofs.Parts.{part_holds}
use Rattle.lks_evidence.proofs.laws.every_part_holds.Goals as goal

pub returns : goal.returns
returns c = part_holds
