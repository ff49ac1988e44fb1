use Rattle.lks_evidence.proofs.Circles.{told_whole}
use Rattle.lks_evidence.proofs.laws.every_count_is_told.Goals as goal

pub returns : goal.returns
returns c = told_whole
