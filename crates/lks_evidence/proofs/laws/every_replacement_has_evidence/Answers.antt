use Rattle.lks_evidence.proofs.Evidenced.{has_evidence}
use Rattle.lks_evidence.proofs.laws.every_replacement_has_evidence.Goals as goal

pub returns : goal.returns
returns c = has_evidence
