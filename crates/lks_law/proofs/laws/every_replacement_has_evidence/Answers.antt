use Rattle.lks_law.proofs.Journals.{evidence_in}
use Rattle.lks_law.proofs.laws.every_replacement_has_evidence.Goals as goal

pub returns : goal.returns
returns c = evidence_in
