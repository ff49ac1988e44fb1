use Rattle.lks_evidence.proofs.Restored.{restores}
use Rattle.lks_evidence.proofs.laws.every_repair_restores.Goals as goal

pub returns : goal.returns
returns c = restores
