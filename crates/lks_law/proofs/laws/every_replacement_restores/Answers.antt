use Rattle.lks_law.proofs.Holding.{replaced_restores}
use Rattle.lks_law.proofs.laws.every_replacement_restores.Goals as goal

pub returns : goal.returns
returns c = replaced_restores
