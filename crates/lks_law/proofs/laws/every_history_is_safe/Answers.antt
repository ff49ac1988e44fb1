use Rattle.lks_law.proofs.Holding.{is_safe}
use Rattle.lks_law.proofs.laws.every_history_is_safe.Goals as goal

pub returns : goal.returns
returns c = is_safe
