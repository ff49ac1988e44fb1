use Rattle.lks_print.proofs.Drilled.{drill_said}
use Rattle.lks_print.proofs.laws.every_drill_is_said.Goals as goal

pub returns : goal.returns
returns c = λ seed. drill_said seed
