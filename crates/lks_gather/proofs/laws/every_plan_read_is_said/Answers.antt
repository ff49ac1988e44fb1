use Rattle.lks_gather.proofs.Kept.{plan_said}
use Rattle.lks_gather.proofs.laws.every_plan_read_is_said.Goals as goal

pub returns : goal.returns
returns c = plan_said
