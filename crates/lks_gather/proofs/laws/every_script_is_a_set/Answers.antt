use Rattle.lks_gather.proofs.Apart.{script_is_set}
use Rattle.lks_gather.proofs.laws.every_script_is_a_set.Goals as goal

pub returns : goal.returns
returns c = script_is_set
