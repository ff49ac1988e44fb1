use Rattle.lks_print.proofs.FromReading.{said_script}
use Rattle.lks_print.proofs.laws.every_script_read_is_said.Goals as goal

pub returns : goal.returns
returns c = λ bytes script e. said_script bytes script e
