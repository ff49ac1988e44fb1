use Rattle.lks_print.proofs.Kept.{step_kept, step_parts}
use Rattle.lks_print.proofs.laws.every_step_reads_back.Goals as goal

pub returns-clause-again : goal.returns-clause-again
returns-clause-again c = λ key more step e. (step_kept key more step e).again

pub returns-clause-splits : goal.returns-clause-splits
returns-clause-splits c = λ key more step e. step_parts step (step_kept key more step e)
