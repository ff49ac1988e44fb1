use Rattle.lks_law.proofs.Journals.{polls_keep}
use Rattle.lks_law.proofs.laws.every_poll_keeps_its_state.Goals as goal

pub returns : goal.returns
returns c = polls_keep
