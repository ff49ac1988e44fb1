use Rattle.lks_evidence.proofs.Histories.{history_holds}
use Rattle.lks_evidence.proofs.laws.every_history_holds.Goals as goal

pub returns : goal.returns
returns c = λ plan history set good is are. history_holds plan history good is set are
