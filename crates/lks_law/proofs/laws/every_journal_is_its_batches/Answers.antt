use Rattle.lks_law.proofs.Batches.{batches_are}
use Rattle.lks_law.proofs.laws.every_journal_is_its_batches.Goals as goal

pub returns : goal.returns
returns c = batches_are
