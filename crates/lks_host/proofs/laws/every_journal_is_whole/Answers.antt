use Rattle.lks_host.proofs.Exact.{journal_whole}
use Rattle.lks_host.proofs.laws.every_journal_is_whole.Goals as goal

pub returns : goal.returns
returns c = journal_whole
