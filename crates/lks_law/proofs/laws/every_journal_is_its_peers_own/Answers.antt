use Rattle.lks_law.proofs.Journals.{journals_are_own}
use Rattle.lks_law.proofs.laws.every_journal_is_its_peers_own.Goals as goal

pub returns : goal.returns
returns c = journals_are_own
