use Rattle.lks_law.proofs.Writing.{written_of, written_in}
use Rattle.lks_law.proofs.laws.every_journal_is_written.Goals as goal

pub returns-clause-made : goal.returns-clause-made
returns-clause-made c = written_of

pub returns-clause-kept : goal.returns-clause-kept
returns-clause-kept c = written_in
