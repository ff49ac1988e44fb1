use Rattle.lks_words.proofs.Kept.{ids_again, ids_part}
use Rattle.lks_words.proofs.laws.every_list_reads_back.Goals as goal

pub returns-clause-again : goal.returns-clause-again
returns-clause-again c = ids_again

pub returns-clause-splits : goal.returns-clause-splits
returns-clause-splits c = ids_part
