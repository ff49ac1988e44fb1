use Rattle.lks_words.proofs.Kept.{blocks_again}
use Rattle.lks_words.proofs.laws.every_copy_reads_back.Goals as goal

pub returns : goal.returns
returns c = blocks_again
