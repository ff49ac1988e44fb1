use Rattle.lks_words.proofs.Kept.{block_again}
use Rattle.lks_words.proofs.laws.every_block_reads_back.Goals as goal

pub returns : goal.returns
returns c = block_again
