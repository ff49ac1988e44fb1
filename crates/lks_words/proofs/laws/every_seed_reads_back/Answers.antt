use Rattle.lks_words.proofs.Kept.{seed_again}
use Rattle.lks_words.proofs.laws.every_seed_reads_back.Goals as goal

pub returns : goal.returns
returns c = seed_again
