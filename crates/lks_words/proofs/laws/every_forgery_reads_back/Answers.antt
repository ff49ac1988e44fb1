use Rattle.lks_words.proofs.Kept.{bytes_again}
use Rattle.lks_words.proofs.laws.every_forgery_reads_back.Goals as goal

pub returns : goal.returns
returns c = bytes_again
