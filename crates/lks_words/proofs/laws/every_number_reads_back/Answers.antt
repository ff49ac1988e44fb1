use Rattle.std.proofs.Common.{refl}
use Rattle.std.specs.Fmt.{decimal}
use Rattle.lks_words.proofs.Decimals.{number_again, number_is}
use Rattle.lks_words.proofs.laws.every_number_reads_back.Goals as goal

pub returns-clause-again : goal.returns-clause-again
returns-clause-again c = λ most n lt le. number_again most n (decimal n) lt le refl

pub returns-clause-alone : goal.returns-clause-alone
returns-clause-alone c = λ most n word lt e. number_is most n word lt e
