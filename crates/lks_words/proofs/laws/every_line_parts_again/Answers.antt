use Rattle.lks_words.proofs.Splits.{words_part}
use Rattle.lks_words.proofs.laws.every_line_parts_again.Goals as goal

pub returns : goal.returns
returns c = words_part
