use Rattle.lks_words.proofs.Kept.{decimal_above, hex_above, text_above, blocks_above, answer_above, kind_above}
use Rattle.lks_words.proofs.Kept.{hash_above}
use Rattle.lks_words.proofs.laws.every_printed_value_is_a_word.Goals as goal

pub returns-clause-numbers : goal.returns-clause-numbers
returns-clause-numbers c = decimal_above

pub returns-clause-seeds : goal.returns-clause-seeds
returns-clause-seeds c = hex_above

pub returns-clause-bytes : goal.returns-clause-bytes
returns-clause-bytes c = text_above

pub returns-clause-blocks : goal.returns-clause-blocks
returns-clause-blocks c = blocks_above

pub returns-clause-answers : goal.returns-clause-answers
returns-clause-answers c = answer_above

pub returns-clause-kinds : goal.returns-clause-kinds
returns-clause-kinds c = kind_above

pub returns-clause-hashes : goal.returns-clause-hashes
returns-clause-hashes c = hash_above
