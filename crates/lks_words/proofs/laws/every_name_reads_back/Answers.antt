use Rattle.lks_words.proofs.Kept.{answer_again, kind_again, hash_again}
use Rattle.lks_words.proofs.laws.every_name_reads_back.Goals as goal

pub returns-clause-answers : goal.returns-clause-answers
returns-clause-answers c = answer_again

pub returns-clause-kinds : goal.returns-clause-kinds
returns-clause-kinds c = kind_again

pub returns-clause-hashes : goal.returns-clause-hashes
returns-clause-hashes c = hash_again
