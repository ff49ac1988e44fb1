use Rattle.lks_words.proofs.Kept.{proof_again}
use Rattle.lks_words.proofs.laws.every_proof_reads_back.Goals as goal

pub returns : goal.returns
returns c = proof_again
