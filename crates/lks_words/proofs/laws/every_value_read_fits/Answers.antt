use Rattle.lks_words.proofs.Decimals.{number_most}
use Rattle.lks_words.proofs.Kept.{seed_fits, proof_fits, bytes_fit, block_fits, blocks_fit, ids_fit}
use Rattle.lks_words.proofs.laws.every_value_read_fits.Goals as goal

pub returns-clause-numbers : goal.returns-clause-numbers
returns-clause-numbers c = number_most

pub returns-clause-seeds : goal.returns-clause-seeds
returns-clause-seeds c = seed_fits

pub returns-clause-proofs : goal.returns-clause-proofs
returns-clause-proofs c = proof_fits

pub returns-clause-forgeries : goal.returns-clause-forgeries
returns-clause-forgeries c = bytes_fit

pub returns-clause-blocks : goal.returns-clause-blocks
returns-clause-blocks c = block_fits

pub returns-clause-copies : goal.returns-clause-copies
returns-clause-copies c = blocks_fit

pub returns-clause-lists : goal.returns-clause-lists
returns-clause-lists c = ids_fit
