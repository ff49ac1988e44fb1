use Rattle.lks_gather.proofs.Spelled.{read_is_spelled, spelled_is_read}
use Rattle.lks_gather.proofs.laws.every_journal_is_its_frames.Goals as goal

pub returns-clause-found : goal.returns-clause-found
returns-clause-found c = read_is_spelled

pub returns-clause-only : goal.returns-clause-only
returns-clause-only c = spelled_is_read
