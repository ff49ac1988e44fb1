use Rattle.lks_gather.proofs.Honest.{all_filed}
use Rattle.lks_gather.proofs.laws.every_honest_peer_may_be_filed.Goals as goal

pub returns : goal.returns
returns c = all_filed
