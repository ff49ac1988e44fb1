use Rattle.lks_law.proofs.Between.{are_linked}
use Rattle.lks_law.proofs.laws.every_peer_agrees_with_the_others.Goals as goal

pub returns : goal.returns
returns c = are_linked
