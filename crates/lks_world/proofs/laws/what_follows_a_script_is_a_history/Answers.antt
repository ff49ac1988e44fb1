use Rattle.lks_world.proofs.Following.{followed_history}
use Rattle.lks_world.proofs.laws.what_follows_a_script_is_a_history.Goals as goal

pub returns : goal.returns
returns c = followed_history
