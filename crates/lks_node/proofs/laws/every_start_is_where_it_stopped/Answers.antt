use Rattle.lks_node.proofs.Again.{starts_there}
use Rattle.lks_node.proofs.laws.every_start_is_where_it_stopped.Goals as goal

pub returns : goal.returns
returns c =
    λ own begun batches first file whole read holds begins. starts_there own begun batches first file whole read
    holds begins
