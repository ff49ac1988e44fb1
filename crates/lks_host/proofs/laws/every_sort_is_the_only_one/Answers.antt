use Rattle.lks_host.proofs.Exact.{sorted_once}
use Rattle.lks_host.proofs.laws.every_sort_is_the_only_one.Goals as goal

pub returns : goal.returns
returns c = sorted_once
