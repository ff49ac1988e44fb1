use Rattle.lks_disk.proofs.Passing.{burns_behind}
use Rattle.lks_disk.proofs.laws.a_fuse_burns_behind_its_calls.Goals as goal

pub returns : goal.returns
returns c = burns_behind
