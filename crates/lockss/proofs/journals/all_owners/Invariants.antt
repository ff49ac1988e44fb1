use Rattle.std.proofs.Common.{◌≡◌, take}
use Rattle.std.specs.Prelude.{map}
use Rattle.lks_world.specs.Sites.{id_for}
use Rattle.lockss.proofs.journals.all_owners.Given as goal

abbrev pub invariant-loop-peer : goal.invariant-loop-peer
invariant-loop-peer l = l.owners.items ≡ map id_for (take l.peer-index l.peers)
