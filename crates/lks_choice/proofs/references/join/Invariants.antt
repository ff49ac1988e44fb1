use Rattle.std.proofs.Common.{◌≡◌, drop}
use Rattle.lks_choice.specs.Lists.{all_joined}
use Rattle.lks_choice.proofs.references.join.Given as goal

abbrev pub invariant-loop-peer : goal.invariant-loop-peer
invariant-loop-peer l =
    all_joined l.own l.list.items (drop l.peer-index l.peers) ≡ all_joined l.own l.initial.list.items l.peers
