use Rattle.std.proofs.Common.{◌≡◌, ◌++◌, length}
use Rattle.std.specs.Prelude.{map}
use Rattle.std.specs.List.{range_with_len}
use Rattle.lks_law.specs.World.{sent_by}
use Rattle.lks_world.proofs.states.send.Given as goal

abbrev pub invariant-loop-outgoing : goal.invariant-loop-outgoing
invariant-loop-outgoing l =
    (goal.iterator-loop-outgoing).can_next l.outgoing-iterator
    × (goal.iterator-loop-outgoing).is_finite l.outgoing-iterator
    × record {
      bag : l.bag.items ++ map (sent_by l.from) l.outgoing-iterator.rest.items
          ≡ l.fn.bag.items ++ map (sent_by l.from) l.fn.sends;
      pending : l.pending.items ++ range_with_len (length l.bag.items) (length l.outgoing-iterator.rest.items)
          ≡ l.fn.pending.items ++ range_with_len (length l.fn.bag.items) (length l.fn.sends);
    }
