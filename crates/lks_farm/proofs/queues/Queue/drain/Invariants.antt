use Rattle.std.proofs.Common.{◌≡◌, ◌≤◌, ◌+◌, ◌++◌, map, length, vec_capacity}
use Rattle.lks_farm.specs.Sharing.{view_knowing}
use Rattle.lks_farm.proofs.queues.Queue.drain.Given as goal

-- what was taken out so far is what the pass got since, and as many are left as are to be taken out
abbrev pub invariant-loop : goal.invariant-loop
invariant-loop g l =
    record {
      of : l.hand.table ≡ l.self.table;
      got : l.hand.knows
          ≡ view_knowing 128 l.fn.hand.knows.pool l.fn.hand.knows.put
          (l.fn.hand.knows.got ++ map g.T.Entries.entry l.out.items);
      left : length l.fn.hand.knows.put + l.counter ≡ length l.hand.knows.got + l.count;
      many : length l.out.items ≡ l.counter;
      room : l.count ≤ vec_capacity l.out;
    }
