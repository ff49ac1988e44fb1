use Rattle.std.proofs.Common.{◌≡◌, ◌++◌, drop}
use Rattle.lks_node.specs.Replies.{sends_bytes}
use Rattle.lks_node.proofs.replies.put_sends.Given as goal

abbrev pub invariant-loop-o : goal.invariant-loop-o
invariant-loop-o l = l.out.items ++ sends_bytes (drop l.o-index l.sends) ≡ l.fn.out.items ++ sends_bytes l.sends
