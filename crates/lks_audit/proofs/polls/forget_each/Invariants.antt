use Rattle.std.proofs.Common.{◌≡◌}
use Rattle.lks_audit.specs.Seen.{forgetting}
use Rattle.lks_audit.proofs.Each.{front}
use Rattle.lks_audit.proofs.polls.forget_each.Given as goal

abbrev pub invariant-loop-i : goal.invariant-loop-i
invariant-loop-i l = l.polls ≡ front (forgetting l.au l.block) l.i l.fn.polls
