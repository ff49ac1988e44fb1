use Rattle.std.proofs.Common.{◌≡◌, ◌+◌, ◌*◌, ◌≤◌, length, take}
use Rattle.lks_tally.specs.Heads.{heads}
use Rattle.lks_tally.proofs.plain.link_blocks.Given as goal

abbrev pub invariant-loop-b : goal.invariant-loop-b
invariant-loop-b g l = record {
  heads : l.keys ≡ heads l.ballot (take l.b (g.C.Contents.blocks l.copy)) l.votes;
  cost : l.steps ≤ l.initial.steps + length l.votes * l.b;
}
