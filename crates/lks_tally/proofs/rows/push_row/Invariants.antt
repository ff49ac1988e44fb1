use Rattle.std.proofs.Common.{◌≡◌, ◌+◌, ◌≤◌, ◌++◌, take, vec_capacity}
use Rattle.lks_tally.specs.Heads.{heads}
use Rattle.lks_tally.specs.Rows.{rows_of}
use Rattle.lks_tally.proofs.rows.push_row.Given as goal

abbrev pub invariant-loop-i : goal.invariant-loop-i
invariant-loop-i g l = let blocks = g.C.Contents.blocks l.copy in record {
  items : l.hashes.items
      ≡ rows_of l.ballot blocks l.votes l.b ++ heads l.ballot (take (l.b + 1) blocks) (take l.i l.votes);
  room : vec_capacity l.initial.hashes ≤ vec_capacity l.hashes;
  cost : l.steps ≡ l.initial.steps + l.i;
}
