use Rattle.std.proofs.Common.{◌≡◌, ◌+◌, ◌*◌, ◌-◌, ◌≤◌, max, length, vec_capacity}
use Rattle.lks_tally.specs.Counting.{first_from}
use Rattle.lks_tally.specs.Rows.{rows_of}
use Rattle.lks_tally.proofs.rows.first_of_rows.Given as goal

abbrev pub invariant-loop-b : goal.invariant-loop-b
invariant-loop-b g l = let blocks = g.C.Contents.blocks l.copy in record {
  count : l.rows.count ≡ max l.initial.rows.count l.b;
  cache : l.rows.hashes.items ≡ rows_of l.ballot blocks l.votes l.rows.count;
  room : vec_capacity l.initial.rows.hashes ≤ vec_capacity l.rows.hashes;
  rest : first_from l.minority l.ballot l.votes blocks l.b (length blocks - l.b)
      ≡ first_from l.minority l.ballot l.votes blocks 0 (length blocks);
  cost : l.steps ≡ l.initial.steps + length l.votes * (l.rows.count - l.initial.rows.count);
}
