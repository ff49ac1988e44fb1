use Rattle.std.proofs.Common.{sym, ◌∙◌, arith}
use Rattle.lks_tally.proofs.Steps.{turn}
use Rattle.lks_tally.proofs.RowLaws.{cost_sum}
use Rattle.lks_tally.proofs.rows.first_of_rows.Goals as goal

pub returns-in-Loss-clause-verdict : goal.returns-in-Loss-clause-verdict
returns-in-Loss-clause-verdict g c =
    sym
    (turn c.args.minority c.args.ballot.now c.args.votes.now (g.C.Contents.blocks c.args.copy.now) c.loop-b.b _
    (omega arith) c.in-Loss.ensures.at)
    ∙ c.loop-b.invariant.rest

pub returns-in-Loss-clause-cost : goal.returns-in-Loss-clause-cost
returns-in-Loss-clause-cost g c =
    cost_sum _ _ _ _ _ _ _ (omega arith) (omega arith) c.loop-b.invariant.cost c.in-Loss.ensures.cost

pub returns-in-Split-clause-verdict : goal.returns-in-Split-clause-verdict
returns-in-Split-clause-verdict g c =
    sym
    (turn c.args.minority c.args.ballot.now c.args.votes.now (g.C.Contents.blocks c.args.copy.now) c.loop-b.b _
    (omega arith) c.in-Split.ensures.at)
    ∙ c.loop-b.invariant.rest

pub returns-in-Split-clause-cost : goal.returns-in-Split-clause-cost
returns-in-Split-clause-cost g c =
    cost_sum _ _ _ _ _ _ _ (omega arith) (omega arith) c.loop-b.invariant.cost c.in-Split.ensures.cost

pub loop-b-preserved : goal.loop-b-preserved
loop-b-preserved g c = record {
  count = omega (arith, c.in-Win.ensures.count);
  cache = c.in-Win.ensures.cache;
  room = omega (arith, c.in-Win.ensures.room);
  rest =
      sym
      (turn c.args.minority c.args.ballot.now c.args.votes.now (g.C.Contents.blocks c.args.copy.now) c.loop-b.b _
      (omega arith) c.in-Win.ensures.at)
      ∙ c.loop-b.invariant.rest;
  cost = cost_sum _ _ _ _ _ _ _ (omega arith) (omega arith) c.loop-b.invariant.cost c.in-Win.ensures.cost;
}
