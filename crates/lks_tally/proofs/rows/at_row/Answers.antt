use Rattle.std.proofs.Common.{◌+◌, ap, sym, ◌∙◌, arith, length, take}
use Rattle.lks_tally.proofs.Steps.{at_heads_is, heads_length}
use Rattle.lks_tally.proofs.RowLaws.{row_is, row_within}
use Rattle.lks_tally.proofs.rows.at_row.Goals as goal

pub row-heads-requires : goal.row-heads-requires
row-heads-requires g c =
    row_within c.args.ballot.now (g.C.Contents.blocks c.args.copy.now) c.args.votes.now _ c.reach.new.rows.count
    c.args.b
    (c.deref.ensures.value ∙ c.reach.ensures.cache) (omega arith)

pub at_heads-requires : goal.at_heads-requires
at_heads-requires g c =
    let here = row_is c.args.ballot.now (g.C.Contents.blocks c.args.copy.now) c.args.votes.now _ _
    c.reach.new.rows.count c.args.b
    (c.deref.ensures.value ∙ c.reach.ensures.cache) (omega arith) c.row-heads.ensures in
    sym
    (ap length here
    ∙ heads_length c.args.ballot.now (take (c.args.b + 1) (g.C.Contents.blocks c.args.copy.now))
    c.args.votes.now)

pub returns-clause-at : goal.returns-clause-at
returns-clause-at g c =
    let here = row_is c.args.ballot.now (g.C.Contents.blocks c.args.copy.now) c.args.votes.now _ _
    c.reach.new.rows.count c.args.b
    (c.deref.ensures.value ∙ c.reach.ensures.cache) (omega arith) c.row-heads.ensures in
    at_heads_is c.args.minority c.args.ballot.now c.args.votes.now (g.C.Contents.blocks c.args.copy.now) c.args.b _
    _ here c.at_heads.ensures
