use Rattle.std.proofs.Common.{length, ap, sym, ◌∙◌, arith}
use Rattle.lks_hash.specs.Running.{linked}
use Rattle.lks_tally.specs.Rows.{head_before}
use Rattle.lks_tally.proofs.RowLaws.{pushing_length, pushing_fits, pushing}
use Rattle.lks_tally.proofs.rows.push_row.Goals as goal

pub head_before-head-requires-clause-row : goal.head_before-head-requires-clause-row
head_before-head-requires-clause-row g c =
    let far = pushing_length c.args.ballot.now (g.C.Contents.blocks c.args.copy.now) c.args.votes.now _ c.args.b
    c.loop-i.i c.loop-i.invariant.items c.loop-i.auto.i-end in
    omega (arith, far, ap length c.deref.ensures.value)

pub push_reserved-requires : goal.push_reserved-requires
push_reserved-requires g c =
    let far = pushing_length c.args.ballot.now (g.C.Contents.blocks c.args.copy.now) c.args.votes.now _ c.args.b
    c.loop-i.i c.loop-i.invariant.items c.loop-i.auto.i-end in
    pushing_fits (length c.args.votes.now) c.args.b c.loop-i.i _ _ _
    (sym c.deref.ensures.len ∙ ap length c.deref.ensures.value ∙ far) c.loop-i-test.true c.requires.room
    c.loop-i.invariant.room

pub loop-i-preserved : goal.loop-i-preserved
loop-i-preserved g c = record {
  items =
      pushing c.args.ballot.now (g.C.Contents.blocks c.args.copy.now) c.args.votes.now _ _ _ _ _ _ c.args.b
      c.loop-i.i _
      c.second-second.ensures c.block-block.ensures c.loop-i.invariant.items c.loop-i-test.true c.index-votes-i.is
      (c.head_before-head.ensures
      ∙ ap
      (λ hs. head_before c.args.ballot.now c.index-votes-i.result.voter (length c.args.votes.now) hs c.args.b
      c.loop-i.i) c.deref.ensures.value)
      (c.add.ensures.hash ∙ ap (λ p. linked p.second p.last c.block-block.result.now) c.start.ensures)
      c.push_reserved.ensures.items;
  room = omega arith;
  cost = omega arith;
}
