use Rattle.lks_audit.specs.Seen.{forgetting}
use Rattle.lks_audit.proofs.Each.{front_more, front_all}
use Rattle.lks_audit.proofs.polls.forget_each.Goals as goal

pub loop-i-preserved : goal.loop-i-preserved
loop-i-preserved c =
    front_more (forgetting c.args.au c.args.block) c.args.polls.now c.loop-i.polls c.loop-i.i c.index-polls-i.result
    c.forget_in.new.poll c.loop-i.invariant c.loop-i-test.true c.forget_in.ensures

pub returns : goal.returns
returns c =
    front_all (forgetting c.args.au c.args.block) c.args.polls.now c.loop-i.polls c.loop-i.i c.loop-i.invariant
    c.loop-i-test.false
