use Rattle.std.proofs.Common.{rules}
use Rattle.lks_node.proofs.Moving.{goes, falls}
use Rattle.lks_node.proofs.nodes.Node.go.Goals as goal

pub returns-clause-goes : goal.returns-clause-goes
returns-clause-goes g c = λ aus copies p at.
    goes g.D.Disk.face (g.J.EffortJudge.verdict c.args.judge.now) aus copies p c.args.self.now
    (g.J.EffortJudge.heard c.args.judge.now) c.args.order.now at
    c.react.new.self (g.J.EffortJudge.heard c.react.new.judge) c.react.result (search rules) c.react.ensures.acted
    c.react.ensures.tick c.react.ensures.done c.react.ensures.asks

pub returns-clause-falls : goal.returns-clause-falls
returns-clause-falls g c = λ aus copies p at.
    falls g.D.Disk.face (g.J.EffortJudge.verdict c.args.judge.now) aus copies p c.args.self.now
    (g.J.EffortJudge.heard c.args.judge.now) c.args.order.now at
    c.react.new.self c.react.result c.react.ensures.acted
