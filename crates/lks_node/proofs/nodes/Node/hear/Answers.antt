use Rattle.std.proofs.Common.{subst, ℕ}
use Rattle.std.specs.Prelude.{Option}
use Rattle.lks_law.specs.World.{Deed}
use Rattle.lks_node.specs.Being.{Acted}
use Rattle.lks_node.specs.Going.{deed_by, reacts}
use Rattle.lks_node.specs.declared.orders.Order.TheVariants.{Hear}
use Rattle.lks_node.proofs.nodes.Node.hear.Goals as goal

pub returns-in-Ok-clause-acted : goal.returns-in-Ok-clause-acted
returns-in-Ok-clause-acted g c =
    let host = c.args.self.now.host in
    let judge = g.J.EffortJudge in
    subst
    (λ (id : ℕ). Acted g.D.Disk.face c.args.self.now c.take_heard.new.self
    (reacts host.peer.own host.peer.state c.args.self.now.tick
    (deed_by (judge.verdict c.args.judge.now) id (judge.heard c.args.judge.now)
    (Hear c.args.from c.args.bytes.now))) c.take_heard.result)
    c.id.ensures
    (subst
    (λ (d : Option Deed). Acted g.D.Disk.face c.args.self.now c.take_heard.new.self
    (reacts host.peer.own host.peer.state c.args.self.now.tick d) c.take_heard.result)
    c.in-Ok.ensures.input (c.take_heard.ensures.acted c.id.result))
