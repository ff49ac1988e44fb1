use Rattle.std.proofs.Common.{◌≡◌, ◌≤◌, List, false}
use Rattle.lks_base.specs.declared.plans.AuPlan.{AuPlan}
use Rattle.lks_base.specs.declared.plans.Holding.{Holding}
use Rattle.lks_node.specs.Being.{IsAt, Stays}
use Rattle.lks_node.specs.Going.{Progress}
use Rattle.lks_node.proofs.Onward.{Went}
use Rattle.lks_node.proofs.answering.answer_all.Given as goal

abbrev pub invariant-loop-place : goal.invariant-loop-place
invariant-loop-place g l = record {
  went : (aus : List AuPlan) (copies : List Holding) (p : Progress)
      → IsAt g.D.Disk.face aus copies p l.fn.node (g.J.EffortJudge.heard l.fn.judge)
      → Went g.D.Disk.face (g.J.EffortJudge.verdict l.fn.judge) l.plan l.fn.node.host.peer.own aus copies p
      (g.S.Source.left l.fn.source) (g.K.Sink.taken l.fn.sink) l.place (g.S.Source.left l.source)
      (g.K.Sink.taken l.sink) l.node (g.J.EffortJudge.heard l.judge);
  stays : Stays g.D.Disk.face l.fn.node l.node;
  whole : l.node.host.broken ≡ false;
  faults : g.D.Disk.face.faults l.node.host.journal.disk ≡ g.D.Disk.face.faults l.fn.node.host.journal.disk;
  source_count : g.S.Source.faults l.fn.source ≤ g.S.Source.faults l.source;
  sink_count : g.K.Sink.faults l.fn.sink ≤ g.K.Sink.faults l.sink;
  same : g.J.EffortJudge.verdict l.judge ≡ g.J.EffortJudge.verdict l.fn.judge;
}
