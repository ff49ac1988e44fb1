use Rattle.std.proofs.Common.{sym, subst, List}
use Rattle.lks_base.specs.declared.plans.AuPlan.{AuPlan}
use Rattle.lks_base.specs.declared.plans.Holding.{Holding}
use Rattle.lks_outside.specs.declared.questions.Question.{Question}
use Rattle.lks_host.proofs.Adopting.{found_at}
use Rattle.lks_law.specs.Polls.{Station}
use Rattle.lks_law.specs.World.{honest_peer}
use Rattle.lks_node.specs.Being.{IsAt}
use Rattle.lks_node.specs.Ending.{Ends}
use Rattle.lks_node.specs.Going.{Progress}
use Rattle.lks_node.proofs.runs.serve.Goals as goal

pub answer_all-stop-requires-clause-at : goal.answer_all-stop-requires-clause-at
answer_all-stop-requires-clause-at g c = λ ks lives.
    let f = g.D.Disk.face in
    let at = found_at (honest_peer c.args.id c.args.plan.now) c.requires.honest in
    let begun = c.in-Ok-open_journal.ensures.begun at.0 at.1 in
    let found : (aus : List AuPlan) × (copies : List Holding) × (p : Progress)
    × IsAt f aus copies p c.in-Ok-open_journal.node (g.J.EffortJudge.heard c.args.judge.now) = (
      c.args.plan.now.aus,
      at.0.copies,
      begun.first,
      subst
          (λ (q : List Question). IsAt f c.args.plan.now.aus at.0.copies begun.first c.in-Ok-open_journal.node q)
          (sym c.requires.unasked) begun.at,
    ) in
    found

pub returns-in-Ok-open_journal-clause-comes : goal.returns-in-Ok-open_journal-clause-comes
returns-in-Ok-open_journal-clause-comes g c = λ p there.
    let f = g.D.Disk.face in
    let node = c.in-Ok-open_journal.node in
    let begun = c.in-Ok-open_journal.ensures.begun p there in
    let at = subst (λ (q : List Question). IsAt f c.args.plan.now.aus p.copies begun.first node q)
    (sym c.requires.unasked) begun.at in
    record {
      node = node;
      begun = begun;
      last = c.answer_all-stop.new.node;
      ends =
          subst
          (λ (own : Station). Ends f (g.J.EffortJudge.verdict c.args.judge.now) c.args.plan.now own
          c.args.plan.now.aus p.copies begun.first (g.S.Source.left c.args.source.now)
          (g.K.Sink.taken c.args.sink.now)
          (g.K.Sink.taken c.answer_all-stop.new.sink) c.answer_all-stop.new.node
          (g.J.EffortJudge.heard c.answer_all-stop.new.judge) c.answer_all-stop.result) begun.own
          (c.answer_all-stop.ensures.ends c.args.plan.now.aus p.copies begun.first at);
      back = c.into_disk.ensures;
    }
