use Rattle.std.proofs.Common.{◌≡◌, ◌≤◌, ◌∙◌, List, length, refl, ap, sym, arith}
use Rattle.lks_base.specs.declared.limits.TheConstants.{MOST_EVENTS}
use Rattle.lks_base.specs.declared.plans.AuPlan.{AuPlan}
use Rattle.lks_base.specs.declared.plans.Holding.{Holding}
use Rattle.lks_node.specs.Being.{IsAt}
use Rattle.lks_node.specs.Going.{Progress, after_all}
use Rattle.lks_node.proofs.Onward.{few_asked, went_none, went_on, ended, turns_as, halts_as, halts_last, stays_here}
use Rattle.lks_node.proofs.Onward.{stays_then}
use Rattle.lks_node.proofs.answering.answer_all.Goals as goal

pub loop-place-init : goal.loop-place-init
loop-place-init g c = record {
  went =
      λ aus copies p at. went_none g.D.Disk.face (g.J.EffortJudge.verdict c.args.judge.now) c.args.plan.now
      c.args.node.now.host.peer.own aus copies p _ _ c.args.node.now (g.J.EffortJudge.heard c.args.judge.now) at;
  stays = stays_here g.D.Disk.face c.args.node.now;
  whole = c.requires.fit.whole;
  faults = refl;
  source_count = omega arith;
  sink_count = omega arith;
  same = refl;
}

pub turn-requires-clause-at : goal.turn-requires-clause-at
turn-requires-clause-at g c = λ ks lives.
    let r = c.requires.at in
    let w = c.loop-place.invariant.went r.0 r.1 r.2 r.3 in
    let found : (aus : List AuPlan) × (copies : List Holding) × (p : Progress)
    × IsAt g.D.Disk.face aus copies p c.loop-place.node (g.J.EffortJudge.heard c.loop-place.judge) =
    (r.0, r.1, after_all (g.J.EffortJudge.verdict c.args.judge.now) c.args.node.now.host.peer.own r.2 w.orders, w.at) in
    found

pub turn-requires-clause-room : goal.turn-requires-clause-room
turn-requires-clause-room g c =
    let r = c.requires.at in
    let w = c.loop-place.invariant.went r.0 r.1 r.2 r.3 in
    let few = few_asked (g.J.EffortJudge.verdict c.args.judge.now) c.args.node.now.host.peer.own r.2 w.orders in
    let now : length (g.J.EffortJudge.heard c.loop-place.judge)
    ≡ length
    (after_all (g.J.EffortJudge.verdict c.args.judge.now) c.args.node.now.host.peer.own r.2
    w.orders).heard = ap length w.at.heard in
    let none : length r.2.heard ≡ 0 = ap length (sym r.3.heard ∙ c.requires.unasked) in
    let count = w.count in
    omega (arith, few, now, none, count)

pub returns-in-Err-clause-ends : goal.returns-in-Err-clause-ends
returns-in-Err-clause-ends g c = λ aus copies p at.
    let f = g.D.Disk.face in
    let verdict = g.J.EffortJudge.verdict c.args.judge.now in
    let own = c.args.node.now.host.peer.own in
    let inv = c.loop-place.invariant in
    let w = inv.went aus copies p at in
    let low : c.loop-place.place ≤ MOST_EVENTS = omega (arith, c.loop-place-test.true) in
    ended f verdict c.args.plan.now own aus copies p (g.S.Source.left c.args.source.now)
    (g.K.Sink.taken c.args.sink.now) c.loop-place.place _ _ _ c.loop-place.node c.turn.new.node _ _
    c.in-Err.stop w c.in-Err.ensures.stays.told.1 low
    (halts_as f verdict c.args.plan.now own aus copies p (g.S.Source.left c.args.source.now)
    (g.K.Sink.taken c.args.sink.now) (g.J.EffortJudge.verdict c.loop-place.judge)
    c.loop-place.node.host.peer.own c.loop-place.place _ _ _ _ c.turn.new.node _ c.in-Err.stop inv.same
    inv.stays.own
    (c.in-Err.ensures.halts aus copies (after_all verdict own p w.orders) w.at))

pub loop-place-preserved : goal.loop-place-preserved
loop-place-preserved g c =
    let f = g.D.Disk.face in
    let verdict = g.J.EffortJudge.verdict c.args.judge.now in
    let own = c.args.node.now.host.peer.own in
    let inv = c.loop-place.invariant in
    record {
      went = λ aus copies p at.
          let w = inv.went aus copies p at in
          went_on f verdict c.args.plan.now own aus copies p (g.S.Source.left c.args.source.now)
          (g.K.Sink.taken c.args.sink.now) c.loop-place.place _ _ _ _ c.loop-place.node c.turn.new.node _ _ w
          c.in-Ok.ensures.stays.told.1
          (turns_as f verdict c.args.plan.now own aus copies p (g.S.Source.left c.args.source.now)
          (g.K.Sink.taken c.args.sink.now) (g.J.EffortJudge.verdict c.loop-place.judge)
          c.loop-place.node.host.peer.own _ _ _ _ _ c.turn.new.node _ inv.same inv.stays.own
          (c.in-Ok.ensures.turns aus copies (after_all verdict own p w.orders) w.at));
      stays = stays_then f c.args.node.now c.loop-place.node c.turn.new.node inv.stays c.in-Ok.ensures.stays;
      whole = c.in-Ok.ensures.whole;
      faults = c.in-Ok.ensures.faults ∙ inv.faults;
      source_count = omega (arith, inv.source_count, c.in-Ok.ensures.source_count);
      sink_count = omega (arith, inv.sink_count, c.in-Ok.ensures.sink_count);
      same = c.in-Ok.ensures.same ∙ inv.same;
    }

pub returns-clause-ends : goal.returns-clause-ends
returns-clause-ends g c = λ aus copies p at.
    let f = g.D.Disk.face in
    let verdict = g.J.EffortJudge.verdict c.args.judge.now in
    let own = c.args.node.now.host.peer.own in
    let w = c.loop-place.invariant.went aus copies p at in
    let most : c.loop-place.place ≡ MOST_EVENTS = omega (arith, c.loop-place-test.false, c.loop-place.auto.place-end) in
    ended f verdict c.args.plan.now own aus copies p (g.S.Source.left c.args.source.now)
    (g.K.Sink.taken c.args.sink.now) c.loop-place.place _ _ _ c.loop-place.node c.loop-place.node _ _ _ w
    (λ told. told) (omega (arith, most))
    (halts_last f verdict c.args.plan.now own aus copies p (g.S.Source.left c.args.source.now)
    (g.K.Sink.taken c.args.sink.now) c.loop-place.place _ _ _ c.loop-place.node _ c.last.result most
    c.last.ensures.found c.last.ensures.rested w.at)
