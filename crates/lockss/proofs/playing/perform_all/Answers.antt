use Rattle.std.proofs.Common.{refl, inl, inr, ◌≡◌, ◌+◌, List, ◌∷◌, drop, arith, ◌∙◌, sym, subst}
use Rattle.std.specs.Prelude.{Option, Some, None}
use Rattle.std.proofs.lemmas.Grind.{common_steps}
use Rattle.std.proofs.lemmas.Result.{err_from_is_err_and}
use Rattle.lks_base.specs.declared.events.Event.{Event}
use Rattle.lks_base.specs.declared.plans.Plan.{Plan}
use Rattle.lks_disk.specs.Face.{Face}
use Rattle.lks_world.proofs.PowerLaws.{power_quiet, power_then, quiet_same}
use Rattle.lks_world.proofs.ServingLaws.{serves_none, serves_then}
use Rattle.lks_world.proofs.Stopped.{err_then, stops_then}
use Rattle.lks_world.specs.Held.{HaveBatchesOrNext}
use Rattle.lks_world.specs.Watched.{Stops}
use Rattle.lks_law.specs.Questions.{Verdicts}
use Rattle.lks_watch.proofs.Going.{watches_same, watches_then}
use Rattle.lks_watch.specs.Watching.{Watches, ears, watching}
use Rattle.lks_world.specs.Counts.{honest_ids, ServesHonest}
use Rattle.lks_world.specs.Disks.{honest_disks}
use Rattle.lks_world.specs.Follows.{Follows, FollowsUpTo, IsUpTo, Performs}
use Rattle.lks_world.specs.Powers.{HavePower}
use Rattle.lks_world.specs.Spending.{AreSpent, AreSpentUpTo, Spends}
use Rattle.lks_world.specs.Worlds.{Seen}
use Rattle.lks_world.specs.declared.faults.WorldFault.{WorldFault}
use Rattle.lks_script.specs.declared.steps.Step.{Step}
use Rattle.lockss.proofs.Begun.{remembers_then}
use Rattle.lockss.proofs.playing.perform_all.Given.{Over}
use Rattle.lockss.proofs.playing.perform_all.Goals.{In_ok-perform}
use Rattle.lockss.proofs.playing.perform_all.Goals as goal

pub returns-in_err-perform-clause-serves : goal.returns-in_err-perform-clause-serves
returns-in_err-perform-clause-serves g c =
    let e = err_from_is_err_and c.from_residual.result c.from_residual.ensures.1 in
    rw (e.1, e.2)
    (serves_then g.D.Disk.face c.args.world.now.plan.peers c.args.world.now.disks c.loop-step.world.disks
    c.perform.new.self.disks (Some c.in_err-perform.field-0.0) c.loop-step.invariant.serves
    (subst
    (λ (p : Plan). ServesHonest g.D.Disk.face p.peers c.loop-step.world.disks c.perform.new.self.disks
    (Some c.in_err-perform.field-0.0)) c.loop-step.invariant.plan c.in_err-perform.ensures.disks))

pub returns-in_err-perform-clause-remembers : goal.returns-in_err-perform-clause-remembers
returns-in_err-perform-clause-remembers g c =
    remembers_then c.args.world.now c.loop-step.world c.perform.new.self c.loop-step.invariant.remembers
    c.in_err-perform.ensures.remembers

pub loop-step-init : goal.loop-step-init
loop-step-init g c =
    let f = g.D.Disk.face in
    let w = c.args.world.now in
    let disks = honest_disks w.plan.peers w.disks in
    record {
      plan = refl;
      remembers = record { plan = refl; pool = refl; start = refl };
      turns = refl;
      running = c.requires.running;
      legal = c.requires.legal;
      follows = λ after rest. rest;
      up_to = λ after next rest. rest;
      watches =
          watches_same w.plan w.history
          (watching (ears g.J.EffortJudge.heard g.J.EffortJudge.verdict g.B.Bell.rung g.B.Bell.limit) w.judge
          w.bells);
      serves = serves_none f w.plan.peers w.disks None (λ id is. absurd cc);
      power =
          power_quiet f w.plan (honest_ids w.plan.peers) w.history w.history disks disks None
          (quiet_same w.plan w.history) refl refl;
      spent = λ after disks rest. rest;
      spent_up_to = λ fault after disks rest. rest;
    }

-- the step that comes next was done, and cost what it says

next_is : (g : Over) (c : In_ok-perform g)
    → drop c.loop-step.step-index c.args.steps.now
    ≡ c.step-item.result ∷ drop (c.loop-step.step-index + 1) c.args.steps.now
next_is g c = grind (arith, common_steps)

performed : (g : Over) (c : In_ok-perform g)
    → Performs (g.J.EffortJudge.verdict c.args.world.now.judge) c.args.world.now.plan c.loop-step.world.history
    c.step-item.result c.perform.new.self.history
performed g c =
    subst
    (λ (v : Verdicts). Performs v c.args.world.now.plan c.loop-step.world.history c.step-item.result
    c.perform.new.self.history) c.loop-step.invariant.watches.verdict
    (subst
    (λ (p : Plan). Performs (g.J.EffortJudge.verdict c.loop-step.world.judge) p c.loop-step.world.history
    c.step-item.result c.perform.new.self.history) c.loop-step.invariant.plan
    c.in_ok-perform.ensures.performs.performs)

spends_as : {D : Type 0} (f : Face D) (v w : Verdicts) (p q : Plan) (s : Step) (before after : List Event)
    (fault : Option WorldFault) (disks now : List D)
    → v ≡ w → p ≡ q → Spends f v p s before after fault disks now → Spends f w q s before after fault disks now
spends_as f v w p q s before after fault disks now same also spends =
    subst (λ x. Spends f x q s before after fault disks now) same
    (subst (λ y. Spends f v y s before after fault disks now) also spends)

spent_next : (g : Over) (c : In_ok-perform g)
    → Spends g.D.Disk.face (g.J.EffortJudge.verdict c.args.world.now.judge) c.args.world.now.plan c.step-item.result
    c.loop-step.world.history c.perform.new.self.history None c.loop-step.world.disks c.perform.new.self.disks
spent_next g c =
    spends_as g.D.Disk.face (g.J.EffortJudge.verdict c.loop-step.world.judge)
    (g.J.EffortJudge.verdict c.args.world.now.judge) c.loop-step.world.plan c.args.world.now.plan
    c.step-item.result c.loop-step.world.history c.perform.new.self.history None
    c.loop-step.world.disks c.perform.new.self.disks c.loop-step.invariant.watches.verdict
    c.loop-step.invariant.plan c.in_ok-perform.ensures.power

pub loop-step-preserved : goal.loop-step-preserved
loop-step-preserved g c = record {
  plan = c.in_ok-perform.ensures.remembers.plan ∙ c.loop-step.invariant.plan;
  remembers =
      remembers_then c.args.world.now c.loop-step.world c.perform.new.self c.loop-step.invariant.remembers
      c.in_ok-perform.ensures.remembers;
  turns = c.in_ok-perform.ensures.turns.0 ∙ c.loop-step.invariant.turns;
  running = c.in_ok-perform.ensures.stopped;
  legal = grind (arith, common_steps);
  follows = λ after rest.
      let at = (goal.at.loop-step-preserved g c).In_ok-perform in
      c.loop-step.invariant.follows after
      (subst
      (λ ss. Follows (g.J.EffortJudge.verdict c.args.world.now.judge) c.args.world.now.plan
      c.loop-step.world.history ss after) (sym (next_is g at))
      (c.perform.new.self.history, performed g at, rest));
  up_to = λ after next rest.
      let at = (goal.at.loop-step-preserved g c).In_ok-perform in
      c.loop-step.invariant.up_to after next
      (subst
      (λ ss. FollowsUpTo (g.J.EffortJudge.verdict c.args.world.now.judge) c.args.world.now.plan
      c.loop-step.world.history ss after next) (sym (next_is g at))
      (inr (c.perform.new.self.history, performed g at, rest)));
  spent = λ after disks rest.
      let at = (goal.at.loop-step-preserved g c).In_ok-perform in
      c.loop-step.invariant.spent after disks
      (subst
      (λ ss. AreSpent g.D.Disk.face (g.J.EffortJudge.verdict c.args.world.now.judge) c.args.world.now.plan
      c.loop-step.world.history c.loop-step.world.disks ss after disks) (sym (next_is g at))
      (c.perform.new.self.history, c.perform.new.self.disks, performed g at, spent_next g at, rest));
  spent_up_to = λ fault after disks rest.
      let at = (goal.at.loop-step-preserved g c).In_ok-perform in
      c.loop-step.invariant.spent_up_to fault after disks
      (subst
      (λ ss. AreSpentUpTo g.D.Disk.face (g.J.EffortJudge.verdict c.args.world.now.judge) c.args.world.now.plan
      c.loop-step.world.history c.loop-step.world.disks ss fault after disks) (sym (next_is g at))
      (inr (c.perform.new.self.history, c.perform.new.self.disks, performed g at, spent_next g at, rest)));
  watches =
      let e = ears g.J.EffortJudge.heard g.J.EffortJudge.verdict g.B.Bell.rung g.B.Bell.limit in
      let plan = c.args.world.now.plan in
      let seen_of = λ (w : Seen g.row.D.Denot g.row.J.Denot g.row.B.Denot). watching e w.judge w.bells in
      watches_then plan c.args.world.now.history c.loop-step.world.history c.perform.new.self.history
      (seen_of c.args.world.now) (seen_of c.loop-step.world) (seen_of c.perform.new.self)
      c.loop-step.invariant.watches
      (subst
      (λ (p : Plan). Watches p c.loop-step.world.history c.perform.new.self.history (seen_of c.loop-step.world)
      (seen_of c.perform.new.self)) c.loop-step.invariant.plan c.in_ok-perform.ensures.performs.watches);
  serves =
      serves_then g.D.Disk.face c.args.world.now.plan.peers c.args.world.now.disks c.loop-step.world.disks
      c.perform.new.self.disks None c.loop-step.invariant.serves
      (subst
      (λ (p : Plan). ServesHonest g.D.Disk.face p.peers c.loop-step.world.disks c.perform.new.self.disks None)
      c.loop-step.invariant.plan c.in_ok-perform.ensures.disks);
  power =
      let f = g.D.Disk.face in
      let plan = c.args.world.now.plan in
      let mid = c.loop-step.world in
      let now = c.perform.new.self in
      power_then f plan (honest_ids plan.peers) c.args.world.now.history mid.history now.history
      (honest_disks plan.peers c.args.world.now.disks) (honest_disks plan.peers mid.disks)
      (honest_disks plan.peers now.disks) None c.loop-step.invariant.power
      (subst
      (λ (p : Plan). HavePower f p mid.history now.history None (honest_ids p.peers)
      (honest_disks p.peers mid.disks) (honest_disks p.peers now.disks)) c.loop-step.invariant.plan
      c.in_ok-perform.ensures.power.counted.power);
}

pub returns-in_err-perform-clause-power : goal.returns-in_err-perform-clause-power
returns-in_err-perform-clause-power g c =
    let f = g.D.Disk.face in
    let plan = c.args.world.now.plan in
    let mid = c.loop-step.world in
    let now = c.perform.new.self in
    let fault = Some c.in_err-perform.field-0.0 in
    let e = err_from_is_err_and c.from_residual.result c.from_residual.ensures.1 in
    rw (e.1, e.2)
    (power_then f plan (honest_ids plan.peers) c.args.world.now.history mid.history now.history
    (honest_disks plan.peers c.args.world.now.disks) (honest_disks plan.peers mid.disks)
    (honest_disks plan.peers now.disks) fault c.loop-step.invariant.power
    (subst
    (λ (p : Plan). HavePower f p mid.history now.history fault (honest_ids p.peers)
    (honest_disks p.peers mid.disks) (honest_disks p.peers now.disks)) c.loop-step.invariant.plan
    c.in_err-perform.ensures.power.counted.power))

pub returns-in_err-perform-clause-off : goal.returns-in_err-perform-clause-off
returns-in_err-perform-clause-off g c =
    let e = ears g.J.EffortJudge.heard g.J.EffortJudge.verdict g.B.Bell.rung g.B.Bell.limit in
    let plan = c.args.world.now.plan in
    let seen_of = λ (w : Seen g.row.D.Denot g.row.J.Denot g.row.B.Denot). watching e w.judge w.bells in
    let verdict = g.J.EffortJudge.verdict c.args.world.now.judge in
    let was = c.loop-step.world in
    let after = c.perform.new.self.history in
    let had = c.in_err-perform.ensures.stops in
    let next = had.next in
    let first : drop c.loop-step.step-index c.args.steps.now
    ≡ c.step-item.result ∷ drop (c.loop-step.step-index + 1) c.args.steps.now = grind (arith, common_steps) in
    let up_to =
    subst (λ (v : Verdicts). IsUpTo (Performs v plan was.history c.step-item.result) after next)
    c.loop-step.invariant.watches.verdict
    (subst
    (λ (p : Plan). IsUpTo (Performs (g.J.EffortJudge.verdict was.judge) p was.history c.step-item.result)
    after next) c.loop-step.invariant.plan had.up_to) in
    err_then c.from_residual.result
    (record {
      next = next;
      follows =
          c.loop-step.invariant.up_to after next
          (subst (λ ss. FollowsUpTo verdict plan was.history ss after next) (sym first) (inl up_to));
      stops =
          stops_then plan c.args.world.now.history was.history after next (seen_of c.args.world.now) (seen_of was)
          (seen_of c.perform.new.self) c.loop-step.invariant.watches
          (subst (λ (p : Plan). Stops p was.history after next (seen_of was) (seen_of c.perform.new.self))
          c.loop-step.invariant.plan had.stops);
      left =
          subst (λ (p : Plan). HaveBatchesOrNext g.D.Disk.face p after next c.perform.new.self.disks)
          c.loop-step.invariant.plan had.left;
    })

pub returns-in_err-perform-clause-spent_up_to : goal.returns-in_err-perform-clause-spent_up_to
returns-in_err-perform-clause-spent_up_to g c =
    let f = g.D.Disk.face in
    let plan = c.args.world.now.plan in
    let verdict = g.J.EffortJudge.verdict c.args.world.now.judge in
    let was = c.loop-step.world in
    let now = c.perform.new.self in
    let fault = c.in_err-perform.field-0.0 in
    let e = err_from_is_err_and c.from_residual.result c.from_residual.ensures.1 in
    let first : drop c.loop-step.step-index c.args.steps.now
    ≡ c.step-item.result ∷ drop (c.loop-step.step-index + 1) c.args.steps.now = grind (arith, common_steps) in
    rw (e.1, e.2)
    (c.loop-step.invariant.spent_up_to fault now.history now.disks
    (subst (λ ss. AreSpentUpTo f verdict plan was.history was.disks ss fault now.history now.disks) (sym first)
    (inl
    (spends_as f (g.J.EffortJudge.verdict was.judge) verdict was.plan plan c.step-item.result was.history
    now.history (Some fault) was.disks now.disks c.loop-step.invariant.watches.verdict
    c.loop-step.invariant.plan c.in_err-perform.ensures.power))))
