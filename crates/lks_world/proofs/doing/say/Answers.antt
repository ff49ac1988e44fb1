use Rattle.std.proofs.Common.{◌≡◌, subst, sym}
use Rattle.lks_world.proofs.HostLaws.{ok_then}
use Rattle.lks_saying.proofs.Ends.{said_may}
use Rattle.lks_saying.specs.Sayings.{said_by}
use Rattle.lks_watch.specs.Watching.{Watches}
use Rattle.lks_world.proofs.OwnSteps.{says}
use Rattle.lks_world.proofs.Watched.{spoken_quiet}
use Rattle.lks_world.specs.Follows.{with_saying}
use Rattle.lks_world.specs.States.{events_in}
use Rattle.lks_world.proofs.PowerLaws.{quiet_spoken}
use Rattle.lks_world.specs.Powers.{IsQuiet}
use Rattle.lks_world.proofs.doing.say.Goals as goal

pub returns-clause-state : goal.returns-clause-state
returns-clause-state g c =
    ok_then c.speak.result (λ b. b.state)
    (c.speak.ensures.becomes c.args.plan.now c.requires.state
    (said_may c.args.plan.now c.args.step.now c.in_ok-said.said c.in_ok-said.ensures.said c.requires.legal))

pub returns-clause-performs : goal.returns-clause-performs
returns-clause-performs g c =
    let history = events_in c.args.state.now in
    ok_then c.speak.result
    (λ b.
    let said = subst
    (λ said. events_in c.speak.new.state ≡ with_saying history said) c.in_ok-said.ensures.said b.events in (
      λ verdict. says verdict c.args.plan.now history (events_in c.speak.new.state) c.args.step.now
          c.requires.saying said,
      λ x. subst (λ h. Watches c.args.plan.now history h x x) (sym said)
          (spoken_quiet c.args.plan.now history x (said_by c.args.plan.now c.args.step.now)),
    ))
    (c.speak.ensures.becomes c.args.plan.now c.requires.state
    (said_may c.args.plan.now c.args.step.now c.in_ok-said.said c.in_ok-said.ensures.said c.requires.legal))

pub returns-clause-extends : goal.returns-clause-extends
returns-clause-extends g c =
    c.speak.ensures.extends c.args.plan.now c.requires.state
    (said_may c.args.plan.now c.args.step.now c.in_ok-said.said c.in_ok-said.ensures.said c.requires.legal)

pub returns-clause-quiet : goal.returns-clause-quiet
returns-clause-quiet g c =
    let plan = c.args.plan.now in
    let history = events_in c.args.state.now in
    ok_then c.speak.result
    (λ b. subst (IsQuiet plan history) (sym b.events) (quiet_spoken plan history c.in_ok-said.said))
    (c.speak.ensures.becomes plan c.requires.state
    (said_may plan c.args.step.now c.in_ok-said.said c.in_ok-said.ensures.said c.requires.legal))
