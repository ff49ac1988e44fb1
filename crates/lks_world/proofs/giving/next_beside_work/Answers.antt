use Rattle.std.proofs.Common.{◌∙◌, ap, sym}
use Rattle.std.specs.Prelude.{is_some}
use Rattle.std.specs.List.{flat_map}
use Rattle.lks_law.specs.Due.{first_own}
use Rattle.lks_world.proofs.GivingLaws.{next_delivers, next_none, next_turns, next_works}
use Rattle.lks_world.proofs.Places.{none_from, not_some}
use Rattle.lks_world.specs.States.{site_steps}
use Rattle.lks_world.specs.declared.settling.OwnSteps.TheVariants.{Ready, Turns}
use Rattle.lks_world.proofs.giving.next_beside_work.Goals as goal

pub returns-in-Some : goal.returns-in-Some
returns-in-Some g c =
    λ plan is. next_delivers g.D.Disk.face plan c.args.state.now is c.in-Some.envelope
    (sym c.first_waiting.ensures ∙ c.in-Some.is)

pub returns-then-is_some : goal.returns-then-is_some
returns-then-is_some g c = λ plan is.
    next_works g.D.Disk.face plan c.args.state.now is
    (sym c.first_waiting.ensures ∙ none_from c.first_waiting.result c.in_default.not-Some)
    (ap (λ ss. is_some (first_own (flat_map (site_steps Ready) ss))) (sym c.deref.ensures.value)
    ∙ ap is_some (sym c.first_step.ensures) ∙ sym c.is_some.ensures ∙ c.if-is_some.true)

pub returns-in-Some-first_step : goal.returns-in-Some-first_step
returns-in-Some-first_step g c = λ plan is.
    next_turns g.D.Disk.face plan c.args.state.now is
    (sym c.first_waiting.ensures ∙ none_from c.first_waiting.result c.in_default.not-Some)
    (ap (λ ss. first_own (flat_map (site_steps Ready) ss)) (sym c.deref.ensures.value) ∙ sym c.first_step.ensures
    ∙ not_some c.first_step.result (sym c.is_some.ensures ∙ c.if-is_some.false))
    c.in-Some-first_step.due
    (sym c.in-Some-first_step.is ∙ c.first_step-2.ensures
    ∙ ap (λ ss. first_own (flat_map (site_steps Turns) ss)) c.deref-2.ensures.value)

pub returns-in-None : goal.returns-in-None
returns-in-None g c = λ plan is.
    next_none g.D.Disk.face plan c.args.state.now is
    (sym c.first_waiting.ensures ∙ none_from c.first_waiting.result c.in_default.not-Some)
    (ap (λ ss. first_own (flat_map (site_steps Ready) ss)) (sym c.deref.ensures.value) ∙ sym c.first_step.ensures
    ∙ not_some c.first_step.result (sym c.is_some.ensures ∙ c.if-is_some.false))
    (sym c.in-None.is ∙ c.first_step-2.ensures
    ∙ ap (λ ss. first_own (flat_map (site_steps Turns) ss)) c.deref-2.ensures.value)
