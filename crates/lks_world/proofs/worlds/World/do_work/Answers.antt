use Rattle.std.proofs.Common.{◌≡◌, ◌∙◌, ap, rules, subst, sym}
use Rattle.std.specs.Prelude.{Some}
use Rattle.lks_base.specs.declared.events.Due.TheVariants.{Own}
use Rattle.lks_law.specs.World.{world}
use Rattle.lks_work.specs.Names.{step_named}
use Rattle.lks_world.proofs.GivingLaws.{expected_due}
use Rattle.lks_world.specs.Giving.{IsExpected}
use Rattle.lks_world.proofs.worlds.World.do_work.Goals as goal

pub do_turn-requires-clause-due : goal.do_turn-requires-clause-due
do_turn-requires-clause-due g c κs within =
    let w = c.args.self.now in
    let taken : c.args.expected ≡ Some c.tag-found.result = search rules in
    let due = expected_due w.plan w.history c.args.done c.tag-found.result
    (subst (IsExpected (world w.plan w.history) c.args.done) taken c.requires.expected) in
    (due.0, due.1 ∙ ap (λ s. Some (Own s)) (sym (c.step.ensures ∙ ap step_named c.name.ensures)))
