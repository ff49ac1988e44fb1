use Rattle.std.proofs.Common.{◌≡◌, ◌∙◌, ap, subst}
use Rattle.std.specs.Prelude.{IfOk}
use Rattle.lks_work.specs.Names.{name_done}
use Rattle.lks_world.specs.Giving.{without_job, GivesFresh, IsUsedUp}
use Rattle.lks_world.specs.Worlds.{Seen, seen_in}
use Rattle.lks_world.proofs.worlds.World.give_back.Goals as goal

pub returns-then-not-has_turn-clause-gives : goal.returns-then-not-has_turn-clause-gives
returns-then-not-has_turn-clause-gives g c =
    let a = c.self.inside in
    let path : seen_in (record a { out = c.take_in.new.out })
    ≡ record c.args.self.now { out = without_job (name_done c.args.done) c.args.self.now.out } =
    ap (λ o. record (seen_in a) { out = o }) (c.take_in.ensures ∙ ap (λ n. without_job n a.out.items) c.name.ensures)
    ∙ ap
    (λ (v : Seen g.row.D.Denot g.row.J.Denot g.row.B.Denot).
    record v { out = without_job (name_done c.args.done) v.out }) c.self.view_is in (
      subst (λ (v : Seen g.row.D.Denot g.row.J.Denot g.row.B.Denot). IsUsedUp v) path
          (c.if-not-has_turn.ensures.used (λ is. absurd cc)),
      path,
    )

pub returns-in-Ok-clause-gives : goal.returns-in-Ok-clause-gives
returns-in-Ok-clause-gives g c =
    let a = c.self.inside in
    let path : seen_in (record a { out = c.take_in.new.out })
    ≡ record c.args.self.now { out = without_job (name_done c.args.done) c.args.self.now.out } =
    ap (λ o. record (seen_in a) { out = o }) (c.take_in.ensures ∙ ap (λ n. without_job n a.out.items) c.name.ensures)
    ∙ ap
    (λ (v : Seen g.row.D.Denot g.row.J.Denot g.row.B.Denot).
    record v { out = without_job (name_done c.args.done) v.out }) c.self.view_is in
    subst
    (λ (v : Seen g.row.D.Denot g.row.J.Denot g.row.B.Denot). IfOk c.do_work.result
    (GivesFresh c.args.done v c.do_work.new.self)) (c.in-Ok.ensures.ok ∙ path) c.do_work.ensures.gives
