use Rattle.std.proofs.Common.{◌≡◌, ◌∙◌, ap, inr, refl, subst}
use Rattle.std.specs.Prelude.{None}
use Rattle.lks_world.proofs.GivingLaws.{all_out, turn_of}
use Rattle.lks_world.specs.Handing.{IsNext}
use Rattle.lks_world.specs.States.{events_in}
use Rattle.lks_world.specs.Worlds.{Seen}
use Rattle.lks_world.specs.declared.giving.NextDue.TheVariants as next
use Rattle.lks_world.proofs.worlds.World.take_other.Goals as goal

pub returns-in-Ok-clause-takes : goal.returns-in-Ok-clause-takes
returns-in-Ok-clause-takes g c =
    let a = c.self.inside in
    let runs : a.stopped
    ≡ None = ap (λ (v : Seen g.row.D.Denot g.row.J.Denot g.row.B.Denot). v.stopped) c.self.view_is
    ∙ c.requires.running in
    let found : IsNext a.plan (events_in a.state) (next.Due c.in-Due.due) = subst
    (IsNext a.plan (events_in a.state)) c.in-Due.is
    (c.next_beside_work.ensures a.plan (c.self.invariant.state runs)) in
    (turn_of c.in-Due.due c.args.self.now c.do_turn.new.self found.0 c.in-Ok.ensures.takes, c.in-Ok.ensures.out)

pub returns-in-Work-clause-takes : goal.returns-in-Work-clause-takes
returns-in-Work-clause-takes g c =
    let a = c.self.inside in
    let w = c.args.self.now in
    let runs : a.stopped
    ≡ None = ap (λ (v : Seen g.row.D.Denot g.row.J.Denot g.row.B.Denot). v.stopped) c.self.view_is
    ∙ c.requires.running in
    let found : IsNext w.plan w.history next.Work =
    subst (λ (v : Seen g.row.D.Denot g.row.J.Denot g.row.B.Denot). IsNext v.plan v.history next.Work) c.self.view_is
    (subst (IsNext a.plan (events_in a.state)) c.in-Work.is
    (c.next_beside_work.ensures a.plan (c.self.invariant.state runs))) in
    let all = all_out w.plan w.history w.out found.0 found.1 c.requires.out in
    (refl, record { turn = c.requires.turn; some = all.0; each = all.1 })

pub returns-in-Nothing-clause-takes : goal.returns-in-Nothing-clause-takes
returns-in-Nothing-clause-takes g c =
    let a = c.self.inside in
    let runs : a.stopped
    ≡ None = ap (λ (v : Seen g.row.D.Denot g.row.J.Denot g.row.B.Denot). v.stopped) c.self.view_is
    ∙ c.requires.running in
    let found =
    subst (λ (v : Seen g.row.D.Denot g.row.J.Denot g.row.B.Denot). IsNext v.plan v.history next.Nothing)
    c.self.view_is
    (subst (IsNext a.plan (events_in a.state)) c.in-Nothing.is
    (c.next_beside_work.ensures a.plan (c.self.invariant.state runs))) in
    (refl, inr found)
