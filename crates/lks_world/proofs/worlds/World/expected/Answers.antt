use Rattle.std.proofs.Common.{◌≡◌, ◌∙◌, ap, subst}
use Rattle.std.specs.Prelude.{None}
use Rattle.lks_law.specs.World.{world}
use Rattle.lks_watch.specs.Watching.{ears}
use Rattle.lks_world.proofs.GivingLaws.{expected_there}
use Rattle.lks_world.proofs.Turned.{kept_refused, kept_still, seen_still}
use Rattle.lks_world.specs.Giving.{IsExpected}
use Rattle.lks_world.specs.Worlds.{Seen}
use Rattle.lks_world.proofs.worlds.World.expected.Goals as goal

pub invariant_of-self : goal.invariant_of-self
invariant_of-self g c =
    let a = c.self.inside in
    let runs : a.stopped
    ≡ None = ap (λ (v : Seen g.row.D.Denot g.row.J.Denot g.row.B.Denot). v.stopped) c.self.view_is
    ∙ c.requires.running in
    kept_still g.D.Disk.face (ears g.J.EffortJudge.heard g.J.EffortJudge.verdict g.B.Bell.rung g.B.Bell.limit) a
    c.self.invariant runs c.expected.new.sites a.out c.in-Ok.ensures.same

pub invariant_of-self-in-Err : goal.invariant_of-self-in-Err
invariant_of-self-in-Err g c =
    let a = c.self.inside in
    let runs : a.stopped
    ≡ None = ap (λ (v : Seen g.row.D.Denot g.row.J.Denot g.row.B.Denot). v.stopped) c.self.view_is
    ∙ c.requires.running in
    kept_refused g.D.Disk.face (ears g.J.EffortJudge.heard g.J.EffortJudge.verdict g.B.Bell.rung g.B.Bell.limit) a
    c.self.invariant runs c.expected.new.sites a.out c.in-Err.ensures.same

pub returns-in-Ok-clause-ok : goal.returns-in-Ok-clause-ok
returns-in-Ok-clause-ok g c =
    let a = c.self.inside in
    let runs : a.stopped
    ≡ None = ap (λ (v : Seen g.row.D.Denot g.row.J.Denot g.row.B.Denot). v.stopped) c.self.view_is
    ∙ c.requires.running in
    seen_still g.D.Disk.face (ears g.J.EffortJudge.heard g.J.EffortJudge.verdict g.B.Bell.rung g.B.Bell.limit) a
    c.self.invariant runs c.expected.new.sites a.out c.in-Ok.ensures.same
    ∙ c.self.view_is

pub returns-in-Ok-clause-expected : goal.returns-in-Ok-clause-expected
returns-in-Ok-clause-expected g c =
    let a = c.self.inside in
    let runs : a.stopped
    ≡ None = ap (λ (v : Seen g.row.D.Denot g.row.J.Denot g.row.B.Denot). v.stopped) c.self.view_is
    ∙ c.requires.running in
    subst
    (λ (v : Seen g.row.D.Denot g.row.J.Denot g.row.B.Denot). IsExpected (world v.plan v.history) c.args.done.now
    c.in-Ok.expected) c.self.view_is
    (expected_there g.D.Disk.face a.plan a.state (c.self.invariant.state runs) c.args.done.now c.in-Ok.expected
    c.in-Ok.ensures.expected)
