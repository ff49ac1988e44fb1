use Rattle.std.proofs.Common.{◌≡◌, ◌∙◌, ap, sym, subst}
use Rattle.std.specs.Prelude.{None, reverse}
use Rattle.lks_world.proofs.SiteLaws.{disks_hold, turned_back}
use Rattle.lks_world.specs.Held.{AreUnfused, HaveBatches}
use Rattle.lks_watch.specs.Watching.{ears}
use Rattle.lks_world.specs.Worlds.{Seen, StandsAtFault}
use Rattle.lks_world.proofs.worlds.World.into_parts.Goals as goal

pub returns-clause-disks : goal.returns-clause-disks
returns-clause-disks g c =
    let a = c.self.inside in
    c.turn_round.ensures.items ∙ ap reverse c.unsite.ensures.items ∙ turned_back a.state.sites.items a.rest.items
    ∙ ap (λ (v : Seen g.row.D.Denot g.row.J.Denot g.row.B.Denot). v.disks) c.self.view_is

pub returns-clause-holds : goal.returns-clause-holds
returns-clause-holds g c = λ running.
    let a = c.self.inside in
    let runs : a.stopped
    ≡ None = ap (λ (v : Seen g.row.D.Denot g.row.J.Denot g.row.B.Denot). v.stopped) c.self.view_is ∙ running in
    subst
    (λ (v : Seen g.row.D.Denot g.row.J.Denot g.row.B.Denot). HaveBatches g.D.Disk.face v.plan v.history v.disks)
    c.self.view_is
    (disks_hold g.D.Disk.face a.plan a.state (reverse a.rest.items) (c.self.invariant.state runs)
    c.self.invariant.sites)

pub returns-clause-halted : goal.returns-clause-halted
returns-clause-halted g c =
    let f = g.D.Disk.face in
    let e = (ears g.J.EffortJudge.heard g.J.EffortJudge.verdict g.B.Bell.rung g.B.Bell.limit) in
    subst (λ (v : Seen g.row.D.Denot g.row.J.Denot g.row.B.Denot). StandsAtFault f e v) c.self.view_is
    c.self.invariant.halted

pub returns-clause-unfused : goal.returns-clause-unfused
returns-clause-unfused g c =
    let a = c.self.inside in
    subst (AreUnfused g.D.Disk.face)
    (sym
    (c.turn_round.ensures.items ∙ ap reverse c.unsite.ensures.items
    ∙ turned_back a.state.sites.items a.rest.items)) c.self.invariant.unfused
