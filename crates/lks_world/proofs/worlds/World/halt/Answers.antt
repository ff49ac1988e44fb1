use Rattle.std.proofs.Common.{◌≡◌, ◌∙◌, ap, sym, subst, refl}
use Rattle.std.specs.Prelude.{Option, Some, is_some}
use Rattle.lks_watch.specs.Watching.{ears}
use Rattle.lks_world.proofs.Turned.{halted_still, kept_refused, none_there}
use Rattle.lks_world.specs.Worlds.{Seen, halting_fault, seen_in}
use Rattle.lks_world.specs.declared.faults.WorldFault.{WorldFault}
use Rattle.lks_world.specs.declared.faults.WorldFault.TheVariants.{Memory}
use Rattle.lks_world.proofs.worlds.World.halt.Goals as goal

pub invariant_of-self : goal.invariant_of-self
invariant_of-self g c =
    let a = c.self.inside in
    kept_refused g.D.Disk.face (ears g.J.EffortJudge.heard g.J.EffortJudge.verdict g.B.Bell.rung g.B.Bell.limit) a
    c.self.invariant (none_there a.stopped c.if-is_none.ensures) a.state.sites a.out refl

pub returns-then-is_none : goal.returns-then-is_none
returns-then-is_none g c =
    let a = c.self.inside in
    subst
    (λ (v : Seen g.row.D.Denot g.row.J.Denot g.row.B.Denot). seen_in (record a { stopped = Some Memory })
    ≡ record v { stopped = halting_fault v.stopped }) c.self.view_is
    (ap (λ (o : Option WorldFault). record (seen_in a) { stopped = halting_fault o })
    (sym (none_there a.stopped c.if-is_none.ensures)))

pub returns-else-is_none : goal.returns-else-is_none
returns-else-is_none g c =
    let w = c.args.self.now in
    let same = ap (λ (v : Seen g.row.D.Denot g.row.J.Denot g.row.B.Denot). v.stopped) c.self.view_is in
    ap (λ (o : Option WorldFault). record w { stopped = o })
    (halted_still w.stopped (ap is_some (sym same) ∙ c.if-is_none.ensures))
