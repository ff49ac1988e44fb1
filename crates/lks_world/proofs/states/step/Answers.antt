use Rattle.std.proofs.Common.{◌+◌, ◌≤◌, length, List, ap, inr, subst, sym, ◌∙◌}
use Rattle.std.specs.List.{filter_map}
use Rattle.lks_outside.specs.declared.alarms.Alarm.{Alarm}
use Rattle.lks_base.specs.declared.events.Event.TheVariants.{Step}
use Rattle.lks_base.specs.declared.reactions.Outgoing.{Outgoing}
use Rattle.lks_law.specs.Entries.{notes_of}
use Rattle.lks_law.specs.World.{actor_of, effect_of, after_step, deed_of, happens, peers_after}
use Rattle.lks_watch.proofs.Noted.{noted}
use Rattle.lks_law.specs.Alarms.{alarm_noted}
use Rattle.lks_watch.specs.Watching.{Rings, ears, seen_by}
use Rattle.lks_world.specs.Hosts.{HaveGoneOn, peers_of}
use Rattle.lks_world.specs.Sites.{hosts_of}
use Rattle.lks_world.specs.States.{sends_in, world_in}
use Rattle.lks_world.specs.declared.sites.Site.{Site}
use Rattle.lks_world.proofs.Fallen.{fallen_on}
use Rattle.lks_world.proofs.Named.{result_of_step}
use Rattle.lks_world.proofs.Stopped.{err_then}
use Rattle.lks_world.specs.Hosts.{HaveFallen}
use Rattle.lks_world.proofs.states.step.Goals as goal

pub note_step-requires-after_bounds : goal.note_step-requires-after_bounds
unfolding sends_in
note_step-requires-after_bounds g c κs within =
    let f = g.D.Disk.face in
    let s = c.args.state.now in
    let sends = c.in_ok-done.ensures.sends
    ∙ ap (λ o. (effect_of s.tick (peers_of f (hosts_of s.sites.items)) o).sends) c.requires.deed in
    subst (λ (xs : List Outgoing). length s.bag.items + length xs ≤ 4294967295) (sym sends) c.requires.few

pub returns-clause-on : goal.returns-clause-on
returns-clause-on g c =
    subst
    (λ (ss : List (Site g.row.D.Denot)). HaveGoneOn g.D.Disk.face (hosts_of c.args.state.now.sites.items)
    (hosts_of ss)) (sym c.in_ok-note_step.ensures.sites) c.in_ok-done.ensures.on

pub returns-clause-hears : goal.returns-clause-hears
returns-clause-hears g c =
    let f = g.D.Disk.face in
    let e = ears g.J.EffortJudge.heard g.J.EffortJudge.verdict g.B.Bell.rung g.B.Bell.limit in
    let s = c.args.state.now in
    let deed = c.requires.deed in
    let actor = c.actor.ensures ∙ ap actor_of deed in
    let notes = c.in_ok-done.ensures.notes ∙ ap (notes_of s.tick (peers_of f (hosts_of s.sites.items))) deed in
    subst (λ (raised : List Alarm). Rings raised (seen_by e c.args.watch.now) (seen_by e c.note_step.new.watch))
    ((λ i. filter_map (alarm_noted (actor i) s.tick) (notes i))
    ∙ noted (world_in f s) (deed_of s.bag.items c.args.s)) c.in_ok-note_step.ensures.hears

pub returns-in_err-note_step-clause-fallen : goal.returns-in_err-note_step-clause-fallen
unfolding happens after_step
returns-in_err-note_step-clause-fallen g c =
    let f = g.D.Disk.face in
    let s = c.args.state.now in
    let deed = c.requires.deed in
    err_then c.from_residual-in_err-note_step.result
    (subst
    (λ (ss : List (Site g.row.D.Denot)). HaveFallen f (hosts_of s.sites.items)
    (happens (world_in f s) (Step c.args.s)).peers (hosts_of ss)) (sym c.in_err-note_step.ensures.sites)
    (fallen_on f (hosts_of s.sites.items) (hosts_of c.do_deed.new.sites.items) _ c.in_ok-done.ensures.on
    (inr (c.in_ok-done.ensures.peers ∙ ap (peers_after s.tick (peers_of f (hosts_of s.sites.items))) deed))))

pub returns-in_err-done-clause-fallen : goal.returns-in_err-done-clause-fallen
unfolding happens after_step
returns-in_err-done-clause-fallen g c =
    let f = g.D.Disk.face in
    let s = c.args.state.now in
    let hosts = hosts_of s.sites.items in
    let deed = c.requires.deed in
    err_then c.from_residual.result
    (subst (λ o. HaveFallen f hosts (peers_after s.tick (peers_of f hosts) o) (hosts_of c.do_deed.new.sites.items))
    deed c.in_err-done.ensures.fallen)

pub do_deed-requires-clause-done : goal.do_deed-requires-clause-done
do_deed-requires-clause-done g c = λ κs lives.
    let s = c.args.state.now in
    result_of_step s.pool.now s.bag.items c.args.s c.args.done c.args.deed.now c.requires.deed c.requires.done
