use Rattle.std.proofs.Common.{◌<◌, ◌-◌, ◌∙◌, ◌++◌, ◌∷◌, [], List, ap, subst, sym, length, arith}
use Rattle.std.specs.Prelude.{Ok}
use Rattle.lks_base.specs.declared.entries.Entry.{Entry}
use Rattle.lks_base.specs.declared.events.Event.TheVariants.{Crash}
use Rattle.lks_base.specs.declared.limits.TheConstants.{MOST_EVENTS}
use Rattle.lks_world.proofs.Ending.{made_there, same_crash}
use Rattle.lks_world.proofs.Keeping.{can_step, room_kept, room_left, extends_kept}
use Rattle.lks_world.proofs.StateLaws.{became_crash, crashed}
use Rattle.lks_world.specs.Hosts.{HaveGoneOn}
use Rattle.lks_world.specs.Sites.{hosts_of}
use Rattle.lks_world.specs.States.{world_in}
use Rattle.lks_world.specs.declared.sites.Site.{Site}
use Rattle.lks_world.proofs.Fallen.{fallen_on, left_idle}
use Rattle.lks_world.proofs.Stopped.{err_then}
use Rattle.lks_world.specs.States.{events_of}
use Rattle.lks_world.specs.Hosts.{HaveFallen, peers_of}
use Rattle.std.proofs.Common.{inl, refl}
use Rattle.lks_world.proofs.PowerEnds.{is_stopped, power_still, sites_event, sites_lost, sites_still}
use Rattle.lks_world.proofs.PowerLaws.{quiet_same}
use Rattle.lks_world.proofs.Keeping.{kept_room}
use Rattle.lks_world.specs.Powers.{IsQuiet}
use Rattle.lks_world.specs.Sites.{Powered}
use Rattle.lks_world.specs.States.{events_in}
use Rattle.lks_world.proofs.cutting.crash.Goals as goal

pub reopen-requires-clause-ready : goal.reopen-requires-clause-ready
reopen-requires-clause-ready g c κs within =
    can_step g.D.Disk.face c.args.plan.now c.args.state.now c.requires.state
    (omega (arith, c.room.ensures, c.if-room-eq0.false))

pub reopen-requires-clause-made : goal.reopen-requires-clause-made
reopen-requires-clause-made g c κs within =
    made_there g.D.Disk.face c.args.plan.now c.requires.good c.args.state.now c.requires.state

pub returns-clause-becomes : goal.returns-clause-becomes
returns-clause-becomes g c =
    let f = g.D.Disk.face in
    let s = c.args.state.now in
    let t = c.crash.new.state in
    let peer = c.args.peer in
    let did = c.in_ok-crash.ensures in
    let again = c.in_ok-reopen.ensures in
    let room : 0 < MOST_EVENTS - length s.history.items = omega (arith, c.room.ensures, c.if-room-eq0.false) in
    room_kept f c.args.plan.now s t (Crash peer) room
    (became_crash f c.args.plan.now s t peer c.requires.state (room_left f s room) c.requires.honest
    (did.world ∙ crashed _ peer ∙ (λ i. record { peers = again.peers i; bag = s.bag.items; tick = s.tick }))
    (did.history ∙ ap (λ (e : Entry). s.history.items ++ e ∷ []) (same_crash _ (world_in f s) peer))
    did.pending
    (subst (λ (ss : List (Site g.row.D.Denot)). HaveGoneOn f (hosts_of s.sites.items) (hosts_of ss)) (sym did.sites)
    again.on)
    did.pool)

pub returns-clause-extends : goal.returns-clause-extends
returns-clause-extends g c =
    extends_kept g.D.Disk.face c.args.plan.now c.args.state.now c.crash.new.state (Crash c.args.peer)
    (returns-clause-becomes g c)

pub returns-in_err-reopen-clause-fallen : goal.returns-in_err-reopen-clause-fallen
returns-in_err-reopen-clause-fallen g c =
    let s = c.args.state.now in
    err_then c.from_residual.result
    (left_idle g.D.Disk.face c.args.plan.now s (record s { sites = c.reopen.new.sites }) c.requires.state refl
    c.in_err-reopen.ensures.fallen)

pub returns-in_err-crash-clause-fallen : goal.returns-in_err-crash-clause-fallen
returns-in_err-crash-clause-fallen g c =
    let f = g.D.Disk.face in
    let s = c.args.state.now in
    err_then c.from_residual-in_err-crash.result
    (left_idle f c.args.plan.now s c.crash.new.state c.requires.state (ap events_of c.in_err-crash.ensures.err)
    (subst
    (λ (ss : List (Site g.row.D.Denot)). HaveFallen f (hosts_of s.sites.items)
    (peers_of f (hosts_of s.sites.items)) (hosts_of ss)) (sym c.in_err-crash.ensures.sites)
    (fallen_on f (hosts_of s.sites.items) (hosts_of c.reopen.new.sites.items) _ c.in_ok-reopen.ensures.on
    (inl c.in_ok-reopen.ensures.peers))))

pub returns-in_err-reopen-clause-power : goal.returns-in_err-reopen-clause-power
returns-in_err-reopen-clause-power g c =
    let f = g.D.Disk.face in
    let plan = c.args.plan.now in
    let s = c.args.state.now in
    sites_lost f plan (events_in s) (events_in s) c.args.peer s.sites.items c.reopen.new.sites.items
    c.from_residual.result (quiet_same plan (events_in s))
    (room_left f s (omega (arith, c.room.ensures, c.if-room-eq0.false))) c.in_err-reopen.ensures.power
    (λ none. absurd (is_stopped _ c.from_residual.result c.from_residual.ensures.1 none))

pub returns-in_err-crash-clause-power : goal.returns-in_err-crash-clause-power
returns-in_err-crash-clause-power g c =
    let f = g.D.Disk.face in
    let plan = c.args.plan.now in
    let s = c.args.state.now in
    let t = c.crash.new.state in
    sites_lost f plan (events_in s) (events_in t) c.args.peer s.sites.items t.sites.items
    c.from_residual-in_err-crash.result
    (subst (IsQuiet plan (events_in s)) (sym (ap events_of c.in_err-crash.ensures.err)) (quiet_same plan (events_in s)))
    (room_left f s (omega (arith, c.room.ensures, c.if-room-eq0.false)))
    (subst (λ (ss : List (Site g.row.D.Denot)). Powered f [] (c.args.peer ∷ []) s.sites.items ss)
    (sym c.in_err-crash.ensures.sites) c.in_ok-reopen.ensures.power)
    (λ none. absurd (is_stopped _ c.from_residual-in_err-crash.result c.from_residual-in_err-crash.ensures.1 none))

pub returns-clause-power : goal.returns-clause-power
returns-clause-power g c =
    let f = g.D.Disk.face in
    let plan = c.args.plan.now in
    let s = c.args.state.now in
    let t = c.crash.new.state in
    let room = room_left f s (omega (arith, c.room.ensures, c.if-room-eq0.false)) in
    sites_event f plan _ (events_in s) (events_in t) (Crash c.args.peer) s.sites.items t.sites.items (Ok (tt {0}))
    ((returns-clause-becomes g c).events ∙ kept_room (events_in s) (Crash c.args.peer) room) room
    (subst (λ (ss : List (Site g.row.D.Denot)). Powered f [] (c.args.peer ∷ []) s.sites.items ss)
    (sym c.in_ok-crash.ensures.sites) c.in_ok-reopen.ensures.power)

pub returns-then-room-eq0-clause-power : goal.returns-then-room-eq0-clause-power
returns-then-room-eq0-clause-power g c =
    let s = c.args.state.now in
    sites_still g.D.Disk.face c.args.plan.now _ (events_in s) (events_in s) s.sites.items s.sites.items
    (Ok (tt {0})) refl (power_still g.D.Disk.face s.sites.items s.sites.items refl)
