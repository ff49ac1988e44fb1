use Rattle.std.proofs.Common.{◌≡◌, ◌∙◌, ap, sym, subst, refl, ℕ, true, [], ◌∷◌, List}
use Rattle.std.specs.Prelude.{IsSome, MatchOption, Option, Some, None, Result, Ok, Err, is_some}
use Rattle.std.proofs.lemmas.Result.{err_from_is_err_and}
use Rattle.lks_base.specs.declared.events.Envelope.{Envelope}
use Rattle.lks_base.specs.declared.events.Event.{Event}
use Rattle.lks_base.specs.declared.events.Event.TheVariants as events
use Rattle.lks_base.specs.declared.plans.Plan.{Plan}
use Rattle.lks_base.specs.declared.events.PeerStep.{PeerStep}
use Rattle.lks_disk.specs.Face.{Face}
use Rattle.lks_law.specs.Histories.{IsHonest, MayStep}
use Rattle.lks_law.specs.World.{World, peer_at, world}
use Rattle.lks_watch.proofs.Going.{watches_then}
use Rattle.lks_watch.specs.Watching.{Watches, ears, seen_by}
use Rattle.lks_world.proofs.Ending.{counted_as, counted_still, cuts_alone, cuts_short, cuts_whole, no_short}
use Rattle.lks_world.proofs.Ending.{nobody_there, not_short, on_ok, somebody_there, taker_honest}
use Rattle.lks_world.proofs.HostLaws.{ok_then}
use Rattle.lks_world.proofs.Keeping.{extends_by, extends_then, room_kept, room_left}
use Rattle.lks_world.proofs.Watched.{crash_quiet}
use Rattle.lks_world.specs.Cuts.{taker_of, Cuts}
use Rattle.lks_world.specs.Endings.{HasEnded}
use Rattle.lks_world.specs.Hosts.{peers_of, IsAbsent}
use Rattle.lks_world.specs.Kept.{with_event}
use Rattle.lks_world.specs.Sites.{hosts_of, SitesPower, StandsAt}
use Rattle.lks_world.specs.States.{events_in, IsStateOf}
use Rattle.lks_world.specs.declared.faults.WorldFault.{WorldFault}
use Rattle.lks_world.specs.declared.faults.WorldFault.TheVariants.{Memory}
use Rattle.lks_world.specs.declared.sites.Site.{Site}
use Rattle.lks_world.specs.declared.states.State.{State}
use Rattle.lks_world.proofs.cutting.cut_off.Given.{Over}
use Rattle.lks_world.proofs.cutting.cut_off.Goals.{After-taker-id, After-take_step, After-cut_there, After-add_crash}
use Rattle.lks_world.proofs.Fallen.{left_still}
use Rattle.lks_world.proofs.Stopped.{err_then, err_three, stopped_in, stops_there}
use Rattle.lks_world.proofs.UpTo.{cut_begun, kept_front, none_begun}
use Rattle.lks_world.specs.Follows.{IsUpTo}
use Rattle.lks_world.specs.Watched.{StopsBy}
use Rattle.lks_world.specs.States.{events_of}
use Rattle.lks_world.proofs.PowerEnds.{is_stopped, sites_cut, sites_done, sites_lost, sites_may_lose}
use Rattle.lks_world.proofs.PowerLaws.{quiet_step}
use Rattle.lks_world.proofs.Keeping.{extends_same}
use Rattle.lks_world.specs.Endings.{PowersEnd}
use Rattle.lks_world.specs.Powers.{IsQuiet}
use Rattle.lks_world.proofs.cutting.cut_off.Goals as goal

taker_is : (g : Over) (c : After-taker-id g) → c.taker-id.result ≡ taker_of c.args.state.now.bag.items c.args.s
taker_is g c = c.taker-id.ensures ∙ ap (λ (b : List Envelope). taker_of b c.args.s) c.deref.ensures.value

nobody : (g : Over) (c : After-take_step g)
    → peer_at (taker_of c.args.state.now.bag.items c.args.s)
    (peers_of g.D.Disk.face (hosts_of c.args.state.now.sites.items))
    ≡ None
nobody g c =
    let f = g.D.Disk.face in
    subst (λ (n : ℕ). peer_at n (peers_of f (hosts_of c.args.state.now.sites.items)) ≡ None)
    (c.taker-id.ensures ∙ ap (λ (b : List Envelope). taker_of b c.args.s) c.deref.ensures.value)
    (subst (λ (ss : List (Site g.row.D.Denot)). peer_at c.taker-id.result (peers_of f (hosts_of ss)) ≡ None)
    c.deref-2.ensures.value
    (nobody_there f c.taker-id.result c.deref-2.result.now c.place_of.result c.if-is_none.ensures c.place_of.ensures))

-- somebody takes the step
takes : {D : Type 0} (f : Face D) (s : State D) (p : PeerStep) (id : ℕ) (sites : List (Site D)) (place : Option ℕ)
    → id ≡ taker_of s.bag.items p → sites ≡ s.sites.items
    → is_some place ≡ true → MatchOption place (IsAbsent id (peers_of f (hosts_of sites))) (StandsAt f id sites)
    → IsSome (peer_at (taker_of s.bag.items p) (peers_of f (hosts_of s.sites.items)))
takes f s p id sites place taker same some found =
    subst (λ (n : ℕ). IsSome (peer_at n (peers_of f (hosts_of s.sites.items)))) taker
    (subst (λ ss. IsSome (peer_at id (peers_of f (hosts_of ss)))) same (somebody_there f id sites place some found))

somebody : (g : Over) (c : After-cut_there g)
    → IsSome
    (peer_at (taker_of c.args.state.now.bag.items c.args.s)
    (peers_of g.D.Disk.face (hosts_of c.args.state.now.sites.items)))
somebody g c =
    takes g.D.Disk.face c.args.state.now c.args.s c.taker-id.result c.deref-2.result.now c.place_of.result
    (c.taker-id.ensures ∙ ap (λ (b : List Envelope). taker_of b c.args.s) c.deref.ensures.value)
    c.deref-2.ensures.value c.if-is_none.ensures c.place_of.ensures

ended : (g : Over) (c : After-add_crash g)
    → HasEnded g.D.Disk.face c.args.plan.now c.args.power.calls c.args.state.now c.args.s c.cut_there.new.state true
ended g c =
    subst
    (HasEnded g.D.Disk.face c.args.plan.now c.args.power.calls c.args.state.now c.args.s c.cut_there.new.state)
    c.if-branch.true c.in_ok-cut_there.ensures.ended

honest_taker : (g : Over) (c : After-add_crash g)
    → IsSome
    (peer_at (taker_of c.args.state.now.bag.items c.args.s)
    (peers_of g.D.Disk.face (hosts_of c.args.state.now.sites.items)))
    → IsHonest c.args.plan.now c.taker-id.result
honest_taker g c there =
    subst (IsHonest c.args.plan.now)
    (sym (c.taker-id.ensures ∙ ap (λ (b : List Envelope). taker_of b c.args.s) c.deref.ensures.value))
    (taker_honest g.D.Disk.face c.args.plan.now c.args.state.now c.args.s c.args.power.calls c.requires.state.0 there)

pub returns-then-is_none-clause-burns : goal.returns-then-is_none-clause-burns
returns-then-is_none-clause-burns g c =
    let f = g.D.Disk.face in
    let plan = c.args.plan.now in
    let s = c.args.state.now in
    let p = c.args.s in
    let is = c.requires.state.0 in
    let none = nobody g (goal.at.returns-then-is_none-clause-burns g c).After-take_step in
    on_ok c.take_step.result (λ short room. absurd (no_short f plan s p c.args.power.calls is none short))

pub returns-then-is_none-clause-cuts : goal.returns-then-is_none-clause-cuts
returns-then-is_none-clause-cuts g c =
    let f = g.D.Disk.face in
    let plan = c.args.plan.now in
    let s = c.args.state.now in
    let p = c.args.s in
    let is = c.requires.state.0 in
    let none = nobody g (goal.at.returns-then-is_none-clause-cuts g c).After-take_step in
    ok_then c.take_step.result
    (λ b. (
      b.state,
      cuts_alone f plan s p c.args.power.calls is c.take_step.new.state none
          (room_kept f plan s c.take_step.new.state (events.Step p) c.requires.state.1 b),
    ))
    (c.take_step.ensures.becomes plan is c.requires.may)

pub returns-then-is_none-clause-watches : goal.returns-then-is_none-clause-watches
returns-then-is_none-clause-watches g c =
    λ first asks. c.take_step.ensures.watches c.args.plan.now c.requires.state.0 first asks

pub take_step-requires-clause-state : goal.take_step-requires-clause-state
take_step-requires-clause-state g c κs within = (c.args.plan.now, c.requires.state.0)

pub cut_there-requires-clause-can : goal.cut_there-requires-clause-can
cut_there-requires-clause-can g c κs within =
    let id = taker_is g (goal.at.cut_there-requires-clause-can g c).After-taker-id in
    let there = takes g.D.Disk.face c.args.state.now c.args.s c.taker-id.result c.deref-2.result.now
    c.place_of.result id c.deref-2.ensures.value c.if-is_none.ensures c.place_of.ensures in
    record { room = c.requires.state.1; may = c.requires.may; there = there }

pub returns-in_err-cut_there-clause-counted : goal.returns-in_err-cut_there-clause-counted
returns-in_err-cut_there-clause-counted g c =
    let p = err_from_is_err_and c.from_residual.result c.from_residual.ensures.1 in
    rw (p.1, p.2)
    (counted_as g.D.Disk.face c.args.state.now.sites.items c.cut_there.new.state.sites.items
    c.in_err-cut_there.field-0.0 c.in_err-cut_there.ensures.counted)

pub returns-in_err-add_crash-clause-extends : goal.returns-in_err-add_crash-clause-extends
returns-in_err-add_crash-clause-extends g c =
    let at = goal.at.returns-in_err-add_crash-clause-extends g c in
    let f = g.D.Disk.face in
    let plan = c.args.plan.now in
    let s = c.args.state.now in
    let p = c.args.s in
    let m = c.cut_there.new.state in
    let end = ended g at.After-add_crash in
    let honest = honest_taker g at.After-add_crash (somebody g at.After-cut_there) in
    extends_then plan s.history.items m.history.items c.add_crash.new.state.history.items
    (extends_by f plan s m (events.Step p ∷ []) end.0.state end.0.events)
    (c.in_err-add_crash.ensures.extends plan end.0.state honest)

pub returns-in_err-add_crash-clause-counted : goal.returns-in_err-add_crash-clause-counted
returns-in_err-add_crash-clause-counted g c =
    let p = err_from_is_err_and c.from_residual-in_err-add_crash.result c.from_residual-in_err-add_crash.ensures.1 in
    rw (p.1, p.2)
    (counted_still {T = Unit {0}} g.D.Disk.face c.args.state.now.sites.items c.cut_there.new.state.sites.items
    c.add_crash.new.state.sites.items (Ok c.in_ok-cut_there.field-0) (Err Memory)
    c.in_ok-cut_there.ensures.counted c.in_err-add_crash.ensures.sites (λ id is. absurd cc))

pub returns-in_ok-add_crash-clause-cuts : goal.returns-in_ok-add_crash-clause-cuts
returns-in_ok-add_crash-clause-cuts g c =
    let at = goal.at.returns-in_ok-add_crash-clause-cuts g c in
    let f = g.D.Disk.face in
    let plan = c.args.plan.now in
    let s = c.args.state.now in
    let p = c.args.s in
    let is = c.requires.state.0 in
    let id = taker_is g at.After-taker-id in
    let there = somebody g at.After-cut_there in
    let m = c.cut_there.new.state in
    let end = ended g at.After-add_crash in
    let honest = honest_taker g at.After-add_crash (somebody g at.After-cut_there) in
    let room = c.requires.state.1 in
    let b = c.in_ok-add_crash.ensures.becomes plan end.0.state honest in (
      b.state,
      cuts_whole f plan s p c.args.power.calls is m (events_in c.add_crash.new.state) (room_left f s room) there end
          (subst (λ (n : ℕ). events_in c.add_crash.new.state ≡ with_event (events_in m) (events.Crash n)) id b.events),
    )

pub returns-in_ok-add_crash-clause-extends : goal.returns-in_ok-add_crash-clause-extends
returns-in_ok-add_crash-clause-extends g c =
    let at = goal.at.returns-in_ok-add_crash-clause-extends g c in
    let f = g.D.Disk.face in
    let plan = c.args.plan.now in
    let s = c.args.state.now in
    let p = c.args.s in
    let m = c.cut_there.new.state in
    let end = ended g at.After-add_crash in
    let honest = honest_taker g at.After-add_crash (somebody g at.After-cut_there) in
    extends_then plan s.history.items m.history.items c.add_crash.new.state.history.items
    (extends_by f plan s m (events.Step p ∷ []) end.0.state end.0.events)
    (c.in_ok-add_crash.ensures.extends plan end.0.state honest)

pub returns-in_ok-add_crash-clause-counted : goal.returns-in_ok-add_crash-clause-counted
returns-in_ok-add_crash-clause-counted g c =
    counted_still {T = Unit {0}} g.D.Disk.face c.args.state.now.sites.items c.cut_there.new.state.sites.items
    c.add_crash.new.state.sites.items (Ok c.in_ok-cut_there.field-0) (Ok tt)
    c.in_ok-cut_there.ensures.counted c.in_ok-add_crash.ensures.sites (λ id is. absurd cc)

pub returns-in_ok-add_crash-clause-burns : goal.returns-in_ok-add_crash-clause-burns
returns-in_ok-add_crash-clause-burns g c = λ short room.
    let f = g.D.Disk.face in
    let end = ended g (goal.at.returns-in_ok-add_crash-clause-burns g c).After-add_crash in
    absurd
    (not_short f c.args.plan.now c.args.state.now c.args.s c.args.power.calls c.requires.state.0
    c.cut_there.new.state end short)

pub returns-else-branch-clause-cuts : goal.returns-else-branch-clause-cuts
returns-else-branch-clause-cuts g c =
    let f = g.D.Disk.face in
    let plan = c.args.plan.now in
    let s = c.args.state.now in
    let p = c.args.s in
    let is = c.requires.state.0 in
    let there = somebody g (goal.at.returns-else-branch-clause-cuts g c).After-cut_there in
    let m = c.cut_there.new.state in
    let end = subst (HasEnded f plan c.args.power.calls s p m) c.if-branch.false c.in_ok-cut_there.ensures.ended in
    let room = c.requires.state.1 in
    (end.1.state, cuts_short f plan s p c.args.power.calls is m (room_left f s room) there end)

pub returns-in_ok-add_crash-clause-watches : goal.returns-in_ok-add_crash-clause-watches
returns-in_ok-add_crash-clause-watches g c = λ first asks.
    let at = goal.at.returns-in_ok-add_crash-clause-watches g c in
    let e = ears g.J.EffortJudge.heard g.J.EffortJudge.verdict g.B.Bell.rung g.B.Bell.limit in
    let plan = c.args.plan.now in
    let s = c.args.state.now in
    let m = c.cut_there.new.state in
    let t = c.add_crash.new.state in
    let x = seen_by e c.cut_there.new.watch in
    let end = ended g at.After-add_crash in
    let honest = honest_taker g at.After-add_crash (somebody g at.After-cut_there) in
    watches_then plan (events_in s) (events_in m) (events_in t) (seen_by e first) x x
    (c.in_ok-cut_there.ensures.watches first asks)
    (subst (λ h. Watches plan (events_in m) h x x)
    (sym (c.in_ok-add_crash.ensures.becomes plan end.0.state honest).events)
    (crash_quiet plan (events_in m) x c.taker-id.result))

-- What a fault stopped.

begun : (g : Over) (c : After-taker-id g)
    → IsUpTo (Cuts c.args.plan.now (events_in c.args.state.now) c.args.power.calls c.args.s)
    (events_in c.args.state.now) (Some c.args.s)
begun g c =
    cut_begun c.args.plan.now (events_in c.args.state.now) c.args.power.calls c.args.s
    (room_left g.D.Disk.face c.args.state.now c.requires.state.1)

pub returns-then-is_none-clause-stops : goal.returns-then-is_none-clause-stops
returns-then-is_none-clause-stops g c = λ first asks.
    let plan = c.args.plan.now in
    let s = c.args.state.now in
    let t = c.take_step.new.state in
    let up_to = begun g (goal.at.returns-then-is_none-clause-stops g c).After-taker-id in
    let may = subst (λ (w : World). MayStep plan w c.args.s) c.requires.state.0.world c.requires.may in
    let did = c.take_step.ensures in
    err_three c.take_step.result
    (λ same stops left. stopped_in g.D.Disk.face
    (ears g.J.EffortJudge.heard g.J.EffortJudge.verdict g.B.Bell.rung g.B.Bell.limit) plan _ (events_in s) s t
    c.args.s first c.take_step.new.watch up_to may (ap events_of same) stops left)
    did.err (did.stops plan c.requires.state.0 first asks) (did.fallen plan c.requires.state.0)

pub returns-in_err-cut_there-clause-stops : goal.returns-in_err-cut_there-clause-stops
returns-in_err-cut_there-clause-stops g c = λ first asks.
    let s = c.args.state.now in
    let did = c.in_err-cut_there.ensures in
    err_then c.from_residual.result
    (stopped_in g.D.Disk.face (ears g.J.EffortJudge.heard g.J.EffortJudge.verdict g.B.Bell.rung g.B.Bell.limit)
    c.args.plan.now _ (events_in s) s c.cut_there.new.state c.args.s first c.cut_there.new.watch
    (begun g (goal.at.returns-in_err-cut_there-clause-stops g c).After-taker-id)
    (subst (λ (w : World). MayStep c.args.plan.now w c.args.s) c.requires.state.0.world c.requires.may)
    (ap events_of did.err) (did.stops first asks) did.fallen)

pub returns-in_err-add_crash-clause-stops : goal.returns-in_err-add_crash-clause-stops
returns-in_err-add_crash-clause-stops g c = λ first asks.
    let at = goal.at.returns-in_err-add_crash-clause-stops g c in
    let f = g.D.Disk.face in
    let e = (ears g.J.EffortJudge.heard g.J.EffortJudge.verdict g.B.Bell.rung g.B.Bell.limit) in
    let plan = c.args.plan.now in
    let s = c.args.state.now in
    let p = c.args.s in
    let m = c.cut_there.new.state in
    let end = ended g at.After-add_crash in
    let same = ap events_of c.in_err-add_crash.ensures.err in
    let cuts = Cuts plan (events_in s) c.args.power.calls p in
    let after = with_event (events_in m) (events.Crash (taker_of s.bag.items p)) in
    let is = cuts_whole f plan s p c.args.power.calls c.requires.state.0 m after (room_left f s c.requires.state.1)
    (somebody g at.After-cut_there) end refl in
    err_then c.from_residual-in_err-add_crash.result
    (record {
      next = None;
      up_to =
          subst (λ h. IsUpTo cuts h None) (sym same)
          (none_begun cuts (events_in m) after is
          (kept_front (events_in m) (events.Crash (taker_of s.bag.items p))));
      may = tt;
      stops =
          subst (λ h. StopsBy e plan (events_in s) h None first c.cut_there.new.watch) (sym same)
          (stops_there plan (events_in s) (events_in m) (seen_by e first) (seen_by e c.cut_there.new.watch)
          (c.in_ok-cut_there.ensures.watches first asks));
      left = left_still f plan m c.add_crash.new.state end.0.state same None c.in_err-add_crash.ensures.sites;
    })

pub returns-then-is_none-clause-power : goal.returns-then-is_none-clause-power
returns-then-is_none-clause-power g c = c.take_step.ensures.power c.args.plan.now _

-- the power that the line cuts is that of the peer that takes the step
of_taker : {D T : Type 0} (f : Face D) (plan : Plan) (s : State D) (p : PeerStep) (after : List Event)
    (ys : List (Site D)) (r : Result T WorldFault)
    → IsStateOf f plan s → SitesPower f plan (taker_of s.bag.items p ∷ []) (events_in s) after s.sites.items ys r
    → SitesPower f plan (taker_of (world plan (events_in s)).bag p ∷ []) (events_in s) after s.sites.items ys r
of_taker f plan s p after ys r is =
    subst (λ w. SitesPower f plan (taker_of w.bag p ∷ []) (events_in s) after s.sites.items ys r) is.world

pub returns-in_err-cut_there-clause-power : goal.returns-in_err-cut_there-clause-power
returns-in_err-cut_there-clause-power g c =
    let f = g.D.Disk.face in
    let s = c.args.state.now in
    let m = c.cut_there.new.state in
    of_taker f c.args.plan.now s c.args.s (events_in m) m.sites.items c.from_residual.result c.requires.state.0
    (sites_may_lose f c.args.plan.now _ (events_in s) (events_in m) (taker_of s.bag.items c.args.s) s.sites.items
    m.sites.items c.from_residual.result (ap events_of c.in_err-cut_there.ensures.err)
    (room_left f s c.requires.state.1)
    c.in_err-cut_there.ensures.power c.from_residual.ensures.1)

-- the power of the peer was cut after the step
was_done : (g : Over) (c : After-add_crash g)
    → PowersEnd g.D.Disk.face (taker_of c.args.state.now.bag.items c.args.s) c.args.state.now.sites.items
    c.cut_there.new.state.sites.items true
was_done g c =
    subst
    (PowersEnd g.D.Disk.face (taker_of c.args.state.now.bag.items c.args.s) c.args.state.now.sites.items
    c.cut_there.new.state.sites.items) c.if-branch.true c.in_ok-cut_there.ensures.power

pub returns-in_err-add_crash-clause-power : goal.returns-in_err-add_crash-clause-power
returns-in_err-add_crash-clause-power g c =
    let at = goal.at.returns-in_err-add_crash-clause-power g c in
    let f = g.D.Disk.face in
    let plan = c.args.plan.now in
    let s = c.args.state.now in
    let t = c.add_crash.new.state in
    let id = taker_of s.bag.items c.args.s in
    let end = ended g at.After-add_crash in
    of_taker f plan s c.args.s (events_in t) t.sites.items c.from_residual-in_err-add_crash.result c.requires.state.0
    (sites_lost f plan (events_in s) (events_in t) id s.sites.items t.sites.items
    c.from_residual-in_err-add_crash.result
    (subst (IsQuiet plan (events_in s)) (sym (ap events_of c.in_err-add_crash.ensures.err ∙ end.0.events))
    (quiet_step plan (events_in s) c.args.s))
    (room_left f s c.requires.state.1)
    (subst (λ (ss : List (Site g.row.D.Denot)). PowersEnd f id s.sites.items ss true)
    (sym c.in_err-add_crash.ensures.sites) (was_done g at.After-add_crash))
    (λ none. absurd
    (is_stopped _ c.from_residual-in_err-add_crash.result c.from_residual-in_err-add_crash.ensures.1 none)))

pub returns-in_ok-add_crash-clause-power : goal.returns-in_ok-add_crash-clause-power
returns-in_ok-add_crash-clause-power g c =
    let at = goal.at.returns-in_ok-add_crash-clause-power g c in
    let f = g.D.Disk.face in
    let plan = c.args.plan.now in
    let s = c.args.state.now in
    let m = c.cut_there.new.state in
    let t = c.add_crash.new.state in
    let id = taker_of s.bag.items c.args.s in
    let end = ended g at.After-add_crash in
    let honest = honest_taker g at.After-add_crash (somebody g at.After-cut_there) in
    let b = c.in_ok-add_crash.ensures.becomes plan end.0.state honest in
    of_taker f plan s c.args.s (events_in t) t.sites.items (Ok (tt {0})) c.requires.state.0
    (sites_done f plan (events_in s) (events_in m) (events_in t) c.args.s id s.sites.items t.sites.items
    end.0.events (b.events ∙ ap (λ (n : ℕ). with_event (events_in m) (events.Crash n)) (taker_is g at.After-taker-id))
    (room_left f s c.requires.state.1)
    (subst (λ (ss : List (Site g.row.D.Denot)). PowersEnd f id s.sites.items ss true)
    (sym c.in_ok-add_crash.ensures.sites) (was_done g at.After-add_crash)))

pub returns-else-branch-clause-power : goal.returns-else-branch-clause-power
returns-else-branch-clause-power g c =
    let f = g.D.Disk.face in
    let plan = c.args.plan.now in
    let s = c.args.state.now in
    let p = c.args.s in
    let m = c.cut_there.new.state in
    let id = taker_of s.bag.items p in
    let end = subst (HasEnded f plan c.args.power.calls s p m) c.if-branch.false c.in_ok-cut_there.ensures.ended in
    sites_cut f plan _ (events_in s) (events_in m) p end.0 id s.sites.items m.sites.items end.1.events
    (room_left f s c.requires.state.1) (ap (λ w. taker_of w.bag p) c.requires.state.0.world)
    (subst (PowersEnd f id s.sites.items m.sites.items) c.if-branch.false c.in_ok-cut_there.ensures.power)

pub returns-in_err-cut_there-clause-extends : goal.returns-in_err-cut_there-clause-extends
returns-in_err-cut_there-clause-extends g c =
    extends_same g.D.Disk.face c.args.plan.now c.args.state.now c.cut_there.new.state.history.items
    c.requires.state.0 c.in_err-cut_there.ensures.err
