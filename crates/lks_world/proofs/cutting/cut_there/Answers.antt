use Rattle.std.proofs.Common.{◌≡◌, ◌≤◌, ◌+◌, ◌∙◌, ◌++◌, ◌∷◌, [], length, ap, sym, subst, ℕ, Bool, List, inr}
use Rattle.std.specs.Prelude.{IfSome, Ok, Err, map}
use Rattle.std.specs.List.{filter_map, range_with_len}
use Rattle.std.proofs.lemmas.Result.{err_from_is_err_and}
use Rattle.lks_outside.specs.declared.alarms.Alarm.{Alarm}
use Rattle.lks_base.specs.declared.events.Envelope.{Envelope}
use Rattle.lks_base.specs.declared.reactions.Outgoing.{Outgoing}
use Rattle.lks_law.specs.Facts.{IsHeard}
use Rattle.lks_law.specs.Entries.{carried_envelope, entry_for}
use Rattle.lks_law.specs.World.{deed_of, actor_of, after_step, happens, peers_after, sent_by}
use Rattle.lks_law.specs.Alarms.{alarm_noted}
use Rattle.lks_watch.specs.Watching.{Rings, ears, seen_by}
use Rattle.lks_world.proofs.CutLaws.{if_both, whose_deed}
use Rattle.lks_world.proofs.Ending.{ending_left, made_there, has_ended, burns_unless, counted_still}
use Rattle.lks_world.proofs.Keeping.{can_step, room_left}
use Rattle.lks_world.specs.Cuts.{taker_of}
use Rattle.lks_world.proofs.Watched.{events_noted, watched_ending}
use Rattle.lks_world.specs.Endings.{BurnsUnless, HasEnded, PeersEnd, event_for, notes_for, sends_for}
use Rattle.lks_world.specs.Hosts.{peers_of, HaveGoneOn}
use Rattle.lks_world.specs.Sites.{hosts_of}
use Rattle.lks_world.specs.States.{left_after, world_in}
use Rattle.lks_world.specs.declared.sites.Site.{Site}
use Rattle.lks_world.specs.declared.faults.WorldFault.TheVariants.{Memory}
use Rattle.lks_world.proofs.cutting.cut_there.Given.{Over}
use Rattle.lks_world.proofs.cutting.cut_there.Goals.{After-taker-id, In_ok-note_step}
use Rattle.std.proofs.Common.{refl}
use Rattle.lks_world.proofs.Stopped.{err_then, stops_in}
use Rattle.lks_world.specs.States.{events_of}
use Rattle.lks_base.specs.declared.events.Event.TheVariants.{Step}
use Rattle.lks_world.proofs.Fallen.{ended_either, fallen_on, left_by}
use Rattle.lks_world.specs.Hosts.{HaveFallen}
use Rattle.lks_world.proofs.PowerEnds.{may_lose}
use Rattle.lks_world.specs.Endings.{MayLosePower, PowersEnd, is_whole}
use Rattle.lks_world.proofs.cutting.cut_there.Goals as goal

taker_is : (g : Over) (c : After-taker-id g) → c.taker-id.result ≡ taker_of c.args.state.now.bag.items c.args.s
taker_is g c = c.taker-id.ensures ∙ ap (λ (b : List Envelope). taker_of b c.args.s) c.deref.ensures.value

noted_history : (g : Over) (c : In_ok-note_step g)
    → c.note_step.new.state.history.items
    ≡ c.args.state.now.history.items
    ++ entry_for (event_for c.args.s c.in_ok-ending.ending) (carried_envelope c.args.state.now.bag.items c.args.s)
    (notes_for c.in_ok-ending.ending) (length (sends_for c.in_ok-ending.ending))
    ∷ []
noted_history g c =
    let s = c.args.state.now in
    let told = c.told-event.ensures in
    c.in_ok-note_step.ensures.history
    ∙ (λ i. s.history.items
    ++ entry_for (told.event i) (carried_envelope s.bag.items c.args.s) (told.notes i) (length (told.sends i))
    ∷ [])

pub cut_at-requires-clause-ready : goal.cut_at-requires-clause-ready
cut_at-requires-clause-ready g c κs within =
    can_step g.D.Disk.face c.args.plan.now c.args.state.now c.requires.state c.requires.can.room

pub cut_at-requires-clause-made : goal.cut_at-requires-clause-made
cut_at-requires-clause-made g c κs within =
    made_there g.D.Disk.face c.args.plan.now c.requires.good c.args.state.now c.requires.state

pub cut_at-requires-clause-told : goal.cut_at-requires-clause-told
cut_at-requires-clause-told g c κs within =
    let bag = c.args.state.now.bag.items in
    let s = c.args.s in
    let at = goal.at.cut_at-requires-clause-told g c in
    let deed = c.requires.deed in
    let id = taker_is g at.After-taker-id in
    if_both (λ d. IsHeard d.input) (λ d. d.peer ≡ c.taker-id.result) c.args.deed.now c.requires.heard
    (subst (λ (n : ℕ). IfSome c.args.deed.now (λ d. d.peer ≡ n)) (sym id)
    (subst (λ o. IfSome o (λ d. d.peer ≡ taker_of bag s)) (sym deed) (whose_deed bag s)))

pub note_step-requires-after_bounds : goal.note_step-requires-after_bounds
note_step-requires-after_bounds g c κs within =
    let f = g.D.Disk.face in
    let s = c.args.state.now in
    let after = peers_of f (hosts_of c.cut_at.new.sites.items) in
    let ends =
    subst
    (λ o. PeersEnd s.tick o c.args.power.calls (peers_of f (hosts_of s.sites.items)) after
    c.in_ok-ending.ending) c.requires.deed c.in_ok-ending.ensures.ends in
    subst (λ (sends : List Outgoing). length s.bag.items + length sends ≤ 4294967295) (sym c.told-event.ensures.sends)
    (ending_left f c.args.plan.now s c.args.s c.args.power.calls after c.in_ok-ending.ending c.requires.state
    c.requires.can.room ends)

pub returns-in_err-note_step-clause-counted : goal.returns-in_err-note_step-clause-counted
returns-in_err-note_step-clause-counted g c =
    let p = err_from_is_err_and c.from_residual-in_err-note_step.result c.from_residual-in_err-note_step.ensures.1 in
    rw (p.1, p.2)
    (counted_still {T = Bool} g.D.Disk.face c.args.state.now.sites.items c.cut_at.new.sites.items
    c.note_step.new.state.sites.items (Ok c.in_ok-ending.ending) (Err Memory)
    c.in_ok-ending.ensures.counted c.in_err-note_step.ensures.sites (λ id is. absurd cc))

pub returns-clause-ended : goal.returns-clause-ended
returns-clause-ended g c =
    let f = g.D.Disk.face in
    let s = c.args.state.now in
    let t = c.note_step.new.state in
    let p = c.args.s in
    let e = c.in_ok-ending.ending in
    let plan = c.args.plan.now in
    let calls = c.args.power.calls in
    let noted = c.in_ok-note_step.ensures in
    let told = c.told-event.ensures in
    let at = goal.at.returns-clause-ended g c in
    let deed = c.requires.deed in
    let actor = c.actor.ensures ∙ ap actor_of deed in
    let ends =
    subst
    (λ (ss : List (Site g.row.D.Denot)). PeersEnd s.tick (deed_of s.bag.items p) calls
    (peers_of f (hosts_of s.sites.items)) (peers_of f (hosts_of ss)) e) (sym noted.sites)
    (subst
    (λ o. PeersEnd s.tick o calls (peers_of f (hosts_of s.sites.items))
    (peers_of f (hosts_of c.cut_at.new.sites.items)) e) deed c.in_ok-ending.ensures.ends) in
    let on = subst (λ (ss : List (Site g.row.D.Denot)). HaveGoneOn f (hosts_of s.sites.items) (hosts_of ss))
    (sym noted.sites) c.in_ok-ending.ensures.on in
    subst (HasEnded f plan calls s p t) (sym c.whole-whole.ensures)
    (has_ended f plan s t p calls c.requires.state (room_left f s c.requires.can.room) c.requires.can.may e ends
    noted.tick
    (noted.bag ∙ (λ i. s.bag.items ++ map (sent_by (actor i)) (told.sends i)))
    (noted.pending
    ∙ ap
    (λ (sends : List Outgoing). left_after p s.pending.items
    ++ range_with_len (length s.bag.items) (length sends)) told.sends)
    (noted_history g at.In_ok-note_step)
    on noted.pool)

pub returns-clause-watches : goal.returns-clause-watches
returns-clause-watches g c = λ first asks.
    let f = g.D.Disk.face in
    let e = ears g.J.EffortJudge.heard g.J.EffortJudge.verdict g.B.Bell.rung g.B.Bell.limit in
    let s = c.args.state.now in
    let t = c.note_step.new.state in
    let p = c.args.s in
    let end = c.in_ok-ending.ending in
    let plan = c.args.plan.now in
    let calls = c.args.power.calls in
    let noted = c.in_ok-note_step.ensures in
    let told = c.told-event.ensures in
    let at = goal.at.returns-clause-watches g c in
    let deed = c.requires.deed in
    let actor = c.actor.ensures ∙ ap actor_of deed in
    let after = peers_of f (hosts_of c.cut_at.new.sites.items) in
    watched_ending f e plan s t p calls after end first c.args.watch.now c.note_step.new.watch c.requires.state
    (subst (λ o. PeersEnd s.tick o calls (peers_of f (hosts_of s.sites.items)) after end) deed
    c.in_ok-ending.ensures.ends)
    (events_noted f e plan s t (event_for p end) (carried_envelope s.bag.items p) (notes_for end)
    (length (sends_for end))
    (noted_history g at.In_ok-note_step))
    asks
    (subst (λ (raised : List Alarm). Rings raised (seen_by e c.args.watch.now) (seen_by e c.note_step.new.watch))
    (λ i. filter_map (alarm_noted (actor i) s.tick) (told.notes i)) noted.hears)

pub returns-clause-burns : goal.returns-clause-burns
returns-clause-burns g c =
    let f = g.D.Disk.face in
    let s = c.args.state.now in
    let calls = c.args.power.calls in
    let choice = c.args.power.choice in
    let id = taker_is g (goal.at.returns-clause-burns g c).After-taker-id in
    subst
    (λ (n : ℕ). BurnsUnless f calls choice n s.sites.items c.note_step.new.state.sites.items
    c.whole-whole.result) id
    (subst
    (λ (ss : List (Site g.row.D.Denot)). BurnsUnless f calls choice c.taker-id.result s.sites.items ss
    c.whole-whole.result) (sym c.in_ok-note_step.ensures.sites)
    (subst (BurnsUnless f calls choice c.taker-id.result s.sites.items c.cut_at.new.sites.items)
    (sym c.whole-whole.ensures)
    (burns_unless f calls choice c.taker-id.result s.sites.items c.cut_at.new.sites.items c.in_ok-ending.ending
    c.in_ok-ending.ensures.burns)))

pub returns-in_err-ending-clause-stops : goal.returns-in_err-ending-clause-stops
returns-in_err-ending-clause-stops g c = λ first asks.
    err_then c.from_residual.result
    (stops_in g.D.Disk.face (ears g.J.EffortJudge.heard g.J.EffortJudge.verdict g.B.Bell.rung g.B.Bell.limit)
    c.args.plan.now c.args.state.now _ c.args.s first c.args.watch.now c.args.watch.now c.requires.state refl
    asks refl)

pub returns-in_err-note_step-clause-stops : goal.returns-in_err-note_step-clause-stops
returns-in_err-note_step-clause-stops g c = λ first asks.
    err_then c.from_residual-in_err-note_step.result
    (stops_in g.D.Disk.face (ears g.J.EffortJudge.heard g.J.EffortJudge.verdict g.B.Bell.rung g.B.Bell.limit)
    c.args.plan.now c.args.state.now _ c.args.s first c.args.watch.now c.note_step.new.watch c.requires.state
    (ap events_of c.in_err-note_step.ensures.err) asks c.in_err-note_step.ensures.hears)

pub returns-in_err-ending-clause-fallen : goal.returns-in_err-ending-clause-fallen
unfolding happens after_step
returns-in_err-ending-clause-fallen g c =
    let f = g.D.Disk.face in
    let s = c.args.state.now in
    let deed = c.requires.deed in
    err_then c.from_residual.result
    (left_by f c.args.plan.now s (record s { sites = c.cut_at.new.sites }) c.requires.state refl c.args.s
    (subst
    (λ o. HaveFallen f (hosts_of s.sites.items) (peers_after s.tick (peers_of f (hosts_of s.sites.items)) o)
    (hosts_of c.cut_at.new.sites.items)) deed c.in_err-ending.ensures.fallen))

pub returns-in_err-note_step-clause-fallen : goal.returns-in_err-note_step-clause-fallen
unfolding happens after_step
returns-in_err-note_step-clause-fallen g c =
    let f = g.D.Disk.face in
    let s = c.args.state.now in
    let deed = c.requires.deed in
    err_then c.from_residual-in_err-note_step.result
    (left_by f c.args.plan.now s c.note_step.new.state c.requires.state
    (ap events_of c.in_err-note_step.ensures.err) c.args.s
    (subst
    (λ (ss : List (Site g.row.D.Denot)). HaveFallen f (hosts_of s.sites.items)
    (happens (world_in f s) (Step c.args.s)).peers (hosts_of ss)) (sym c.in_err-note_step.ensures.sites)
    (fallen_on f (hosts_of s.sites.items) (hosts_of c.cut_at.new.sites.items) _ c.in_ok-ending.ensures.on
    (ended_either s.tick c.args.deed.now c.args.power.calls (peers_of f (hosts_of s.sites.items))
    (peers_of f (hosts_of c.cut_at.new.sites.items)) _ c.in_ok-ending.ending c.in_ok-ending.ensures.ends
    (ap (peers_after s.tick (peers_of f (hosts_of s.sites.items))) (sym deed))))))

pub returns-in_err-ending-clause-power : goal.returns-in_err-ending-clause-power
returns-in_err-ending-clause-power g c =
    let s = c.args.state.now in
    let id = taker_is g (goal.at.returns-in_err-ending-clause-power g c).After-taker-id in
    may_lose g.D.Disk.face _ (λ is_done. is_done) (taker_of s.bag.items c.args.s) s.sites.items
    c.cut_at.new.sites.items c.from_residual.result c.from_residual.ensures.1
    (subst (λ (n : ℕ). MayLosePower g.D.Disk.face n s.sites.items c.cut_at.new.sites.items) id
    c.in_err-ending.ensures.power)

pub returns-in_err-note_step-clause-power : goal.returns-in_err-note_step-clause-power
returns-in_err-note_step-clause-power g c =
    let s = c.args.state.now in
    let id = taker_is g (goal.at.returns-in_err-note_step-clause-power g c).After-taker-id in
    may_lose g.D.Disk.face _ (λ is_done. is_done) (taker_of s.bag.items c.args.s) s.sites.items
    c.note_step.new.state.sites.items c.from_residual-in_err-note_step.result
    c.from_residual-in_err-note_step.ensures.1
    (subst (λ (n : ℕ). MayLosePower g.D.Disk.face n s.sites.items c.note_step.new.state.sites.items) id
    (subst (λ (ss : List (Site g.row.D.Denot)). MayLosePower g.D.Disk.face c.taker-id.result s.sites.items ss)
    (sym c.in_err-note_step.ensures.sites)
    (inr (is_whole c.in_ok-ending.ending, c.in_ok-ending.ensures.power))))

pub returns-clause-power : goal.returns-clause-power
returns-clause-power g c =
    let f = g.D.Disk.face in
    let s = c.args.state.now in
    let id = taker_is g (goal.at.returns-clause-power g c).After-taker-id in
    subst (λ (n : ℕ). PowersEnd f n s.sites.items c.note_step.new.state.sites.items c.whole-whole.result) id
    (subst (λ (ss : List (Site g.row.D.Denot)). PowersEnd f c.taker-id.result s.sites.items ss c.whole-whole.result)
    (sym c.in_ok-note_step.ensures.sites)
    (subst (PowersEnd f c.taker-id.result s.sites.items c.cut_at.new.sites.items) (sym c.whole-whole.ensures)
    c.in_ok-ending.ensures.power))
