use Rattle.std.proofs.Common.{◌∙◌, sym, refl}
use Rattle.std.proofs.lemmas.List.{append-nil}
use Rattle.std.specs.Prelude.{[], Ok}
use Rattle.lks_watch.specs.Watching.{ears}
use Rattle.lks_world.proofs.HostLaws.{ok_then}
use Rattle.lks_world.proofs.Keeping.{extends_same}
use Rattle.lks_world.proofs.NextLaws.{kept_again, never_sent, sent_doable}
use Rattle.lks_world.proofs.PowerEnds.{power_still, sites_still}
use Rattle.lks_world.proofs.Stopped.{err_map, stopped_on}
use Rattle.lks_world.proofs.Watched.{watched_still}
use Rattle.lks_world.specs.States.{events_in}
use Rattle.lks_world.proofs.doing.deliver_again.Goals as goal

pub returns-then-not-was_sent-clause-becomes : goal.returns-then-not-was_sent-clause-becomes
returns-then-not-was_sent-clause-becomes g c = λ plan is heard.
    never_sent g.D.Disk.face plan c.args.state.now is (g.J.EffortJudge.verdict c.args.watch.now.judge)
    c.args.envelope (sym c.was_sent.ensures ∙ c.if-not-was_sent.true)

pub returns-then-not-was_sent-clause-watches : goal.returns-then-not-was_sent-clause-watches
returns-then-not-was_sent-clause-watches g c = λ plan is heard.
    watched_still g.D.Disk.face (ears g.J.EffortJudge.heard g.J.EffortJudge.verdict g.B.Bell.rung g.B.Bell.limit)
    plan c.args.state.now c.args.state.now c.args.watch.now refl

pub returns-then-not-was_sent-clause-extends : goal.returns-then-not-was_sent-clause-extends
returns-then-not-was_sent-clause-extends g c =
    λ plan is heard. extends_same g.D.Disk.face plan c.args.state.now c.args.state.now.history.items is refl

pub add_due-requires-after_bounds : goal.add_due-requires-after_bounds
add_due-requires-after_bounds g c κs within = (
  c.requires.0,
  sent_doable g.D.Disk.face c.requires.0 c.args.state.now c.requires.1 g.J.EffortJudge.heard c.args.watch.now
      c.requires.2 c.args.envelope (sym c.was_sent.ensures ∙ c.if-not-was_sent.false),
)

pub returns-clause-becomes : goal.returns-clause-becomes
returns-clause-becomes g c = λ plan is heard.
    let f = g.D.Disk.face in
    let s = c.args.state.now in
    let sent = sym c.was_sent.ensures ∙ c.if-not-was_sent.false in
    ok_then c.add_due.result
    (λ b.
    record {
      state = b.state;
      events = b.events
          ∙ kept_again f plan s is (g.J.EffortJudge.verdict c.args.watch.now.judge) c.args.envelope sent;
    })
    (c.add_due.ensures.becomes plan
    (sent_doable f plan s is g.J.EffortJudge.heard c.args.watch.now heard c.args.envelope sent))

pub returns-clause-watches : goal.returns-clause-watches
returns-clause-watches g c = λ plan is heard.
    c.add_due.ensures.watches plan
    (sent_doable g.D.Disk.face plan c.args.state.now is g.J.EffortJudge.heard c.args.watch.now heard
    c.args.envelope (sym c.was_sent.ensures ∙ c.if-not-was_sent.false))

pub returns-clause-extends : goal.returns-clause-extends
returns-clause-extends g c = λ plan is heard.
    c.add_due.ensures.extends plan
    (sent_doable g.D.Disk.face plan c.args.state.now is g.J.EffortJudge.heard c.args.watch.now heard
    c.args.envelope (sym c.was_sent.ensures ∙ c.if-not-was_sent.false))

pub returns-clause-stops : goal.returns-clause-stops
returns-clause-stops g c = λ plan is heard.
    let f = g.D.Disk.face in
    let s = c.args.state.now in
    let sent = sym c.was_sent.ensures ∙ c.if-not-was_sent.false in
    let again = kept_again f plan s is (g.J.EffortJudge.verdict c.args.watch.now.judge) c.args.envelope sent in
    err_map c.add_due.result
    (stopped_on f (ears g.J.EffortJudge.heard g.J.EffortJudge.verdict g.B.Bell.rung g.B.Bell.limit) plan _ _
    (events_in s) c.add_due.new.state c.args.watch.now c.add_due.new.watch
    (λ whole is. ([], append-nil whole ∙ is ∙ again)))
    (c.add_due.ensures.stops plan
    (sent_doable f plan s is g.J.EffortJudge.heard c.args.watch.now heard c.args.envelope sent))

pub returns-then-not-was_sent-clause-power : goal.returns-then-not-was_sent-clause-power
returns-then-not-was_sent-clause-power g c = λ plan who.
    let s = c.args.state.now in
    sites_still g.D.Disk.face plan who (events_in s) (events_in s) s.sites.items s.sites.items (Ok (tt {0})) refl
    (power_still g.D.Disk.face s.sites.items s.sites.items refl)
