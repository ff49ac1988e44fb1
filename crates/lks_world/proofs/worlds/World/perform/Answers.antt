use Rattle.std.proofs.Common.{◌≡◌, ◌∙◌, ◌++◌, ap, sym, arith, length, subst}
use Rattle.std.specs.Prelude.{Some, None, Ok, Err, reverse}
use Rattle.std.proofs.lemmas.List.{length-map}
use Rattle.lks_base.specs.declared.plans.Plan.{Plan}
use Rattle.lks_script.specs.StepRules.{is_step_of}
use Rattle.lks_world.proofs.CutLaws.{if_some}
use Rattle.lks_world.proofs.Remembering.{performs_watched, served_on}
use Rattle.lks_world.proofs.FuseLaws.{same_fuses}
use Rattle.lks_world.proofs.SiteLaws.{fuses_joined}
use Rattle.lks_world.specs.Counts.{ServesHonest}
use Rattle.lks_world.specs.Cuts.{step_cut}
use Rattle.lks_world.specs.States.{events_in}
use Rattle.lks_world.specs.Sites.{disks_at, id_at}
use Rattle.lks_world.specs.Worlds.{Seen}
use Rattle.lks_world.proofs.SiteLaws.{disks_left}
use Rattle.lks_world.proofs.Turned.{halts_at}
use Rattle.lks_watch.specs.Watching.{ears}
use Rattle.lks_world.specs.Stopping.{StopsIn}
use Rattle.lks_world.proofs.PowerEnds.{honest_power}
use Rattle.lks_world.specs.Worlds.{HaveServed, PerformsIn, SpendsPower, seen_in}
use Rattle.lks_world.specs.declared.worlds.World.TheInside.{Inside}
use Rattle.lks_world.proofs.worlds.World.perform.Goals as goal

pub returns-in-Ok-clause-disks : goal.returns-in-Ok-clause-disks
returns-in-Ok-clause-disks g c =
    let a = c.self.inside in
    subst
    (λ (v : Seen g.row.D.Denot g.row.J.Denot g.row.B.Denot). ServesHonest g.D.Disk.face v.plan.peers v.disks
    (disks_at c.perform.new.state.sites.items ++ reverse a.rest.items) None) c.self.view_is
    (c.in-Ok.ensures.counted.serves a.plan.peers (reverse a.rest.items) c.self.invariant.sites)

pub returns-in-Err-clause-disks : goal.returns-in-Err-clause-disks
returns-in-Err-clause-disks g c =
    let a = c.self.inside in
    subst
    (λ (v : Seen g.row.D.Denot g.row.J.Denot g.row.B.Denot). ServesHonest g.D.Disk.face v.plan.peers v.disks
    (disks_at c.perform.new.state.sites.items ++ reverse a.rest.items) (Some c.in-Err.fault)) c.self.view_is
    (c.in-Err.ensures.counted.serves a.plan.peers (reverse a.rest.items) c.self.invariant.sites)

pub invariant_of-self : goal.invariant_of-self
invariant_of-self g c =
    let f = g.D.Disk.face in
    let a = c.self.inside in
    let kept = c.self.invariant in
    let runs : a.stopped
    ≡ None = ap (λ (v : Seen g.row.D.Denot g.row.J.Denot g.row.B.Denot). v.stopped) c.self.view_is
    ∙ c.requires.running in
    let did = c.in-Ok.ensures in
    let before = a.state.sites.items in
    let after = c.perform.new.state.sites.items in
    record {
      good = kept.good;
      happened = did.extends.happened;
      used = kept.used;
      entries = did.extends.entries;
      state = λ running. did.state;
      watched = λ running.
          performs_watched (ears g.J.EffortJudge.heard g.J.EffortJudge.verdict g.B.Bell.rung g.B.Bell.limit) a.plan
          a.first_limits.numbers (events_in a.state) (events_in c.perform.new.state) a.watch c.perform.new.watch
          c.args.step.now
          (ap (λ (p : Plan). is_step_of p c.args.step.now)
          (ap (λ (v : Seen g.row.D.Denot g.row.J.Denot g.row.B.Denot). v.plan) c.self.view_is)
          ∙ c.requires.legal) (kept.watched runs) did.performs.0 did.performs.1;
      halted = λ fault is. absurd cc;
      sites = did.counted.ids ∙ kept.sites;
      unfused =
          same_fuses f (disks_at before ++ reverse a.rest.items) (disks_at after ++ reverse a.rest.items)
          (fuses_joined f (disks_at before) (disks_at after) (reverse a.rest.items) did.counted.fuses)
          kept.unfused;
      room = omega (arith, kept.room, ap length did.counted.ids, length-map before id_at, length-map after id_at);
      served =
          subst
          (λ fault. HaveServed f a.plan.peers a.first_faults.numbers (disks_at after ++ reverse a.rest.items)
          fault) (sym runs)
          (served_on f a.plan.peers a.first_faults.numbers (disks_at before ++ reverse a.rest.items)
          (disks_at after ++ reverse a.rest.items) None
          (subst
          (λ fault. HaveServed f a.plan.peers a.first_faults.numbers (disks_at before ++ reverse a.rest.items)
          fault) runs kept.served) (did.counted.serves a.plan.peers (reverse a.rest.items) kept.sites));
    }

pub invariant_of-self-in-Err : goal.invariant_of-self-in-Err
invariant_of-self-in-Err g c =
    let f = g.D.Disk.face in
    let e = (ears g.J.EffortJudge.heard g.J.EffortJudge.verdict g.B.Bell.rung g.B.Bell.limit) in
    let a = c.self.inside in
    let kept = c.self.invariant in
    let runs : a.stopped
    ≡ None = ap (λ (v : Seen g.row.D.Denot g.row.J.Denot g.row.B.Denot). v.stopped) c.self.view_is
    ∙ c.requires.running in
    let did = c.in-Err.ensures in
    let before = a.state.sites.items in
    let after = c.perform.new.state.sites.items in
    record {
      good = kept.good;
      happened = did.extends.happened;
      used = kept.used;
      entries = did.extends.entries;
      state = λ running. absurd cc;
      watched = λ running. absurd cc;
      halted =
          λ fault is. halts_at f e a kept runs c.perform.new.state c.perform.new.watch did.stops.next did.stops.may
          did.stops.stops did.stops.left (did.counted.ids ∙ kept.sites);
      sites = did.counted.ids ∙ kept.sites;
      unfused =
          same_fuses f (disks_at before ++ reverse a.rest.items) (disks_at after ++ reverse a.rest.items)
          (fuses_joined f (disks_at before) (disks_at after) (reverse a.rest.items) did.counted.fuses)
          kept.unfused;
      room = omega (arith, kept.room, ap length did.counted.ids, length-map before id_at, length-map after id_at);
      served =
          served_on f a.plan.peers a.first_faults.numbers (disks_at before ++ reverse a.rest.items)
          (disks_at after ++ reverse a.rest.items) (Some c.in-Err.fault)
          (subst
          (λ fault. HaveServed f a.plan.peers a.first_faults.numbers (disks_at before ++ reverse a.rest.items)
          fault) runs kept.served) (did.counted.serves a.plan.peers (reverse a.rest.items) kept.sites);
    }

pub returns-in-Err-clause-stops : goal.returns-in-Err-clause-stops
returns-in-Err-clause-stops g c =
    let f = g.D.Disk.face in
    let e = (ears g.J.EffortJudge.heard g.J.EffortJudge.verdict g.B.Bell.rung g.B.Bell.limit) in
    let a = c.self.inside in
    let t = c.perform.new.state in
    let w = c.perform.new.watch in
    let disks = disks_at t.sites.items ++ reverse a.rest.items in
    let had = c.in-Err.ensures.stops in
    let new : Seen g.row.D.Denot g.row.J.Denot g.row.B.Denot = seen_in
    (record {
      alloc = a.alloc;
      plan = a.plan;
      state = t;
      watch = w;
      rest = a.rest;
      stopped = Some c.in-Err.fault;
      turns = a.turns;
      out = a.out;
      first_limits = a.first_limits;
      first_faults = a.first_faults;
    }) in
    let left = disks_left f a.plan had.next t (reverse a.rest.items) had.left
    (c.in-Err.ensures.counted.ids ∙ c.self.invariant.sites) in
    subst (λ (v : Seen g.row.D.Denot g.row.J.Denot g.row.B.Denot). StopsIn f e c.args.step.now v new) c.self.view_is
    (record { next = had.next; up_to = had.up_to; may = had.may; stops = had.stops; left = left })

pub returns-in-Ok-clause-power : goal.returns-in-Ok-clause-power
returns-in-Ok-clause-power g c =
    let f = g.D.Disk.face in
    let a = c.self.inside in
    let t = c.perform.new.state in
    let b : Inside g.row.D.Denot g.row.J.Denot
    g.row.B.Denot = record {
      alloc = a.alloc;
      plan = a.plan;
      state = t;
      watch = c.perform.new.watch;
      rest = a.rest;
      stopped = a.stopped;
      turns = a.turns;
      out = a.out;
      first_limits = a.first_limits;
      first_faults = a.first_faults;
    } in
    let did = c.in-Ok.ensures in
    subst
    (λ (v : Seen g.row.D.Denot g.row.J.Denot g.row.B.Denot). SpendsPower f g.J.EffortJudge.verdict
    c.args.step.now v (seen_in b) (Ok (tt {0}))) c.self.view_is
    (record {
      counted =
          honest_power f a.plan _ (events_in a.state) (events_in t) None a.plan.peers a.state.sites.items
          t.sites.items (reverse a.rest.items) c.self.invariant.sites did.counted.ids did.power;
      burned = λ calls choice given is none.
          if_some (step_cut (g.J.EffortJudge.verdict a.watch.judge) a.plan (events_in a.state) given)
          (λ s burns short room. burns short room a.plan.peers (reverse a.rest.items) c.self.invariant.sites)
          (did.burns calls choice given is);
    })

pub returns-in-Err-clause-power : goal.returns-in-Err-clause-power
returns-in-Err-clause-power g c =
    let f = g.D.Disk.face in
    let a = c.self.inside in
    let t = c.perform.new.state in
    let b : Inside g.row.D.Denot g.row.J.Denot
    g.row.B.Denot = record {
      alloc = a.alloc;
      plan = a.plan;
      state = t;
      watch = c.perform.new.watch;
      rest = a.rest;
      stopped = Some c.in-Err.fault;
      turns = a.turns;
      out = a.out;
      first_limits = a.first_limits;
      first_faults = a.first_faults;
    } in
    let did = c.in-Err.ensures in
    subst
    (λ (v : Seen g.row.D.Denot g.row.J.Denot g.row.B.Denot). SpendsPower {T = Unit {0}} f
    g.J.EffortJudge.verdict c.args.step.now v (seen_in b) (Err c.in-Err.fault)) c.self.view_is
    (record {
      counted =
          honest_power f a.plan _ (events_in a.state) (events_in t) (Some c.in-Err.fault) a.plan.peers
          a.state.sites.items t.sites.items (reverse a.rest.items) c.self.invariant.sites did.counted.ids
          did.power;
      burned = λ calls choice given is none. absurd cc;
    })

pub returns-in-Ok-clause-performs : goal.returns-in-Ok-clause-performs
returns-in-Ok-clause-performs g c =
    let a = c.self.inside in
    subst
    (λ (v : Seen g.row.D.Denot g.row.J.Denot g.row.B.Denot). PerformsIn
    (ears g.J.EffortJudge.heard g.J.EffortJudge.verdict g.B.Bell.rung g.B.Bell.limit) c.args.step.now v
    (seen_in (record a { state = c.perform.new.state; watch = c.perform.new.watch }))) c.self.view_is
    (record { performs = c.in-Ok.ensures.performs.0; watches = c.in-Ok.ensures.performs.1 })
