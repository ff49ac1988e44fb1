use Rattle.std.proofs.Common.{rules, arith, ◌∙◌, ◌++◌, [], ap, sym, subst, refl}
use Rattle.std.specs.Prelude.{Some, None, reverse, map}
use Rattle.std.proofs.lemmas.List.{reverse-reverse}
use Rattle.lks_world.proofs.FuseLaws.{same_fuses, fuses_told, fresh_unfused}
use Rattle.lks_watch.specs.declared.watches.Watch.{Watch}
use Rattle.lks_outside.specs.Bells.{left_of, seen}
use Rattle.lks_watch.specs.Watching.{ears}
use Rattle.lks_world.proofs.Remembering.{begins_watched}
use Rattle.lks_world.specs.Counts.{ServesHonest}
use Rattle.lks_world.specs.Held.{AreFresh}
use Rattle.lks_world.specs.Powers.{power_of}
use Rattle.lks_world.specs.Sites.{disks_at}
use Rattle.lks_world.specs.States.{events_of}
use Rattle.lks_world.proofs.worlds.World.new.Goals as goal

pub begin-requires-clause-disks : goal.begin-requires-clause-disks
begin-requires-clause-disks g c = λ κs lives. record {
  good = c.requires.good;
  enough = search rules;
  fresh =
      subst (AreFresh g.D.Disk.face)
      (sym (ap reverse c.turn_round.ensures.items ∙ reverse-reverse c.args.disks.items)) c.requires.fresh;
}

pub invariant_of-result : goal.invariant_of-result
invariant_of-result g c =
    let f = g.D.Disk.face in
    let disks = c.args.disks.items in
    let back = ap reverse c.turn_round.ensures.items ∙ reverse-reverse disks in
    let made = c.in-Ok.ensures in
    record {
      good = c.requires.good;
      happened = made.state.happened;
      used = omega arith;
      entries = made.state.entries;
      state = λ running. made.state;
      watched = λ running.
          begins_watched (ears g.J.EffortJudge.heard g.J.EffortJudge.verdict g.B.Bell.rung g.B.Bell.limit)
          c.args.plan c.of-first_limits.result.numbers (events_of c.in-Ok.state.history.items)
          c.new.result.judge c.new.result.desk
          (ap events_of made.nothing)
          (ap (λ (w : Watch g.row.J.Denot g.row.B.Denot). g.J.EffortJudge.heard w.judge) c.new.ensures
          ∙ c.requires.unasked)
          (ap (λ (w : Watch g.row.J.Denot g.row.B.Denot). seen g.B.Bell.rung g.B.Bell.limit w.desk) c.new.ensures
          ∙ c.requires.silent ∙ ap (left_of []) (sym c.of-first_limits.ensures));
      halted = λ fault is. absurd cc;
      sites = made.sites;
      unfused =
          let now = disks_at c.in-Ok.state.sites.items ++ reverse c.begin.new.disks.items in
          same_fuses f disks now (fuses_told f disks now (made.power ∙ ap (map (power_of f)) back))
          (fresh_unfused f disks c.requires.fresh);
      room = made.room;
      served = record {
        first = disks;
        counted = sym c.of-first_faults.ensures;
        serves =
            subst
            (λ ds. ServesHonest f c.args.plan.peers ds
            (disks_at c.in-Ok.state.sites.items ++ reverse c.begin.new.disks.items) None) back made.serves;
      };
    }

pub returns-in-Ok-clause-disks : goal.returns-in-Ok-clause-disks
returns-in-Ok-clause-disks g c =
    let back = ap reverse c.turn_round.ensures.items ∙ reverse-reverse c.args.disks.items in
    subst
    (λ ds. ServesHonest g.D.Disk.face c.args.plan.peers ds
    (disks_at c.in-Ok.state.sites.items ++ reverse c.begin.new.disks.items) None) back c.in-Ok.ensures.serves

pub returns-clause-disks : goal.returns-clause-disks
returns-clause-disks g c =
    let back = ap reverse c.turn_round.ensures.items ∙ reverse-reverse c.args.disks.items in
    let given = c.turn_round-in-Err.ensures.items in
    subst (λ ds. ServesHonest g.D.Disk.face c.args.plan.peers c.args.disks.items ds (Some c.in-Err.fault)) (sym given)
    (subst
    (λ ds. ServesHonest g.D.Disk.face c.args.plan.peers ds (reverse c.begin.new.disks.items)
    (Some c.in-Err.fault)) back c.in-Err.ensures.serves)

pub returns-clause-refused : goal.returns-clause-refused
returns-clause-refused g c =
    let f = g.D.Disk.face in
    let disks = c.args.disks.items in
    let back = ap reverse c.turn_round.ensures.items ∙ reverse-reverse disks in
    let given = c.turn_round-in-Err.ensures.items in (
      search rules,
      same_fuses f disks _
          (fuses_told f disks _ (ap (map (power_of f)) given ∙ c.in-Err.ensures.power ∙ ap (map (power_of f)) back))
          (fresh_unfused f disks c.requires.fresh),
      refl,
      refl,
    )

pub returns-in-Ok-clause-power : goal.returns-in-Ok-clause-power
returns-in-Ok-clause-power g c =
    let back = ap reverse c.turn_round.ensures.items ∙ reverse-reverse c.args.disks.items in
    c.in-Ok.ensures.power ∙ ap (map (power_of g.D.Disk.face)) back

pub returns-clause-power : goal.returns-clause-power
returns-clause-power g c =
    let back = ap reverse c.turn_round.ensures.items ∙ reverse-reverse c.args.disks.items in
    let given = c.turn_round-in-Err.ensures.items in
    ap (map (power_of g.D.Disk.face)) given ∙ c.in-Err.ensures.power ∙ ap (map (power_of g.D.Disk.face)) back

pub returns-in-Ok-clause-begins : goal.returns-in-Ok-clause-begins
returns-in-Ok-clause-begins g c = record {
  plan = refl;
  pooled = c.in-Ok.ensures.pool;
  limits = c.of-first_limits.ensures;
  counts = c.of-first_faults.ensures;
  history = ap events_of c.in-Ok.ensures.nothing;
  turns = refl;
  out = search rules;
  running = refl;
  judge = ap (λ (w : Watch g.row.J.Denot g.row.B.Denot). w.judge) c.new.ensures;
  bells = ap (λ (w : Watch g.row.J.Denot g.row.B.Denot). w.desk) c.new.ensures;
}
