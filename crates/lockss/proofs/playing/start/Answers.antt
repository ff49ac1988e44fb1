use Rattle.std.proofs.Common.{◌∙◌, ap, sym, subst, arith, length}
use Rattle.std.specs.Prelude.{Some, map}
use Rattle.lks_watch.specs.Watching.{ears}
use Rattle.lks_world.specs.Counts.{ServesHonest}
use Rattle.lks_world.specs.Held.{AreFresh, HaveBegunUpTo}
use Rattle.lks_world.specs.Powers.{power_of}
use Rattle.lks_world.specs.Worlds.{AreSilent, Begins}
use Rattle.lockss.proofs.Played.{silent_left}
use Rattle.lockss.proofs.playing.start.Goals as goal

pub new-requires-3-clause-enough : goal.new-requires-3-clause-enough
new-requires-3-clause-enough g c = λ κs lives.
    let handed = ap (λ v. length v.items) c.replace-handed.ensures.value in
    omega (arith, c.requires.enough, handed)

pub new-requires-3-clause-fresh : goal.new-requires-3-clause-fresh
new-requires-3-clause-fresh g c =
    λ κs lives. subst (AreFresh g.D.Disk.face) (sym (ap (λ v. v.items) c.replace-handed.ensures.value))
    c.requires.fresh

pub new-requires-3-clause-silent : goal.new-requires-3-clause-silent
new-requires-3-clause-silent g c = λ κs lives.
    subst (AreSilent (ears g.J.EffortJudge.heard g.J.EffortJudge.verdict g.B.Bell.rung g.B.Bell.limit))
    (sym (ap (λ v. v.items) c.replace-hung.ensures.value))
    (silent_left g.B.Bell.rung g.B.Bell.limit c.args.bells.now.items c.requires.silent)

pub returns-in-Ok-clause-starts : goal.returns-in-Ok-clause-starts
returns-in-Ok-clause-starts g c =
    let f = g.D.Disk.face in
    let e = ears g.J.EffortJudge.heard g.J.EffortJudge.verdict g.B.Bell.rung g.B.Bell.limit in
    let plan = c.args.plan in
    let world = c.in-Ok.world in
    let asked = c.in-Some.asked in
    let pool = c.args.pool.now in
    let hung = ap (λ v. v.items) c.replace-hung.ensures.value in
    let handed = ap (λ v. v.items) c.replace-handed.ensures.value in
    record {
      asked = asked;
      is = sym c.take.ensures.value ∙ c.in-Some.is;
      begins =
          subst (λ disks. Begins e plan pool (map f.faults disks) asked c.args.bells.now.items world) handed
          (subst (λ bells. Begins e plan pool (map f.faults c.replace-handed.result.items) asked bells world) hung
          c.in-Ok.ensures.begins);
      made = subst (λ disks. ServesHonest f plan.peers disks world.disks _) handed c.in-Ok.ensures.disks;
      calm = c.in-Ok.ensures.power ∙ ap (map (power_of f)) handed;
    }

pub returns-in-Err-clause-refused : goal.returns-in-Err-clause-refused
returns-in-Err-clause-refused g c =
    let f = g.D.Disk.face in
    let plan = c.args.plan in
    let disks = c.args.disks.now.items in
    let parts = c.in-Err.parts.disks.items in
    let handed = ap (λ v. v.items) c.replace-handed.ensures.value in
    record {
      served =
          subst (λ ds. ServesHonest f plan.peers disks ds (Some c.in-Err.fault)) (sym c.hand_back.ensures.disks)
          (subst (λ ds. ServesHonest f plan.peers ds parts (Some c.in-Err.fault)) handed c.in-Err.ensures.disks);
      begun =
          subst (HaveBegunUpTo f plan disks) (sym c.hand_back.ensures.disks)
          (subst (λ ds. HaveBegunUpTo f plan ds parts) handed c.in-Err.ensures.made);
      power = ap (map (power_of f)) c.hand_back.ensures.disks ∙ c.in-Err.ensures.power ∙ ap (map (power_of f)) handed;
    }

pub returns-in-Err-clause-back : goal.returns-in-Err-clause-back
returns-in-Err-clause-back g c =
    let refused = c.in-Err.ensures.refused in (
      c.hand_back.ensures.judge ∙ ap Some refused.2 ∙ sym (sym c.take.ensures.value ∙ c.in-Some.is),
      c.hand_back.ensures.bells ∙ refused.3 ∙ ap (λ v. v.items) c.replace-hung.ensures.value,
    )
