use Rattle.std.proofs.Common.{◌≡◌, ◌-◌, ◌∙◌, ◌++◌, ap, arith}
use Rattle.std.specs.List.{range_with_len, flat_map}
use Rattle.std.proofs.lemmas.Grind.{common_steps}
use Rattle.lks_drill.specs.Drill.{audit_of, audits_of}
use Rattle.lks_drill.proofs.Ranges.{flat_map_to}
use Rattle.lks_drill.proofs.drills.add_audits.Goals as goal

pub loop-au-preserved : goal.loop-au-preserved
loop-au-preserved c =
    rw (flat_map_to (audit_of c.args.peer) c.loop-au.au (omega arith))
    (grind (arith, common_steps, c.in_ok-push.ensures.items, c.in_ok-push-2.ensures.items))

pub returns : goal.returns
unfolding audits_of
returns c =
    let all : c.loop-au.au - 1 ≡ 2 = omega arith in
    c.loop-au.invariant ∙ ap (λ n. c.args.steps.now.items ++ flat_map (audit_of c.args.peer) (range_with_len 1 n)) all
