use Rattle.std.proofs.Common.{◌≡◌, ◌≤◌, ◌-◌, ◌==◌, ◌∙◌, ap, arith}
use Rattle.std.specs.Prelude.{not, filter}
use Rattle.std.specs.List.{range_with_len}
use Rattle.std.proofs.lemmas.Grind.{common_steps}
use Rattle.lks_drill.specs.Drill.{others_than}
use Rattle.lks_drill.proofs.Ranges.{other_kept, other_left}
use Rattle.lks_drill.proofs.peers.others.Goals.{then-id-peer+in_ok-push, else-id-peer}
use Rattle.lks_drill.proofs.peers.others.Goals as goal

pub loop-id-preserved : goal.loop-id-preserved
loop-id-preserved c =
    let some : 1 ≤ c.loop-id.id = omega arith in
    elim c.if-id-peer.branch [
      | then-id-peer+in_ok-push w
          ↦ grind (
            arith,
            common_steps,
            other_kept c.args.peer c.loop-id.id some w.if-id-peer.true,
            w.in_ok-push.ensures.items,
          )
      | else-id-peer w ↦ grind (arith, common_steps, other_left c.args.peer c.loop-id.id some w.if-id-peer.false)
    ]

pub returns : goal.returns
unfolding others_than
returns c =
    let all : c.loop-id.id - 1 ≡ 12 = omega arith in
    c.from_vec.ensures ∙ c.loop-id.invariant ∙ ap (λ n. filter (λ id. not (id == c.args.peer)) (range_with_len 1 n)) all
