use Rattle.std.proofs.Common.{ap, sym, subst, arith, length, ◌∷◌, [], length-append}
use Rattle.lks_disk.specs.MemFace.{mem_face}
use Rattle.lks_world.specs.Held.{AreFresh}
use Rattle.lks_run_trials.proofs.FreshDisks.{fresh_more}
use Rattle.lks_run_trials.proofs.world.ordinary.fresh_disks.Goals as goal

pub loop-count-init : goal.loop-count-init
loop-count-init c = record {
  count = ap length c.in_ok-disks.ensures.items;
  fresh = subst (AreFresh mem_face) (sym c.in_ok-disks.ensures.items) (λ place disk at. absurd cc);
}

pub loop-count-preserved : goal.loop-count-preserved
loop-count-preserved c = record {
  count =
      omega (
        arith,
        ap length c.in_ok-push.ensures.items,
        length-append c.loop-count.disks.items (c.fresh_disk.result ∷ []),
        c.loop-count.invariant.count,
      );
  fresh =
      subst (AreFresh mem_face) (sym c.in_ok-push.ensures.items)
      (fresh_more mem_face c.loop-count.disks.items c.fresh_disk.result c.loop-count.invariant.fresh
      c.fresh_disk.ensures);
}
