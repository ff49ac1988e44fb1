use Rattle.std.proofs.Common.{ap, sym, subst, arith, length, ◌∷◌, [], length-append, All}
use Rattle.lks_disk.specs.Fuse.{Starts}
use Rattle.lks_disk.specs.MemFace.{mem_face}
use Rattle.lks_world.specs.Held.{AreFresh}
use Rattle.lockss.proofs.FreshDisks.{NeverFails, fresh_more, none_fails, one_more_never_fails}
use Rattle.lockss.proofs.fresh.fresh_disks.Goals as goal

pub loop-count-init : goal.loop-count-init
loop-count-init c = record {
  count = ap length c.in_ok-disks.ensures.items;
  fresh = subst (AreFresh mem_face) (sym c.in_ok-disks.ensures.items) (λ place disk at. absurd cc);
  unfailing = subst (All NeverFails) (sym c.in_ok-disks.ensures.items) none_fails;
}

pub loop-count-preserved : goal.loop-count-preserved
loop-count-preserved c = record {
  count =
      omega (
        arith,
        ap length c.in_ok-push.ensures.items,
        length-append c.loop-count.disks.items (c.fresh_disk.result ∷ []),
        c.loop-count.invariant.count,
      );
  fresh =
      subst (AreFresh mem_face) (sym c.in_ok-push.ensures.items)
      (fresh_more mem_face c.loop-count.disks.items c.fresh_disk.result c.loop-count.invariant.fresh
      c.fresh_disk.ensures.fresh);
  unfailing =
      subst (All NeverFails) (sym c.in_ok-push.ensures.items)
      (one_more_never_fails c.loop-count.disks.items c.fresh_disk.result c.loop-count.invariant.unfailing
      (subst (λ fail. Starts fail [] c.fresh_disk.result.control) c.new.ensures.items
      c.fresh_disk.ensures.fails));
}
