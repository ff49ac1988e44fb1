use Rattle.std.proofs.Common.{sym, subst}
use Rattle.std.specs.Prelude.{All}
use Rattle.lks_field.specs.Frames.{AreBodies}
use Rattle.lks_gather.specs.Texts.{Filed}
use Rattle.lockss.proofs.Rereading.{are_bodies}
use Rattle.lockss.proofs.journals.put_each.Goals as goal

pub put_journals-requires : goal.put_journals-requires
put_journals-requires g c =
    subst (All (λ (j : Filed). AreBodies j.bodies)) (sym c.deref.ensures.value)
    (are_bodies g.D.Disk.face c.args.owners.now c.args.disks.now.items c.in_ok-journals.journals.items
    c.in_ok-journals.ensures.journals)
