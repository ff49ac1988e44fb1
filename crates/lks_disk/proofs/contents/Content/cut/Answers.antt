use Rattle.std.proofs.Common.{reverse, sym, subst}
use Rattle.lks_disk.specs.Crash.{Kept, IsImage, may_leave}
use Rattle.lks_disk.proofs.Garbled.{left_image}
use Rattle.lks_disk.proofs.contents.Content.cut.Goals as goal

pub returns-clause-image : goal.returns-clause-image
returns-clause-image c =
    let calls = reverse c.self.inside.calls.items in
    let bytes = c.self.inside.bytes.items in
    let image = left_image c.args.choice calls bytes c.self.invariant.fit in
    subst (λ (k : Kept). may_leave k c.leave.new.bytes.items) c.self.view_is
    (subst (λ l. IsImage calls bytes l) (sym c.leave.ensures) image)
