use Rattle.std.proofs.Common.{refl, sym, ◌∙◌}
use Rattle.lks_lines.proofs.Found.{copy_damaged_at}
use Rattle.lks_lines.proofs.copy_lines.damage_copy.Goals as goal

pub returns : goal.returns
returns c =
    rw (c.from_vec-2.ensures, sym c.into_vec-copies.ensures)
    (copy_damaged_at c.args.bytes c.args.au c.args.b c.args.block c.into_vec-copies.result.items c.in-Some.at
    c.index_mut-copy.result.now
    (rw c.deref.ensures.value at (sym c.held.ensures ∙ c.in-Some.is)) c.index_mut-copy.ensures.value
    ∙ rw (rw c.replace-kept.ensures.value at c.in_ok-blocks.ensures) refl)
