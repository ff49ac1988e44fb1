use Rattle.std.proofs.Common.{refl, sym, ◌∙◌}
use Rattle.lks_lines.proofs.Found.{holding_at}
use Rattle.lks_lines.proofs.copy_lines.give_copy.Goals as goal

pub returns : goal.returns
returns c =
    rw (c.from_vec-2.ensures, sym c.into_vec-peers.ensures)
    (holding_at c.args.aus.now c.args.bytes c.args.id c.args.copy c.into_vec-peers.result.items c.in-Some.at
    c.index_mut-peer.result.now
    (rw c.deref.ensures.value at (sym c.holder.ensures ∙ c.in-Some.is)) c.index_mut-peer.ensures.value
    ∙ rw (rw c.replace-kept.ensures.value at c.in_ok-copies.ensures) refl)
