use Rattle.std.proofs.Common.{sym}
use Rattle.lks_lines.proofs.Found.{copied_from}
use Rattle.lks_lines.proofs.copy_lines.like.Goals as goal

pub returns : goal.returns
returns c =
    copied_from c.args.peers.now c.args.id c.args.au c.in-Some.peer.now c.as_slice.result.now
    c.in-Some-find_copy.copy.now c.in_ok-clone.field-0
    (sym c.in-Some.ensures) c.as_slice.ensures (sym c.in-Some-find_copy.ensures) c.in_ok-clone.ensures.cases
