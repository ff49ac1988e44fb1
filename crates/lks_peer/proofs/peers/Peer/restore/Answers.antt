use Rattle.std.proofs.Common.{◌≡◌, subst, sym}
use Rattle.std.specs.Prelude.{Some, find}
use Rattle.lks_law.specs.Polls.{Station}
use Rattle.lks_law.specs.State.{blank}
use Rattle.lks_law.specs.World.{is_honest_at}
use Rattle.lks_peer.proofs.Welling.{fit_blank}
use Rattle.lks_peer.specs.Knows.{IsFit}
use Rattle.lks_peer.proofs.peers.Peer.restore.Goals as goal

pub begin-requires-clause-fit : goal.begin-requires-clause-fit
begin-requires-clause-fit g c =
    let found : find (is_honest_at c.args.id) c.args.plan.now.peers
    ≡ Some c.in-Some.planned.now = cc (c.in-Some.ensures, c.as_slice.ensures) in
    subst (λ (own : Station). IsFit own (blank own)) (sym c.in_ok-own.ensures)
    (fit_blank c.args.plan.now (is_honest_at c.args.id) c.in-Some.planned.now c.requires.good found)
