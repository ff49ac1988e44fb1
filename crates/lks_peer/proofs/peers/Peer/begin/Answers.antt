use Rattle.std.proofs.Common.{◌≡◌, ◌∙◌, ap, [], rules}
use Rattle.lks_audit.specs.Kept.{kept_of}
use Rattle.lks_law.specs.State.{State, after_all, blank}
use Rattle.lks_law.specs.State as law
use Rattle.lks_peer.proofs.Counting.{kept_none, nothing_after_all}
use Rattle.lks_peer.proofs.Welling.{well_made}
use Rattle.lks_peer.specs.Keeping.{kept_after_all}
use Rattle.lks_peer.proofs.peers.Peer.begin.Goals as goal

pub apply_all-requires-clause-well : goal.apply_all-requires-clause-well
apply_all-requires-clause-well g c =
    well_made c.args.own c.args.pool.now c.in_ok-known.known c.in_ok-known.ensures c.requires.fit

pub returns : goal.returns
unfolding law.state_of
returns g c =
    let made = c.in_ok-known.ensures.state in
    let known = c.in_ok-known.known in
    let state = c.in_ok-apply_all.ensures.state ∙ ap (λ (s : State). after_all c.args.own s c.args.list.now) made in
    let kept =
    c.in_ok-apply_all.ensures.kept
    ∙ ap (λ (s : State). kept_after_all c.args.own s c.args.list.now (kept_of known.polls)) made
    ∙ ap (kept_after_all c.args.own (blank c.args.own) c.args.list.now)
    (kept_none known.polls (ap (λ (s : State). s.polls) made))
    ∙ nothing_after_all c.args.own (blank c.args.own) c.args.list.now in
    let places : c.from_vec.result ≡ [] = search rules in
    λ i. record { own = c.args.own; pool = c.of.ensures i; state = state i; kept = kept i; places = places i }
