use Rattle.std.proofs.Common.{◌∙◌}
use Rattle.lks_peer.proofs.Listing.{tallies_later}
use Rattle.lks_sessions.specs.Kept.{voter_of}
use Rattle.lks_peer.proofs.peers.find_ready.Goals as goal

pub returns : goal.returns
returns c =
    c.find_tally.ensures
    ∙ tallies_later c.args.id c.args.k c.pinned_count-votes.result (voter_of c.args.known.now.sessions).pinned
    c.as_slice.result.now c.args.known.now.polls c.as_slice.ensures c.pinned_count-votes.ensures
    c.if-k-votes.false
