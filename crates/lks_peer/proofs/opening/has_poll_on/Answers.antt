use Rattle.std.proofs.Common.{◌∙◌, sym}
use Rattle.lks_peer.proofs.Listing.{running_seen}
use Rattle.lks_peer.proofs.opening.has_poll_on.Goals as goal

pub returns : goal.returns
returns c = c.any_on.ensures ∙ sym (running_seen c.args.au c.args.polls.now)
