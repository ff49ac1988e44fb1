use Rattle.std.proofs.Common.{◌≤◌, length, subst}
use Rattle.lks_base.specs.declared.limits.TheConstants.{MOST_CIRCLE}
use Rattle.lks_poller.specs.Polling.{Polled}
use Rattle.lks_poller.specs.Shown.{shown_session}
use Rattle.lks_poller.proofs.Soundness.{few_votes}
use Rattle.lks_poller.proofs.sessions.PollSession.tally.Goals as goal

pub returns-clause-few : goal.returns-clause-few
returns-clause-few c =
    subst (λ (s : Polled). length s.tally.votes ≤ MOST_CIRCLE) c.self.view_is
    (few_votes (shown_session c.self.inside) c.self.invariant)
