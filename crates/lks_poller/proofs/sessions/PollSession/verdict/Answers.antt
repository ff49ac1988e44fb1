use Rattle.lks_poller.specs.Shown.{shown_session}
use Rattle.lks_poller.proofs.Soundness.{few_votes}
use Rattle.lks_poller.proofs.sessions.PollSession.verdict.Goals as goal

pub verdict_counted-requires-clause-few : goal.verdict_counted-requires-clause-few
verdict_counted-requires-clause-few g c = few_votes (shown_session c.self.inside) c.self.invariant
