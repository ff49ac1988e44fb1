use Rattle.std.proofs.Common.{◌∙◌, ap, sym}
use Rattle.std.specs.Prelude.{◌==◌}
use Rattle.std.specs.List.{list_any}
use Rattle.lks_tally.specs.Running.{has_nominated_in}
use Rattle.lks_poller.proofs.Running.{nominated_seen}
use Rattle.lks_poller.proofs.sessions.PollSession.has_nominated.Goals as goal

pub returns : goal.returns
unfolding has_nominated_in
returns c =
    c.names.ensures ∙ ap (λ ns. list_any (λ n. n.voter == c.args.from) ns) c.nominations.ensures
    ∙ sym (nominated_seen c.args.self.now.nominations c.args.from)
