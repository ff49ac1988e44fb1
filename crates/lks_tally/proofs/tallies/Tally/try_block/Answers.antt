use Rattle.std.proofs.Common.{set, ap, ◌∙◌}
use Rattle.lks_tally.specs.Counting.{verdict_at}
use Rattle.lks_tally.proofs.tallies.Tally.try_block.Goals as goal

pub returns-clause-at : goal.returns-clause-at
returns-clause-at g c =
    let blocks = set (g.C.Contents.blocks c.args.c.now) c.args.b c.args.bytes.now in
    c.at_trial.ensures.at
    ∙ ap (λ votes. verdict_at c.self.inside.limits.minority c.self.inside.ballot votes blocks c.args.b)
    c.deref.ensures.value
    ∙ ap (λ t. verdict_at t.limits.minority t.ballot t.votes blocks c.args.b) c.self.view_is
