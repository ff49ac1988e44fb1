use Rattle.std.proofs.Common.{rules, ap, ◌∙◌}
use Rattle.std.specs.Prelude.{filter}
use Rattle.std.proofs.lemmas.Fn.{filter_same}
use Rattle.lks_base.specs.Checking.{has_member}
use Rattle.lks_law.specs.Polls.{inner_votes}
use Rattle.lks_tally.specs.declared.ballots.Vote.{Vote}
use Rattle.lks_evidence.proofs.records.inner_votes_of.Goals as goal

pub returns : goal.returns
unfolding inner_votes
returns c =
    filter_same _ _ _ (λ x b f' k. search rules) _ _ c.retain.ensures.filtered
    ∙ ap (filter (λ (v : Vote). has_member c.args.inner.now v.voter)) c.in_ok-votes.ensures
