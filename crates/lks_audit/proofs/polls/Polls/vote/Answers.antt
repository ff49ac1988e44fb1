use Rattle.std.proofs.Common.{◌≡◌, ◌∙◌, rules, subst, sym, get_or, length, false}
use Rattle.lks_base.specs.Checking.{has_member}
use Rattle.lks_audit.specs.Seen.{MayVote}
use Rattle.lks_poller.specs.Polling.{Polled}
use Rattle.lks_audit.proofs.polls.Polls.vote.Goals as goal

found : (c : goal.After-index_mut) → get_or c.args.self.now c.in-Some.i c.index_mut.result.now ≡ c.index_mut.result.now
found c = search rules

pub voted-requires-clause-new : goal.voted-requires-clause-new
unfolding MayVote
voted-requires-clause-new c =
    subst (λ (s : Polled). has_member s.voters c.args.voter ≡ false) (found c)
    (c.requires c.in-Some.i c.index_mut.result.now (sym c.place.ensures ∙ c.in-Some.is)).0

pub voted-requires-clause-whole : goal.voted-requires-clause-whole
unfolding MayVote
voted-requires-clause-whole c =
    subst (λ (s : Polled). length c.args.hashes ≡ s.tally.ballot.count) (found c)
    (c.requires c.in-Some.i c.index_mut.result.now (sym c.place.ensures ∙ c.in-Some.is)).1
