use Rattle.std.proofs.Common.{rules, ap, ◌≡◌, ◌++◌, ◌∙◌}
use Rattle.std.proofs.lemmas.Fn.{filter_same}
use Rattle.std.specs.Prelude.{filter, not, unwrap_or, []}
use Rattle.lks_base.specs.Checking.{has_member}
use Rattle.lks_tally.specs.Running.{silent_in}
use Rattle.lks_poller.proofs.sessions.PollSession.silent.Goals as goal

pub returns : goal.returns
unfolding silent_in
returns c =
    let invited : c.extend_from_slice.new.self.items
    ≡ c.args.self.now.inner ++ unwrap_or c.args.self.now.outer [] = search rules in
    c.from_vec.ensures
    ∙ filter_same _ _ _ (λ x b f' k. search rules) _ _ c.retain.ensures.filtered
    ∙ ap (filter (λ v. not (has_member c.args.self.now.voters v))) invited
