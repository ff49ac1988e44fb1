use Rattle.std.proofs.Common.{◌≡◌, ◌∙◌, ap, sym, subst}
use Rattle.std.specs.Prelude.{IfOk, IfSome, option_map}
use Rattle.std.specs.Option.{option_copied}
use Rattle.lks_audit.specs.Seen.{poll_of, IsOn}
use Rattle.lks_law.specs.Reacting.{for_poll, vote_in_poll}
use Rattle.lks_peer.proofs.rows.vote.Goals as goal

pub returns-in-Some : goal.returns-in-Some
returns-in-Some c id copies all =
    let on = subst (λ o. IfSome (option_copied o) (IsOn id copies)) c.in-Some.is
    (c.find_poll.ensures.on id copies all) in
    let seen = c.find_poll.ensures.seen ∙ ap (λ o. option_map poll_of (option_copied o)) c.in-Some.is in
    subst
    (λ o. IfOk c.vote.result
    (λ r. r ≡ for_poll o (vote_in_poll c.args.from c.args.hashes.now c.args.judged copies))) (sym seen)
    (c.vote.ensures id copies on)
