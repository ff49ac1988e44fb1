use Rattle.std.proofs.Common.{◌≡◌, List, subst, sym}
use Rattle.std.specs.Prelude.{All, IfOk}
use Rattle.lks_audit.specs.Copied.{copies_of}
use Rattle.lks_audit.specs.Seen.{polls_of, IsOn}
use Rattle.lks_law.specs.Reacting.{for_poll, vote_in_poll}
use Rattle.lks_law.specs.State.{poll_at}
use Rattle.lks_law.specs.Table.{receive_in}
use Rattle.lks_peer.specs.Knows.{state_of}
use Rattle.lks_poller.specs.Polling.{Polled}
use Rattle.lks_peer.proofs.reacting.hear.Goals as goal

pub returns-in-Vote-clause-reaction : goal.returns-in-Vote-clause-reaction
returns-in-Vote-clause-reaction c =
    let id = c.args.own.now.id in
    let copies = copies_of c.args.known.now.copies in
    let on = subst (All (IsOn id copies)) (sym c.as_slice-polls.ensures) c.requires.tied.on in
    let row = subst
    (λ (ss : List Polled). IfOk c.vote.result
    (λ r. r
    ≡ for_poll (poll_at c.in-Vote.number (polls_of ss))
    (vote_in_poll c.args.from c.in-Vote.hashes c.args.judged copies)))
    c.as_slice-polls.ensures (c.vote.ensures id copies on) in
    subst
    (λ m. IfOk c.vote.result
    (λ r. r ≡ receive_in c.args.own.now (state_of c.args.known.now) c.args.tick c.args.from m c.args.judged))
    (sym c.in-Vote.is) row
