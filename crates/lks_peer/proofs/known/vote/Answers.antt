use Rattle.std.proofs.Common.{◌∙◌, ap}
use Rattle.lks_audit.specs.Copied.{copies_of}
use Rattle.lks_audit.specs.Seen.{polls_of}
use Rattle.lks_base.specs.declared.records.Record.TheVariants as record_of
use Rattle.lks_law.specs.State.{after, blocks_at}
use Rattle.lks_law.specs.Taking.{marked_received}
use Rattle.lks_peer.proofs.Knowing.{any_err}
use Rattle.lks_peer.specs.Knows.{state_of}
use Rattle.lks_sessions.specs.Kept.{voter_of}
use Rattle.lks_peer.proofs.known.vote.Goals as goal

pub returns-in_err-vote-clause-err : goal.returns-in_err-vote-clause-err
returns-in_err-vote-clause-err c =
    let voter = c.in_ok-receive.ensures.state c.args.own.now.rules
    (λ au. blocks_at au (copies_of c.args.known.now.copies)) c.args.number c.args.hashes.now in
    any_err c.from_residual-in_err-vote.result _ (
      marked_received c.args.voter (voter_of c.args.known.now.sessions).marks,
      λ i. record (state_of c.args.known.now) { polls = polls_of (c.in_err-vote.ensures.err i); voter = voter i },
    )

pub returns-clause-state : goal.returns-clause-state
unfolding after
returns-clause-state c =
    (λ i. record (state_of c.args.known.now) {
      polls = c.in_ok-vote.ensures.seen i;
      voter =
          c.in_ok-receive.ensures.state c.args.own.now.rules
          (λ au. blocks_at au (copies_of c.args.known.now.copies)) c.args.number c.in_ok-hashes.hashes i;
    })
    ∙ ap
    (λ hashes. after c.args.own.now (state_of c.args.known.now)
    (record_of.VoteIn c.args.number c.args.voter hashes)) c.in_ok-hashes.ensures.cases
