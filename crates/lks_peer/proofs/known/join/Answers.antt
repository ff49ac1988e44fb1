use Rattle.std.proofs.Common.{◌∙◌, ap, ℕ, List}
use Rattle.lks_audit.specs.Copied.{copies_of}
use Rattle.lks_base.specs.declared.records.Record.TheVariants as record_of
use Rattle.lks_law.specs.Polls.{Station}
use Rattle.lks_law.specs.State.{after, blocks_at}
use Rattle.lks_law.specs.Taking.{voter_after}
use Rattle.lks_peer.specs.Knows.{state_of}
use Rattle.lks_sessions.specs.Kept.{voter_of}
use Rattle.lks_peer.proofs.known.join.Goals as goal

pub returns-clause-state : goal.returns-clause-state
unfolding after
returns-clause-state c =
    let blocks : ℕ → List (List ℕ) = λ au. blocks_at au (copies_of c.args.known.now.copies) in
    let joined = record_of.Joined c.args.poll c.args.au c.args.tick c.args.low c.args.repairs in
    λ i.
    record (state_of
    c.args.known.now) {
      voter = (c.in_ok-join.ensures.state blocks
          ∙ ap (λ (own : Station). voter_after own.rules blocks joined (voter_of c.args.known.now.sessions))
          c.own.view_is) i;
    }
