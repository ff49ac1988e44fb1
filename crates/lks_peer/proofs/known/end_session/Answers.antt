use Rattle.lks_audit.specs.Copied.{copies_of}
use Rattle.lks_law.specs.State.{after, blocks_at}
use Rattle.lks_peer.specs.Knows.{state_of}
use Rattle.lks_peer.proofs.known.end_session.Goals as goal

pub returns-clause-state : goal.returns-clause-state
unfolding after
returns-clause-state c =
    λ i.
    record (state_of c.args.known.now) {
      voter = c.in_ok-end.ensures.state c.args.own.now.rules
          (λ au. blocks_at au (copies_of c.args.known.now.copies)) i;
    }
