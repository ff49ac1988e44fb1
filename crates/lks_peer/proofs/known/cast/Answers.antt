use Rattle.std.proofs.Common.{◌∙◌, ap}
use Rattle.lks_audit.specs.Copied.{copies_of}
use Rattle.lks_base.specs.declared.records.Record.TheVariants as record_of
use Rattle.lks_law.specs.State.{after, blocks_at}
use Rattle.lks_peer.specs.Knows.{state_of}
use Rattle.lks_peer.proofs.known.cast.Goals as goal

pub returns-clause-state : goal.returns-clause-state
unfolding after
returns-clause-state c =
    (λ i.
    record (state_of c.args.known.now) {
      voter = c.in_ok-cast.ensures.state c.args.own.now.rules
          (λ au. blocks_at au (copies_of c.args.known.now.copies)) i;
    })
    ∙ ap (λ hashes. after c.args.own.now (state_of c.args.known.now) (record_of.Voted c.args.poll hashes))
    c.in_ok-hashes.ensures.cases
