use Rattle.std.proofs.Common.{rules}
use Rattle.lks_law.specs.State.{blocks_at}
use Rattle.lks_audit.specs.Copied.{copies_of}
use Rattle.lks_peer.proofs.Counting.{kept_opened}
use Rattle.lks_peer.proofs.Knowing.{on_opened}
use Rattle.lks_peer.proofs.known.open.Goals as goal

pub returns-clause-tied : goal.returns-clause-tied
returns-clause-tied c pool tied = record {
  of = c.open.ensures.of pool tied.of;
  on =
      on_opened c.args.own.now.id c.args.opening.now.au c.args.tick (copies_of c.args.known.now.copies) _
      c.args.known.now.polls _ c.in_ok-poll.poll (search rules) (search rules) tied.on
      (search rules)
      (c.in_ok-poll.ensures.on (blocks_at c.args.opening.now.au (copies_of c.args.known.now.copies))
      (search rules));
  owner = tied.owner;
  pins = tied.pins;
}

pub returns-clause-kept : goal.returns-clause-kept
returns-clause-kept c =
    kept_opened c.args.number c.args.opening.now.au _ c.args.known.now.polls _ c.in_ok-poll.poll (search rules)
    c.in_ok-poll.ensures.seen (search rules) (search rules)
