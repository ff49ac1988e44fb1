use Rattle.std.proofs.Common.{◌∙◌, ap, rules}
use Rattle.lks_audit.proofs.Recounting.{kept_elsewhere}
use Rattle.lks_audit.specs.Copied.{copies_of}
use Rattle.lks_audit.specs.Kept.{kept_tallied}
use Rattle.lks_audit.specs.Seen.{poll_of}
use Rattle.lks_poller.specs.Polling.{Polled}
use Rattle.lks_audit.proofs.tallying.take.Goals as goal

pub returns-then-is_same-clause-kept : goal.returns-then-is_same-clause-kept
returns-then-is_same-clause-kept c =
    ap
    (λ (s : Polled). kept_tallied c.args.own.now (copies_of c.args.copies.now) (poll_of c.args.poll.now)
    s.tally.kept) c.put_tally.ensures
    ∙ kept_elsewhere c.args.own.now (copies_of c.args.copies.now) c.args.poll.now c.args.done c.requires.on
    (search rules) (search rules)
