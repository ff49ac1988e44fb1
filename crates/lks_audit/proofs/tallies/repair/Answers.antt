use Rattle.std.proofs.Common.{◌≡◌, ◌∙◌, ap, rules, sym}
use Rattle.lks_audit.proofs.Counts.{repair_seen}
use Rattle.lks_audit.specs.Counted.{answered_by}
use Rattle.lks_audit.specs.Seen.{poll_of}
use Rattle.lks_poller.specs.Rules.{answer_of}
use Rattle.lks_audit.proofs.tallies.repair.Goals as goal

pub returns-clause-reaction : goal.returns-clause-reaction
returns-clause-reaction g c =
    let blocks = g.C.Contents.blocks c.args.copy.now in
    let answered : c.in_ok-reaction.reaction
    ≡ answered_by (poll_of c.args.poll.now) c.args.sent.now.from c.args.sent.now.block c.args.sent.now.bytes.now
    c.answer_of-answer.result = search rules in
    let said = c.answer_of-answer.ensures.answer
    ∙ ap (λ bytes.
    answer_of c.args.poll.now c.args.sent.now.from c.args.sent.now.block bytes blocks) c.as_slice.ensures in
    answered
    ∙ sym
    (repair_seen c.args.own.now blocks c.args.poll.now c.requires.on c.args.sent.now.from c.args.sent.now.block
    c.args.sent.now.bytes.now c.answer_of-answer.result said)
