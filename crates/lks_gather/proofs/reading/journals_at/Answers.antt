use Rattle.lks_gather.proofs.Cuts.{is_cut, goes_on, is_uncut}
use Rattle.lks_gather.specs.Sets.{is_journal_at}
use Rattle.std.proofs.Common.{sym, ap, ◌∙◌}
use Rattle.lks_gather.proofs.reading.journals_at.Goals as goal

pub returns-then-is_journal_at-clause-before : goal.returns-then-is_journal_at-clause-before
returns-then-is_journal_at-clause-before c =
    (is_cut c.loop-at.starts c.loop-at.at c.args.bytes.now c.loop-at.invariant c.loop-at-test.true
    (ap (is_journal_at c.loop-at.starts) (sym c.split_at.ensures.back) ∙ sym c.is_journal_at.ensures
    ∙ c.if-is_journal_at.true)).0

pub returns-then-is_journal_at-clause-behind : goal.returns-then-is_journal_at-clause-behind
returns-then-is_journal_at-clause-behind c =
    (is_cut c.loop-at.starts c.loop-at.at c.args.bytes.now c.loop-at.invariant c.loop-at-test.true
    (ap (is_journal_at c.loop-at.starts) (sym c.split_at.ensures.back) ∙ sym c.is_journal_at.ensures
    ∙ c.if-is_journal_at.true)).1

pub loop-at-preserved : goal.loop-at-preserved
loop-at-preserved c =
    goes_on c.loop-at.starts c.loop-at.at c.args.bytes.now c.loop-at.invariant c.loop-at-test.true
    (ap (is_journal_at c.loop-at.starts) (sym c.split_at.ensures.back) ∙ sym c.is_journal_at.ensures
    ∙ c.if-is_journal_at.false)

pub returns-clause-before : goal.returns-clause-before
returns-clause-before c =
    (is_uncut c.loop-at.starts c.loop-at.at c.args.bytes.now c.loop-at.invariant c.loop-at-test.false).0

pub returns-clause-behind : goal.returns-clause-behind
returns-clause-behind c =
    (is_uncut c.loop-at.starts c.loop-at.at c.args.bytes.now c.loop-at.invariant c.loop-at-test.false).1
