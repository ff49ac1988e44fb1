use Rattle.std.proofs.Common.{◌≡◌, [], map, sym, ap, subst, ◌∙◌, arith}
use Rattle.lks_gather.specs.Sets.{books_in, books_end, book_on, Tells}
use Rattle.lks_words.specs.Words.{parts}
use Rattle.lks_gather.proofs.Journals.{goes_on, is_bad, comes_to_end}
use Rattle.lks_gather.proofs.reading.read_journals.Goals as goal

pub returns-in-Err-Bad : goal.returns-in-Err-Bad
returns-in-Err-Bad c =
    rw c.bad_line.ensures
    (sym c.lines.invariant.0
    ∙ ap (books_in c.lines.line c.args.plan.now (map book_on c.lines.set.items)) c.in-Some.ensures.some
    ∙ is_bad c.lines.line c.args.plan.now (map book_on c.lines.set.items) c.in-Some.row.now c.in-Some.more.now
    (rw c.in-Err-Bad.field-0-is at c.in-Err-Bad.ensures))

pub lines-preserved : goal.lines-preserved
lines-preserved c = (
  sym
      (goes_on c.lines.line c.args.plan.now (map book_on c.lines.set.items) (map book_on c.in-Ok.longer.items)
      c.in-Some.row.now c.in-Some.more.now c.in-Ok.ensures)
      ∙ sym (ap (books_in c.lines.line c.args.plan.now (map book_on c.lines.set.items)) c.in-Some.ensures.some)
      ∙ c.lines.invariant.0,
  omega (arith, c.in-Some.ensures.less),
)

pub returns : goal.returns
returns c =
    let whole : books_end c.lines.line (map book_on c.lines.set.items) c.lines.rest.now
    ≡ books_in c.args.first c.args.plan.now [] (parts 10 c.args.bytes.now) =
    sym (comes_to_end c.lines.line c.args.plan.now (map book_on c.lines.set.items) c.lines.rest.now)
    ∙ sym (ap (books_in c.lines.line c.args.plan.now (map book_on c.lines.set.items)) c.in_default.ensures.none)
    ∙ c.lines.invariant.0 in
    subst (λ said. Tells (λ v. map book_on v.items) c.finish.result said) whole c.finish.ensures
