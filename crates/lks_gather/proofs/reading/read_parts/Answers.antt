use Rattle.std.proofs.Common.{◌≡◌, ℕ, List, [], map, Ok, Err, Vec, Global, subst, ◌∙◌}
use Rattle.lks_evidence.specs.declared.findings.Shelf.{Shelf}
use Rattle.lks_words.specs.Words.{parts}
use Rattle.lks_gather.specs.Sets.{Book, books_in, book_on, said_by, Tells}
use Rattle.lks_gather.proofs.Journals.{script_stops, journals_stop, all_said}
use Rattle.lks_gather.proofs.reading.read_parts.Goals as goal

pub returns-in-Err : goal.returns-in-Err
returns-in-Err c =
    script_stops c.args.bytes.now c.split_at.result.0.now c.split_at.result.1.now
    (c.split_at.ensures.front ∙ c.journals_at.ensures.before)
    (c.split_at.ensures.back ∙ c.journals_at.ensures.behind) said_by c.in-Err.fault c.in-Err.ensures.exact

pub returns-in-Ok-read_journals : goal.returns-in-Ok-read_journals
returns-in-Ok-read_journals c =
    let books = map book_on c.in-Ok-read_journals.set.items in
    all_said c.args.bytes.now c.split_at.result.0.now c.split_at.result.1.now
    (c.split_at.ensures.front ∙ c.journals_at.ensures.before)
    (c.split_at.ensures.back ∙ c.journals_at.ensures.behind) c.in-Ok.field-0 c.in-Ok.ensures.exact books
    (subst (λ (n : ℕ). books_in n c.in-Ok.field-0.plan [] (parts 10 c.split_at.result.1.now) ≡ Ok books)
    c.count_lines.ensures.value c.in-Ok-read_journals.ensures)

pub returns-in-Err-read_journals : goal.returns-in-Err-read_journals
returns-in-Err-read_journals c =
    let view : Vec Shelf Global → List Book = λ v. map book_on v.items in
    journals_stop c.args.bytes.now c.split_at.result.0.now c.split_at.result.1.now
    (c.split_at.ensures.front ∙ c.journals_at.ensures.before)
    (c.split_at.ensures.back ∙ c.journals_at.ensures.behind) c.in-Ok.field-0 c.in-Ok.ensures.exact
    view said_by c.in-Err-read_journals.fault
    (subst
    (λ (n : ℕ). Tells view (Err c.in-Err-read_journals.fault)
    (books_in n c.in-Ok.field-0.plan [] (parts 10 c.split_at.result.1.now))) c.count_lines.ensures.value
    c.in-Err-read_journals.ensures)
