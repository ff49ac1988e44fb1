use Rattle.std.proofs.Common.{◌≡◌, ◌+◌, ◌≤◌, [], length, map}
use Rattle.lks_gather.specs.Sets.{books_in, book_on}
use Rattle.lks_words.specs.Words.{parts}
use Rattle.lks_gather.proofs.reading.read_journals.Given as goal

abbrev pub invariant-lines : goal.invariant-lines
invariant-lines l =
    (books_in l.line l.plan (map book_on l.set.items) (parts 10 l.rest) ≡ books_in l.first l.plan [] (parts 10 l.bytes))
    × (l.line + length l.rest ≤ l.first + length l.bytes)

abbrev pub decreases-lines : goal.decreases-lines
decreases-lines l = length l.rest
