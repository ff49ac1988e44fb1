use Rattle.std.proofs.Common.{◌≡◌, ◌+◌, ◌≤◌, length}
use Rattle.lks_words.specs.Words.{parts}
use Rattle.lks_script.specs.Grammar.{lines_in, script_of}
use Rattle.lks_script.proofs.reading.read_script.Given as goal

abbrev pub invariant-lines : goal.invariant-lines
invariant-lines l =
    (lines_in l.line l.draft (parts 10 l.rest) ≡ script_of l.bytes) × (l.line + length l.rest ≤ 1 + length l.bytes)

abbrev pub decreases-lines : goal.decreases-lines
decreases-lines l = length l.rest
