use Rattle.std.proofs.Common.{◌≡◌, drop, take}
use Rattle.lks_law.specs.Journal.{replaced_by, replacements, contents_at}
use Rattle.lks_evidence.proofs.copies.copy_at.Given as goal

abbrev pub invariant-loop-r : goal.invariant-loop-r
invariant-loop-r l =
    replaced_by l.blocks.items (take l.left (replacements l.au (drop l.r-index l.journal)))
    ≡ contents_at l.au l.version l.journal
