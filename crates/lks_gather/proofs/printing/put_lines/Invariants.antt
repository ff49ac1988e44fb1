use Rattle.std.proofs.Common.{◌≡◌, ◌++◌, take}
use Rattle.std.specs.List.{flat_map}
use Rattle.lks_gather.specs.Texts.{journal_text, AreFiles}
use Rattle.lks_gather.proofs.printing.put_lines.Given as goal

abbrev pub invariant-loop-journal : goal.invariant-loop-journal
invariant-loop-journal l = record {
  lines : l.out.items ≡ l.fn.out.items ++ flat_map journal_text (take l.journal-index l.journals);
  bytes : AreFiles (take l.journal-index l.journals);
}
