use Rattle.std.proofs.Common.{◌≡◌, ◌++◌, take, codes, string_bytes}
use Rattle.std.specs.List.{flat_map}
use Rattle.lks_report.specs.Words.{note_words}
use Rattle.lks_report.proofs.words.put_notes.Given as goal

abbrev pub invariant-loop-note : goal.invariant-loop-note
invariant-loop-note l =
    string_bytes l.out
    ≡ string_bytes l.initial.out ++ flat_map (λ n. codes ", " ++ note_words n) (take l.note-index l.rest)
