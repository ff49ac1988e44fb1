use Rattle.std.proofs.Common.{◌≡◌, drop}
use Rattle.lks_report.specs.Scans.{outcome_of}
use Rattle.lks_report.proofs.scans.outcome_of.Given as goal

abbrev pub invariant-loop-note : goal.invariant-loop-note
invariant-loop-note l = outcome_of l.poll (drop l.note-index l.notes) ≡ outcome_of l.poll l.notes
