-- The newest version of an AU has all of its replacements.
use Rattle.std.proofs.Common.{◌≡◌, ℕ, List, take, ap, sym, ◌∙◌}
use Rattle.std.specs.Prelude.{unwrap_or, []}
use Rattle.std.proofs.Math.Seq.{take-length}
use Rattle.lks_base.specs.declared.records.Record.{Record}
use Rattle.lks_law.specs.Journal.{deposit_of, replacements, replaced_by, contents_at, contents_of}
use Rattle.lks_evidence.specs.Records.{version_now}
use Rattle.lks_evidence.proofs.Counts.{version_count}

pub newest_version : (au : ℕ) (journal : List Record)
    → contents_at au (version_now au journal) journal ≡ contents_of au journal
unfolding contents_at contents_of
newest_version au journal =
    ap (replaced_by (unwrap_or (deposit_of au journal) []))
    (ap (λ n. take n (replacements au journal)) (sym (version_count au journal))
    ∙ take-length (replacements au journal))
