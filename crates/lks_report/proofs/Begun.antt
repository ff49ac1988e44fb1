-- Before the first byte of the report, and of the line of a drill.
use Rattle.std.proofs.Common.{◌≡◌, ℕ, ◌<◌, List, length, Option, Some, sym, ap, ◌∙◌, arith}
use Rattle.std.proofs.lemmas.List.{append-nil}
use Rattle.lks_base.specs.declared.entries.Entry.{Entry}
use Rattle.lks_base.specs.declared.plans.Plan.{Plan}
use Rattle.lks_outside.specs.Streams.{AddsFront}
use Rattle.lks_report.specs.Summary.{summary_text}
use Rattle.lks_report.specs.Text.{text_of}

pub length-text_of : (plan : Plan) (entries : List Entry) → 0 < length (text_of plan entries)
unfolding text_of
length-text_of plan entries = omega arith

pub length-summary_text : (seed : ℕ) (entries : List Entry) → 0 < length (summary_text seed entries)
unfolding summary_text
length-summary_text seed entries = omega arith

pub nothing_added : (bytes piece : List ℕ) (after : Option (List ℕ)) → 0 < length piece → after ≡ Some bytes
    → AddsFront bytes piece after
nothing_added bytes piece after some same = record {
  count = 0;
  within = some;
  taken = same ∙ ap Some (sym (append-nil bytes));
}
