use Rattle.std.proofs.Common.{◌≡◌, ◌≤◌, ◌+◌, ◌*◌, drop}
use Rattle.lks_evidence.specs.Search.{all_repairs}
use Rattle.lks_evidence.specs.Sizes.{most_records}
use Rattle.lks_evidence.proofs.examining.count_all.Given as goal

abbrev pub invariant-loop-shelf : goal.invariant-loop-shelf
invariant-loop-shelf l = record {
  sum : l.replaced + all_repairs (drop l.shelf-index l.set) ≡ all_repairs l.set;
  few : l.replaced ≤ most_records * l.shelf-index;
}
