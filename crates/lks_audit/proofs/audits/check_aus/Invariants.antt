use Rattle.std.proofs.Common.{◌≡◌, ◌++◌, drop}
use Rattle.std.specs.List.{filter_map}
use Rattle.lks_law.specs.Reacting.{overdue_of}
use Rattle.lks_audit.specs.Copied.{copies_of}
use Rattle.lks_audit.proofs.audits.check_aus.Given as goal

abbrev pub invariant-loop-au : goal.invariant-loop-au
invariant-loop-au l =
    l.records.items ++ filter_map (overdue_of l.own (copies_of l.copies) l.tick) (drop l.au-index l.own.aus)
    ≡ filter_map (overdue_of l.own (copies_of l.copies) l.tick) l.own.aus
