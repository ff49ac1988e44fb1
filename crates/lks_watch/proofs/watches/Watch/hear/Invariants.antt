use Rattle.std.proofs.Common.{◌≡◌, drop}
use Rattle.std.specs.List.{filter_map}
use Rattle.lks_outside.specs.Bells.{seen}
use Rattle.lks_law.specs.Alarms.{alarm_noted}
use Rattle.lks_watch.specs.Watching.{raised_all}
use Rattle.lks_watch.proofs.watches.Watch.hear.Given as goal

abbrev pub invariant-loop-note : goal.invariant-loop-note
invariant-loop-note g l = record {
  judge : l.self.judge ≡ l.fn.self.judge;
  bells : raised_all (filter_map (alarm_noted l.peer l.tick) (drop l.note-index l.notes))
      (seen g.B.Bell.rung g.B.Bell.limit l.self.desk)
      ≡ raised_all (filter_map (alarm_noted l.peer l.tick) l.notes) (seen g.B.Bell.rung g.B.Bell.limit l.fn.self.desk);
}
