use Rattle.std.proofs.Common.{◌≡◌, ◌∙◌, ap, sym}
use Rattle.std.specs.Prelude.{None, Some}
use Rattle.lks_race.proofs.Going.{goes_as, goes_start, runs}
use Rattle.lks_race.specs.Racing.{begin_of}
use Rattle.lks_watch.specs.Watching.{ears}
use Rattle.lks_world.specs.Worlds.{halting_fault}
use Rattle.lks_world.specs.declared.faults.WorldFault.TheVariants.{Memory}
use Rattle.lks_race.proofs.races.race.Goals as goal

pub returns-in-Err-clause-runs : goal.returns-in-Err-clause-runs
returns-in-Err-clause-runs g c =
    let now = c.halt.new.self in
    runs g.D.Disk.face (ears g.J.EffortJudge.heard g.J.EffortJudge.verdict g.B.Bell.rung g.B.Bell.limit)
    c.args.world now
    (goes_as (begin_of c.args.world) c.args.world now (goes_start c.args.world) (ap begin_of c.halt.ensures))
    (λ none. let bad : Some Memory
    ≡ None = sym (ap (λ w. w.stopped) c.halt.ensures ∙ ap halting_fault c.requires.running) ∙ none in absurd cc)
    c.known.ensures.watched c.known.ensures.halted c.known.ensures.served
