-- How a race is told.
use Rattle.std.specs.Prelude.{◌≡◌, List, Some, None}
use Rattle.lks_words.specs.declared.commands.Play.TheVariants.{Replay}
use Rattle.lks_law.specs.Alarms.{alarms}
use Rattle.lks_race.specs.Racing.{Runs}
use Rattle.lks_report.specs.Alarms.{has_any}
use Rattle.lks_script.specs.declared.steps.Step.{Step}
use Rattle.lks_world.specs.Follows.{Follows}
use Rattle.lks_world.specs.Worlds.{Remembers, Seen}
use Rattle.lockss.specs.Deeds.{deed_of}
use Rattle.lockss.specs.Handed.{Senses}
use Rattle.lockss.specs.Playing.{IsStopped}
use Rattle.lockss.specs.Promise.{Tells}
use Rattle.lockss.specs.declared.ends.Raced.{Raced}
use Rattle.lockss.specs.declared.ends.Raced.TheVariants as raced

-- a race of a world came to its end, and all was told or less; or a fault stopped it, and nothing was
abbrev pub EndsAs : {D K J B : Type 0} → Senses D K J B → Seen D J B → K → K → Raced → Type 0
EndsAs e world before after (raced.Told told) =
    (world.stopped ≡ None)
    × Tells e ((deed_of Replay).told world.plan world.history) (has_any (alarms world.plan world.history))
    before after told
EndsAs e world before after (raced.Halted fault) = (world.stopped ≡ Some fault) × (after ≡ before)
EndsAs e world before after (raced.Stopped fault) = ⊥
EndsAs e world before after (raced.Unmade fault) = ⊥

-- A world in which all steps were done, and which was then raced.
pub record IsRaced {D K J B : Type 0} (e : Senses D K J B) (steps : List Step) (first now : Seen D J B) : Type 0 where
  pub mid : Seen D J B
  pub remembers : Remembers first mid
  pub turns : mid.turns ≡ first.turns
  pub follows : Follows (e.ears.verdict first.judge) first.plan first.history steps mid.history
  pub runs : Runs e.face e.ears mid now

-- how far steps and race came in a world that was made
abbrev pub ComesOut : {D K J B : Type 0} → Senses D K J B → List Step → Seen D J B → Seen D J B → K → K → Raced → Type 0
ComesOut e steps first now before after (raced.Told told) =
    IsRaced e steps first now × EndsAs e now before after (raced.Told told)
ComesOut e steps first now before after (raced.Halted fault) =
    IsRaced e steps first now × EndsAs e now before after (raced.Halted fault)
ComesOut e steps first now before after (raced.Stopped fault) =
    (now.plan ≡ first.plan) × IsStopped e steps first now before after fault
ComesOut e steps first now before after (raced.Unmade fault) = ⊥
