-- What a run is handed.
use Rattle.std.specs.Prelude.{◌≡◌, ◌≤◌, ◌<◌, ℕ, List, [], length, All, Option, Some, None}
use Rattle.lks_outside.specs.declared.alarms.Alarm.{Alarm}
use Rattle.lks_base.specs.declared.limits.TheConstants.{MOST_PEERS}
use Rattle.lks_words.specs.declared.commands.Command.{Command}
use Rattle.lks_words.specs.declared.commands.Command.TheVariants.{Play, Race, Evidence}
use Rattle.lks_disk.specs.Face.{Face}
use Rattle.lks_watch.specs.Watching.{Ears}
use Rattle.lks_world.specs.Held.{AreFresh}

-- what a run works on beside its source
pub record Devices (D K J B : Type 0) : Type 0 where
  pub disks : List D
  pub sink : K
  pub judge : Option J
  pub bells : List B

abbrev pub devices : {D K J B : Type 0} → List D → K → Option J → List B → Devices D K J B
devices disks sink judge bells = record { disks = disks; sink = sink; judge = judge; bells = bells }

-- What contracts see of it: of a disk its face, of judge and bells what they heard, of a sink the bytes that it took,
-- where it tells them, and how often it failed.
pub record Senses (D K J B : Type 0) : Type 1 where
  pub face : Face D
  pub ears : Ears J B
  pub taken : K → Option (List ℕ)
  pub failed : K → ℕ

abbrev pub senses : {D K J B : Type 0} → Face D → Ears J B → (K → Option (List ℕ)) → (K → ℕ) → Senses D K J B
senses face ears taken failed = record { face = face; ears = ears; taken = taken; failed = failed }

-- a bell that has rung for nothing and wants more
abbrev pub IsSilent : {B : Type 0} → (B → List Alarm) → (B → ℕ) → B → Type 0
IsSilent rung limit b = (rung b ≡ []) × (0 < limit b)

-- What a run is handed: fresh disks, as many as a script may have peers, a judge who has heard nothing, and bells that
-- have rung for nothing and want more.
pub record AreGiven {D K J B : Type 0} (e : Senses D K J B) (given : Devices D K J B) : Type 0 where
  pub enough : MOST_PEERS ≤ length given.disks
  pub fresh : AreFresh e.face given.disks
  pub unasked : (j : J) × (given.judge ≡ Some j) × (e.ears.heard j ≡ [])
  pub silent : All (IsSilent e.ears.rung e.ears.limit) given.bells

-- What a command asks of it: those that play a script all of this. Journals are examined without it, and words that
-- name no command ask nothing.
abbrev pub AreGivenFor : {D K J B : Type 0} → Option Command → Senses D K J B → Devices D K J B → Type 0
AreGivenFor None e given = Unit {0}
AreGivenFor (Some Evidence) e given = Unit {0}
AreGivenFor (Some (Play play)) e given = AreGiven e given
AreGivenFor (Some (Race threads)) e given = AreGiven e given
