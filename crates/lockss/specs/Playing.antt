-- How the steps of a script are done in a world, and told.
use Rattle.std.specs.Prelude.{◌≡◌, ℕ, Bool, true, false, List, Option, Some, None, Result, Err, map}
use Rattle.lks_base.specs.declared.events.Event.{Event}
use Rattle.lks_base.specs.declared.events.PeerStep.{PeerStep}
use Rattle.lks_base.specs.declared.plans.Plan.{Plan}
use Rattle.lks_words.specs.declared.commands.Play.{Play}
use Rattle.lks_disk.specs.Face.{Face}
use Rattle.lks_law.specs.Alarms.{alarms}
use Rattle.lks_outside.specs.declared.sinks.WriteStop.{WriteStop}
use Rattle.lks_outside.specs.declared.sinks.WriteStop.TheVariants as writing
use Rattle.lks_report.specs.Alarms.{has_any}
use Rattle.lks_script.specs.declared.steps.Step.{Step}
use Rattle.lks_watch.specs.Watching.{Ears, Watches, watching}
use Rattle.lks_world.specs.Counts.{ServesHonest, honest_ids}
use Rattle.lks_world.specs.Disks.{honest_disks}
use Rattle.lks_world.specs.Follows.{Follows, FollowsUpTo}
use Rattle.lks_world.specs.Held.{HaveBatchesOrNext, HaveBegunUpTo}
use Rattle.lks_world.specs.Powers.{HavePower, power_of}
use Rattle.lks_world.specs.Spending.{AreSpent, AreSpentUpTo}
use Rattle.lks_world.specs.Watched.{Stops}
use Rattle.lks_world.specs.Worlds.{Begins, Seen}
use Rattle.lks_world.specs.declared.faults.WorldFault.{WorldFault}
use Rattle.lks_world.specs.declared.faults.WorldFault.TheVariants.{Memory}
use Rattle.lockss.specs.Handed.{Senses}
use Rattle.lockss.specs.Deeds.{deed_of}
use Rattle.lockss.specs.Promise.{Tells}
use Rattle.lockss.specs.ReadingBack.{IsPreface, TellsJournals}
use Rattle.lockss.specs.declared.ends.Played.{Played}
use Rattle.lockss.specs.declared.ends.Played.TheVariants.{Stopped, Told, Unmade, Untold}
use Rattle.lockss.specs.declared.journals.Preface.{Preface}
use Rattle.lockss.specs.declared.playing.Progress.{Progress}
use Rattle.lockss.specs.declared.playing.Progress.TheVariants.{Open, Over}

-- A world in which nothing happened yet was made on these disks, with this judge and these bells; each honest peer's
-- journal begins.
pub record Starts {D J B : Type 0} (f : Face D) (e : Ears J B) (plan : Plan) (pool : List ℕ) (disks : List D)
    (judge : Option J) (bells : List B) (first : Seen D J B) : Type 0 where
  pub asked : J
  pub is : judge ≡ Some asked
  pub begins : Begins e plan pool (map f.faults disks) asked bells first
  pub made : ServesHonest f plan.peers disks first.disks None
  pub calm : map (power_of f) first.disks ≡ map (power_of f) disks

-- Or none was made, since the plan's peers didn't all begin: what became of the disks.
pub record IsRefused {D : Type 0} (f : Face D) (plan : Plan) (disks after : List D) (fault : WorldFault) : Type 0 where
  pub served : ServesHonest f plan.peers disks after (Some fault)
  pub begun : HaveBegunUpTo f plan disks after
  pub power : map (power_of f) after ≡ map (power_of f) disks

-- the honest peers' disks counted the fuses that burned and the cuts of the power, while a world became this one
abbrev pub CountsPower : {D J B : Type 0} → Face D → Seen D J B → Seen D J B → Option WorldFault → Type 0
CountsPower f old new fault =
    HavePower f old.plan old.history new.history fault (honest_ids old.plan.peers)
    (honest_disks old.plan.peers old.disks) (honest_disks old.plan.peers new.disks)

-- A world in which all steps were done, and of which all was told or less.
pub record IsPlayed {D K J B : Type 0} (e : Senses D K J B) (command : Play) (steps : List Step)
    (first now : Seen D J B) (before after : K) (answer : Result Bool WriteStop) : Type 0 where
  pub follows : Follows (e.ears.verdict first.judge) first.plan first.history steps now.history
  pub watches : Watches first.plan first.history now.history (watching e.ears first.judge first.bells)
      (watching e.ears now.judge now.bells)
  pub running : now.stopped ≡ None
  pub serves : ServesHonest e.face first.plan.peers first.disks now.disks None
  pub power : CountsPower e.face first now None
  pub spent : AreSpent e.face (e.ears.verdict first.judge) first.plan first.history first.disks steps now.history
      now.disks
  pub told : Tells e ((deed_of command).told first.plan now.history) (has_any (alarms first.plan now.history))
      before after answer

-- Steps that were done up to a fault in one of them.
pub record IsLeftOff {D J B : Type 0} (f : Face D) (e : Ears J B) (steps : List Step)
    (first now : Seen D J B) : Type 0 where
  pub next : Option PeerStep
  pub follows : FollowsUpTo (e.verdict first.judge) first.plan first.history steps now.history next
  pub stops : Stops first.plan first.history now.history next (watching e first.judge first.bells)
      (watching e now.judge now.bells)
  pub left : HaveBatchesOrNext f first.plan now.history next now.disks

-- A world that was stopped so, and nothing was written.
pub record IsStopped {D K J B : Type 0} (e : Senses D K J B) (steps : List Step) (first now : Seen D J B)
    (before after : K) (fault : WorldFault) : Type 0 where
  pub off : IsLeftOff e.face e.ears steps first now
  pub serves : ServesHonest e.face first.plan.peers first.disks now.disks (Some fault)
  pub power : CountsPower e.face first now (Some fault)
  pub spent : AreSpentUpTo e.face (e.ears.verdict first.judge) first.plan first.history first.disks steps fault
      now.history now.disks
  pub silent : after ≡ before

-- what was told first of a world in which all steps were done: all that is told, or what is told before its journals
-- and nothing yet
abbrev pub TellsFirst : {D K J B : Type 0} → Senses D K J B → Play → Plan → List Event → K → K → Progress → Type 0
TellsFirst e command plan history before after (Over (Told told)) =
    ((deed_of command).reads_back ≡ false)
    × Tells e ((deed_of command).told plan history) (has_any (alarms plan history)) before after told
TellsFirst e command plan history before after (Over (Untold fault)) =
    ((deed_of command).reads_back ≡ true) × (fault ≡ Memory) × (after ≡ before)
TellsFirst e command plan history before after (Over (Stopped fault)) = ⊥
TellsFirst e command plan history before after (Over (Unmade fault)) = ⊥
TellsFirst e command plan history before after (Open preface) =
    ((deed_of command).reads_back ≡ true) × IsPreface plan history preface × (after ≡ before)

-- how far the steps were played in a world that was made; where its journals are to be told, nothing is told yet
abbrev pub ComesIn : {D K J B : Type 0} → Senses D K J B → Play → List Step → Seen D J B → Seen D J B → K → K
    → Progress → Type 0
ComesIn e command steps first now before after (Over (Told told)) =
    ((deed_of command).reads_back ≡ false) × IsPlayed e command steps first now before after told
ComesIn e command steps first now before after (Over (Untold fault)) =
    ((deed_of command).reads_back ≡ true) × (fault ≡ Memory) × (after ≡ before)
    × IsPlayed e command steps first now before after (Err writing.Memory)
ComesIn e command steps first now before after (Over (Stopped fault)) = IsStopped e steps first now before after fault
ComesIn e command steps first now before after (Over (Unmade fault)) = ⊥
ComesIn e command steps first now before after (Open preface) =
    ((deed_of command).reads_back ≡ true) × IsPreface first.plan now.history preface × (after ≡ before)
    × IsPlayed e command steps first now before after (Err writing.Memory)

-- where journals are to be told
abbrev pub IfOpen : Progress → (Preface → Type 0) → Type 0
IfOpen (Over played) P = Unit {0}
IfOpen (Open preface) P = P preface

-- what came of it at the end: what had come, or what is told of the journals
abbrev pub GoesOn : {D K : Type 0} → Face D → (K → Option (List ℕ)) → (K → ℕ) → Progress → List D → List D → K → K
    → Played → Type 0
GoesOn f taken failed (Over played) disks after sink sink_after result =
    (result ≡ played) × (after ≡ disks) × (sink_after ≡ sink)
GoesOn f taken failed (Open preface) disks after sink sink_after result =
    TellsJournals f taken failed preface disks after sink sink_after result
