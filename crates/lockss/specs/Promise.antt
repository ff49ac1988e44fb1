-- What the program promises of each run, from the bytes that it read to those that it wrote, whatever source and sink
-- tell of them.
use Rattle.std.specs.Prelude.{◌≡◌, ◌≤◌, ◌↔◌, ◌⊎◌, ℕ, List, [], ◌++◌, length, map, slice_get, Bool, true, false}
use Rattle.std.specs.Prelude.{Option, Some, None, Result, Ok, Err}
use Rattle.lks_outside.specs.Bells.{left_of, seen}
use Rattle.lks_base.specs.Checking.{plan_fault}
use Rattle.lks_base.specs.declared.events.Event.{Event}
use Rattle.lks_base.specs.declared.events.PeerStep.{PeerStep}
use Rattle.lks_base.specs.declared.limits.TheConstants.{MOST_EVENTS}
use Rattle.lks_base.specs.declared.plans.Plan.{Plan}
use Rattle.lks_words.specs.declared.commands.Command.{Command}
use Rattle.lks_words.specs.declared.commands.Command.TheVariants.{Play, Race, Evidence}
use Rattle.lks_words.specs.declared.commands.Play.TheVariants.{Replay}
use Rattle.lks_evidence.specs.Holding.{IsYes, SetHolds}
use Rattle.lks_evidence.specs.Rules.{journals_on}
use Rattle.lks_evidence.specs.Search.{finding}
use Rattle.lks_evidence.specs.declared.findings.Shelf.{Shelf}
use Rattle.lks_gather.specs.Sets.{said_by, set_of}
use Rattle.lks_gather.specs.Worlds.{books_of}
use Rattle.lks_gather.specs.declared.gathered.Gathered.{Gathered}
use Rattle.lks_law.specs.Alarms.{alarms}
use Rattle.lks_law.specs.Due.{AreDue, dues}
use Rattle.lks_law.specs.Histories.{IsHistory}
use Rattle.lks_law.specs.Journal.{EachRepair}
use Rattle.lks_law.specs.Questions.{questions, AreJudged}
use Rattle.lks_law.specs.Safe.{HasEvidence, Safe}
use Rattle.lks_law.specs.Snapshots.{Restores}
use Rattle.lks_law.specs.World.{world}
use Rattle.lks_outside.specs.Counts.{Rose}
use Rattle.lks_outside.specs.Streams.{AddsFront, ReadEnds}
use Rattle.lks_outside.specs.declared.sinks.WriteStop.{WriteStop}
use Rattle.lks_outside.specs.declared.sinks.WriteStop.TheVariants as writing
use Rattle.lks_outside.specs.declared.sources.ReadStop.TheVariants as reading
use Rattle.lks_report.specs.Alarms.{has_any}
use Rattle.lks_script.specs.declared.faults.ScriptFault.TheVariants.{BadLine}
use Rattle.lks_script.specs.declared.steps.Script.{Script}
use Rattle.lks_world.specs.Counts.{ServesHonest, honest_ids}
use Rattle.lks_world.specs.Disks.{honest_disks}
use Rattle.lks_world.specs.Follows.{Follows, FollowsUpTo}
use Rattle.lks_world.specs.Held.{HaveBatches, HaveBatchesOrNext, HaveBegunUpTo, MayBegin}
use Rattle.lks_world.specs.Powers.{HavePower, power_of}
use Rattle.lks_world.specs.Spending.{AreSpent, AreSpentUpTo}
use Rattle.lks_world.specs.Watched.{asked_next}
use Rattle.lks_world.specs.Worlds.{HaveServed}
use Rattle.lks_world.specs.declared.faults.WorldFault.{WorldFault}
use Rattle.lockss.specs.Codes.{status_of}
use Rattle.lockss.specs.Deeds.{Deed, deed_of}
use Rattle.lockss.specs.Findings.{finding_text, is_doubt}
use Rattle.lockss.specs.Handed.{Devices, Senses}
use Rattle.lockss.specs.declared.ends.End.{End}
use Rattle.lockss.specs.declared.ends.End.TheVariants as end
use Rattle.lockss.specs.declared.ends.Played.{Played}
use Rattle.lockss.specs.declared.ends.Played.TheVariants.{Stopped, Told, Unmade, Untold}
use Rattle.lockss.specs.declared.ends.Raced.{Raced}
use Rattle.lockss.specs.declared.ends.Raced.TheVariants as raced
use Rattle.lockss.specs.declared.ends.Unscripted.{Unscripted}
use Rattle.lockss.specs.declared.ends.Unscripted.TheVariants.{Unread, Unsaid}
use Rattle.lockss.specs.declared.runs.TheConstants.{MOST_BYTES}
use Rattle.lockss.specs.declared.statuses.Status.{Status}

module _ {S X : Type 0} (left : S → Option (List ℕ)) (failed : S → ℕ) (source after : S) (reads : Bool)
    (said : List ℕ → Result X ℕ) where
  -- The bytes that were read, at most 16,777,216: of a source that tells, all that were left. Or none, and the source
  -- is as it was.
  abbrev pub AreRead : Bool → List ℕ → Type 0
  AreRead false bytes = (bytes ≡ []) × (after ≡ source)
  AreRead true bytes =
      (length bytes ≤ MOST_BYTES)
      × ((all : List ℕ) → left source ≡ Some all → (all ≡ bytes) × (left after ≡ Some []))

  -- these say what the command asks for, a script or journals
  pub record Finds (x : X) : Type 0 where
    pub bytes : List ℕ
    pub read : AreRead reads bytes
    pub script : said bytes ≡ Ok x

  -- Or none was found: reading stopped, or the bytes say no such thing from this line on; want of memory says nothing
  -- of them.
  abbrev pub FindsNone : Unscripted → Type 0
  FindsNone (Unread stop) =
      (reads ≡ true) × (stop ≡ reading.Failed → Rose (failed source) (failed after))
      × ((all : List ℕ) → left source ≡ Some all → ReadEnds MOST_BYTES all (left after) (Err stop))
  FindsNone (Unsaid fault) =
      (bytes : List ℕ) × AreRead reads bytes × ((line : ℕ) → fault ≡ BadLine line → said bytes ≡ Err line)

-- A sink that tells took all of the text (with an alarm or none), or a front of it and not all; at its fault its count
-- rose.
abbrev pub Writes : {K : Type 0} → (K → Option (List ℕ)) → (K → ℕ) → List ℕ → Bool → K → K → Result Bool WriteStop
    → Type 0
Writes took failed text alarmed sink after (Ok told) =
    (told ≡ alarmed) × ((taken : List ℕ) → took sink ≡ Some taken → took after ≡ Some (taken ++ text))
Writes took failed text alarmed sink after (Err stop) =
    (stop ≡ writing.Failed → Rose (failed sink) (failed after))
    × ((taken : List ℕ) → took sink ≡ Some taken → AddsFront taken text (took after))

abbrev pub Tells : {D K J B : Type 0} → Senses D K J B → List ℕ → Bool → K → K → Result Bool WriteStop → Type 0
Tells e = Writes e.taken e.failed

-- a text reads as this plan and the journals of its honest peers in this history
abbrev pub ReadsAgain : Plan → List Event → List ℕ → Type 0
ReadsAgain plan history text = set_of text ≡ Ok (record { plan = plan; set = books_of (world plan history).peers })

module _ {D K J B : Type 0} (e : Senses D K J B) (c : Deed) (s : Script) (before after : Devices D K J B) where
  -- The plan breaks no rule, and what happened is a history of it and safe. A disk that isn't an honest peer's is as it
  -- was; one that is blamed has failed. Each honest peer's counted the fuses that burned there and the cuts of its
  -- power. The judge is the same, and heard what the history asks, and what the step asks that was begun, if one was.
  -- Of the bells, those are back in their order that want more alarms than the history has, and each rang for exactly
  -- these.
  pub record Kept (fault : Option WorldFault) (next : Option PeerStep) (history : List Event) : Type 0 where
    pub good : plan_fault s.plan ≡ None
    pub happened : IsHistory s.plan history
    pub safe : Safe s.plan history
    pub served : ServesHonest e.face s.plan.peers before.disks after.disks fault
    pub power : HavePower e.face s.plan [] history fault (honest_ids s.plan.peers)
        (honest_disks s.plan.peers before.disks) (honest_disks s.plan.peers after.disks)
    pub first : J
    pub last : J
    pub given : before.judge ≡ Some first
    pub back : after.judge ≡ Some last
    pub same : e.ears.verdict last ≡ e.ears.verdict first
    pub heard : e.ears.heard last ≡ questions s.plan history ++ asked_next (world s.plan history) next
    pub rung : seen e.ears.rung e.ears.limit after.bells
        ≡ left_of (alarms s.plan history) (map e.ears.limit before.bells)

  -- The script was played to its end: what happened follows its steps by the verdicts of the judge, and goes on as the
  -- command says. Each honest peer's disk holds the batches of its journal, and so it does after every crash. From the
  -- disks that the peers made when they began to those of the end, each line cost what it says: a step that it cuts
  -- off, a fuse of its calls and choice.
  pub record Plays (fault : Option WorldFault) : Type 0 where
    pub done : List Event
    pub history : List Event
    pub kept : Kept fault None history
    pub follows : Follows (e.ears.verdict kept.last) s.plan [] s.steps done
    pub goes_on : c.goes_on (e.ears.verdict kept.last) s.plan done history
    pub held : HaveBatches e.face s.plan history after.disks
    pub made : List D
    pub there : List D
    pub calm : map (power_of e.face) made ≡ map (power_of e.face) before.disks
    pub spent : AreSpent e.face (e.ears.verdict kept.last) s.plan [] made s.steps done there

  -- A fault stopped it in one of its steps: what happened follows those before, and goes on to a front of what this one
  -- makes of it. A crash leaves of each honest peer's disk the batches of its journal; of the one whose step was begun
  -- these, or this step's too. Each line before cost what it says, and this one at most one cut besides, of the power
  -- that it cuts. Nothing was written.
  pub record Halts (fault : WorldFault) : Type 0 where
    pub next : Option PeerStep
    pub history : List Event
    pub kept : Kept (Some fault) next history
    pub follows : FollowsUpTo (e.ears.verdict kept.last) s.plan [] s.steps history next
    pub left : HaveBatchesOrNext e.face s.plan history next after.disks
    pub made : List D
    pub calm : map (power_of e.face) made ≡ map (power_of e.face) before.disks
    pub spent : AreSpentUpTo e.face (e.ears.verdict kept.last) s.plan [] made s.steps fault history after.disks
    pub silent : after.sink ≡ before.sink

  -- Or nothing happened, since the plan's peers didn't all begin. Of the honest ones' disks, those before one hold its
  -- deposits, of that one a crash leaves a front of them or at most a byte, and the later ones, and all else, are as
  -- they were. No power failed.
  pub record NeverBegins (fault : WorldFault) : Type 0 where
    pub good : plan_fault s.plan ≡ None
    pub served : ServesHonest e.face s.plan.peers before.disks after.disks (Some fault)
    pub begun : HaveBegunUpTo e.face s.plan before.disks after.disks
    pub power : map (power_of e.face) after.disks ≡ map (power_of e.face) before.disks
    pub same : after ≡ record before { disks = after.disks }

  -- Where the command reads the disks back, what is told reads as the journals on them; a fault may come then: all was
  -- played, and nothing was written. Else no call is made of them after the last line.
  abbrev pub PlaysTo : Played → Type 0
  PlaysTo (Told told) =
      (run : Plays None) × (c.reads_back ≡ false → after.disks ≡ run.there)
      × (c.reads_back ≡ true → ReadsAgain s.plan run.history (c.told s.plan run.history))
      × Tells e (c.told s.plan run.history) (has_any (alarms s.plan run.history)) before.sink after.sink told
  PlaysTo (Untold fault) = (c.reads_back ≡ true) × Plays (Some fault) × (after.sink ≡ before.sink)
  PlaysTo (Stopped fault) = Halts fault
  PlaysTo (Unmade fault) = NeverBegins fault

module _ {D K J B : Type 0} (e : Senses D K J B) (s : Script) (before after : Devices D K J B) where
  -- The judge that is there when nothing more is due, or no turn or no room for an event is left, has heard what the
  -- history asks, and what it says of that stands there. Of the bells, those are back in their order that want more
  -- alarms than the history has, and each rang for exactly these. Each honest peer's disk holds the batches of its
  -- journal.
  pub record RacesOut (more history : List Event) (last : J) : Type 0 where
    pub ended : (s.plan.turns ≤ length more) ⊎ ((MOST_EVENTS ≤ length history) ⊎ (dues s.plan history ≡ []))
    pub held : HaveBatches e.face s.plan history after.disks
    pub heard : e.ears.heard last ≡ questions s.plan history
    pub judged : AreJudged (e.ears.verdict last) s.plan history
    pub rung : seen e.ears.rung e.ears.limit after.bells
        ≡ left_of (alarms s.plan history) (map e.ears.limit before.bells)

  -- A fault stopped the threads: a step may have been begun that may come next, and the judge has heard what the
  -- history asks, and what this step asks. Of the bells, those are back in their order that want more alarms than the
  -- history has, and each rang for exactly these. A crash leaves of each honest peer's disk the batches of its journal;
  -- of the one whose step was begun these, or this step's too.
  pub record RacesUpTo (history : List Event) (last : J) : Type 0 where
    pub next : Option PeerStep
    pub may : MayBegin s.plan history next
    pub left : HaveBatchesOrNext e.face s.plan history next after.disks
    pub heard : e.ears.heard last ≡ questions s.plan history ++ asked_next (world s.plan history) next
    pub rung : seen e.ears.rung e.ears.limit after.bells
        ≡ left_of (alarms s.plan history) (map e.ears.limit before.bells)

  -- The script was played to its end, by the verdicts of the judge, and then threads took what was due: each later
  -- event was due at its place. What happened is a history of the plan and safe. A disk that is blamed has failed.
  pub record Races (fault : Option WorldFault) : Type 0 where
    pub done : List Event
    pub more : List Event
    pub history : List Event
    pub goes_on : history ≡ done ++ more
    pub good : plan_fault s.plan ≡ None
    pub happened : IsHistory s.plan history
    pub safe : Safe s.plan history
    pub served : HaveServed e.face s.plan.peers (map e.face.faults before.disks) after.disks fault
    pub first : J
    pub last : J
    pub given : before.judge ≡ Some first
    pub back : after.judge ≡ Some last
    pub follows : Follows (e.ears.verdict first) s.plan [] s.steps done
    pub due : AreDue s.plan done more
    pub out : fault ≡ None → RacesOut more history last
    pub up_to : (stop : WorldFault) → fault ≡ Some stop → RacesUpTo history last

  -- At a fault nothing was written. Before threads took anything, all is as where a script is replayed.
  abbrev pub RacesTo : Raced → Type 0
  RacesTo (raced.Told told) =
      (run : Races None)
      × Tells e ((deed_of Replay).told s.plan run.history) (has_any (alarms s.plan run.history)) before.sink
      after.sink told
  RacesTo (raced.Halted fault) = Races (Some fault) × (after.sink ≡ before.sink)
  RacesTo (raced.Stopped fault) = Halts e (deed_of Replay) s before after fault
  RacesTo (raced.Unmade fault) = NeverBegins e (deed_of Replay) s before after fault

module _ {D K J B : Type 0} (e : Senses D K J B) (before after : Devices D K J B) (g : Gathered) where
  -- Journals were examined, whoever wrote them, and what they are found to be is written in one line: a doubt exactly
  -- where they don't hold. Where they hold, each replaced block has its evidence; and where more than a minority of its
  -- poll's voters have journals there that commit them to some blocks up to it, the copy is these up to there, or two
  -- inputs of a hash collide.
  pub record Examines (told : Result Bool WriteStop) : Type 0 where
    pub tells : Tells e (finding_text (finding g.plan g.set.items)) (is_doubt (finding g.plan g.set.items))
        before.sink after.sink told
    pub holds : IsYes (finding g.plan g.set.items) ↔ SetHolds g.plan g.set.items
    pub evidence : SetHolds g.plan g.set.items → (k : ℕ) (s : Shelf) → slice_get g.set.items k ≡ Some s
        → HasEvidence g.plan.rules s.peer s.list.items
    pub restored : SetHolds g.plan g.set.items → (k : ℕ) (s : Shelf) → slice_get g.set.items k ≡ Some s
        → EachRepair (Restores (journals_on g.set.items) g.plan.rules s.peer) s.list.items
    pub same : after ≡ record before { sink = after.sink }

module _ {S D K J B : Type 0} (left : S → Option (List ℕ)) (failed : S → ℕ) (e : Senses D K J B)
    (source source_after : S) (before after : Devices D K J B) where
  -- How far a run came. Before a script or journals were found nothing was written, no disk was called, nobody was
  -- asked, and no bell rang.
  abbrev pub Comes : Option Command → End → Type 0
  Comes command end.Unnamed = (command ≡ None) × (source_after ≡ source) × (after ≡ before)
  Comes command end.Unbegun = (source_after ≡ source) × (after ≡ before)
  Comes None (end.Unscripted none) = ⊥
  Comes None (end.Played played) = ⊥
  Comes None (end.Raced raced) = ⊥
  Comes None (end.Examined told) = ⊥
  Comes (Some (Play play)) (end.Unscripted none) =
      FindsNone left failed source source_after (deed_of play).reads (deed_of play).script none × (after ≡ before)
  Comes (Some (Play play)) (end.Played played) =
      (s : Script) × Finds left failed source source_after (deed_of play).reads (deed_of play).script s
      × PlaysTo e (deed_of play) s before after played
  Comes (Some (Play play)) (end.Raced raced) = ⊥
  Comes (Some (Play play)) (end.Examined told) = ⊥
  Comes (Some (Race threads)) (end.Unscripted none) =
      FindsNone left failed source source_after (deed_of Replay).reads (deed_of Replay).script none
      × (after ≡ before)
  Comes (Some (Race threads)) (end.Played played) = ⊥
  Comes (Some (Race threads)) (end.Raced raced) =
      (s : Script) × Finds left failed source source_after (deed_of Replay).reads (deed_of Replay).script s
      × RacesTo e s before after raced
  Comes (Some (Race threads)) (end.Examined told) = ⊥
  Comes (Some Evidence) (end.Unscripted none) =
      FindsNone left failed source source_after true set_of none × (after ≡ before)
  Comes (Some Evidence) (end.Played played) = ⊥
  Comes (Some Evidence) (end.Raced raced) = ⊥
  Comes (Some Evidence) (end.Examined told) =
      (g : Gathered) × Finds left failed source source_after true set_of (said_by g)
      × Examines e before after g told

  -- The answer says how far the run came, and no count of faults falls.
  pub record Promise (command : Option Command) (answer : Status) : Type 0 where
    pub end : End
    pub answered : answer ≡ status_of end
    pub came : Comes command end
    pub source_count : failed source ≤ failed source_after
    pub sink_count : e.failed before.sink ≤ e.failed after.sink
