-- What a world gives out that is due, and what it takes back.
use Rattle.std.specs.Prelude.{◌≡◌, ◌≢◌, ◌≤◌, ◌<◌, ◌+◌, ◌⊎◌, ℕ, true, false, not, Option, Some, None, List, [], ◌∷◌}
use Rattle.std.specs.Prelude.{◌++◌, All, filter, length, slice_get}
use Rattle.lks_audit.specs.Kept.{Kept}
use Rattle.lks_base.specs.declared.events.Due.{Due}
use Rattle.lks_base.specs.declared.events.Due.TheVariants.{Own}
use Rattle.lks_base.specs.declared.events.Event.{Event}
use Rattle.lks_base.specs.declared.events.Event.TheVariants.{Step}
use Rattle.lks_base.specs.declared.limits.TheConstants.{MOST_EVENTS}
use Rattle.lks_blocks.specs.Block.{AllOf}
use Rattle.lks_law.specs.Due.{dues, ready, is_work_event, IsDue}
use Rattle.lks_law.specs.State.{state_of}
use Rattle.lks_law.specs.World.{World, Standing, peer_at, world}
use Rattle.lks_peer.specs.Accepting.{tag_for, works_in, IsJobOf}
use Rattle.lks_versions.specs.declared.places.Place.{Place}
use Rattle.lks_versions.specs.declared.versions.PinTag.{PinTag}
use Rattle.lks_work.specs.Names.{is_job, is_left, name_done, name_of, refs_of, step_named, tag_done}
use Rattle.lks_work.specs.declared.jobs.Job.{Job}
use Rattle.lks_work.specs.declared.jobs.JobName.{JobName}
use Rattle.lks_work.specs.declared.jobs.JobName.TheVariants as names
use Rattle.lks_work.specs.declared.results.JobDone.{JobDone}
use Rattle.lks_world.specs.Worlds.{Seen}
use Rattle.lks_world.specs.declared.giving.Back.{Back}
use Rattle.lks_world.specs.declared.giving.Back.TheVariants as back
use Rattle.lks_world.specs.declared.giving.Taken.{Taken}
use Rattle.lks_world.specs.declared.giving.Taken.TheVariants as taken
use Rattle.lks_world.specs.declared.sites.Site.{Site}
use Rattle.lks_world.specs.declared.sites.Site.TheVariants as site

-- Turns.

-- there is a turn left, and room for an event
abbrev pub HasTurn : {D J B : Type 0} → Seen D J B → Type 0
HasTurn world = (world.turns < world.plan.turns) × (length world.history < MOST_EVENTS)

-- the turns are used up, or the room for events
abbrev pub IsUsedUp : {D J B : Type 0} → Seen D J B → Type 0
IsUsedUp world = (world.plan.turns ≤ world.turns) ⊎ (MOST_EVENTS ≤ length world.history)

-- nothing more is done: nothing is due, or the turns or the room for events are used up
abbrev pub IsOver : {D J B : Type 0} → Seen D J B → Type 0
IsOver world = IsUsedUp world ⊎ (dues world.plan world.history ≡ [])

-- one event more with P, which was due, for a turn
pub record TakesTurn {D J B : Type 0} (P : Event → Type 0) (old new : Seen D J B) : Type 0 where
  pub event : Event
  pub is : P event
  pub more : new.history ≡ old.history ++ event ∷ []
  pub due : IsDue old.plan old.history event
  pub left : HasTurn old
  pub used : new.turns ≡ old.turns + 1

-- Jobs.

-- all work of whoever sits there
abbrev pub site_works : {D : Type 0} → Site D → List JobName
site_works (site.Host h) = works_in h.peer.own h.peer.state
site_works (site.Idle d) = []

-- the job of ready work, as the peer makes it whose work it is
pub record IsJobIn (w : World) (j : Job) : Type 0 where
  pub place : ℕ
  pub standing : Standing
  pub there : slice_get w.peers place ≡ Some standing
  pub kept : List Kept
  pub places : List Place
  pub is : IsJobOf standing.own (state_of standing.own standing.journal) kept places (name_of j) j

-- this job is handed out: its work is ready, and it isn't out
pub record HandsOut {D J B : Type 0} (j : Job) (old new : Seen D J B) : Type 0 where
  pub place : ℕ
  pub ready : slice_get (ready (world old.plan old.history)) place ≡ Some (step_named (name_of j))
  pub left : is_left old.out (name_of j) ≡ true
  pub turn : HasTurn old
  pub job : IsJobIn (world old.plan old.history) j
  pub of : AllOf old.pool (refs_of j)
  pub same : new ≡ record old { out = old.out ++ name_of j ∷ [] }

-- what is due is work whose job is out
pub record IsOut (jobs : List JobName) (d : Due) : Type 0 where
  pub name : JobName
  pub work : d ≡ Own (step_named name)
  pub out : is_left jobs name ≡ false

-- something is due, and each of it is work whose job is out
pub record AreAllOut {D J B : Type 0} (w : Seen D J B) : Type 0 where
  pub turn : HasTurn w
  pub some : dues w.plan w.history ≢ []
  pub each : All (IsOut w.out) (dues w.plan w.history)

-- the jobs of all ready work are out
abbrev pub AreWorksOut : {D J B : Type 0} → Seen D J B → Type 0
AreWorksOut w = All (λ s. IsOut w.out (Own s)) (ready (world w.plan w.history))

-- the job of ready work is handed out, or those of all are out already
abbrev pub GivesWork : {D J B : Type 0} → Seen D J B → Seen D J B → Option Job → Type 0
GivesWork old new None = (new ≡ old) × AreWorksOut old
GivesWork old new (Some j) = HandsOut j old new

-- what is answered where something that is due is asked for
abbrev pub Takes : {D J B : Type 0} → Seen D J B → Seen D J B → Taken → Type 0
Takes old new taken.Did = TakesTurn (λ e. is_work_event e ≡ false) old new × (new.out ≡ old.out)
Takes old new (taken.Work j) = HandsOut j old new
Takes old new taken.Out = (new ≡ old) × AreAllOut old
Takes old new taken.Finished = (new ≡ old) × IsOver old

-- Results.

-- the jobs that are out when this one isn't any more
abbrev pub without_job : JobName → List JobName → List JobName
without_job name out = filter (λ other. not (is_job name other)) out

abbrev pub peer_named : JobName → ℕ
peer_named (names.Vote peer poll) = peer
peer_named (names.Tally peer number) = peer

abbrev pub tag_by : List Place → JobDone → Option Standing → Option PinTag
tag_by places d None = None
tag_by places d (Some s) = tag_for (state_of s.own s.journal) places d

-- over which version the result would be taken now: none where its peer isn't ready for such work
pub record IsExpected (w : World) (d : JobDone) (expected : Option PinTag) : Type 0 where
  pub places : List Place
  pub is : expected ≡ tag_by places d (peer_at (peer_named (name_done d)) w.peers)

-- a fault leaves the history and the turns
pub record StaysAtFault {D J B : Type 0} (old new : Seen D J B) : Type 0 where
  pub history : new.history ≡ old.history
  pub turns : new.turns ≡ old.turns

-- what is answered where a result is given back, whose job isn't out any more
abbrev pub GivesFresh : {D J B : Type 0} → JobDone → Seen D J B → Seen D J B → Back → Type 0
GivesFresh d old new back.Kept =
    TakesTurn (λ e. e ≡ Step (step_named (name_done d))) old new
    × IsExpected (world old.plan old.history) d (Some (tag_done d)) × (new.out ≡ old.out)
GivesFresh d old new (back.Stale expected found) =
    (found ≡ tag_done d) × (expected ≢ Some found) × IsExpected (world old.plan old.history) d expected
    × HasTurn old × (new ≡ old)
GivesFresh d old new back.Late = IsUsedUp old × (new ≡ old)

-- what is answered where a result is given back
abbrev pub Gives : {D J B : Type 0} → JobDone → Seen D J B → Seen D J B → Back → Type 0
Gives d old new answer = GivesFresh d (record old { out = without_job (name_done d) old.out }) new answer
