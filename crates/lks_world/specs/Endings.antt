-- What became of a step while the power failed.
use Rattle.std.specs.Prelude.{◌≡◌, ◌≤◌, ◌<◌, ◌-◌, ◌⊎◌, ◌++◌, ◌∷◌, [], ℕ, Bool, true, false, Option, Some, None}
use Rattle.std.specs.Prelude.{IsSome, List, length, slice_get, Result, Ok, Err}
use Rattle.std.specs.List.{filter_map}
use Rattle.lks_base.specs.declared.entries.Note.{Note}
use Rattle.lks_base.specs.declared.events.Event.{Event}
use Rattle.lks_base.specs.declared.events.Event.TheVariants as events
use Rattle.lks_base.specs.declared.events.PeerStep.{PeerStep}
use Rattle.lks_base.specs.declared.limits.TheConstants.{MOST_EVENTS}
use Rattle.lks_base.specs.declared.plans.Plan.{Plan}
use Rattle.lks_base.specs.declared.reactions.Outgoing.{Outgoing}
use Rattle.lks_base.specs.declared.reactions.Reaction.{Reaction}
use Rattle.lks_disk.specs.Counts.{raised}
use Rattle.lks_disk.specs.Face.{Face}
use Rattle.lks_host.specs.Cutting.{IsCutShort}
use Rattle.lks_host.specs.Hosted.{IsMadeBy}
use Rattle.lks_host.specs.declared.hosts.Host.{Host}
use Rattle.lks_host.specs.declared.outcomes.AfterCut.{AfterCut}
use Rattle.lks_host.specs.declared.outcomes.AfterCut.TheVariants as outcome
use Rattle.lks_law.specs.Entries.{note_with, notes_at, notes_of}
use Rattle.lks_law.specs.Histories.{MayStep, added_by}
use Rattle.lks_law.specs.Reaction.{no_effect}
use Rattle.lks_law.specs.Table.{reaction}
use Rattle.lks_law.specs.World.{Deed, Standing, effect_of, peer_at, peers_after}
use Rattle.lks_world.specs.Cuts.{taker_of}
use Rattle.lks_world.specs.Hosts.{peer_in, peers_of, with_added}
use Rattle.lks_world.specs.Sites.{hosts_of, BurnsAt, Powered}
use Rattle.lks_world.specs.States.{events_in, world_in, Becomes}
use Rattle.lks_world.specs.declared.cutting.Ending.{Ending}
use Rattle.lks_world.specs.declared.cutting.Ending.TheVariants.{Whole, Kept, Lost}
use Rattle.lks_world.specs.declared.faults.WorldFault.{WorldFault}
use Rattle.lks_world.specs.declared.sites.Site.{Site}
use Rattle.lks_world.specs.declared.states.State.{State}

-- what a peer adds and sends where it is told something, or nothing
abbrev pub answer_to : ℕ → Standing → Option Deed → Reaction
answer_to tick s None = no_effect
answer_to tick s (Some d) = reaction s.own s.journal tick d.input

-- What became of a reaction with these notes: of all of it, of its records without its messages, or of nothing. What
-- stood before stands with the records, or as before.
abbrev pub EndsAs : {P : Type 0} → Reaction → List Note → ℕ → P → P → Ending → P → Type 0
EndsAs r notes calls before added (Whole done) after =
    (done.sends ≡ r.sends) × (done.notes ≡ notes) × (after ≡ added) × ((r.records ≡ []) ⊎ (4 ≤ calls))
EndsAs r notes calls before added (Kept kept) after =
    (kept ≡ notes) × (after ≡ added) × IsCutShort r calls × (2 ≤ calls)
EndsAs r notes calls before added Lost after = (after ≡ before) × IsCutShort r calls

-- the fuse of so many calls and this choice burned, once
pub record BurnsOnce {D : Type 0} (f : Face D) (calls choice : ℕ) (before after : D) : Type 0 where
  pub rose : f.burns after ≡ raised (f.burns before)
  pub allowed : f.calls after ≡ calls
  pub chosen : f.choice after ≡ choice

-- it did, unless the step was done before
abbrev pub BurnsFor : {D : Type 0} → Face D → ℕ → ℕ → Ending → D → D → Type 0
BurnsFor f calls choice (Whole done) before after = f.burns after ≡ f.burns before
BurnsFor f calls choice (Kept notes) before after = BurnsOnce f calls choice before after
BurnsFor f calls choice Lost before after = BurnsOnce f calls choice before after

-- what is noted of an outcome, by whether a vote that comes in is an inner one
abbrev pub ending_of : (ℕ → ℕ → Bool) → AfterCut → Ending
ending_of is_in (outcome.Whole r) = Whole (record { notes = filter_map (note_with is_in) r.records; sends = r.sends })
ending_of is_in (outcome.Kept records) = Kept (filter_map (note_with is_in) records)
ending_of is_in outcome.Lost = Lost

-- What is told of an ending: its event, its notes, and what goes out.

abbrev pub event_for : PeerStep → Ending → Event
event_for s (Whole done) = events.Step s
event_for s (Kept notes) = events.Cut s true
event_for s Lost = events.Cut s false

abbrev pub notes_for : Ending → List Note
notes_for (Whole done) = done.notes
notes_for (Kept notes) = notes
notes_for Lost = []

abbrev pub sends_for : Ending → List Outgoing
sends_for (Whole done) = done.sends
sends_for (Kept notes) = []
sends_for Lost = []

abbrev pub is_whole : Ending → Bool
is_whole (Whole done) = true
is_whole (Kept notes) = false
is_whole Lost = false

-- The same of a host, of the peers of a world, and of its sites.

abbrev pub HostEnds : {D : Type 0} → Face D → Reaction → ℕ → Host D → Host D → Ending → Type 0
HostEnds f r calls h k e =
    EndsAs r (notes_at (Some (peer_in f h)) r.records) calls (peer_in f h) (with_added (peer_in f h) r.records) e
    (peer_in f k)

abbrev pub PeersEnd : ℕ → Option Deed → ℕ → List Standing → List Standing → Ending → Type 0
PeersEnd tick deed calls before after e =
    EndsAs (effect_of tick before deed) (notes_of tick before deed) calls before (peers_after tick before deed) e
    after

abbrev pub SitesBurnFor : {D : Type 0} → Face D → ℕ → ℕ → ℕ → List (Site D) → List (Site D) → Ending → Type 0
SitesBurnFor f calls choice id before after (Whole done) = Unit {0}
SitesBurnFor f calls choice id before after (Kept notes) = BurnsAt f calls choice id before after
SitesBurnFor f calls choice id before after Lost = BurnsAt f calls choice id before after

-- the power of the peer was cut, and its fuse burned unless the step was done before
abbrev pub PowersEnd : {D : Type 0} → Face D → ℕ → List (Site D) → List (Site D) → Bool → Type 0
PowersEnd f id before after true = Powered f [] (id ∷ []) before after
PowersEnd f id before after false = Powered f (id ∷ []) (id ∷ []) before after

-- at a refusal it was cut or it wasn't
abbrev pub MayLosePower : {D : Type 0} → Face D → ℕ → List (Site D) → List (Site D) → Type 0
MayLosePower f id before after = Powered f [] [] before after ⊎ ((is_done : Bool) × PowersEnd f id before after is_done)

-- the same of an answer that says whether it was done
abbrev pub PowerEnds : {D T : Type 0} → Face D → (T → Bool) → ℕ → List (Site D) → List (Site D)
    → Result T WorldFault → Type 0
PowerEnds f is_done id before after (Ok x) = PowersEnd f id before after (is_done x)
PowerEnds f is_done id before after (Err fault) = MayLosePower f id before after

-- whose host was made by this plan
abbrev pub AreMade : {D : Type 0} → Plan → List (Host D) → Type 0
AreMade {D} plan hosts = (place : ℕ) (h : Host D) → slice_get hosts place ≡ Some h → IsMadeBy plan h.peer.own

-- the step is one that an honest peer can take now, and there is room for its event
pub record CanTake {D : Type 0} (f : Face D) (plan : Plan) (state : State D) (s : PeerStep) : Type 0 where
  pub room : 0 < MOST_EVENTS - length state.history.items
  pub may : MayStep plan (world_in f state) s
  pub there : IsSome (peer_at (taker_of state.bag.items s) (peers_of f (hosts_of state.sites.items)))

-- What a step came to in a world: it was done, or it was cut off, kept or lost.
abbrev pub HasEnded : {D : Type 0} → Face D → Plan → ℕ → State D → PeerStep → State D → Bool → Type 0
HasEnded f plan calls before s after true =
    Becomes f plan (events_in before ++ events.Step s ∷ []) after
    × ((added_by (world_in f before) s ≡ []) ⊎ (4 ≤ calls))
HasEnded f plan calls before s after false =
    (is_kept : Bool) × Becomes f plan (events_in before ++ events.Cut s is_kept ∷ []) after
    × (added_by (world_in f before) s ≡ [] → ⊥) × (calls < 4) × (calls < 2 → is_kept ≡ false)

-- a fuse burned on the disk of its peer, unless it was done
abbrev pub BurnsUnless : {D : Type 0} → Face D → ℕ → ℕ → ℕ → List (Site D) → List (Site D) → Bool → Type 0
BurnsUnless f calls choice id before after true = Unit {0}
BurnsUnless f calls choice id before after false = BurnsAt f calls choice id before after
