-- The state of a world, and the history that it stands for.
use Rattle.std.specs.Prelude.{◌≡◌, ◌≤◌, ◌==◌, ◌*◌, ◌++◌, ◌∷◌, ℕ, true, not, filter, map, Option, None, Some, List, []}
use Rattle.std.specs.Prelude.{length, slice_get, Result, Ok, Err}
use Rattle.std.specs.List.{flat_map}
use Rattle.lks_disk.specs.Face.{Face}
use Rattle.lks_base.specs.Checking.{plan_fault}
use Rattle.lks_base.specs.Steps.{Act, act_of}
use Rattle.lks_base.specs.declared.entries.Entry.{Entry}
use Rattle.lks_base.specs.declared.events.Due.{Due}
use Rattle.lks_base.specs.declared.events.Event.{Event}
use Rattle.lks_base.specs.declared.events.PeerStep.{PeerStep}
use Rattle.lks_base.specs.declared.limits.TheConstants.{MOST_TICKS}
use Rattle.lks_base.specs.declared.plans.Plan.{Plan}
use Rattle.lks_host.specs.Cutting.{Falls}
use Rattle.lks_host.specs.declared.hosts.Host.{Host}
use Rattle.lks_law.specs.Batches.{batches_at}
use Rattle.lks_law.specs.Due.{is_pending, pending, ready_at, turns_at, next_to_settle, next_to_deliver, next_to_finish}
use Rattle.lks_law.specs.Entries.{entries}
use Rattle.lks_law.specs.Histories.{IsHistory}
use Rattle.lks_law.specs.Turning.{ready_on, turns_on}
use Rattle.lks_law.specs.World.{World, Standing, world, effect_of, deed_of}
use Rattle.lks_peer.specs.Knows.{Knowing}
use Rattle.lks_world.specs.Held.{with_next}
use Rattle.lks_world.specs.Hosts.{peers_of, IsHostAt}
use Rattle.lks_world.specs.Sites.{hosts_of}
use Rattle.lks_world.specs.declared.settling.Course.{Course}
use Rattle.lks_world.specs.declared.settling.Course.TheVariants.{Settling, Delivering, Finishing}
use Rattle.lks_world.specs.declared.settling.OwnSteps.{OwnSteps}
use Rattle.lks_world.specs.declared.settling.OwnSteps.TheVariants.{Ready, Turns}
use Rattle.lks_world.specs.declared.sites.Site.{Site}
use Rattle.lks_world.specs.declared.sites.Site.TheVariants as site
use Rattle.lks_world.specs.declared.states.State.{State}

-- the envelopes that still wait after a step: all but the one that it delivers
abbrev pub left_after : PeerStep → List ℕ → List ℕ
left_after s waiting = left_by (act_of s) where
  left_by : Act → List ℕ
  left_by (Act.Own peer) = waiting
  left_by (Act.Delivery envelope judged) = filter (λ i. not (i == envelope)) waiting

abbrev pub world_in : {D : Type 0} → Face D → State D → World
world_in f s = record { peers = peers_of f (hosts_of s.sites.items); bag = s.bag.items; tick = s.tick }

-- how many envelopes a step sends
unfoldable pub sends_in : World → PeerStep → ℕ
sends_in w s = length (effect_of w.tick w.peers (deed_of w.bag s)).sends

abbrev pub events_of : List Entry → List Event
events_of history = map (λ e. e.event) history

-- the events that were kept
abbrev pub events_in : {D : Type 0} → State D → List Event
events_in s = events_of s.history.items

-- the events are a history of this good plan, the state is that of its world, and each honest peer's disk holds the
-- batches of these events; the clock moved by at most 1,000,000 at each
pub record IsStateOf {D : Type 0} (f : Face D) (plan : Plan) (s : State D) : Type 0 where
  pub good : plan_fault plan ≡ None
  pub happened : IsHistory plan (events_in s)
  pub world : world_in f s ≡ world plan (events_in s)
  pub entries : s.history.items ≡ entries plan (events_in s)
  pub pending : s.pending.items ≡ pending plan (events_in s)
  pub clock : s.tick ≤ MOST_TICKS * length s.history.items
  pub fresh : (i : ℕ) → length s.bag.items ≤ i → is_pending (events_in s) i ≡ true
  pub hosts : (place : ℕ) (h : Host D) → slice_get (hosts_of s.sites.items) place ≡ Some h
      → IsHostAt f s.pool.now (batches_at place plan (events_in s)) (length s.history.items) h

-- the state is that of the plan's world after this history
pub record Becomes {D : Type 0} (f : Face D) (plan : Plan) (history : List Event) (s : State D) : Type 0 where
  pub state : IsStateOf f plan s
  pub events : events_in s ≡ history

-- a crash leaves of each honest peer's disk the batches of its journal, or those with the batch of a step that was
-- begun
abbrev pub AreLeft : {D : Type 0} → Face D → Plan → Option PeerStep → State D → Type 0
AreLeft {D} f plan next s =
    (place : ℕ) (h : Host D) → slice_get (hosts_of s.sites.items) place ≡ Some h
    → Falls f (batches_at place plan (events_in s)) (batches_at place plan (with_next (events_in s) next))
    h.journal.disk

-- one entry more, or at a refusal none
abbrev pub HasNoted : {T F : Type 0} → Entry → List Entry → List Entry → Result T F → Type 0
HasNoted e before after (Ok _) = after ≡ before ++ e ∷ []
HasNoted e before after (Err _) = after ≡ before

-- a history that goes on from an earlier one, with an entry for each event
pub record Extends (plan : Plan) (before after : List Entry) : Type 0 where
  pub more : List Event
  pub events : events_of after ≡ events_of before ++ more
  pub happened : IsHistory plan (events_of after)
  pub entries : after ≡ entries plan (events_of after)

-- the steps of a peer that are due together

abbrev pub steps_of : OwnSteps → Standing → List PeerStep
steps_of Ready = ready_at
steps_of Turns = turns_at

-- those of a peer in its state
abbrev pub steps_on : OwnSteps → Knowing → List PeerStep
steps_on Ready k = ready_on k.own k.state
steps_on Turns k = turns_on k.own k.state

abbrev pub site_steps : {D : Type 0} → OwnSteps → Site D → List PeerStep
site_steps part (site.Host h) = steps_on part h.peer
site_steps part (site.Idle d) = []

-- what comes next on each course, and the steps of their own that peers take on it

abbrev pub next_of : Course → Plan → List Event → Option Due
next_of Settling = next_to_settle
next_of Delivering = next_to_deliver
next_of Finishing = next_to_finish

abbrev pub own_steps : Course → List Standing → List PeerStep
own_steps Settling peers = flat_map ready_at peers
own_steps Delivering peers = []
own_steps Finishing peers = flat_map ready_at peers ++ flat_map turns_at peers

-- the same of the sites
abbrev pub steps_there : {D : Type 0} → Course → List (Site D) → List PeerStep
steps_there Settling sites = flat_map (site_steps Ready) sites
steps_there Delivering sites = []
steps_there Finishing sites = flat_map (site_steps Ready) sites ++ flat_map (site_steps Turns) sites
