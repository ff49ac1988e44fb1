-- A world of peers: their journals, the bag of all envelopes ever sent, and the clock. A history is a list of events.
use Rattle.std.specs.Prelude.{ℕ, Bool, true, false, not, ◌==◌, ◌&&◌, ◌+◌, if◌then◌else◌, Option, Some, None, Ok, Err}
use Rattle.std.specs.Prelude.{List, [], ◌∷◌, ◌++◌, map, filter, find, slice_get}
use Rattle.std.specs.List.{filter_map, flat_map}
use Rattle.lks_base.specs.declared.events.Envelope.{Envelope}
use Rattle.lks_base.specs.declared.events.Event.{Event}
use Rattle.lks_base.specs.declared.events.Event.TheVariants.{Step, Cut, Tick, Lose, Forge, Crash}
use Rattle.lks_base.specs.declared.events.PeerStep.{PeerStep}
use Rattle.lks_base.specs.declared.events.PeerStep.TheVariants.{OpenPoll, Widen, Shut, Tally, Nudge, GiveUp, Work}
use Rattle.lks_base.specs.declared.events.PeerStep.TheVariants.{Expire, Check, Tune, Deliver}
use Rattle.lks_base.specs.declared.messages.Message.{Message}
use Rattle.lks_base.specs.declared.names.Judged.{Judged}
use Rattle.lks_base.specs.declared.plans.AuPlan.{AuPlan}
use Rattle.lks_base.specs.declared.plans.Holding.{Holding}
use Rattle.lks_base.specs.declared.plans.PeerPlan.{PeerPlan}
use Rattle.lks_base.specs.declared.plans.Plan.{Plan}
use Rattle.lks_base.specs.declared.reactions.Input.{Input}
use Rattle.lks_base.specs.declared.reactions.Input.TheVariants as input
use Rattle.lks_base.specs.declared.reactions.Outgoing.{Outgoing}
use Rattle.lks_base.specs.declared.reactions.Reaction.{Reaction}
use Rattle.lks_base.specs.declared.records.Record.{Record}
use Rattle.lks_base.specs.declared.records.Record.TheVariants.{Deposit}
use Rattle.lks_law.specs.Polls.{Station}
use Rattle.lks_law.specs.Reaction.{no_effect}
use Rattle.lks_law.specs.Table.{reaction}
use Rattle.lks_message.specs.Reading.{decode_of}

-- an honest peer: what it goes by, and its journal
pub record Standing : Type 0 where
  pub own : Station
  pub journal : List Record

pub record World : Type 0 where
  pub peers : List Standing  -- the honest ones, in the plan's order
  pub bag : List Envelope
  pub tick : ℕ

-- The beginning.

abbrev pub station_of : Plan → PeerPlan → Station
station_of plan p =
    record {
      rules = plan.rules;
      aus = plan.aus;
      id = p.id;
      seed = p.seed;
      proof = p.proof;
      refs = p.refs;
      friends = p.friends;
      hash = p.hash;
    }

abbrev pub deposit_for : AuPlan → Holding → Option Record
deposit_for au copy = if copy.au == au.id then Some (Deposit au.id copy.blocks) else None

-- the deposits of a peer, in the plan's order of AUs
unfoldable pub deposits : List AuPlan → List Holding → List Record
deposits aus copies = flat_map (λ au. filter_map (deposit_for au) copies) aus

abbrev pub standing_of : Plan → PeerPlan → Standing
standing_of plan p = record { own = station_of plan p; journal = deposits plan.aus p.copies }

abbrev pub is_honest : PeerPlan → Bool
is_honest p = not p.corrupt

-- the honest peer of a plan that has this number
abbrev pub is_honest_at : ℕ → PeerPlan → Bool
is_honest_at id p = p.id == id && is_honest p

abbrev pub honest_peer : ℕ → Plan → Option PeerPlan
honest_peer id plan = find (is_honest_at id) plan.peers

unfoldable pub start : Plan → World
start plan = record { peers = map (standing_of plan) (filter is_honest plan.peers); bag = []; tick = 0 }

-- A step: who takes it, and what it is to that peer.

pub record Deed : Type 0 where
  pub peer : ℕ
  pub input : Input

-- a delivery gives the receiver what the bytes spell, and nothing where they spell no message
abbrev pub got : Envelope → Judged → Option Message → Option Deed
got e judged None = None
got e judged (Some m) = Some (record { peer = e.to; input = input.Got e.from m judged })

abbrev pub message_in : List ℕ → Option Message
message_in bytes = elim (decode_of bytes) [ Ok m ↦ Some m | Err fault ↦ None ]

abbrev pub delivers : Option Envelope → Judged → Option Deed
delivers None judged = None
delivers (Some e) judged = got e judged (message_in e.bytes)

unfoldable pub own_deed_of : PeerStep → Option Deed
own_deed_of (OpenPoll peer au) = Some (record { peer = peer; input = input.OpenPoll au })
own_deed_of (Widen peer number) = Some (record { peer = peer; input = input.Widen number })
own_deed_of (Shut peer number) = Some (record { peer = peer; input = input.Shut number })
own_deed_of (Tally peer number) = Some (record { peer = peer; input = input.Tally number })
own_deed_of (Nudge peer number) = Some (record { peer = peer; input = input.Nudge number })
own_deed_of (GiveUp peer number) = Some (record { peer = peer; input = input.GiveUp number })
own_deed_of (Work peer poll) = Some (record { peer = peer; input = input.Work poll })
own_deed_of (Expire peer poll) = Some (record { peer = peer; input = input.Expire poll })
own_deed_of (Check peer) = Some (record { peer = peer; input = input.Check })
own_deed_of (Tune peer quorum minority repairs) =
    Some (record { peer = peer; input = input.Tune quorum minority repairs })
own_deed_of (Deliver envelope judged) = None

unfoldable pub deed_of : List Envelope → PeerStep → Option Deed
deed_of bag (Deliver envelope judged) = delivers (slice_get bag envelope) judged
deed_of bag s = own_deed_of s

-- the honest peer of this number
unfoldable pub peer_at : ℕ → List Standing → Option Standing
peer_at id [] = None
peer_at id (s ∷ ss) = if s.own.id == id then Some s else peer_at id ss

abbrev pub reaction_at : ℕ → Option Standing → Input → Reaction
reaction_at tick None i = no_effect
reaction_at tick (Some s) i = reaction s.own s.journal tick i

-- what a deed makes its peer add and send
abbrev pub effect_of : ℕ → List Standing → Option Deed → Reaction
effect_of tick peers None = no_effect
effect_of tick peers (Some d) = reaction_at tick (peer_at d.peer peers) d.input

abbrev pub with_records : ℕ → List Record → List Standing → List Standing
with_records id added [] = []
with_records id added (s ∷ ss) =
    if s.own.id == id then record { own = s.own; journal = s.journal ++ added } ∷ ss else s ∷ with_records id added ss

abbrev pub sent_by : ℕ → Outgoing → Envelope
sent_by from o = record { from = from; to = o.to; bytes = o.bytes }

abbrev pub peers_after : ℕ → List Standing → Option Deed → List Standing
peers_after tick peers None = peers
peers_after tick peers (Some d) = with_records d.peer (effect_of tick peers (Some d)).records peers

abbrev pub actor_of : Option Deed → ℕ
actor_of None = 0
actor_of (Some d) = d.peer

abbrev pub letters_sent : ℕ → List Standing → Option Deed → List Envelope
letters_sent tick peers d = map (sent_by (actor_of d)) (effect_of tick peers d).sends

-- the world after a step whose messages go out or don't
unfoldable pub after_step : World → PeerStep → Bool → World
after_step w s goes_out =
    record {
      peers = peers_after w.tick w.peers (deed_of w.bag s);
      bag = if goes_out then w.bag ++ letters_sent w.tick w.peers (deed_of w.bag s) else w.bag;
      tick = w.tick;
    }

-- a cut step sends nothing, and its records are kept or lost as a whole
unfoldable pub happens : World → Event → World
happens w (Step s) = after_step w s true
happens w (Cut s kept) = if kept then after_step w s false else w
happens w (Tick by) = record { peers = w.peers; bag = w.bag; tick = w.tick + by }
happens w (Lose envelope) = w
happens w (Forge from to bytes) =
    record { peers = w.peers; bag = w.bag ++ record { from = from; to = to; bytes = bytes } ∷ []; tick = w.tick }
happens w (Crash peer) = w

abbrev pub happen_all : World → List Event → World
happen_all w [] = w
happen_all w (e ∷ es) = happen_all (happens w e) es

-- the world after a history
unfoldable pub world : Plan → List Event → World
world plan history = happen_all (start plan) history
