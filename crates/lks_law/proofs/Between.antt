-- In every history the journals and the envelopes of different peers agree.
use Rattle.std.proofs.Common.{◌≡◌, subst, ℕ, List}
use Rattle.std.specs.Prelude.{Option, Some, None}
use Rattle.lks_base.specs.Checking.{plan_fault}
use Rattle.lks_base.specs.declared.events.Envelope.{Envelope}
use Rattle.lks_base.specs.declared.events.Event.{Event}
use Rattle.lks_base.specs.declared.plans.Plan.{Plan}
use Rattle.lks_base.specs.declared.records.Record.{Record}
use Rattle.lks_law.specs.Histories.{IsHistory}
use Rattle.lks_law.specs.Linked.{IsSaid, IsTold, IsLinked, AreLinked}
use Rattle.lks_law.specs.World.{Standing, peer_at, world}
use Rattle.lks_law.proofs.Knowing.{voted_so}
use Rattle.lks_law.proofs.Linked.{Any, Heard, IsSpelling, IsFrom, Fact}
use Rattle.lks_law.proofs.Linking.{place_at}
use Rattle.lks_law.proofs.Matching.{joined_so, committed_so, counted_so}
use Rattle.lks_law.proofs.Starts.{world_holds}
use Rattle.lks_law.proofs.Worlds.{IsSound, place_of}

told : (peers : List Standing) (e : Envelope) (s : Standing) → peer_at e.from peers ≡ Some s → IsFrom peers e
    → IsTold s.journal e
told peers e s from is =
    let spelled : IsSpelling e.bytes = subst (Any _) from is.spelled in
    record {
      message = spelled.0;
      spelled = spelled.1;
      says = (subst (λ o. Heard o e.to spelled.0) from (is.heard spelled.0 spelled.1)).1;
    }

module _ (peers : List Standing) (k : ℕ) (s : Standing) (sound : IsSound peers k s) where
  -- the fact of a record that says this
  fact_of : {X : Type 0} {says : Record → Option X} {x : X} → (said : IsSaid says s.journal x)
      → Fact peers s.own s.journal said.item
  fact_of said =
      subst (Any (Fact peers s.own s.journal)) said.there
      (place_of (Fact peers s.own s.journal) s.journal said.place sound.records)

  linked : IsLinked peers s
  linked = record {
    opened_once = sound.single.openings_are;
    joined_once = sound.single.joins;
    committed_once = sound.single.commitments;
    voted_once = sound.single.votes;
    joined = λ q join t said at.
        subst (Any _) at (joined_so peers s.own s.journal sound.records q said.item join said.said (fact_of said));
    committed = λ q c t said at.
        subst (Any _) at (committed_so peers s.own s.journal sound.records q said.item c said.said (fact_of said));
    voted = λ q hashes said. voted_so peers s.own s.journal sound.records q said.item hashes said.said (fact_of said);
    counted = λ n v t said at.
        subst (Any _) at (counted_so peers s.own s.journal sound.records n said.item v said.said (fact_of said)).0;
  }

pub are_linked : (plan : Plan) (history : List Event) → plan_fault plan ≡ None → IsHistory plan history
    → AreLinked (world plan history)
are_linked plan history good is =
    let holds = world_holds plan history good is in
    let peers = (world plan history).peers in
    let bag = (world plan history).bag in
    record {
      envelopes =
          λ place e s at from. told peers e s from
          (subst (Any _) at (place_of _ bag place holds.linked.bagged));
      journals =
          λ place s at. linked peers _ s
          (holds.linked.each s.own.id s (place_at peers place s holds.apart at));
    }
