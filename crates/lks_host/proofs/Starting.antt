-- A peer in the state of its deposits.
use Rattle.std.proofs.Common.{◌≡◌, ◌∙◌, ap, sym, subst, ℕ, true, false, List, [], ◌∷◌, refl}
use Rattle.std.specs.Prelude.{Option, Some, None, Result, Ok, Err, IfOk, option_map}
use Rattle.std.specs.List.{list_all}
use Rattle.lks_base.specs.declared.plans.AuPlan.{AuPlan}
use Rattle.lks_base.specs.declared.plans.Holding.{Holding}
use Rattle.lks_base.specs.declared.plans.PeerPlan.{PeerPlan}
use Rattle.lks_base.specs.declared.plans.Plan.{Plan}
use Rattle.lks_base.specs.declared.records.Record.{Record}
use Rattle.lks_base.specs.declared.records.Record.TheVariants.{Deposit}
use Rattle.lks_law.specs.Behind.{latest_tick}
use Rattle.lks_law.specs.Facts.{IsJournalOf}
use Rattle.lks_law.specs.Journal.{was_tuned}
use Rattle.lks_law.specs.Polls.{Station}
use Rattle.lks_law.specs.State.{state_of}
use Rattle.lks_law.specs.World.{deposits, station_of, standing_of}
use Rattle.lks_law.specs.Written.{is_deposit}
use Rattle.lks_law.proofs.Sorting.{begun_is, latest_deposits}
use Rattle.lks_law.proofs.Writing.{deposits_are}
use Rattle.lks_peer.specs.Knows.{Knowing, knowing_of}
use Rattle.lks_host.specs.Owners.{HasPeer}
use Rattle.lks_host.specs.Sorted.{IsUpTo}
use Rattle.lks_host.specs.declared.sorting.PeerSort.{PeerSort}
use Rattle.lks_host.specs.declared.sorting.Sorter.{Sorter}

untuned_deposits : (js : List Record) → list_all is_deposit js ≡ true → was_tuned js ≡ false
unfolding was_tuned
untuned_deposits [] all = refl
untuned_deposits (Deposit au blocks ∷ js) all = untuned_deposits js all
untuned_deposits (j ∷ js) all = absurd cc

pub record Starts (plan : Plan) (p : PeerPlan) (s : Sorter) : Type 0 where
  pub own : s.peer.own ≡ station_of plan p
  pub upto : IsUpTo plan.aus p.copies s

starts : (plan : Plan) (pool : List ℕ) (p : PeerPlan) (s : Sorter) → s.peer ≡ knowing_of pool (standing_of plan p)
    → s.list.items ≡ deposits plan.aus p.copies → s.last ≡ 0 → s.tuned ≡ false → Starts plan p s
starts plan pool p s peer list last new = record {
  own = own;
  upto = record {
    state = ap (λ (k : Knowing). k.state) peer ∙ (λ i. state_of (own' i) (list' i));
    last =
        last ∙ sym (latest_deposits (deposits plan.aus p.copies) (deposits_are plan.aus p.copies))
        ∙ ap latest_tick list';
    tuned =
        new ∙ sym (untuned_deposits (deposits plan.aus p.copies) (deposits_are plan.aus p.copies))
        ∙ ap was_tuned list';
    journal =
        subst (λ (js : List Record). IsJournalOf s.peer.own (deposits plan.aus p.copies) (latest_tick js) js) list'
        (begun_is s.peer.own (deposits plan.aus p.copies));
  };
}
  where
    own : s.peer.own ≡ station_of plan p
    own = ap (λ (k : Knowing). k.own) peer

    own' : station_of plan p ≡ s.peer.own
    own' = sym (ap (λ (k : Knowing). k.own) peer)

    list' : deposits plan.aus p.copies ≡ s.list.items
    list' = sym list

-- what was begun is such a peer of the plan
module _ (plan : Plan) (pool : List ℕ) (peer : Knowing) (items : List Record) (s : Sorter) (same : s.peer ≡ peer)
    (list : s.list.items ≡ items) (last : s.last ≡ 0) (new : s.tuned ≡ false) where
  pub started_as : (o : Option PeerPlan) (p : PeerPlan) → o ≡ Some p
      → option_map (λ q. knowing_of pool (standing_of plan q)) o ≡ Some peer
      → option_map (λ q. (standing_of plan q).journal) o ≡ Some items → Starts plan p s
  started_as None p is knows holds = absurd cc
  started_as (Some q) p is knows holds =
      let one : q ≡ p = cc in
      let known : knowing_of pool (standing_of plan q) ≡ peer = cc in
      let held : (standing_of plan q).journal ≡ items = cc in
      subst (λ (x : PeerPlan). Starts plan x s) one (starts plan pool q s (same ∙ sym known) (list ∙ sym held) last new)

  pub started_upto : (o : Option PeerPlan) → option_map (λ q. knowing_of pool (standing_of plan q)) o ≡ Some peer
      → option_map (λ q. (standing_of plan q).journal) o ≡ Some items
      → (aus : List AuPlan) × (copies : List Holding) × IsUpTo aus copies s
  started_upto None knows holds = absurd cc
  started_upto (Some q) knows holds = (plan.aus, q.copies, (started_as (Some q) q refl knows holds).upto)

-- who is owner as it stood is owner as one of the plan
pub peer_as : {E : Type 0} (plan : Plan) (pool : List ℕ) (bodies : List (List ℕ)) (p : PeerPlan) (s : Sorter)
    (result : Result PeerSort E)
    → Starts plan p s
    → IfOk result
    (λ x. (aus : List AuPlan) (copies : List Holding) → IsUpTo aus copies s
    → HasPeer s.peer.own pool aus copies bodies x)
    → IfOk result (λ x. HasPeer (station_of plan p) pool plan.aus p.copies bodies x)
peer_as plan pool bodies p s (Ok x) starts all =
    subst (λ (own : Station). HasPeer own pool plan.aus p.copies bodies x) starts.own
    (all plan.aus p.copies starts.upto)
peer_as plan pool bodies p s (Err e) starts all = tt
