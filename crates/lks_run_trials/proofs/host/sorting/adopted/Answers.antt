use Rattle.std.proofs.Common.{sym, subst, ℕ, List}
use Rattle.lks_base.specs.declared.records.Record.{Record}
use Rattle.lks_law.specs.World.{station_of}
use Rattle.lks_host.specs.Owners.{HasPeer, Owns}
use Rattle.lks_host.specs.declared.sorting.PeerSort.TheVariants.{Whole, Begun}
use Rattle.lks_run_trials.proofs.host.sorting.adopted.Goals as goal

pub host_of-requires-clause-owned : goal.host_of-requires-clause-owned
host_of-requires-clause-owned g c = (
  c.in_ok-journal.bodies.items,
  c.in_ok-journal.ensures,
  λ p there.
      let plan = c.args.plan.now in
      let peer = c.in-Whole.peer in
      let has : HasPeer (station_of plan p) c.args.pool.now plan.aus p.copies c.deref-2.result.now
      (Whole peer c.in-Whole.list) =
      subst (HasPeer (station_of plan p) c.args.pool.now plan.aus p.copies c.deref-2.result.now) c.in-Whole.is
      (c.in_ok-peer.ensures.peer p there) in
      subst
      (λ (bodies : List (List ℕ)). Owns (station_of plan p) plan.aus p.copies bodies c.as_slice.result.now peer)
      c.deref-2.ensures.value
      (subst (λ (list : List Record). Owns (station_of plan p) plan.aus p.copies c.deref-2.result.now list peer)
      (sym c.as_slice.ensures) has.2),
)

pub host_of-requires-in-Begun-clause-owned : goal.host_of-requires-in-Begun-clause-owned
host_of-requires-in-Begun-clause-owned g c = (
  c.in_ok-journal.bodies.items,
  c.in_ok-journal.ensures,
  λ p there.
      let plan = c.args.plan.now in
      let peer = c.in-Begun.peer in
      let has : HasPeer (station_of plan p) c.args.pool.now plan.aus p.copies c.deref-2.result.now
      (Begun peer c.in-Begun.list) =
      subst (HasPeer (station_of plan p) c.args.pool.now plan.aus p.copies c.deref-2.result.now) c.in-Begun.is
      (c.in_ok-peer.ensures.peer p there) in
      subst
      (λ (bodies : List (List ℕ)). Owns (station_of plan p) plan.aus p.copies bodies
      c.as_slice-in-Begun.result.now peer) c.deref-2.ensures.value
      (subst (λ (list : List Record). Owns (station_of plan p) plan.aus p.copies c.deref-2.result.now list peer)
      (sym c.as_slice-in-Begun.ensures) has.1),
)
