use Rattle.std.proofs.Common.{◌≡◌, ◌∙◌, ℕ, List, ap, refl, subst, sym}
use Rattle.std.specs.Prelude.{Option, None, Some, map, option_map}
use Rattle.lks_base.specs.declared.plans.PeerPlan.{PeerPlan}
use Rattle.lks_base.specs.declared.plans.Plan.{Plan}
use Rattle.lks_base.specs.declared.records.Record.{Record}
use Rattle.lks_disk.specs.MemFace.{mem_face}
use Rattle.lks_disk.specs.declared.memory.MemDisk.{MemDisk}
use Rattle.lks_host.proofs.Standing.{made_begun}
use Rattle.lks_host.specs.Hosted.{IsMadeBy, StandsFor}
use Rattle.lks_host.specs.declared.hosts.Host.{Host}
use Rattle.lks_law.specs.Batches.{alone}
use Rattle.lks_law.specs.World.{honest_peer, standing_of}
use Rattle.lks_peer.specs.Knows.{Knowing, knowing_of}
use Rattle.lks_run_trials.proofs.host.hosts.cut_host.Goals as goal

-- it is over the pool with which it began
pool_begun : (plan : Plan) (pool : List ℕ) (o : Option PeerPlan) (peer : Knowing)
    → option_map (λ (p : PeerPlan). knowing_of pool (standing_of plan p)) o ≡ Some peer → pool ≡ peer.pool
pool_begun plan pool None peer is = absurd cc
pool_begun plan pool (Some p) peer is =
    let same : knowing_of pool (standing_of plan p) ≡ peer = cc in
    ap (λ (k : Knowing). k.pool) same

-- and stands for its deposits
stands_begun : (plan : Plan) (pool : List ℕ) (host : Host MemDisk) (o : Option PeerPlan) → honest_peer 1 plan ≡ o
    → option_map (λ (p : PeerPlan). knowing_of pool (standing_of plan p)) o ≡ Some host.peer
    → ((p : PeerPlan) → honest_peer 1 plan ≡ Some p
    → StandsFor mem_face host (map alone (standing_of plan p).journal))
    → (batches : List (List Record)) × StandsFor mem_face host batches
stands_begun plan pool host None found is stands = absurd cc
stands_begun plan pool host (Some p) found is stands = (map alone (standing_of plan p).journal, stands p found)

pub returns-clause-can : goal.returns-clause-can
returns-clause-can g c =
    let plan = c.args.plan.now in
    let did = c.in-Ok.ensures in
    let stands = stands_begun plan c.args.pool.now c.in-Ok.host (honest_peer 1 plan) refl did.peer (did.stands tt) in
    record {
      pooled =
          pool_begun plan c.args.pool.now (honest_peer 1 plan) c.in-Ok.host.peer did.peer
          ∙ sym (ap (λ (k : Knowing). k.pool) c.power_cut.ensures.peer);
      unfused = c.power_cut.ensures.lost.unfused;
      lies = (stands.0, c.power_cut.ensures.lies stands.0 stands.1);
    }

pub returns-clause-made : goal.returns-clause-made
returns-clause-made g c =
    subst (λ (k : Knowing). IsMadeBy c.args.plan.now k.own) (sym c.power_cut.ensures.peer)
    (made_begun c.args.plan.now c.args.pool.now 1 c.in-Ok.host.peer c.requires.good c.in-Ok.ensures.peer)
