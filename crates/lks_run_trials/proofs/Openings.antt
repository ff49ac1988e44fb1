-- The journal fits record by record, with its numbers or without.
use Rattle.std.proofs.Common.{◌≡◌, ◌≤◌, sym, ap, subst, refl, ℕ, false, Option, Some, None, option_map, List, map}
use Rattle.std.proofs.Common.{arith}
use Rattle.lks_base.specs.declared.names.Limits.{Limits}
use Rattle.lks_base.specs.declared.plans.PeerPlan.{PeerPlan}
use Rattle.lks_base.specs.declared.plans.Plan.{Plan}
use Rattle.lks_base.specs.declared.records.Record.{Record}
use Rattle.lks_disk.specs.Face.{Face}
use Rattle.lks_host.specs.Hosted.{StandsFor}
use Rattle.lks_host.specs.Stepping.{CanStep}
use Rattle.lks_host.specs.declared.hosts.Host.{Host}
use Rattle.lks_law.specs.Batches.{alone}
use Rattle.lks_law.specs.Fitting.{AreFitting}
use Rattle.lks_law.specs.Polls.{Station}
use Rattle.lks_law.specs.State.{blank, after}
use Rattle.lks_law.specs.World.{station_of, standing_of}
use Rattle.lks_peer.specs.Knows.{Knowing, knowing_of}
use Rattle.lks_run_trials.proofs.Pairs.{pair_pins}
use Rattle.lks_run_trials.specs.Opened.{journal_of}
use Rattle.lks_run_trials.specs.Pair.{pair}

opened_fits : (own : Station) (nonce : List ℕ) (limits : Option Limits) (repairs : Option ℕ)
    → AreFitting own (blank own) (journal_of nonce limits repairs)
unfolding after
opened_fits own nonce limits repairs =
    let well = pair_pins pair refl in
    ((well.0, refl, well.1), ((refl, omega arith, omega arith), (refl, (tt, tt))))

pub journal_fits : (plan : Plan) (p : PeerPlan) (list : List Record) (nonce : List ℕ) (limits : Option Limits)
    (repairs : Option ℕ)
    → list ≡ journal_of nonce limits repairs
    → AreFitting (station_of plan p) (blank (station_of plan p)) list
journal_fits plan p list nonce limits repairs is =
    subst (λ (l : List Record). AreFitting (station_of plan p) (blank (station_of plan p)) l) (sym is)
    (opened_fits (station_of plan p) nonce limits repairs)

-- a peer that is restored has its blocks in this pool
pub pool_of : (plan : Plan) (pool : List ℕ) (o : Option PeerPlan) (list : List Record) (peer : Knowing)
    → option_map (λ (p : PeerPlan). knowing_of pool (record { own = station_of plan p; journal = list })) o
    ≡ Some peer
    → peer.pool ≡ pool
pool_of plan pool None list peer is = absurd cc
pool_of plan pool (Some p) list peer is =
    let there : knowing_of pool (record { own = station_of plan p; journal = list }) ≡ peer = cc in
    sym (ap (λ (k : Knowing). k.pool) there)

-- a host that was created can step
pub can_step : {D : Type 0} (f : Face D) (plan : Plan) (pool : List ℕ) (o : Option PeerPlan) (host : Host D)
    → option_map (λ (p : PeerPlan). knowing_of pool (standing_of plan p)) o ≡ Some host.peer
    → ((p : PeerPlan) → o ≡ Some p → StandsFor f host (map alone (standing_of plan p).journal))
    → host.broken ≡ false → host.journal.end ≤ 33558580 → CanStep f pool host
can_step f plan pool None host is stands whole end = absurd cc
can_step f plan pool (Some p) host is stands whole end =
    let there : knowing_of pool (standing_of plan p) ≡ host.peer = cc in
    record {
      pooled = ap (λ (k : Knowing). k.pool) there;
      whole = whole;
      room = omega (arith, end);
      stands = λ told. (map alone (standing_of plan p).journal, stands p refl);
    }
