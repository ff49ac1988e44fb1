-- What reading the disks back leaves of all that is said of them.
use Rattle.std.proofs.Common.{◌≡◌, ◌≤◌, ◌+◌, ◌∙◌, ap, ap₂, sym, subst, cond, ℕ, zero, suc, Bool, true, false, not}
use Rattle.std.proofs.Common.{List, [], ◌∷◌, length, filter, drop, refl, arith}
use Rattle.std.specs.Prelude.{◌||◌, Option, Some, None, map, slice_get}
use Rattle.std.specs.List.{list_any}
use Rattle.lks_base.specs.declared.events.Event.{Event}
use Rattle.lks_base.specs.declared.plans.PeerPlan.{PeerPlan}
use Rattle.lks_base.specs.declared.plans.Plan.{Plan}
use Rattle.lks_disk.specs.Face.{Face}
use Rattle.lks_field.proofs.Once.{held_once}
use Rattle.lks_field.specs.Frames.{HoldsBodies}
use Rattle.lks_gather.specs.Texts.{Filed}
use Rattle.lks_host.specs.Bodies.{bodies_of}
use Rattle.lks_law.specs.Batches.{batches_at}
use Rattle.lks_law.specs.World.{is_honest}
use Rattle.lks_world.proofs.CountLaws.{some_is}
use Rattle.lks_world.proofs.PowerLaws.{power_quiet, power_then, quiet_same}
use Rattle.lks_world.specs.Counts.{HasRisen, ServesHonest, honest_ids}
use Rattle.lks_world.specs.Disks.{corrupt_disks, honest_disks}
use Rattle.lks_world.specs.Held.{AreUnfused, HaveBatches, HoldsBatches}
use Rattle.lks_world.specs.Powers.{HavePower}
use Rattle.lks_world.specs.Sites.{id_for}
use Rattle.lks_world.specs.declared.faults.WorldFault.{WorldFault}
use Rattle.lockss.specs.Filed.{filed_from}
use Rattle.lockss.specs.ReadingBack.{AreOn, AreReopened, CanRead, HasFailed, IsReopened, ReadsBack}

module _ {D : Type 0} (f : Face D) where
  -- disks of which each was read
  abbrev Pairs : List D → List D → Type 0
  Pairs [] [] = Unit {0}
  Pairs [] (e ∷ es) = ⊥
  Pairs (d ∷ ds) [] = ⊥
  Pairs (d ∷ ds) (e ∷ es) = IsReopened f d e × Pairs ds es

  count_pairs : (ds es : List D) → Pairs ds es → length es ≡ length ds
  count_pairs [] [] are = refl
  count_pairs [] (e ∷ es) are = absurd are
  count_pairs (d ∷ ds) [] are = absurd are
  count_pairs (d ∷ ds) (e ∷ es) are = ap suc (count_pairs ds es are.1)

  same_pairs : {X : Type 0} (of : D → X) → ((d e : D) → IsReopened f d e → of e ≡ of d) → (ds es : List D)
      → Pairs ds es → map of es ≡ map of ds
  same_pairs of same [] [] are = refl
  same_pairs of same [] (e ∷ es) are = absurd are
  same_pairs of same (d ∷ ds) [] are = absurd are
  same_pairs {X} of same (d ∷ ds) (e ∷ es) are =
      ap₂ (λ (x : X) (xs : List X). x ∷ xs) (same d e are.0) (same_pairs of same ds es are.1)

  pair_at : (ds es : List D) → Pairs ds es → (place : ℕ) (e : D) → slice_get es place ≡ Some e
      → (d : D) × (slice_get ds place ≡ Some d) × IsReopened f d e
  pair_at [] [] are place e at = absurd cc
  pair_at [] (x ∷ es) are place e at = absurd are
  pair_at (d ∷ ds) [] are place e at = absurd are
  pair_at (d ∷ ds) (x ∷ es) are zero e at = (d, refl, subst (IsReopened f d) (some_is at) are.0)
  pair_at (d ∷ ds) (x ∷ es) are (suc place) e at = pair_at ds es are.1 place e at

  later_pairs : (ds es : List D) → Pairs ds es → (place : ℕ) (d e : D) → slice_get ds place ≡ Some d
      → slice_get es place ≡ Some e → f.faults d ≤ f.faults e
  later_pairs ds es are place d e at also =
      let pair = pair_at ds es are place e also in
      let same = ap f.faults (some_is (sym pair.1 ∙ at)) in
      let later = pair.2.later in
      omega (arith, same, later)

  -- the disks of honest peers
  honest_pairs : (peers : List PeerPlan) (ds es : List D) → AreReopened f (map id_for peers) ds es
      → Pairs (honest_disks peers ds) (honest_disks peers es)
  honest_pairs [] ds es are = tt
  honest_pairs (p ∷ ps) [] es are = absurd are
  honest_pairs (p ∷ ps) (d ∷ ds) [] are = absurd (by_peer p.corrupt are)
    where
      by_peer : (b : Bool) → AreReopened f (cond b None (Some p.id) ∷ map id_for ps) (d ∷ ds) [] → ⊥
      by_peer true are = are
      by_peer false are = are
  honest_pairs (p ∷ ps) (d ∷ ds) (e ∷ es) are = by_peer p.corrupt (honest_pairs ps ds es) are
    where
      by_peer : (b : Bool) → (AreReopened f (map id_for ps) ds es → Pairs (honest_disks ps ds) (honest_disks ps es))
          → AreReopened f (cond b None (Some p.id) ∷ map id_for ps) (d ∷ ds) (e ∷ es)
          → Pairs (cond b (honest_disks ps ds) (d ∷ honest_disks ps ds))
          (cond b (honest_disks ps es) (e ∷ honest_disks ps es))
      by_peer true rest are = rest are.1
      by_peer false rest are = (are.0, rest are.1)

  count_all : (owners : List (Option ℕ)) (ds es : List D) → AreReopened f owners ds es → length es ≡ length ds
  count_all [] ds es are = ap length are
  count_all (o ∷ owners) [] es are = absurd are
  count_all (o ∷ owners) (d ∷ ds) [] are = by_owner o are
    where
      by_owner : (o : Option ℕ) → AreReopened f (o ∷ owners) (d ∷ ds) [] → 0 ≡ suc (length ds)
      by_owner None are = absurd are
      by_owner (Some id) are = absurd are
  count_all (None ∷ owners) (d ∷ ds) (e ∷ es) are = ap suc (count_all owners ds es are.1)
  count_all (Some id ∷ owners) (d ∷ ds) (e ∷ es) are = ap suc (count_all owners ds es are.1)

  behind_all : (peers : List PeerPlan) (ds es : List D) → AreReopened f (map id_for peers) ds es
      → drop (length peers) es ≡ drop (length peers) ds
  behind_all [] ds es are = are
  behind_all (p ∷ ps) [] es are = absurd are
  behind_all (p ∷ ps) (d ∷ ds) [] are = by_peer p.corrupt are
    where
      by_peer : (b : Bool) → AreReopened f (cond b None (Some p.id) ∷ map id_for ps) (d ∷ ds) []
          → drop (length (p ∷ ps)) [] ≡ drop (length ps) ds
      by_peer true are = absurd are
      by_peer false are = absurd are
  behind_all (p ∷ ps) (d ∷ ds) (e ∷ es) are = by_peer p.corrupt (behind_all ps ds es) are
    where
      by_peer : (b : Bool) → (AreReopened f (map id_for ps) ds es → drop (length ps) es ≡ drop (length ps) ds)
          → AreReopened f (cond b None (Some p.id) ∷ map id_for ps) (d ∷ ds) (e ∷ es)
          → drop (length ps) es ≡ drop (length ps) ds
      by_peer true rest are = rest are.1
      by_peer false rest are = rest are.1

  corrupt_all : (peers : List PeerPlan) (ds es : List D) → AreReopened f (map id_for peers) ds es
      → corrupt_disks peers es ≡ corrupt_disks peers ds
  corrupt_all [] ds es are = refl
  corrupt_all (p ∷ ps) [] es are = absurd are
  corrupt_all (p ∷ ps) (d ∷ ds) [] are = by_peer p.corrupt are
    where
      by_peer : (b : Bool) → AreReopened f (cond b None (Some p.id) ∷ map id_for ps) (d ∷ ds) []
          → [] ≡ cond b (d ∷ corrupt_disks ps ds) (corrupt_disks ps ds)
      by_peer true are = absurd are
      by_peer false are = absurd are
  corrupt_all (p ∷ ps) (d ∷ ds) (e ∷ es) are = by_peer p.corrupt (corrupt_all ps ds es) are
    where
      by_peer : (b : Bool) → (AreReopened f (map id_for ps) ds es → corrupt_disks ps es ≡ corrupt_disks ps ds)
          → AreReopened f (cond b None (Some p.id) ∷ map id_for ps) (d ∷ ds) (e ∷ es)
          → cond b (e ∷ corrupt_disks ps es) (corrupt_disks ps es)
          ≡ cond b (d ∷ corrupt_disks ps ds) (corrupt_disks ps ds)
      by_peer true rest are = ap₂ (λ (x : D) (xs : List D). x ∷ xs) are.0 (rest are.1)
      by_peer false rest are = rest are.1

  -- a disk that is owned is that of an honest peer
  risen_at : (peers : List PeerPlan) (ds es : List D) (id : ℕ) → HasFailed f (map id_for peers) ds es id
      → HasRisen f.faults (honest_ids peers) (honest_disks peers ds) (honest_disks peers es) id
  risen_at peers ds es id failed = find peers ds es failed.place failed.named failed.there failed.stays
    where
      find : (peers : List PeerPlan) (ds es : List D) (place : ℕ)
          → slice_get (map id_for peers) place ≡ Some (Some id) → slice_get ds place ≡ Some failed.disk
          → slice_get es place ≡ Some failed.now
          → HasRisen f.faults (honest_ids peers) (honest_disks peers ds) (honest_disks peers es) id
      find [] ds es place named there stays = absurd cc
      find (p ∷ ps) [] es place named there stays = absurd cc
      find (p ∷ ps) (d ∷ ds) [] place named there stays = absurd cc
      find (p ∷ ps) (d ∷ ds) (e ∷ es) zero named there stays = first p.corrupt (some_is named)
        where
          first : (b : Bool) → cond b None (Some p.id) ≡ Some id
              → HasRisen f.faults
              (map (λ (q : PeerPlan). q.id) (cond (not b) (p ∷ filter is_honest ps) (filter is_honest ps)))
              (cond b (honest_disks ps ds) (d ∷ honest_disks ps ds))
              (cond b (honest_disks ps es) (e ∷ honest_disks ps es)) id
          first true is = absurd cc
          first false is =
              record {
                place = 0;
                disk = failed.disk;
                now = failed.now;
                named = is;
                there = there;
                stays = stays;
                rose = failed.rose;
              }
      find (p ∷ ps) (d ∷ ds) (e ∷ es) (suc place) named there stays =
          next p.corrupt (find ps ds es place named there stays)
        where
          next : (b : Bool) → HasRisen f.faults (honest_ids ps) (honest_disks ps ds) (honest_disks ps es) id
              → HasRisen f.faults
              (map (λ (q : PeerPlan). q.id) (cond (not b) (p ∷ filter is_honest ps) (filter is_honest ps)))
              (cond b (honest_disks ps ds) (d ∷ honest_disks ps ds))
              (cond b (honest_disks ps es) (e ∷ honest_disks ps es)) id
          next true is = is
          next false is =
              record {
                place = suc is.place;
                disk = is.disk;
                now = is.now;
                named = is.named;
                there = is.there;
                stays = is.stays;
                rose = is.rose;
              }

  pub serves_read : (peers : List PeerPlan) (ds es : List D) (fault : Option WorldFault)
      → ReadsBack f (map id_for peers) ds es fault → ServesHonest f peers ds es fault
  serves_read peers ds es fault read =
      let pairs = honest_pairs peers ds es read.are in
      record {
        count = count_all (map id_for peers) ds es read.are;
        corrupt = corrupt_all peers ds es read.are;
        rest = behind_all peers ds es read.are;
        honest = record {
          count = count_pairs _ _ pairs;
          fuses = same_pairs f.fused (λ d e is. is.fused) _ _ pairs;
          later = later_pairs _ _ pairs;
          cause = λ id is. risen_at peers ds es id (read.cause id is);
        };
      }

  pub power_read : (plan : Plan) (history : List Event) (first ds es : List D) (fault : Option WorldFault)
      → AreReopened f (map id_for plan.peers) ds es
      → HavePower f plan [] history None (honest_ids plan.peers) first (honest_disks plan.peers ds)
      → HavePower f plan [] history fault (honest_ids plan.peers) first (honest_disks plan.peers es)
  power_read plan history first ds es fault are had =
      let pairs = honest_pairs plan.peers ds es are in
      power_then f plan (honest_ids plan.peers) [] history history first (honest_disks plan.peers ds)
      (honest_disks plan.peers es) fault had
      (power_quiet f plan (honest_ids plan.peers) history history (honest_disks plan.peers ds)
      (honest_disks plan.peers es) fault (quiet_same plan history)
      (same_pairs f.burns (λ d e is. is.burns) _ _ pairs) (same_pairs f.cuts (λ d e is. is.cuts) _ _ pairs))

  pub held_read : (plan : Plan) (history : List Event) (ds es : List D)
      → AreReopened f (map id_for plan.peers) ds es → HaveBatches f plan history ds → HaveBatches f plan history es
  held_read plan history ds es are held = λ place e at.
      let pair = pair_at _ _ (honest_pairs plan.peers ds es are) place e at in
      let had = held place pair.0 pair.1 in
      record {
        holds = subst (HoldsBodies (bodies_of (batches_at place plan history))) (sym pair.2.bytes) had.holds;
        durable = λ c leaves. had.durable c (pair.2.crash c leaves) ∙ sym pair.2.bytes;
        read = had.read;
        room = had.room;
      }

  -- the journals on the disks are those of the history
  module _ (plan : Plan) (history : List Event) where
    filed_as : (k : ℕ) (peers : List PeerPlan) (ds : List D) (journals : List Filed)
        → ((place : ℕ) (d : D) → slice_get (honest_disks peers ds) place ≡ Some d
        → HoldsBatches f plan history (k + place) d)
        → AreOn f (map id_for peers) ds journals → journals ≡ filed_from plan history k (filter is_honest peers)
    filed_as k [] ds [] held are = refl
    filed_as k [] ds (j ∷ js) held are = absurd are
    filed_as k (p ∷ ps) [] js held are = absurd are
    filed_as k (p ∷ ps) (d ∷ ds) js held are = by_peer p.corrupt js (λ n more. filed_as n ps ds more) held are
      where
        by_peer : (b : Bool) (js : List Filed)
            → ((n : ℕ) (more : List Filed)
            → ((place : ℕ) (e : D) → slice_get (honest_disks ps ds) place ≡ Some e
            → HoldsBatches f plan history (n + place) e)
            → AreOn f (map id_for ps) ds more → more ≡ filed_from plan history n (filter is_honest ps))
            → ((place : ℕ) (e : D) → slice_get (cond b (honest_disks ps ds) (d ∷ honest_disks ps ds)) place ≡ Some e
            → HoldsBatches f plan history (k + place) e)
            → AreOn f (cond b None (Some p.id) ∷ map id_for ps) (d ∷ ds) js
            → js ≡ filed_from plan history k (cond (not b) (p ∷ filter is_honest ps) (filter is_honest ps))
        by_peer true js rest held are = rest k js held are
        by_peer false [] rest held are = absurd are
        by_peer false (j ∷ js) rest held are =
            let zeroth : k + 0 ≡ k = omega arith in
            let here = subst (λ n. HoldsBatches f plan history n d) zeroth (held 0 d refl) in
            let same = held_once j.bodies (bodies_of (batches_at k plan history)) (f.seen d) are.1 here.holds in
            let more = rest (k + 1) js
            (λ place e at. let next : k + suc place ≡ (k + 1) + place = omega arith in
            subst (λ n. HoldsBatches f plan history n e) next (held (suc place) e at)) are.2 in
            ap₂ (λ (x : Filed) (xs : List Filed). x ∷ xs) (λ i. record { peer = are.0 i; bodies = same i }) more

    pub journals_are : (ds : List D) (journals : List Filed) → HaveBatches f plan history ds
        → AreOn f (map id_for plan.peers) ds journals
        → journals ≡ filed_from plan history 0 (filter is_honest plan.peers)
    journals_are ds journals held are =
        filed_as 0 plan.peers ds journals
        (λ place d at. let same : place ≡ 0 + place = omega arith in
        subst (λ n. HoldsBatches f plan history n d) same (held place d at)) are

    unfused_at : (ds : List D) (place : ℕ) (d : D) → list_any f.fused ds ≡ false → slice_get ds place ≡ Some d
        → f.fused d ≡ false
    unfused_at [] place d none at = absurd cc
    unfused_at (x ∷ xs) zero d none at =
        let same : x ≡ d = cc in subst (λ y. f.fused y ≡ false) same (first (f.fused x) none)
      where
        first : (b : Bool) → (b || list_any f.fused xs) ≡ false → b ≡ false
        first true is = is
        first false is = refl
    unfused_at (x ∷ xs) (suc place) d none at = unfused_at xs place d (rest (f.fused x) none) at
      where
        rest : (b : Bool) → (b || list_any f.fused xs) ≡ false → list_any f.fused xs ≡ false
        rest true is = absurd cc
        rest false is = is

    owned_at : (peers : List PeerPlan) (ds : List D) (place id : ℕ) (d : D)
        → slice_get (map id_for peers) place ≡ Some (Some id) → slice_get ds place ≡ Some d
        → (k : ℕ) × (slice_get (honest_disks peers ds) k ≡ Some d)
    owned_at [] ds place id d named at = absurd cc
    owned_at (p ∷ ps) [] place id d named at = absurd cc
    owned_at (p ∷ ps) (x ∷ ds) zero id d named at = first p.corrupt (some_is named)
      where
        first : (b : Bool) → cond b None (Some p.id) ≡ Some id
            → (k : ℕ) × (slice_get (cond b (honest_disks ps ds) (x ∷ honest_disks ps ds)) k ≡ Some d)
        first true is = absurd cc
        first false is = (0, at)
    owned_at (p ∷ ps) (x ∷ ds) (suc place) id d named at = next p.corrupt (owned_at ps ds place id d named at)
      where
        next : (b : Bool) → (k : ℕ) × (slice_get (honest_disks ps ds) k ≡ Some d)
            → (k : ℕ) × (slice_get (cond b (honest_disks ps ds) (x ∷ honest_disks ps ds)) k ≡ Some d)
        next true is = is
        next false is = (suc is.0, is.1)

    pub can_read : (ds : List D) → length (map id_for plan.peers) ≤ length ds → AreUnfused f ds
        → HaveBatches f plan history ds → CanRead f (map id_for plan.peers) ds
    can_read ds enough unfused held = record {
      enough = enough;
      journals = λ place id d named at.
          let k = owned_at plan.peers ds place id d named at in
          let there = held k.0 d k.1 in
          record {
            bodies = bodies_of (batches_at k.0 plan history);
            holds = there.holds;
            unfused = unfused_at ds place d unfused at;
          };
    }
