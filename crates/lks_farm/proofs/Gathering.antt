-- One pass is made of those of all seats.
use Rattle.std.proofs.Common.{◌≡◌, ℕ, ◌+◌, ◌<◌, ◌≤◌, Bool, true, false, ◌==◌, ◌&&◌, cond, List, [], ◌∷◌, ◌++◌, length}
use Rattle.std.proofs.Common.{sym, refl, ap, ◌∙◌, subst, append_assoc, arith}
use Rattle.std.specs.Prelude.{All, remove, slice_index_or}
use Rattle.std.proofs.lemmas.List.Elements.{All-head, All-tail}
use Rattle.std.proofs.lemmas.Bool.{eqb-true}
use Rattle.lks_farm.specs.declared.jobs.JobNumber.{JobNumber}
use Rattle.lks_farm.specs.declared.entries.NumberedJob.{NumberedJob}
use Rattle.lks_farm.specs.declared.rule.View.{View}
use Rattle.lks_farm.specs.Ends.{times}
use Rattle.lks_farm.specs.Seats.{AreCounted, AreSeatsOf, Badge, FarmName, HandSeen, SeatSeen, all_collected}
use Rattle.lks_farm.specs.Seats.{all_handed, all_offered, all_parts, all_taken, badges_of, jobs_view, results_view}
use Rattle.lks_farm.specs.Seats.{seats_with, taken_of}
use Rattle.lks_farm.specs.Sharing.{joined_views}

counted_more : (a b : Bool) (n k more : ℕ) → (k == n) ≡ b → more ≤ cond a 1 0 → (n < k + 1 → more ≡ 0)
    → (cond (a && b) 1 0 + more ≤ cond a 1 0) × (n < k → cond (a && b) 1 0 + more ≡ 0)
counted_more true true n k more is le none =
    let e : k ≡ n = eqb-true k n is in (omega (arith, none (omega arith)), λ lt. absurd (omega arith))
counted_more true false n k more is le none = (omega arith, λ lt. omega (arith, none (omega arith)))
counted_more false b n k more is le none = (omega arith, λ lt. omega (arith, none (omega arith)))

-- a number was offered at most once by way of its seat, and never by way of another
times_counted : (n : JobNumber) (seat k : ℕ) (es : List NumberedJob) → AreCounted seat k es
    → (times n es ≤ cond (seat == n.seat) 1 0) × (n.count < k → times n es ≡ 0)
times_counted n seat k [] all = (omega arith, λ lt. refl)
times_counted n seat k (e ∷ es) all =
    let more = times_counted n seat (k + 1) es all.1 in
    subst
    (λ (m : JobNumber).
    (cond ((m.seat == n.seat) && (m.count == n.count)) 1 0 + times n es ≤ cond (seat == n.seat) 1 0)
    × (n.count < k → cond ((m.seat == n.seat) && (m.count == n.count)) 1 0 + times n es ≡ 0)) (sym all.0)
    (counted_more (seat == n.seat) (k == n.count) n.count k (times n es) refl more.0 more.1)

pub times-append : (n : JobNumber) (xs ys : List NumberedJob) → times n (xs ++ ys) ≡ times n xs + times n ys
times-append n [] ys = omega arith
times-append n (x ∷ xs) ys = omega (arith, times-append n xs ys)

-- these two passes are joined of all seats but the rest
pub record Gathering (farm : FarmName) (jobs results : HandSeen) (rest all : List SeatSeen) : Type 0 where
  pub jobs_of : jobs.table ≡ farm.jobs
  pub results_of : results.table ≡ farm.results
  pub part : 0 < jobs.knows.parts
  pub same_parts : results.knows.parts ≡ jobs.knows.parts
  pub parts : jobs.knows.parts + all_parts (badges_of rest) ≡ 128
  pub jobs_pool : jobs.knows.pool ≡ farm.pool
  pub results_pool : results.knows.pool ≡ farm.pool
  pub each : All (λ (b : Badge). b.farm ≡ farm) (badges_of rest)
  pub offered : jobs.knows.put ++ all_offered rest ≡ all_offered all
  pub taken : jobs.knows.got ++ all_taken rest ≡ all_taken all
  pub handed : results.knows.put ++ all_handed rest ≡ all_handed all
  pub collected : results.knows.got ++ all_collected rest ≡ all_collected all
  pub once : (n : JobNumber)
      → times n jobs.knows.put + seats_with n.seat (badges_of rest) ≤ seats_with n.seat (badges_of all)

removed : (all rest : List SeatSeen) (s : SeatSeen) → 0 < length all → s ≡ slice_index_or all 0 s
    → rest ≡ remove all 0 → all ≡ s ∷ rest
removed [] rest s some is left = absurd (omega arith)
removed (x ∷ xs) rest s some is left = λ i. sym is i ∷ sym left i

pub some_seat : (farm : FarmName) (seats : List SeatSeen) → AreSeatsOf farm seats → 0 < length seats
some_seat farm [] all = let p = all.parts in absurd (omega arith)
some_seat farm (s ∷ ss) all = omega arith

start : (farm : FarmName) (jobs results : HandSeen) (s : SeatSeen) (rest : List SeatSeen)
    → AreSeatsOf farm (s ∷ rest) → jobs.table ≡ s.badge.farm.jobs → results.table ≡ s.badge.farm.results
    → jobs.knows ≡ jobs_view s → results.knows ≡ results_view s
    → AreCounted s.badge.number 0 s.offered → 0 < s.badge.parts → Gathering farm jobs results rest (s ∷ rest)
start farm jobs results s rest all jt rt jk rk counted some =
    let of : s.badge.farm ≡ farm = All-head (λ (b : Badge). b.farm ≡ farm) s.badge (badges_of rest) all.each in
    record {
      jobs_of = jt ∙ ap (λ (f : FarmName). f.jobs) of;
      results_of = rt ∙ ap (λ (f : FarmName). f.results) of;
      part = omega (arith, ap (λ (v : View). v.parts) jk);
      same_parts = ap (λ (v : View). v.parts) rk ∙ ap (λ (v : View). v.parts) (sym jk);
      parts = omega (arith, ap (λ (v : View). v.parts) jk, all.parts);
      jobs_pool = ap (λ (v : View). v.pool) jk ∙ ap (λ (f : FarmName). f.pool) of;
      results_pool = ap (λ (v : View). v.pool) rk ∙ ap (λ (f : FarmName). f.pool) of;
      each = All-tail (λ (b : Badge). b.farm ≡ farm) s.badge (badges_of rest) all.each;
      offered = ap (λ (v : View). v.put ++ all_offered rest) jk;
      taken = ap (λ (v : View). v.got ++ all_taken rest) jk;
      handed = ap (λ (v : View). v.put ++ all_handed rest) rk;
      collected = ap (λ (v : View). v.got ++ all_collected rest) rk;
      once =
          λ n. omega
          (arith, (times_counted n s.badge.number 0 s.offered counted).0, ap (λ (v : View). times n v.put) jk);
    }

pub gather_start : (farm : FarmName) (jobs results : HandSeen) (s : SeatSeen) (rest all : List SeatSeen)
    → AreSeatsOf farm all → s ≡ slice_index_or all 0 s → rest ≡ remove all 0 → jobs.table ≡ s.badge.farm.jobs
    → results.table ≡ s.badge.farm.results
    → jobs.knows ≡ jobs_view s → results.knows ≡ results_view s → AreCounted s.badge.number 0 s.offered
    → 0 < s.badge.parts → Gathering farm jobs results rest all
gather_start farm jobs results s rest all are is left jt rt jk rk counted some =
    let whole : all ≡ s ∷ rest = removed all rest s (some_seat farm all are) is left in
    subst (Gathering farm jobs results rest) (sym whole)
    (start farm jobs results s rest (subst (AreSeatsOf farm) whole are) jt rt jk rk counted some)

pub gather_more : (farm : FarmName) (jobs jobs' results results' more done : HandSeen) (s : SeatSeen)
    (rest before all : List SeatSeen)
    → Gathering farm jobs results before all → before ≡ s ∷ rest → more.knows ≡ jobs_view s
    → done.knows ≡ results_view s
    → jobs'.table ≡ jobs.table → results'.table ≡ results.table → jobs'.knows ≡ joined_views jobs.knows more.knows
    → results'.knows ≡ joined_views results.knows done.knows → AreCounted s.badge.number 0 s.offered
    → Gathering farm jobs' results' rest all
gather_more farm jobs jobs' results results' more done s rest before all g step mk dk jt rt jk rk counted =
    let h : Gathering farm jobs results (s ∷ rest) all = subst
    (λ (l : List SeatSeen). Gathering farm jobs results l all) step g in
    let jobs_is : jobs'.knows ≡ joined_views jobs.knows (jobs_view s) = jk ∙ ap (joined_views jobs.knows) mk in
    let results_is : results'.knows ≡ joined_views results.knows (results_view s) = rk
    ∙ ap (joined_views results.knows) dk in
    record {
      jobs_of = jt ∙ h.jobs_of;
      results_of = rt ∙ h.results_of;
      part = omega (arith, h.part, ap (λ (v : View). v.parts) jobs_is);
      same_parts =
          omega (arith, h.same_parts, ap (λ (v : View). v.parts) jobs_is, ap (λ (v : View). v.parts) results_is);
      parts = omega (arith, h.parts, ap (λ (v : View). v.parts) jobs_is);
      jobs_pool = ap (λ (v : View). v.pool) jobs_is ∙ h.jobs_pool;
      results_pool = ap (λ (v : View). v.pool) results_is ∙ h.results_pool;
      each = All-tail (λ (b : Badge). b.farm ≡ farm) s.badge (badges_of rest) h.each;
      offered =
          ap (λ (v : View). v.put ++ all_offered rest) jobs_is
          ∙ append_assoc jobs.knows.put s.offered (all_offered rest) ∙ h.offered;
      taken =
          ap (λ (v : View). v.got ++ all_taken rest) jobs_is
          ∙ append_assoc jobs.knows.got (taken_of s) (all_taken rest) ∙ h.taken;
      handed =
          ap (λ (v : View). v.put ++ all_handed rest) results_is
          ∙ append_assoc results.knows.put s.handed (all_handed rest) ∙ h.handed;
      collected =
          ap (λ (v : View). v.got ++ all_collected rest) results_is
          ∙ append_assoc results.knows.got s.collected (all_collected rest) ∙ h.collected;
      once =
          λ n. omega (
            arith,
            h.once n,
            (times_counted n s.badge.number 0 s.offered counted).0,
            ap (λ (v : View). times n v.put) jobs_is,
            times-append n jobs.knows.put s.offered,
          );
    }
