use Rattle.std.proofs.Common.{◌≡◌, ℕ, ◌+◌, ◌-◌, List, [], sym, ap, ◌∙◌, subst, rules, arith}
use Rattle.lks_farm.specs.declared.rule.View.{View}
use Rattle.lks_farm.specs.Seats.{AreFresh, FarmName, SeatSeen, all_parts, badges_of}
use Rattle.lks_farm.specs.Sharing.{view_knowing}
use Rattle.lks_farm.proofs.Seating.{fresh_all, parts_more, seat_more}
use Rattle.lks_farm.proofs.farms.Farm.seat_all.Goals as goal

pub loop-number-preserved : goal.loop-number-preserved
loop-number-preserved c =
    let i = c.loop-number.invariant in
    let farm = c.args.self.now.name in
    let n = c.loop-number.number in
    let old = c.loop-number.seats.items in
    let s = c.new.result in
    let mine : FarmName = record {
      jobs = c.split-mine.result.table;
      results = c.split-theirs.result.table;
      pool = c.split-mine.result.knows.pool;
    } in
    let pool : c.split-mine.result.knows.pool
    ≡ farm.pool = ap (λ (v : View). v.pool) c.split-mine.ensures.right ∙ ap (λ (v : View). v.pool) i.jobs in
    let same : mine
    ≡ farm = λ j.
    record {
      jobs = (c.split-mine.ensures.same.1 ∙ i.jobs_of) j;
      results = (c.split-theirs.ensures.same.1 ∙ i.results_of) j;
      pool = pool j;
    } in
    let one : s.badge.parts
    ≡ 1 = ap (λ (t : SeatSeen). t.badge.parts) c.new.ensures
    ∙ ap (λ (v : View). v.parts) c.split-mine.ensures.right in
    let less : (128 - n) - 1 ≡ 128 - (n + 1) = omega arith in
    record {
      jobs_of = c.split-mine.ensures.same.0 ∙ i.jobs_of;
      results_of = c.split-theirs.ensures.same.0 ∙ i.results_of;
      jobs =
          c.split-mine.ensures.left ∙ ap (λ (v : View). view_knowing (v.parts - 1) v.pool v.put v.got) i.jobs
          ∙ ap (λ (m : ℕ). view_knowing m farm.pool [] []) less;
      results =
          c.split-theirs.ensures.left ∙ ap (λ (v : View). view_knowing (v.parts - 1) v.pool v.put v.got) i.results
          ∙ ap (λ (m : ℕ). view_knowing m farm.pool [] []) less;
      many = omega (arith, c.push_reserved.ensures.len, i.many);
      room = omega (arith, c.push_reserved.ensures.capacity, i.room);
      fresh =
          subst (AreFresh farm 0) (sym c.push_reserved.ensures.items)
          (seat_more farm mine old s n c.split-mine.result.knows.parts c.new.ensures same (search rules) i.fresh);
      parts =
          ap (λ (l : List SeatSeen). all_parts (badges_of l)) c.push_reserved.ensures.items
          ∙ omega (arith, parts_more old s, one, i.parts);
    }

pub returns-clause-fresh : goal.returns-clause-fresh
returns-clause-fresh c =
    let i = c.loop-number.invariant in
    let farm = c.args.self.now.name in
    let old = c.loop-number.seats.items in
    let last = c.new-2.result in
    let mine : FarmName = record {
      jobs = c.loop-number.jobs.table;
      results = c.loop-number.results.table;
      pool = c.loop-number.jobs.knows.pool;
    } in
    let pool : c.loop-number.jobs.knows.pool ≡ farm.pool = ap (λ (v : View). v.pool) i.jobs in
    let same : mine ≡ farm = λ j. record { jobs = i.jobs_of j; results = i.results_of j; pool = pool j } in
    subst (AreFresh farm 0) (sym c.push_reserved-2.ensures.items)
    (seat_more farm mine old last (c.args.count - 1) c.loop-number.jobs.knows.parts c.new-2.ensures same
    (search rules) i.fresh)

pub returns-clause-all : goal.returns-clause-all
returns-clause-all c =
    let i = c.loop-number.invariant in
    let old = c.loop-number.seats.items in
    let last = c.new-2.result in
    let left : last.badge.parts
    ≡ 128 - c.loop-number.number = ap (λ (t : SeatSeen). t.badge.parts) c.new-2.ensures
    ∙ ap (λ (v : View). v.parts) i.jobs in
    fresh_all c.args.self.now.name c.push_reserved-2.new.self.items (returns-clause-fresh c)
    (ap (λ (l : List SeatSeen). all_parts (badges_of l)) c.push_reserved-2.ensures.items
    ∙ omega (arith, parts_more old last, left, i.parts))
