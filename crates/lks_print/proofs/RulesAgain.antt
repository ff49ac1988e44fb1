-- Rules in their bounds are printed so that they read as the same.
use Rattle.std.proofs.Common.{◌≡◌, ◌&&◌, ℕ, ◌*◌, ◌≤◌, ◌<◌, ◌^◌, Bool, true, leb, List, ◌∷◌, Some, refl, arith}
use Rattle.std.specs.Prelude.{codes}
use Rattle.std.specs.Fmt.{decimal}
use Rattle.std.specs.Str.{bytes_eq}
use Rattle.std.proofs.lemmas.Bool.{and_parts, leb-true, ltb-true}
use Rattle.lks_base.specs.Checking.{are_bounded, are_ordered, is_within}
use Rattle.lks_base.specs.Quorums.{obeys_quorum_rule}
use Rattle.lks_base.specs.declared.limits.TheConstants.{MOST_CIRCLE, MOST_REPAIRS, MOST_TICKS}
use Rattle.lks_base.specs.declared.plans.Rules.{Rules}
use Rattle.lks_lines.specs.PlanLines.{named_number, numbers_in, paces_in, are_good, rules_in}
use Rattle.lks_words.proofs.Decimals.{number_again}
use Rattle.lks_print.specs.Scripts.{rules_words}

-- the numbers of rules, each of which its word can be
pub record AreSmall (r : Rules) : Type 0 where
  pub inner : r.inner ≤ 65535
  pub quorum : r.quorum ≤ 65535
  pub minority : r.minority ≤ 65535
  pub outer : r.outer ≤ 65535
  pub repairs : r.repairs ≤ 65535
  pub pace : r.pace ≤ 4294967295
  pub refractory : r.refractory ≤ 4294967295
  pub overdue : r.overdue ≤ 4294967295
  pub unknown : r.unknown_pct ≤ 255
  pub debt : r.debt_pct ≤ 255
  pub churn : r.churn ≤ 65535

named_again : (name : List ℕ) (most n : ℕ) (rest : List (List ℕ)) → bytes_eq name name ≡ true → most < 2 ^ 64
    → n ≤ most → named_number name most (name ∷ decimal n ∷ rest) ≡ Some (n, rest)
unfolding named_number
named_again name most n rest is lt le = rw (is, number_again most n (decimal n) lt le refl) refl

numbers_again : (r : Rules) → AreSmall r → numbers_in (rules_words r) ≡ Some r
unfolding numbers_in paces_in rules_words
numbers_again r small =
    rw (
      named_again (codes "inner") 65535 r.inner _ refl (omega arith) small.inner,
      named_again (codes "quorum") 65535 r.quorum _ refl (omega arith) small.quorum,
      named_again (codes "minority") 65535 r.minority _ refl (omega arith) small.minority,
      named_again (codes "outer") 65535 r.outer _ refl (omega arith) small.outer,
      named_again (codes "repairs") 65535 r.repairs _ refl (omega arith) small.repairs,
      named_again (codes "pace") 4294967295 r.pace _ refl (omega arith) small.pace,
      named_again (codes "refractory") 4294967295 r.refractory _ refl (omega arith) small.refractory,
      named_again (codes "overdue") 4294967295 r.overdue _ refl (omega arith) small.overdue,
      named_again (codes "unknown") 255 r.unknown_pct _ refl (omega arith) small.unknown,
      named_again (codes "debt") 255 r.debt_pct _ refl (omega arith) small.debt,
      named_again (codes "churn") 65535 r.churn _ refl (omega arith) small.churn,
    ) refl

-- all ten hold
record Ten (a b c d e f g h i j : Bool) : Type 0 where
  inner : a ≡ true
  quorum : b ≡ true
  outer : c ≡ true
  repairs : d ≡ true
  pace : e ≡ true
  refractory : f ≡ true
  overdue : g ≡ true
  unknown : h ≡ true
  debt : i ≡ true
  churn : j ≡ true

ten : (a b c d e f g h i j : Bool) → (a && b && c && d && e && f && g && h && i && j) ≡ true → Ten a b c d e f g h i j
ten a b c d e f g h i j all =
    let p9 = and_parts (a && b && c && d && e && f && g && h && i) j all in
    let p8 = and_parts (a && b && c && d && e && f && g && h) i p9.0 in
    let p7 = and_parts (a && b && c && d && e && f && g) h p8.0 in
    let p6 = and_parts (a && b && c && d && e && f) g p7.0 in
    let p5 = and_parts (a && b && c && d && e) f p6.0 in
    let p4 = and_parts (a && b && c && d) e p5.0 in
    let p3 = and_parts (a && b && c) d p4.0 in
    let p2 = and_parts (a && b) c p3.0 in
    let p1 = and_parts (a) b p2.0 in
    record {
      inner = p1.0;
      quorum = p1.1;
      outer = p2.1;
      repairs = p3.1;
      pace = p4.1;
      refractory = p5.1;
      overdue = p6.1;
      unknown = p7.1;
      debt = p8.1;
      churn = p9.1;
    }

in_bounds : (r : Rules) → are_bounded r ≡ true
    → Ten (is_within 1 MOST_CIRCLE r.inner) (leb 1 r.quorum) (leb r.outer MOST_CIRCLE) (leb r.repairs MOST_REPAIRS)
    (leb r.pace MOST_TICKS) (leb r.refractory MOST_TICKS) (leb r.overdue MOST_TICKS) (leb r.unknown_pct 100)
    (leb r.debt_pct 100) (leb r.churn MOST_CIRCLE)
unfolding are_bounded
in_bounds r e =
    ten (is_within 1 MOST_CIRCLE r.inner) (leb 1 r.quorum) (leb r.outer MOST_CIRCLE) (leb r.repairs MOST_REPAIRS)
    (leb r.pace MOST_TICKS) (leb r.refractory MOST_TICKS) (leb r.overdue MOST_TICKS) (leb r.unknown_pct 100)
    (leb r.debt_pct 100) (leb r.churn MOST_CIRCLE) e

in_order : (r : Rules) → are_ordered r ≡ true → (2 * r.minority < r.quorum) × (r.quorum ≤ r.inner)
unfolding are_ordered
in_order r e =
    let p = and_parts (obeys_quorum_rule r.quorum r.minority) (leb r.quorum r.inner) e in
    (ltb-true (2 * r.minority) r.quorum p.0, leb-true r.quorum r.inner p.1)

pub are_small : (r : Rules) → are_bounded r ≡ true → are_ordered r ≡ true → AreSmall r
are_small r bounded ordered =
    let t = in_bounds r bounded in
    let o = in_order r ordered in
    let i = leb-true r.inner MOST_CIRCLE (and_parts (leb 1 r.inner) (leb r.inner MOST_CIRCLE) t.inner).1 in
    let few = leb-true r.outer MOST_CIRCLE t.outer in
    let given = leb-true r.repairs MOST_REPAIRS t.repairs in
    let pace = leb-true r.pace MOST_TICKS t.pace in
    let refractory = leb-true r.refractory MOST_TICKS t.refractory in
    let overdue = leb-true r.overdue MOST_TICKS t.overdue in
    let unknown = leb-true r.unknown_pct 100 t.unknown in
    let debt = leb-true r.debt_pct 100 t.debt in
    let churn = leb-true r.churn MOST_CIRCLE t.churn in
    record {
      inner = omega (arith, i);
      quorum = omega (arith, i, o.1);
      minority = omega (arith, i, o.0, o.1);
      outer = omega (arith, few);
      repairs = omega (arith, given);
      pace = omega (arith, pace);
      refractory = omega (arith, refractory);
      overdue = omega (arith, overdue);
      unknown = omega (arith, unknown);
      debt = omega (arith, debt);
      churn = omega (arith, churn);
    }

pub good_again : (r : Rules) → are_good r ≡ true → rules_in (rules_words r) ≡ Some r
unfolding rules_in are_good
good_again r good =
    let p = and_parts (are_bounded r) (are_ordered r) good in
    rw (numbers_again r (are_small r p.0 p.1), good) refl
