-- An AU that is held at a place of a journal is held from there on.
use Rattle.std.proofs.Common.{◌≡◌, ◌≤◌, ◌+◌, ap, ℕ, zero, suc, true, cond, List, [], ◌∷◌, length, take, drop, refl}
use Rattle.std.proofs.Common.{arith}
use Rattle.std.specs.Prelude.{Option, Some, None, is_some, unwrap_or, ◌==◌}
use Rattle.std.proofs.lemmas.Bool.{and_parts, eqb-true}
use Rattle.std.proofs.lemmas.List.Sums.{sum_by-cons, sum_by-take-drop}
use Rattle.lks_base.specs.declared.plans.AuPlan.{AuPlan}
use Rattle.lks_base.specs.declared.records.Record.{Record}
use Rattle.lks_law.specs.Journal.{deposit_in, deposit_of}
use Rattle.lks_evidence.specs.Held.{IsHeldFrom}
use Rattle.lks_evidence.specs.Records.{deposits}
use Rattle.lks_evidence.specs.Rules.{deposited_blocks, is_deposited, is_held}

deposits-nil : (au : ℕ) → deposits au [] ≡ 0
unfolding deposits
deposits-nil au = refl

deposits-cons : (au : ℕ) (r : Record) (js : List Record)
    → deposits au (r ∷ js) ≡ cond (is_some (deposit_in au r)) 1 0 + deposits au js
unfolding deposits
deposits-cons au r js = sum_by-cons (λ x. cond (is_some (deposit_in au x)) 1 0) r js

deposits-take : (au i : ℕ) (js : List Record) → deposits au (take i js) + deposits au (drop i js) ≡ deposits au js
unfolding deposits
deposits-take au i js = sum_by-take-drop (λ x. cond (is_some (deposit_in au x)) 1 0) js i

-- the only deposit of a journal is that of all its fronts from there on
only : (au : ℕ) (js : List Record) (i j : ℕ) → i ≤ j → deposits au (take i js) ≡ 1 → deposits au js ≡ 1
    → (deposits au (take j js) ≡ 1) × (deposit_of au (take j js) ≡ deposit_of au (take i js))
unfolding deposit_of
only au js zero j later one all = absurd (omega (arith, deposits-nil au, one))
only au [] (suc i) j later one all = absurd (omega (arith, deposits-nil au, all))
only au (r ∷ js) (suc i) zero later one all = absurd (omega arith)
only au (r ∷ js) (suc i) (suc j) later one all = by_deposit (deposit_in au r) refl (only au js i j (omega arith))
  where
    by_deposit : (o : Option (List (List ℕ))) → deposit_in au r ≡ o
        → (deposits au (take i js) ≡ 1 → deposits au js ≡ 1
        → (deposits au (take j js) ≡ 1) × (deposit_of au (take j js) ≡ deposit_of au (take i js)))
        → (deposits au (r ∷ take j js) ≡ 1)
        × (cond (is_some (deposit_in au r)) (deposit_in au r) (deposit_of au (take j js))
        ≡ cond (is_some (deposit_in au r)) (deposit_in au r) (deposit_of au (take i js)))
    by_deposit None none rest =
        let skip = ap {B = ℕ} (λ o. cond (is_some o) 1 0) none in
        let again = rest (omega (arith, skip, one, deposits-cons au r (take i js)))
        (omega (arith, skip, all, deposits-cons au r js)) in (
          omega (arith, skip, again.0, deposits-cons au r (take j js)),
          ap (λ d. cond (is_some (deposit_in au r)) (deposit_in au r) d) again.1,
        )
    by_deposit (Some d) here rest =
        let first = ap {B = ℕ} (λ o. cond (is_some o) 1 0) here in (
          omega (arith, first, all, deposits-cons au r js, deposits-cons au r (take j js), deposits-take au j js),
          rw here refl,
        )

pub held_from : (aus : List AuPlan) (journal : List Record) (au i count : ℕ)
    → is_deposited aus au (take i journal) ≡ true → deposits au journal ≡ 1
    → count ≡ length (deposited_blocks au (take i journal))
    → IsHeldFrom aus journal i (record { au = au; count = count })
unfolding is_held is_deposited deposited_blocks
held_from aus journal au i count now alone counted j r later same =
    let parts = and_parts (deposits au (take i journal) == 1) _ now in
    let found = only au journal i j later (eqb-true (deposits au (take i journal)) 1 parts.0) alone in
    let same_count : length (unwrap_or (deposit_of au (take j journal)) [])
    ≡ length (unwrap_or (deposit_of au (take i journal)) []) =
    ap (λ d. length (unwrap_or d [])) found.1 in
    rw (same, counted, found.0, same_count, parts.1, alone) refl
