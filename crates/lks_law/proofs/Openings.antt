-- What the opening of a poll keeps.
use Rattle.std.proofs.Common.{◌≡◌, ◌≤◌, ◌+◌, ◌∙◌, ◌⊎◌, inl, inr, ap, sym, subst, ℕ, Bool, true, false, cond, eqb}
use Rattle.std.proofs.Common.{List, [], ◌∷◌, ◌++◌, refl, arith}
use Rattle.std.specs.Prelude.{Option, Some, None, is_some, not, ◌&&◌}
use Rattle.std.specs.List.{list_any, range_with_len}
use Rattle.std.proofs.lemmas.Bool.{and_parts, not-true, eqb-true, eq-eqb, and_from, both_ways, or_left, or_right}
use Rattle.std.proofs.lemmas.Bool.{not_from_false}
use Rattle.lks_base.specs.declared.records.Record.{Record}
use Rattle.lks_base.specs.declared.records.Record.TheVariants as records
use Rattle.lks_law.specs.Journal.{Opening, opening_in, opening_of, openings, opened_numbers, is_closed}
use Rattle.lks_law.specs.Journal.{opens_running}
use Rattle.lks_law.specs.Polls.{Station, ObeyQuorumRule, limits_in, limits_of, limits_in_force}
use Rattle.lks_law.specs.Reaction.{may_open, on_open}
use Rattle.lks_law.proofs.Grown.{first_opening, opening_more, openings_more, numbers_more, contents_more}
use Rattle.lks_law.proofs.Kept.{Kept, AllGood, AreLawful, in_force_more, evidence_more, was_running}
use Rattle.lks_law.proofs.PollStates.{Good, poll_of, poll_more, copies_in, if_own, good_opened}
use Rattle.lks_law.proofs.Ranges.{range_last}
use Rattle.lks_law.proofs.Rows.{KeptBy, kept_if}

-- A poll that runs on an AU is found.

opens_is : (all : List Record) (k : ℕ) (j : Record) (x : Opening) → opening_in k j ≡ Some x
    → is_closed k all ≡ false → opens_running x.au all j ≡ true
unfolding opens_running
opens_is all k (records.PollOpened number au nonce inner tick limits kind) x is runs = by_number (eqb number k) refl is
  where
    by_number : (b : Bool) → eqb number k ≡ b
        → cond b (Some (record { au = au; nonce = nonce; inner = inner; limits = limits; kind = kind })) None
        ≡ Some x
        → (eqb au x.au && not (is_closed number all)) ≡ true
    by_number true e is =
        let same : au ≡ x.au = ap (λ (o : Option Opening). elim o as (λ _. ℕ) [ None ↦ 0 | Some y ↦ y.au ]) is in
        and_from _ _ (eq-eqb au x.au same)
        (not_from_false _ (ap (λ m. is_closed m all) (eqb-true number k e) ∙ runs))
    by_number false e is = absurd cc
opens_is all k j x is runs = absurd cc

running_found : (all js : List Record) (k : ℕ) (x : Opening) → opening_of k js ≡ Some x → is_closed k all ≡ false
    → list_any (opens_running x.au all) js ≡ true
unfolding opening_of
running_found all [] k x is runs = absurd cc
running_found all (j ∷ js) k x is runs =
    by_first (opening_in k j) refl is (λ later. or_right _ _ (running_found all js k x later runs))
  where
    by_first : (o : Option Opening) → opening_in k j ≡ o → cond (is_some o) o (opening_of k js) ≡ Some x
        → (opening_of k js ≡ Some x → list_any (opens_running x.au all) (j ∷ js) ≡ true)
        → list_any (opens_running x.au all) (j ∷ js) ≡ true
    by_first None e is later = later is
    by_first (Some o) e is later = or_left _ _ (opens_is all k j x (e ∙ is) runs)

-- One poll more.

module _ (own : Station) (js : List Record) (n tick : ℕ) (o : Opening) where
  abbrev pub opening : Record
  opening = records.PollOpened n o.au o.nonce o.inner tick o.limits o.kind

  -- a poll is an older one, or this
  opened_where : (k : ℕ) (x : Opening) → opening_of k (js ++ opening ∷ []) ≡ Some x
      → (opening_of k js ≡ Some x) ⊎ ((n ≡ k) × (o ≡ x))
  opened_where k x is = by_older (opening_of k js) refl (sym (opening_more k js opening) ∙ is)
    where
      by_number : (b : Bool) → eqb n k ≡ b → cond b (Some o) None ≡ Some x → (n ≡ k) × (o ≡ x)
      by_number true e is = (eqb-true n k e, cc)
      by_number false e is = absurd cc

      by_older : (older : Option Opening) → opening_of k js ≡ older
          → first_opening older (cond (eqb n k) (Some o) None) ≡ Some x
          → (opening_of k js ≡ Some x) ⊎ ((n ≡ k) × (o ≡ x))
      by_older None e is = inr (by_number (eqb n k) refl is)
      by_older (Some y) e is = inl (e ∙ is)

  module _ (kept : Kept own js) (next : n ≡ openings js + 1) (free : list_any (opens_running o.au js) js ≡ false)
      (numbers : ObeyQuorumRule (limits_in own.rules) → ObeyQuorumRule (limits_in_force own.rules js)
      → ObeyQuorumRule (limits_of own.rules o)) where
    new_number : (x : Opening) → opening_of n js ≡ Some x → ⊥
    new_number x is = let low = kept.rest.numbered n x is in omega (arith, low, next)

    is_new : (older : Option Opening) → opening_of n js ≡ older → older ≡ None
    is_new None e = refl
    is_new (Some x) e = absurd (new_number x e)

    numbered_after : (k : ℕ) (x : Opening) → opening_of k (js ++ opening ∷ []) ≡ Some x
        → k ≤ openings (js ++ opening ∷ [])
    numbered_after k x is =
        let count : openings _ ≡ openings js + 1 = openings_more js opening in
        elim (opened_where k x is) [
          | inl older ↦ let low = kept.rest.numbered k x older in omega (arith, low, count)
          | inr this ↦ let same = this.0 in omega (arith, same, next, count)
        ]

    -- no older poll runs on the AU
    apart : (k : ℕ) (x : Opening) → opening_of k js ≡ Some x → is_closed k js ≡ false → o.au ≡ x.au → ⊥
    apart k x is runs same =
        both_ways _ free
        (subst (λ au. list_any (opens_running au js) js ≡ true) (sym same) (running_found js js k x is runs))

    alone_after : (m k : ℕ) (x y : Opening) → opening_of m (js ++ opening ∷ []) ≡ Some x
        → opening_of k (js ++ opening ∷ []) ≡ Some y
        → is_closed m (js ++ opening ∷ []) ≡ false → is_closed k (js ++ opening ∷ []) ≡ false → x.au ≡ y.au → m ≡ k
    alone_after m k x y first second runs also au = elim (opened_where m x first) [
      | inl older ↦ elim (opened_where k y second) [
        | inl too ↦ kept.rest.alone m k x y older too (was_running m js opening runs) (was_running k js opening also) au
        | inr this ↦ absurd (apart m x older (was_running m js opening runs) (ap (λ p. p.au) this.1 ∙ sym au))
      ]
      | inr this ↦ elim (opened_where k y second) [
        | inl older ↦ absurd (apart k y older (was_running k js opening also) (ap (λ p. p.au) this.1 ∙ au))
        | inr too ↦ sym this.0 ∙ too.0
      ]
    ]

    in_order_after : opened_numbers (js ++ opening ∷ []) ≡ range_with_len 1 (openings (js ++ opening ∷ []))
    in_order_after =
        let count : openings _ ≡ openings js + 1 = openings_more js opening in
        let last : 1 + openings js ≡ n = omega (arith, next) in
        numbers_more js opening ∙ ap (λ (ns : List ℕ). ns ++ n ∷ []) kept.rest.in_order
        ∙ sym (range_last 1 _ n last) ∙ ap (range_with_len 1) (sym count)

    same_copies_after : copies_in (js ++ opening ∷ []) ≡ copies_in js
    same_copies_after = λ i au. contents_more au js opening refl i

    good_after : AllGood own (js ++ opening ∷ [])
    good_after k =
        subst (λ copies. Good own k copies (poll_of k (js ++ opening ∷ []))) (sym same_copies_after)
        (subst (Good own k _) (sym (poll_more k js opening)) (if_own own k _ n _ _ (kept.good k) (λ same.
        good_opened own k _ o _ (kept.good k) (subst (λ m. opening_of m js ≡ None) same (is_new _ refl)))))

    lawful_after : ObeyQuorumRule (limits_in own.rules) → AreLawful own.rules (js ++ opening ∷ [])
    lawful_after rule =
        let before = kept.rest.lawful rule in
        record {
          in_force = in_force_more own.rules js opening tt before.in_force;
          opened = λ k x is. elim (opened_where k x is) [
            | inl older ↦ before.opened k x older
            | inr this ↦ subst (λ y. ObeyQuorumRule (limits_of own.rules y)) this.1 (numbers rule before.in_force)
          ];
        }

    pub kept_opened : Kept own (js ++ opening ∷ [])
    kept_opened = record {
      good = good_after;
      rest = record {
        in_order = in_order_after;
        numbered = numbered_after;
        alone = alone_after;
        lawful = lawful_after;
        evidence = λ rule. evidence_more own js opening (kept.rest.evidence rule) (λ x is. absurd cc);
      };
    }

pub free_of : (own : Station) (js : List Record) (tick au : ℕ) → may_open own js tick au ≡ true
    → list_any (opens_running au js) js ≡ false
unfolding may_open
free_of own js tick au may =
    let all = and_parts
    _ _ may in
    let first = and_parts _
    _ all.0 in
    not-true _
    (and_parts _ _ first.0).1

pub kept_on_open : (own : Station) (js : List Record) (tick au : ℕ) → Kept own js
    → KeptBy own js (on_open own js tick au)
unfolding on_open
kept_on_open own js tick au kept =
    kept_if own js _ _ kept (λ may. kept_opened own js _ tick _
    kept refl (free_of own js tick au may) (λ rule in_force. in_force))
