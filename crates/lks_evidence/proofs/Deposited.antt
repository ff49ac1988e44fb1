-- A journal of a history has each AU that its peer holds once, before all else, with the plan's number of blocks.
use Rattle.std.proofs.Common.{◌≡◌, ◌≤◌, ◌+◌, ◌∙◌, ap, sym, subst, ℕ, zero, suc, Bool, true, false, cond, eqb, List}
use Rattle.std.proofs.Common.{[], ◌∷◌, ◌++◌, length, take, filter, refl, arith}
use Rattle.std.specs.Prelude.{Option, Some, None, is_some, not, ◌&&◌, ◌||◌, ◌==◌, count_by, slice_get}
use Rattle.std.specs.List.{filter_map, cons_option, list_all, list_any}
use Rattle.std.proofs.lemmas.Bool.{and_parts, eqb-true, eq-eqb}
use Rattle.std.proofs.lemmas.List.Folds.{list_any-append}
use Rattle.std.proofs.lemmas.List.Sums.{sum_by-append, sum_by-cons}
use Rattle.lks_base.specs.Checking.{each as each_fault, has_au, au_fault, has_counted}
use Rattle.lks_base.specs.declared.plans.AuPlan.{AuPlan}
use Rattle.lks_base.specs.declared.plans.Holding.{Holding}
use Rattle.lks_base.specs.declared.plans.PlanFault.TheVariants.{Repeat}
use Rattle.lks_base.specs.declared.records.Record.{Record}
use Rattle.lks_base.specs.declared.records.Record.TheVariants.{Deposit}
use Rattle.lks_base.proofs.PlanLaws.{no_first, no_second, stands}
use Rattle.lks_law.specs.Journal.{deposit_in, deposit_of, is_number}
use Rattle.lks_law.proofs.Linked.{Each}
use Rattle.lks_law.specs.World.{deposit_for, deposits as deposits_of}
use Rattle.lks_law.specs.Written.{is_deposit}
use Rattle.lks_law.proofs.Growing.{IsLater, each_append, each_front, first_of, deposit_first, same_deposit}
use Rattle.lks_evidence.specs.Records.{deposits}
use Rattle.lks_evidence.specs.Rules.{count_in, deposited_blocks, is_deposited}
use Rattle.lks_evidence.proofs.Added.{IsBehind}

abbrev is_of : ℕ → Record → Bool
is_of au r = is_some (deposit_in au r)

count_cons : (au : ℕ) (r : Record) (rs : List Record)
    → count_by (is_of au) (r ∷ rs) ≡ cond (is_of au r) 1 0 + count_by (is_of au) rs
count_cons au r rs = sum_by-cons (λ x. cond (is_of au x) 1 0) r rs

count_append : (au : ℕ) (xs ys : List Record)
    → count_by (is_of au) (xs ++ ys) ≡ count_by (is_of au) xs + count_by (is_of au) ys
count_append au xs ys = sum_by-append (λ x. cond (is_of au x) 1 0) xs ys

-- ---- AUs of a plan: no number stands twice

later_au : (before aus : List AuPlan) (au : ℕ) → each_fault au_fault before aus ≡ None → has_au before au ≡ true
    → has_au aus au ≡ false
unfolding has_au au_fault
later_au before [] au e stood = refl
later_au before (a ∷ aus) au e stood =
    let other : has_au before a.id
    ≡ false = not_stood (has_au before a.id)
    (stands _ Repeat (no_second _ _ (no_first (au_fault before a) _ e))) in
    let rest = later_au (before ++ a ∷ []) aus au (no_second (au_fault before a) _ e)
    (list_any-append (λ (x : AuPlan). x.id == au) before (a ∷ [])
    ∙ ap (λ b. b || list_any (λ (x : AuPlan). x.id == au) (a ∷ [])) stood) in
    by_test (eqb a.id au) refl other rest
  where
    not_stood : (b : Bool) → not b ≡ true → b ≡ false
    not_stood true e = absurd cc
    not_stood false e = refl

    by_test : (b : Bool) → eqb a.id au ≡ b → has_au before a.id ≡ false → has_au aus au ≡ false
        → (b || list_any (λ (x : AuPlan). x.id == au) aus) ≡ false
    by_test true same other rest =
        absurd (let again = subst (λ n. has_au before n ≡ false) (eqb-true a.id au same) other in cc)
    by_test false same other rest = rest

after_au : (before : List AuPlan) (a : AuPlan) (aus : List AuPlan) → each_fault au_fault before (a ∷ aus) ≡ None
    → has_au aus a.id ≡ false
unfolding has_au
after_au before a aus e =
    later_au (before ++ a ∷ []) aus a.id (no_second (au_fault before a) _ e)
    (list_any-append (λ (x : AuPlan). x.id == a.id) before (a ∷ [])
    ∙ ap (λ b. list_any (λ (x : AuPlan). x.id == a.id) before || (b || false)) (eq-eqb a.id a.id refl)
    ∙ or_last (list_any (λ (x : AuPlan). x.id == a.id) before))
  where
    or_last : (b : Bool) → (b || true) ≡ true
    or_last true = refl
    or_last false = refl

counted_has : (aus : List AuPlan) (au n : ℕ) → has_counted aus au n ≡ true → has_au aus au ≡ true
unfolding has_counted has_au
counted_has [] au n e = absurd cc
counted_has (a ∷ aus) au n e = by_test (eqb a.id au) (eqb a.count n) e (counted_has aus au n)
  where
    by_test : (b c : Bool) → ((b && c) || list_any (λ (x : AuPlan). x.id == au && x.count == n) aus) ≡ true
        → (list_any (λ (x : AuPlan). x.id == au && x.count == n) aus ≡ true
        → list_any (λ (x : AuPlan). x.id == au) aus ≡ true)
        → (b || list_any (λ (x : AuPlan). x.id == au) aus) ≡ true
    by_test true c f rest = refl
    by_test false c f rest = rest f

-- the plan gives the AU the number of blocks with which it has it
counted_in : (before aus : List AuPlan) (au n : ℕ) → each_fault au_fault before aus ≡ None
    → has_counted aus au n ≡ true → is_number (count_in aus au) n ≡ true
unfolding has_counted count_in
counted_in before [] au n e has = absurd cc
counted_in before (a ∷ aus) au n e has =
    by_test (eqb a.id au) (eqb a.count n) refl refl has
    (counted_in (before ++ a ∷ []) aus au n (no_second (au_fault before a) _ e)) (after_au before a aus e)
  where
    by_test : (b c : Bool) → eqb a.id au ≡ b → eqb a.count n ≡ c → ((b && c) || has_counted aus au n) ≡ true
        → (has_counted aus au n ≡ true → is_number (count_in aus au) n ≡ true) → has_au aus a.id ≡ false
        → is_number (cond b (Some a.count) (count_in aus au)) n ≡ true
    by_test true true same count f rest none = count
    by_test true false same count f rest none =
        absurd
        (let again = counted_has aus au n f in
        let other = subst (λ k. has_au aus k ≡ false) (eqb-true a.id au same) none in cc)
    by_test false c same count f rest none = rest f

-- ---- the deposits of a peer: each is of an AU of the plan, with its number of blocks

abbrev IsCounted : List AuPlan → Record → Type 0
IsCounted aus (Deposit au blocks) = has_counted aus au (length blocks) ≡ true
IsCounted aus r = Unit {0}

abbrev counts_so : List AuPlan → Holding → Bool
counts_so aus c = has_counted aus c.au (length c.blocks)

held_counted : (aus : List AuPlan) (a : AuPlan) (copies : List Holding) → list_all (counts_so aus) copies ≡ true
    → Each (IsCounted aus) (filter_map (deposit_for a) copies)
held_counted aus a [] all = tt
held_counted aus a (c ∷ cs) all =
    let parts = and_parts (counts_so aus c) (list_all (counts_so aus) cs) all in
    by_test (eqb c.au a.id) refl parts.0 (held_counted aus a cs parts.1)
  where
    by_test : (b : Bool) → eqb c.au a.id ≡ b → has_counted aus c.au (length c.blocks) ≡ true
        → Each (IsCounted aus) (filter_map (deposit_for a) cs)
        → Each (IsCounted aus)
        (cons_option (cond b (Some (Deposit a.id c.blocks)) None) (filter_map (deposit_for a) cs))
    by_test true same here rest =
        (subst (λ n. has_counted aus n (length c.blocks) ≡ true) (eqb-true c.au a.id same) here, rest)
    by_test false same here rest = rest

all_counted : (aus some : List AuPlan) (copies : List Holding) → list_all (counts_so aus) copies ≡ true
    → Each (IsCounted aus) (deposits_of some copies)
unfolding deposits_of
all_counted aus [] copies all = tt
all_counted aus (a ∷ some) copies all =
    each_append (IsCounted aus) (filter_map (deposit_for a) copies) (deposits_of some copies)
    (held_counted aus a copies all) (all_counted aus some copies all)

counted_record : (aus : List AuPlan) (au : ℕ) (r : Record) (blocks : List (List ℕ)) → deposit_in au r ≡ Some blocks
    → IsCounted aus r → has_counted aus au (length blocks) ≡ true
counted_record aus au (Deposit a bs) blocks e counted = by_test (eqb a au) refl e
  where
    by_test : (b : Bool) → eqb a au ≡ b → cond b (Some bs) None ≡ Some blocks
        → has_counted aus au (length blocks) ≡ true
    by_test true same f =
        let is : bs ≡ blocks = cc in
        subst (λ x. has_counted aus au (length x) ≡ true) is
        (subst (λ n. has_counted aus n (length bs) ≡ true) (eqb-true a au same) counted)
    by_test false same f = absurd cc
counted_record aus au r blocks e counted = absurd cc

-- ---- how many of them are of one AU

one_of : (a au : ℕ) (blocks : List (List ℕ)) → is_of au (Deposit a blocks) ≡ eqb a au
one_of a au blocks = by_test (eqb a au)
  where
    by_test : (b : Bool) → is_some (cond b (Some blocks) None) ≡ b
    by_test true = refl
    by_test false = refl

filter_step : (c : Holding) (cs : List Holding) (au : ℕ)
    → length (filter (λ (x : Holding). x.au == au) (c ∷ cs))
    ≡ cond (eqb c.au au) 1 0 + length (filter (λ (x : Holding). x.au == au) cs)
filter_step c cs au = by_test (eqb c.au au)
  where
    by_test : (b : Bool)
        → length (cond b (c ∷ filter (λ (x : Holding). x.au == au) cs) (filter (λ (x : Holding). x.au == au) cs))
        ≡ cond b 1 0 + length (filter (λ (x : Holding). x.au == au) cs)
    by_test true = omega arith
    by_test false = omega arith

inner_few : (au : ℕ) (a : AuPlan) (copies : List Holding)
    → count_by (is_of au) (filter_map (deposit_for a) copies) ≤ length (filter (λ (c : Holding). c.au == au) copies)
inner_few au a [] = omega arith
inner_few au a (c ∷ cs) =
    let step = filter_step c cs au in
    by_test (eqb c.au a.id) (eqb c.au au) refl refl (inner_few au a cs) step
  where
    by_test : (b d : Bool) → eqb c.au a.id ≡ b → eqb c.au au ≡ d
        → count_by (is_of au) (filter_map (deposit_for a) cs) ≤ length (filter (λ (x : Holding). x.au == au) cs)
        → length (filter (λ (x : Holding). x.au == au) (c ∷ cs))
        ≡ cond d 1 0 + length (filter (λ (x : Holding). x.au == au) cs)
        → count_by (is_of au)
        (cons_option (cond b (Some (Deposit a.id c.blocks)) None) (filter_map (deposit_for a) cs))
        ≤ length (filter (λ (x : Holding). x.au == au) (c ∷ cs))
    by_test false d same is rest step = omega (arith, rest, step)
    by_test true true same is rest step =
        let head = count_cons au (Deposit a.id c.blocks) (filter_map (deposit_for a) cs) in
        most_one (is_of au (Deposit a.id c.blocks)) head
      where
        most_one : (x : Bool)
            → count_by (is_of au) (Deposit a.id c.blocks ∷ filter_map (deposit_for a) cs)
            ≡ cond x 1 0 + count_by (is_of au) (filter_map (deposit_for a) cs)
            → count_by (is_of au) (Deposit a.id c.blocks ∷ filter_map (deposit_for a) cs)
            ≤ length (filter (λ (x : Holding). x.au == au) (c ∷ cs))
        most_one true head = omega (arith, rest, step, head)
        most_one false head = omega (arith, rest, step, head)
    by_test true false same is rest step =
        let other : is_of au (Deposit a.id c.blocks)
        ≡ false = one_of a.id au c.blocks ∙ ap (λ n. eqb n au) (sym (eqb-true c.au a.id same)) ∙ is in
        let head = count_cons au (Deposit a.id c.blocks) (filter_map (deposit_for a) cs)
        ∙ ap (λ b. cond b 1 0 + count_by (is_of au) (filter_map (deposit_for a) cs)) other in
        omega (arith, rest, step, head)

inner_none : (au : ℕ) (a : AuPlan) (copies : List Holding) → eqb a.id au ≡ false
    → count_by (is_of au) (filter_map (deposit_for a) copies) ≡ 0
inner_none au a [] other = refl
inner_none au a (c ∷ cs) other = by_test (eqb c.au a.id) (inner_none au a cs other)
  where
    by_test : (b : Bool) → count_by (is_of au) (filter_map (deposit_for a) cs) ≡ 0
        → count_by (is_of au)
        (cons_option (cond b (Some (Deposit a.id c.blocks)) None) (filter_map (deposit_for a) cs))
        ≡ 0
    by_test true rest =
        let head : count_by (is_of au) (Deposit a.id c.blocks ∷ filter_map (deposit_for a) cs)
        ≡ 0 + count_by (is_of au) (filter_map (deposit_for a) cs) =
        count_cons au (Deposit a.id c.blocks) (filter_map (deposit_for a) cs)
        ∙ ap (λ b. cond b 1 0 + count_by (is_of au) (filter_map (deposit_for a) cs))
        (one_of a.id au c.blocks ∙ other) in
        omega (arith, head, rest)
    by_test false rest = rest

outer_none : (au : ℕ) (aus : List AuPlan) (copies : List Holding) → has_au aus au ≡ false
    → count_by (is_of au) (deposits_of aus copies) ≡ 0
unfolding deposits_of has_au
outer_none au [] copies none = refl
outer_none au (a ∷ aus) copies none = by_test (eqb a.id au) refl none (outer_none au aus copies)
  where
    by_test : (b : Bool) → eqb a.id au ≡ b → (b || list_any (λ (x : AuPlan). x.id == au) aus) ≡ false
        → (list_any (λ (x : AuPlan). x.id == au) aus ≡ false → count_by (is_of au) (deposits_of aus copies) ≡ 0)
        → count_by (is_of au) (filter_map (deposit_for a) copies ++ deposits_of aus copies) ≡ 0
    by_test true same e others = absurd cc
    by_test false same e others =
        let all = count_append au (filter_map (deposit_for a) copies) (deposits_of aus copies) in
        let here = inner_none au a copies same in
        let rest = others e in
        omega (arith, all, here, rest)

outer_few : (au : ℕ) (before aus : List AuPlan) (copies : List Holding) → each_fault au_fault before aus ≡ None
    → count_by (is_of au) (deposits_of aus copies) ≤ length (filter (λ (c : Holding). c.au == au) copies)
unfolding deposits_of
outer_few au before [] copies e = omega arith
outer_few au before (a ∷ aus) copies e =
    let all = count_append au (filter_map (deposit_for a) copies) (deposits_of aus copies) in
    let rest = outer_few au (before ++ a ∷ []) aus copies (no_second (au_fault before a) _ e) in
    by_test (eqb a.id au) refl all rest (after_au before a aus e)
  where
    by_test : (b : Bool) → eqb a.id au ≡ b
        → count_by (is_of au) (filter_map (deposit_for a) copies ++ deposits_of aus copies)
        ≡ count_by (is_of au) (filter_map (deposit_for a) copies) + count_by (is_of au) (deposits_of aus copies)
        → count_by (is_of au) (deposits_of aus copies) ≤ length (filter (λ (c : Holding). c.au == au) copies)
        → has_au aus a.id ≡ false
        → count_by (is_of au) (filter_map (deposit_for a) copies ++ deposits_of aus copies)
        ≤ length (filter (λ (c : Holding). c.au == au) copies)
    by_test true same all rest none =
        let here = inner_few au a copies in
        let others = outer_none au aus copies (subst (λ n. has_au aus n ≡ false) (eqb-true a.id au same) none) in
        omega (arith, all, here, others)
    by_test false same all rest none = let here = inner_none au a copies same in omega (arith, all, here, rest)

some_of : (au : ℕ) (js : List Record) (blocks : List (List ℕ)) → deposit_of au js ≡ Some blocks
    → 1 ≤ count_by (is_of au) js
unfolding deposit_of
some_of au [] blocks e = absurd cc
some_of au (j ∷ js) blocks e =
    let head = count_cons au j js in by_option (deposit_in au j) e (some_of au js blocks) head
  where
    by_option : (o : Option (List (List ℕ))) → cond (is_some o) o (deposit_of au js) ≡ Some blocks
        → (deposit_of au js ≡ Some blocks → 1 ≤ count_by (is_of au) js)
        → count_by (is_of au) (j ∷ js) ≡ cond (is_some o) 1 0 + count_by (is_of au) js
        → 1 ≤ count_by (is_of au) (j ∷ js)
    by_option None f rest head = let more = rest f in omega (arith, more, head)
    by_option (Some x) f rest head = omega (arith, head)

none_behind : (au : ℕ) (rest : List Record) → Each IsLater rest → count_by (is_of au) rest ≡ 0
none_behind au [] later = refl
none_behind au (r ∷ rs) later =
    let head : count_by (is_of au) (r ∷ rs)
    ≡ 0 + count_by (is_of au) rs = count_cons au r rs
    ∙ ap (λ o. cond (is_some o) 1 0 + count_by (is_of au) rs) (none r later.0) in
    let rest = none_behind au rs later.1 in
    omega (arith, head, rest)
  where
    none : (r : Record) → IsLater r → deposit_in au r ≡ None
    none (Deposit a blocks) l = absurd l
    none r l = refl

module _ (aus : List AuPlan) (copies : List Holding) (good : each_fault au_fault [] aus ≡ None)
    (counted : list_all (counts_so aus) copies ≡ true)
    (once : (au : ℕ) → length (filter (λ (c : Holding). c.au == au) copies) ≤ 1) where
  pub deposited_once : (journal : List Record) → IsBehind (deposits_of aus copies) journal
      → (au : ℕ) (blocks : List (List ℕ)) → deposit_of au journal ≡ Some blocks
      → (deposits au journal ≡ 1) × (is_deposited aus au journal ≡ true)
  unfolding is_deposited deposits deposited_blocks
  deposited_once journal behind au blocks e =
      let front = deposits_of aus copies in
      let same : deposit_of au journal
      ≡ deposit_of au front = ap (deposit_of au) behind.is ∙ same_deposit au front behind.rest behind.later in
      let inside : deposit_of au front ≡ Some blocks = sym same ∙ e in
      let all : count_by (is_of au) journal
      ≡ count_by (is_of au) front + count_by (is_of au) behind.rest = ap (count_by (is_of au)) behind.is
      ∙ count_append au front behind.rest in
      let none = none_behind au behind.rest behind.later in
      let most = outer_few au [] aus copies good in
      let few = once au in
      let least = some_of au front blocks inside in
      let one : count_by (is_of au) journal ≡ 1 = omega (arith, all, none, most, few, least) in
      let number : is_number (count_in aus au) (length blocks) ≡ true =
      counted_in [] aus au (length blocks) good
      (first_of (deposit_in au) (IsCounted aus) (λ x. has_counted aus au (length x) ≡ true)
      (counted_record aus au) front blocks (sym (deposit_first au front) ∙ inside)
      (all_counted aus aus copies counted)) in
      (one, rw (one, e, number) refl)

-- a front of a journal that ends before a record that is no deposit
pub behind_front : (begun rest : List Record) (i : ℕ) (r : Record) → list_all is_deposit begun ≡ true
    → Each IsLater rest → IsLater r → slice_get (begun ++ rest) i ≡ Some r → IsBehind begun (take i (begun ++ rest))
behind_front [] rest i r all later new at =
    record { rest = take i rest; is = refl; later = each_front IsLater i rest later }
behind_front (Deposit a blocks ∷ ds) rest zero r all later new at =
    absurd (let same : Deposit a blocks ≡ r = cc in subst IsLater (sym same) new)
behind_front (Deposit a blocks ∷ ds) rest (suc i) r all later new at =
    let front = behind_front ds rest i r all later new at in
    record { rest = front.rest; is = ap (λ rs. Deposit a blocks ∷ rs) front.is; later = front.later }
behind_front (d ∷ ds) rest i r all later new at = absurd cc
