-- Lists of things that go by the names of polls: what is found, changed, taken out and put in, by name.
use Rattle.std.proofs.Common.{◌≡◌, ◌∙◌, ap, sym, subst, Bool, true, false, cond, List, [], ◌∷◌, ◌++◌, length}
use Rattle.std.proofs.Common.{refl, arith}
use Rattle.std.specs.Prelude.{Option, Some, None, is_some, option_map, map, filter, find, not, ◌+◌}
use Rattle.std.proofs.lemmas.Bool.{eqb-true, eq-eqb, and_parts, and_from}
use Rattle.lks_base.specs.declared.names.PollName.{PollName}
use Rattle.lks_law.specs.Firsts.{changed_first, without_first}
use Rattle.lks_law.specs.Sessions.{is_poll}

-- Names.

pub same_poll : (p q : PollName) → is_poll p q ≡ true → p ≡ q
same_poll p q e =
    let parts = and_parts _ _ e in
    λ i. record { poller = eqb-true p.poller q.poller parts.0 i; number = eqb-true p.number q.number parts.1 i }

pub is_itself : (q : PollName) → is_poll q q ≡ true
is_itself q = and_from _ _ (eq-eqb q.poller q.poller refl) (eq-eqb q.number q.number refl)

pub is_swapped : (p q : PollName) → is_poll p q ≡ is_poll q p
is_swapped p q = by_test (is_poll p q) (is_poll q p) refl refl
  where
    one_way : (p q : PollName) → is_poll p q ≡ true → is_poll q p ≡ true
    one_way p q e = subst (λ x. is_poll x p ≡ true) (same_poll p q e) (is_itself p)

    by_test : (x y : Bool) → is_poll p q ≡ x → is_poll q p ≡ y → x ≡ y
    by_test true true e f = refl
    by_test false false e f = refl
    by_test true false e f = sym (one_way p q e) ∙ f
    by_test false true e f = sym e ∙ one_way q p f

-- who is q isn't another
pub isnt_other : (p q r : PollName) → is_poll p q ≡ true → is_poll p r ≡ is_poll q r
isnt_other p q r e = ap (λ x. is_poll x r) (same_poll p q e)

pub off : {X : Type 0} (b : Bool) (x y : X) → b ≡ false → cond b x y ≡ y
off b x y e = ap (λ c. cond c x y) e

pub on : {X : Type 0} (b : Bool) (x y : X) → b ≡ true → cond b x y ≡ x
on b x y e = ap (λ c. cond c x y) e

abbrev pub first : {X : Type 0} → Option X → Option X → Option X
first None later = later
first (Some x) later = Some x

pub first_only : {X : Type 0} (o : Option X) → first o None ≡ o
first_only None = refl
first_only (Some x) = refl

module _ {X : Type 0} (name : X → PollName) where
  abbrev pub goes_by : PollName → X → Bool
  goes_by q x = is_poll (name x) q

  abbrev pub at : PollName → List X → Option X
  at q xs = find (λ (x : X). is_poll (name x) q) xs

  -- no two have the same name
  abbrev pub Apart : List X → Type 0
  Apart [] = Unit {0}
  Apart (x ∷ xs) = (at (name x) xs ≡ None) × Apart xs

  pub at_push : (q : PollName) (xs : List X) (x : X)
      → at q (xs ++ x ∷ []) ≡ first (at q xs) (cond (is_poll (name x) q) (Some x) None)
  at_push q [] x = refl
  at_push q (y ∷ xs) x = here (is_poll _ q) (at_push q xs x)
    where
      here : (b : Bool) → at q (xs ++ x ∷ []) ≡ first (at q xs) (cond (is_poll (name x) q) (Some x) None)
          → cond b (Some y) (at q (xs ++ x ∷ []))
          ≡ first (cond b (Some y) (at q xs)) (cond (is_poll (name x) q) (Some x) None)
      here true e = refl
      here false e = e

  -- what is found has the name
  pub at_named : (q : PollName) (xs : List X) (x : X) → at q xs ≡ Some x → name x ≡ q
  at_named q [] x e = absurd cc
  at_named q (y ∷ xs) x e = here (is_poll _ q) refl e (λ e. at_named q xs x e)
    where
      here : (b : Bool) → is_poll (name y) q ≡ b → cond b (Some y) (at q xs) ≡ Some x
          → (at q xs ≡ Some x → name x ≡ q) → name x ≡ q
      here true is e later = let same : y ≡ x = cc in subst (λ z. name z ≡ q) same (same_poll _ q is)
      here false is e later = later e

  not_first : (x : X) (q : PollName) (xs : List X) (b : Bool) → cond b (Some x) (at q xs) ≡ None
      → (b ≡ false) × (at q xs ≡ None)
  not_first x q xs true e = absurd cc
  not_first x q xs false e = (refl, e)

  -- Taking one out.

  pub absent_without : (p : PollName) (xs : List X) → at p xs ≡ None → without_first (goes_by p) xs ≡ xs
  absent_without p [] e = refl
  absent_without p (x ∷ xs) e =
      let parts = not_first x p xs _ e in
      off _ xs _ parts.0
      ∙ ap (λ ys. x ∷ ys) (absent_without p xs parts.1)

  pub gone : (p : PollName) (xs : List X) → Apart xs → at p (without_first (goes_by p) xs) ≡ None
  gone p [] apart = refl
  gone p (x ∷ xs) apart = by_test (is_poll _ p) refl (gone p xs apart.1)
    where
      by_test : (b : Bool) → is_poll (name x) p ≡ b → at p (without_first (goes_by p) xs) ≡ None
          → at p (cond b xs (x ∷ without_first (goes_by p) xs)) ≡ None
      by_test true is rest = ap (λ q. at q xs) (sym (same_poll _ p is)) ∙ apart.0
      by_test false is rest = off _ _ _ is ∙ rest

  pub others_without : (p q : PollName) (xs : List X) → is_poll p q ≡ false
      → at q (without_first (goes_by p) xs) ≡ at q xs
  others_without p q [] other = refl
  others_without p q (x ∷ xs) other = by_test (is_poll _ p) refl (others_without p q xs other)
    where
      by_test : (b : Bool) → is_poll (name x) p ≡ b → at q (without_first (goes_by p) xs) ≡ at q xs
          → at q (cond b xs (x ∷ without_first (goes_by p) xs)) ≡ cond (is_poll (name x) q) (Some x) (at q xs)
      by_test true is rest = sym (off _ _ _ (isnt_other _ p q is ∙ other))
      by_test false is rest = ap (cond (is_poll _ q) (Some x)) rest

  absent_still : (p q : PollName) (xs : List X) → at q xs ≡ None → at q (without_first (goes_by p) xs) ≡ None
  absent_still p q [] e = refl
  absent_still p q (x ∷ xs) e =
      let parts = not_first x q xs _ e in
      by_test (is_poll _ p) parts.0 parts.1 (absent_still p q xs parts.1)
    where
      by_test : (b : Bool) → is_poll (name x) q ≡ false → at q xs ≡ None
          → at q (without_first (goes_by p) xs) ≡ None → at q (cond b xs (x ∷ without_first (goes_by p) xs)) ≡ None
      by_test true other before rest = before
      by_test false other before rest = off _ _ _ other ∙ rest

  pub apart_without : (p : PollName) (xs : List X) → Apart xs → Apart (without_first (goes_by p) xs)
  apart_without p [] apart = tt
  apart_without p (x ∷ xs) apart = by_test (is_poll _ p) (apart_without p xs apart.1)
    where
      by_test : (b : Bool) → Apart (without_first (goes_by p) xs) → Apart (cond b xs (x ∷ without_first (goes_by p) xs))
      by_test true rest = apart.1
      by_test false rest = (absent_still p _ xs apart.0, rest)

  pub one_less : (p : PollName) (xs : List X) → is_some (at p xs) ≡ true
      → length xs ≡ length (without_first (goes_by p) xs) + 1
  one_less p [] e = absurd cc
  one_less p (x ∷ xs) e = by_test (is_poll _ p) e (λ e. one_less p xs e)
    where
      by_test : (b : Bool) → is_some (cond b (Some x) (at p xs)) ≡ true
          → (is_some (at p xs) ≡ true → length xs ≡ length (without_first (goes_by p) xs) + 1)
          → length (x ∷ xs) ≡ length (cond b xs (x ∷ without_first (goes_by p) xs)) + 1
      by_test true e rest = omega arith
      by_test false e rest = let less = rest e in omega (arith, less)

  names_without : (p : PollName) (xs : List X) → at p xs ≡ None
      → filter (λ q. not (is_poll q p)) (map name xs) ≡ map name xs
  names_without p [] e = refl
  names_without p (x ∷ xs) e =
      let parts = not_first x p xs _ e in
      ap
      (λ b. cond (not b) (name x ∷ filter (λ q. not (is_poll q p)) (map name xs))
      (filter (λ q. not (is_poll q p)) (map name xs))) parts.0
      ∙ ap (λ qs. name x ∷ qs) (names_without p xs parts.1)

  pub names_left : (p : PollName) (xs : List X) → Apart xs
      → map name (without_first (goes_by p) xs) ≡ filter (λ q. not (is_poll q p)) (map name xs)
  names_left p [] apart = refl
  names_left p (x ∷ xs) apart = by_test (is_poll _ p) refl (names_left p xs apart.1)
    where
      by_test : (b : Bool) → is_poll (name x) p ≡ b
          → map name (without_first (goes_by p) xs) ≡ filter (λ q. not (is_poll q p)) (map name xs)
          → map name (cond b xs (x ∷ without_first (goes_by p) xs))
          ≡ cond (not b) (name x ∷ filter (λ q. not (is_poll q p)) (map name xs))
          (filter (λ q. not (is_poll q p)) (map name xs))
      by_test true is rest = sym (names_without p xs (ap (λ q. at q xs) (sym (same_poll _ p is)) ∙ apart.0))
      by_test false is rest = ap (λ qs. name x ∷ qs) rest

  -- Putting one in.

  absent_push : (q : PollName) (xs : List X) (x : X) → at q xs ≡ None → is_poll (name x) q ≡ false
      → at q (xs ++ x ∷ []) ≡ None
  absent_push q xs x e other = at_push q xs x ∙ (λ i. first (e i) (off _ (Some x) None other i))

  pub apart_push : (xs : List X) (x : X) → Apart xs → at (name x) xs ≡ None → Apart (xs ++ x ∷ [])
  apart_push [] x apart new = (refl, tt)
  apart_push (y ∷ xs) x apart new =
      let parts = not_first y _ xs _ new in
      (absent_push _ xs x apart.0 (is_swapped _ (name y) ∙ parts.0), apart_push xs x apart.1 parts.1)

  pub names_push : (xs : List X) (x : X) → map name (xs ++ x ∷ []) ≡ map name xs ++ name x ∷ []
  names_push [] x = refl
  names_push (y ∷ xs) x = ap (λ qs. name y ∷ qs) (names_push xs x)

  pub length_push : (xs : List X) (x : X) → length (xs ++ x ∷ []) ≡ length xs + 1
  length_push [] x = refl
  length_push (y ∷ xs) x = let more = length_push xs x in omega (arith, more)

  -- Changing one.

  module _ (f : X → X) (keeps : (x : X) → name (f x) ≡ name x) where
    pub at_changed : (p q : PollName) (xs : List X)
        → at q (changed_first (goes_by p) f xs) ≡ cond (is_poll p q) (option_map f (at q xs)) (at q xs)
    at_changed p q [] = both (is_poll p q)
      where
        both : (b : Bool) → None ≡ cond {A = Option X} b None None
        both true = refl
        both false = refl
    at_changed p q (x ∷ xs) = by_tests (is_poll (name x) p) refl (is_poll p q) refl (at_changed p q xs)
      where
        by_tests : (b : Bool) → is_poll (name x) p ≡ b → (c : Bool) → is_poll p q ≡ c
            → at q (changed_first (goes_by p) f xs) ≡ cond c (option_map f (at q xs)) (at q xs)
            → at q (cond b (f x ∷ xs) (x ∷ changed_first (goes_by p) f xs))
            ≡ cond c (option_map f (cond (is_poll (name x) q) (Some x) (at q xs)))
            (cond (is_poll (name x) q) (Some x) (at q xs))
        by_tests true is true same rest =
            let mine : is_poll (name x) q ≡ true = isnt_other (name x) p q is ∙ same in
            on (is_poll (name (f x)) q) (Some (f x)) (at q xs) (ap (λ n. is_poll n q) (keeps x) ∙ mine)
            ∙ sym (ap (option_map f) (on (is_poll (name x) q) (Some x) (at q xs) mine))
        by_tests true is false same rest =
            let other : is_poll (name x) q ≡ false = isnt_other (name x) p q is ∙ same in
            off (is_poll (name (f x)) q) (Some (f x)) (at q xs) (ap (λ n. is_poll n q) (keeps x) ∙ other)
            ∙ sym (off (is_poll (name x) q) (Some x) (at q xs) other)
        by_tests false is true same rest =
            let other : is_poll (name x) q ≡ false = ap (is_poll (name x)) (sym (same_poll p q same)) ∙ is in
            off (is_poll (name x) q) (Some x) (at q (changed_first (goes_by p) f xs)) other ∙ rest
            ∙ sym (ap (option_map f) (off (is_poll (name x) q) (Some x) (at q xs) other))
        by_tests false is false same rest = ap (cond (is_poll (name x) q) (Some x)) rest

    pub names_changed : (p : PollName) (xs : List X) → map name (changed_first (goes_by p) f xs) ≡ map name xs
    names_changed p [] = refl
    names_changed p (x ∷ xs) = by_test (is_poll _ p) (names_changed p xs)
      where
        by_test : (b : Bool) → map name (changed_first (goes_by p) f xs) ≡ map name xs
            → map name (cond b (f x ∷ xs) (x ∷ changed_first (goes_by p) f xs)) ≡ name x ∷ map name xs
        by_test true rest = ap (λ n. n ∷ map name xs) (keeps x)
        by_test false rest = ap (λ qs. name x ∷ qs) rest

    pub length_changed : (p : PollName) (xs : List X) → length (changed_first (goes_by p) f xs) ≡ length xs
    length_changed p [] = refl
    length_changed p (x ∷ xs) = by_test (is_poll _ p) (length_changed p xs)
      where
        by_test : (b : Bool) → length (changed_first (goes_by p) f xs) ≡ length xs
            → length (cond b (f x ∷ xs) (x ∷ changed_first (goes_by p) f xs)) ≡ length (x ∷ xs)
        by_test true rest = refl
        by_test false rest = omega (arith, rest)

    absent_changed : (p q : PollName) (xs : List X) → at q xs ≡ None → at q (changed_first (goes_by p) f xs) ≡ None
    absent_changed p q xs e =
        at_changed p q xs ∙ (λ i. cond (is_poll p q) (option_map f (e i)) (e i)) ∙ both (is_poll p q)
      where
        both : (b : Bool) → cond {A = Option X} b None None ≡ None
        both true = refl
        both false = refl

    pub apart_changed : (p : PollName) (xs : List X) → Apart xs → Apart (changed_first (goes_by p) f xs)
    apart_changed p [] apart = tt
    apart_changed p (x ∷ xs) apart = by_test (is_poll _ p) (apart_changed p xs apart.1)
      where
        by_test : (b : Bool) → Apart (changed_first (goes_by p) f xs)
            → Apart (cond b (f x ∷ xs) (x ∷ changed_first (goes_by p) f xs))
        by_test true rest = (ap (λ n. at n xs) (keeps x) ∙ apart.0, apart.1)
        by_test false rest = (absent_changed p _ xs apart.0, rest)
