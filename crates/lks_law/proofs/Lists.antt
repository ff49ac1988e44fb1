-- Lists: what is true of each, and what is found in them.
use Rattle.std.proofs.Common.{◌≡◌, ◌∙◌, ap, sym, ℕ, zero, suc, Bool, true, false, cond, List, [], ◌∷◌, filter, refl}
use Rattle.std.specs.Prelude.{Some, find, slice_get, All}
use Rattle.std.proofs.lemmas.List.Elements.{All-cons, All-head, All-tail}
use Rattle.lks_law.specs.Firsts.{changed_first, without_first}
use Rattle.lks_law.specs.Fitting.{Where}
use Rattle.lks_law.proofs.Linked.{Each}

-- what a filter lets pass stands in the list
pub filter_at : {X : Type 0} (test : X → Bool) (xs : List X) (k : ℕ) (x : X) → slice_get (filter test xs) k ≡ Some x
    → (i : ℕ) × (slice_get xs i ≡ Some x) × (test x ≡ true)
filter_at test [] k x at = absurd cc
filter_at {X = X} test (y ∷ ys) k x at = by_test (test y) refl k at (filter_at test ys)
  where
    by_test : (b : Bool) → test y ≡ b → (k : ℕ) → slice_get (cond b (y ∷ filter test ys) (filter test ys)) k ≡ Some x
        → ((k : ℕ) (x : X) → slice_get (filter test ys) k ≡ Some x
        → (i : ℕ) × (slice_get ys i ≡ Some x) × (test x ≡ true))
        → (i : ℕ) × (slice_get (y ∷ ys) i ≡ Some x) × (test x ≡ true)
    by_test true is zero at later = let same : y ≡ x = cc in (0, at, ap test (sym same) ∙ is)
    by_test true is (suc k) at later = let r = later k x at in (suc r.0, r.1, r.2)
    by_test false is k at later = let r = later k x at in (suc r.0, r.1, r.2)

pub each_filter : {X : Type 0} (P : X → Type 0) (test : X → Bool) (xs : List X) → Each P xs → Each P (filter test xs)
each_filter P test [] all = tt
each_filter P test (x ∷ xs) all = by_test (test x) (each_filter P test xs all.1)
  where
    by_test : (b : Bool) → Each P (filter test xs) → Each P (cond b (x ∷ filter test xs) (filter test xs))
    by_test true rest = (all.0, rest)
    by_test false rest = rest

-- what is true at each place
pub each_at : {X : Type 0} (P : X → Type 0) (xs : List X) → ((i : ℕ) (x : X) → slice_get xs i ≡ Some x → P x)
    → Each P xs
each_at P [] at = tt
each_at P (x ∷ xs) at = (at 0 x refl, each_at P xs (λ i y there. at (suc i) y there))

pub each_from : {X : Type 0} (P : X → Type 0) (xs : List X) → All P xs → Each P xs
each_from P [] all = tt
each_from P (x ∷ xs) all = (All-head P x xs all, each_from P xs (All-tail P x xs all))

pub each_both : {X : Type 0} (P Q : X → Type 0) (xs : List X) → Each P xs → Each Q xs → Each (λ x. P x × Q x) xs
each_both P Q [] p q = tt
each_both P Q (x ∷ xs) p q = ((p.0, q.0), each_both P Q xs p.1 q.1)

-- Lists of which what is true of each stays so.

pub without_any : {X : Type 0} (P : X → Type 0) (test : X → Bool) (xs : List X) → All P xs
    → All P (without_first test xs)
without_any P test [] all = all
without_any P test (x ∷ xs) all = here (test x) (without_any P test xs (All-tail P x xs all))
  where
    here : (b : Bool) → All P (without_first test xs) → All P (cond b xs (x ∷ without_first test xs))
    here true rest = All-tail P x xs all
    here false rest = All-cons P x _ (All-head P x xs all) rest

pub changed_any : {X : Type 0} (P : X → Type 0) (test : X → Bool) (f : X → X) (xs : List X)
    → ((x : X) → P x → P (f x)) → All P xs → All P (changed_first test f xs)
changed_any P test f [] keeps all = all
changed_any P test f (x ∷ xs) keeps all = here (test x) (changed_any P test f xs keeps (All-tail P x xs all))
  where
    here : (b : Bool) → All P (changed_first test f xs) → All P (cond b (f x ∷ xs) (x ∷ changed_first test f xs))
    here true rest = All-cons P (f x) xs (keeps x (All-head P x xs all)) (All-tail P x xs all)
    here false rest = All-cons P x _ (All-head P x xs all) rest

pub any_where : {X : Type 0} (P : X → Type 0) (test : X → Bool) (xs : List X) → All P xs → Where (find test xs) P
any_where P test [] all = tt
any_where P test (x ∷ xs) all = here (test x) (any_where P test xs (All-tail P x xs all))
  where
    here : (b : Bool) → Where (find test xs) P → Where (cond b (Some x) (find test xs)) P
    here true rest = All-head P x xs all
    here false rest = rest
