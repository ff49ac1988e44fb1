-- Where nobody is left to be asked.
use Rattle.std.proofs.Common.{◌≡◌, ℕ, Bool, true, false, not, List, [], ◌∷◌, Option, refl}
use Rattle.std.specs.Prelude.{find, IsNone, IsTrue, ◌↔◌}
use Rattle.std.specs.List.{list_all}

-- no member fails a test exactly where all pass it
pub none_fails : (p : ℕ → Bool) (xs : List ℕ) → IsNone (find (λ x. not (p x)) xs) ↔ IsTrue (list_all p xs)
none_fails p [] = (λ _. refl, λ _. refl)
none_fails p (x ∷ xs) = by_test (p x) refl (none_fails p xs) where
  by_test : (b : Bool) → p x ≡ b → (IsNone (find (λ y. not (p y)) xs) ↔ IsTrue (list_all p xs))
      → IsNone (find (λ y. not (p y)) (x ∷ xs)) ↔ IsTrue (list_all p (x ∷ xs))
  by_test true passes rest = rw passes rest
  by_test false fails rest = rw fails (λ none. absurd cc, λ all. absurd cc)

pub none_left : (p : ℕ → Bool) (xs : List ℕ) (found : Option ℕ) → found ≡ find (λ x. not (p x)) xs → IsNone found
    ↔ IsTrue (list_all p xs)
none_left p xs found is = rw is (none_fails p xs)
