-- What a pin more, or one less, means for each poll.
use Rattle.std.proofs.Common.{◌≡◌, ◌≢◌, ℕ, ◌<◌, Bool, true, false, cond, ◌∙◌, sym, ap, refl, subst, Option, Some}
use Rattle.std.proofs.Common.{None, List, [], ◌∷◌, arith}
use Rattle.std.specs.Prelude.{All, IsNone}
use Rattle.std.proofs.lemmas.List.Elements.{All-head, All-tail}
use Rattle.lks_base.specs.declared.names.PollName.{PollName}
use Rattle.lks_versions.specs.declared.versions.Pin.{Pin}
use Rattle.lks_versions.specs.Pins.{is_poll, pin_of, pins_with, pins_without}

-- names that pass the test are one name
same_poll : (p q : PollName) → is_poll p q ≡ true → p ≡ q
same_poll p q is =
    let pollers : p.poller ≡ q.poller = grind arith in
    let numbers : p.number ≡ q.number = grind arith in
    λ i. record { poller = pollers i; number = numbers i }

is_poll_itself : (p : PollName) → is_poll p p ≡ true
is_poll_itself p = grind arith

other_poll : (p q : PollName) → p ≢ q → is_poll p q ≡ false
other_poll p q differ = by_test (is_poll p q) refl where
  by_test : (b : Bool) → is_poll p q ≡ b → is_poll p q ≡ false
  by_test true is = absurd (differ (same_poll p q is))
  by_test false is = is

-- a poll that had no pin has the one that is made
pin_of-with : (poll : PollName) (version : ℕ) (pins : List Pin) → pin_of poll pins ≡ None
    → pin_of poll (pins_with poll version pins) ≡ Some version
pin_of-with poll version [] none = rw (is_poll_itself poll) refl
pin_of-with poll version (p ∷ ps) none = by_test (is_poll p.poll poll) refl (pin_of-with poll version ps) where
  by_test : (b : Bool) → is_poll p.poll poll ≡ b
      → (pin_of poll ps ≡ None → pin_of poll (pins_with poll version ps) ≡ Some version)
      → pin_of poll (pins_with poll version (p ∷ ps)) ≡ Some version
  by_test true is rest =
      let found : Some p.version ≡ None = ap (λ b. cond b (Some p.version) (pin_of poll ps)) (sym is) ∙ none in
      absurd cc
  by_test false is rest = rw is (rest (ap (λ b. cond b (Some p.version) (pin_of poll ps)) (sym is) ∙ none))

no_pin : (pin : Option ℕ) → IsNone pin → pin ≡ None
no_pin None none = refl
no_pin (Some version) none = absurd cc

pub pin_of-made : (poll : PollName) (version : ℕ) (pins after : List Pin) → after ≡ pins_with poll version pins
    → IsNone (pin_of poll pins) → pin_of poll after ≡ Some version
pin_of-made poll version pins after is none = rw is (pin_of-with poll version pins (no_pin (pin_of poll pins) none))

-- each other poll has what it had
pub pin_of-with_other : (poll other : PollName) (version : ℕ) (pins : List Pin) → other ≢ poll
    → pin_of other (pins_with poll version pins) ≡ pin_of other pins
pin_of-with_other poll other version [] differ = rw (other_poll poll other (λ is. differ (sym is))) refl
pin_of-with_other poll other version (p ∷ ps) differ =
    ap (cond (is_poll p.poll other) (Some p.version)) (pin_of-with_other poll other version ps differ)

-- a poll whose pins are taken out has none
pin_of-without : (poll : PollName) (pins : List Pin) → pin_of poll (pins_without poll pins) ≡ None
pin_of-without poll [] = refl
pin_of-without poll (p ∷ ps) = by_test (is_poll p.poll poll) refl (pin_of-without poll ps) where
  by_test : (b : Bool) → is_poll p.poll poll ≡ b → pin_of poll (pins_without poll ps) ≡ None
      → pin_of poll (pins_without poll (p ∷ ps)) ≡ None
  by_test true is rest = rw is rest
  by_test false is rest = rw is (rw is rest)

pub pin_of-ended : (poll : PollName) (pins after : List Pin) → after ≡ pins_without poll pins
    → IsNone (pin_of poll after)
pin_of-ended poll pins after is = rw (is, pin_of-without poll pins) refl

pub pin_of-without_other : (poll other : PollName) (pins : List Pin) → other ≢ poll
    → pin_of other (pins_without poll pins) ≡ pin_of other pins
pin_of-without_other poll other [] differ = refl
pin_of-without_other poll other (p ∷ ps) differ =
    by_test (is_poll p.poll poll) refl (pin_of-without_other poll other ps differ) where
      by_test : (b : Bool) → is_poll p.poll poll ≡ b → pin_of other (pins_without poll ps) ≡ pin_of other ps
          → pin_of other (pins_without poll (p ∷ ps)) ≡ pin_of other (p ∷ ps)
      by_test true is rest =
          rw is (rw (other_poll p.poll other (λ same. differ (sym same ∙ same_poll p.poll poll is))) rest)
      by_test false is rest = rw is (ap (cond (is_poll p.poll other) (Some p.version)) rest)

-- what is true of all pins is true of the pin of a poll
pub pin_of-within : (poll : PollName) (n version : ℕ) (pins : List Pin) → All (λ (p : Pin). p.version < n) pins
    → pin_of poll pins ≡ Some version → version < n
pin_of-within poll n version [] all is = absurd cc
pin_of-within poll n version (p ∷ ps) all is =
    by_test (is_poll p.poll poll) refl
    (pin_of-within poll n version ps (All-tail (λ (p : Pin). p.version < n) p ps all)) where
      by_test : (b : Bool) → is_poll p.poll poll ≡ b → (pin_of poll ps ≡ Some version → version < n) → version < n
      by_test true here rest =
          let found : Some p.version
          ≡ Some version = ap (λ b. cond b (Some p.version) (pin_of poll ps)) (sym here) ∙ is in
          let same : p.version ≡ version = cc in
          subst (λ k. k < n) same (All-head (λ (p : Pin). p.version < n) p ps all)
      by_test false there rest = rest (ap (λ b. cond b (Some p.version) (pin_of poll ps)) (sym there) ∙ is)
