-- Frames, one after another.
use Rattle.std.proofs.Common.{◌≡◌, ◌⊎◌, inl, inr, ⊎_elim, ℕ, ◌+◌, ◌-◌, ◌<◌, List, [], ◌∷◌, ◌++◌, length, take, drop}
use Rattle.std.proofs.Common.{refl, rules, sym, ◌∙◌, ap, arith, append_assoc, length-append}
use Rattle.std.proofs.lemmas.List.{append-nil}
use Rattle.lks_disk.specs.Device.{Holds}
use Rattle.lks_field.proofs.Frames.{frames_nil, frames_push, AreBodies_push}
use Rattle.lks_field.specs.Frames.{frame, frames, HoldsBodies, IsCutShort, IsDamagedAt}
use Rattle.lks_journal.specs.Fronts.{IsWhole, IsScanned}
use Rattle.lks_journal.specs.Tearing.{CanLeaveTorn}

pub scanned_start : (file : List ℕ) → IsScanned file [] file
scanned_start file = record { are = tt; file_is = sym (ap (λ (l : List ℕ). l ++ file) frames_nil); begun = inl refl }

pub scanned_more : (file : List ℕ) (bodies : List (List ℕ)) (rest body after : List ℕ) → IsScanned file bodies rest
    → IsWhole rest body after → IsScanned file (bodies ++ body ∷ []) after
scanned_more file bodies rest body after so_far whole = record {
  are = AreBodies_push bodies body so_far.are whole.fits;
  file_is =
      so_far.file_is ∙ ap (λ (l : List ℕ). frames bodies ++ l) whole.rest_is
      ∙ sym (append_assoc (frames bodies) (frame body) after)
      ∙ ap (λ (l : List ℕ). l ++ after) (sym (frames_push bodies body));
  begun = inr whole.more;
}

-- where the rest begins
pub scanned_at : (file : List ℕ) (bodies : List (List ℕ)) (rest : List ℕ) → IsScanned file bodies rest
    → length file - length rest ≡ length (frames bodies)
scanned_at file bodies rest so_far = omega (arith, ap length so_far.file_is, length-append (frames bodies) rest)

pub scanned_damaged : (file : List ℕ) (bodies : List (List ℕ)) (rest : List ℕ) → IsScanned file bodies rest
    → (rest ≡ []) ⊎ IsCutShort rest → IsDamagedAt file (length file - length rest)
scanned_damaged file bodies rest so_far short = record {
  bodies = bodies;
  rest = rest;
  are = so_far.are;
  file_is = so_far.file_is;
  at = scanned_at file bodies rest so_far;
  why =
      ⊎_elim
      (λ none. ⊎_elim (λ first. inl (empty none first)) (λ some. absurd (some_of_none none some)) so_far.begun)
      (λ cut. inr cut) short;
}
  where
    empty : rest ≡ [] → bodies ≡ [] → file ≡ []
    empty none first = so_far.file_is ∙ (λ i. frames (first i) ++ none i) ∙ append-nil (frames []) ∙ frames_nil

    some_of_none : rest ≡ [] → 0 < length rest → ⊥
    some_of_none none some = omega (arith, ap length none, some)

-- one closed gate
pub first_gate : (old new : List ℕ) → old ≡ [] → Holds old 0 (0 ∷ []) new → new ≡ 0 ∷ []
first_gate old new none holds = holds ∙ ap (λ (l : List ℕ). take 0 l ++ (0 ∷ []) ++ drop (0 + 1) l) none

pub holds_none : (file : List ℕ) → file ≡ 0 ∷ [] → HoldsBodies [] file
holds_none file is =
    record {
      gate = 0;
      rest = [];
      shut = λ e. cc;
      are = tt;
      file_is = is ∙ sym (ap (λ (l : List ℕ). l ++ 0 ∷ []) frames_nil);
    }

pub none_end : 0 ≡ length (frames [])
none_end = sym (ap length frames_nil)

-- what a crash could leave before a write it can leave after it
pub untouched : (may_leave : List ℕ → Type 0) (at n : ℕ) (c : List ℕ) → may_leave c → CanLeaveTorn may_leave at n c
untouched may_leave at n c left =
    record {
      from = c;
      left = left;
      torn = record { before = refl; after = refl; no_shorter = omega arith; no_longer = search rules };
    }
