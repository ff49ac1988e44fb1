-- What a write that was torn, or wasn't, makes of the bytes.
use Rattle.std.proofs.Common.{◌≡◌, ℕ, ◌+◌, ◌-◌, ◌≤◌, List, ◌++◌, length, take, drop, refl, sym, ◌∙◌, ap, arith}
use Rattle.std.proofs.Common.{append_assoc, length-append, length-take, length-drop, take-append-drop}
use Rattle.std.proofs.lemmas.List.{take_at, drop_at, drop-drop, length-take-le}
use Rattle.lks_disk.specs.Device.{Holds, Torn}
use Rattle.lks_disk.specs.Ranges.{replaced, Fits}

-- nothing of it is there
pub torn_same : (at n : ℕ) (x : List ℕ) → Torn at n x x
torn_same at n x = record { before = refl; after = refl; no_shorter = omega arith; no_longer = omega arith }

-- all of it is there
module _ (at : ℕ) (old piece new : List ℕ) (within : at ≤ length old) (holds : Holds old at piece new) where
  front : take at new ≡ take at old
  front =
      ap (λ (l : List ℕ). take at l) (holds ∙ append_assoc (take at old) piece (drop (at + length piece) old))
      ∙ take_at (take at old) (piece ++ drop (at + length piece) old) at (length-take-le at old within)

  to_end : length (take at old ++ piece) ≡ at + length piece
  to_end = omega (arith, length-append (take at old) piece, length-take-le at old within)

  back : drop (at + length piece) new ≡ drop (at + length piece) old
  back =
      ap (λ (l : List ℕ). drop (at + length piece) l) holds
      ∙ drop_at (take at old ++ piece) (drop (at + length piece) old) (at + length piece) to_end

  size : length new ≡ at + length piece + (length old - (at + length piece))
  size =
      ap length holds
      ∙ omega (
        arith,
        length-append (take at old ++ piece) (drop (at + length piece) old),
        to_end,
        length-drop (at + length piece) old,
      )

  pub torn_written : Torn at (length piece) old new
  torn_written =
      record { before = front; after = back; no_shorter = omega (arith, size); no_longer = omega (arith, size) }

  pub undone_written : replaced at (length piece) (take (length piece) (drop at old)) new ≡ old
  undone_written =
      (λ i. front i ++ take (length piece) (drop at old) ++ back i)
      ∙ append_assoc (take at old) (take (length piece) (drop at old)) (drop (at + length piece) old)
      ∙ ap (λ (l : List ℕ). take at old ++ (take (length piece) (drop at old) ++ l))
      (sym (drop-drop (length piece) at old))
      ∙ ap (λ (l : List ℕ). take at old ++ l) (take-append-drop (length piece) (drop at old))
      ∙ take-append-drop at old

  pub fits_written : Fits at (length piece) (take (length piece) (drop at old)) new
  fits_written =
      let kept : length (take (length piece) (drop at old)) ≡ _ = length-take (length piece) (drop at old) in
      let left = length-drop at old in
      record {
        within = omega (arith, size);
        few = omega (arith, kept, left);
        short = λ less. omega (arith, size, kept, left, less);
      }
