-- The verdicts of the judges that look at a proof's first byte, or at a list.
use Rattle.std.specs.Prelude.{ℕ, Bool, false, ◌==◌, List, [], ◌∷◌, slice_get, unwrap_or}
use Rattle.lks_outside.specs.declared.questions.Question.{Question}

-- whether the first byte of the proof is 1
abbrev pub begins_with_one : List ℕ → Bool
begins_with_one [] = false
begins_with_one (first ∷ _) = first == 1

-- the verdicts of the judge that looks at the first byte alone
abbrev pub first_byte : List Question → Question → Bool
first_byte before q = begins_with_one q.proof

-- the n-th verdict, counted from 0, and past the end a refusal
abbrev pub verdict_at : List Bool → ℕ → Bool
verdict_at verdicts n = unwrap_or (slice_get verdicts n) false
