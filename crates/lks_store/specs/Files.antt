-- What contracts say of a file, of which they see how often it failed.
use Rattle.std.specs.Prelude.{◌≡◌, ℕ, false, [], Result, Ok, Err}
use Rattle.lks_disk.specs.Counts.{raised}
use Rattle.lks_disk.specs.Face.{Face}

-- its bytes aren't told, and it is never cut off
abbrev pub file_face : Face ℕ
file_face = record {
  told = λ _. ⊥;
  seen = λ _. [];
  may_leave = λ _ _. ⊥;
  moment = λ _. 0;
  left_since = λ _ _ _. ⊥;
  faults = λ count. count;
  burns = λ _. 0;
  cuts = λ _. 0;
  fused = λ _. false;
  burned = λ _. false;
  left = λ _. 0;
  calls = λ _. 0;
  choice = λ _. 0;
}

-- the count after a call with this answer
abbrev pub counted : {T E : Type 0} → ℕ → Result T E → ℕ
counted count (Ok _) = count
counted count (Err _) = raised count

-- the answer of a call whose outcome this was
abbrev pub IsToldAs : {T E F : Type 0} → Result T E → F → Result T F → Type 0
IsToldAs (Ok x) fail result = result ≡ Ok x
IsToldAs (Err _) fail result = result ≡ Err fail
