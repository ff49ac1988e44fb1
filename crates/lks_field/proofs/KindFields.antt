-- Kinds of hashes are read as they are spelled.
use Rattle.std.proofs.Common.{◌≤◌, ℕ, Bool, true, false, List, [], length, Ok, refl, arith}
use Rattle.lks_field.specs.declared.fault.FieldFault.{FieldFault}
use Rattle.lks_field.specs.Reading.{kind_at}
use Rattle.lks_field.specs.Spelling.{kind_bytes}
use Rattle.lks_field.proofs.Steps.{IsTail, reads_end}
use Rattle.lks_field.proofs.Takes.{IsField, given_field}

pub kind_field : (second : Bool) → IsField (kind_at second) (λ x. kind_bytes second) (λ x. Unit {0})
unfolding kind_at
kind_field false = record { takes = none.takes tt; again = λ x rest h. refl }
  where
    none : IsTail {E = FieldFault} (λ (x : Unit {0}). []) (λ x. Unit {0}) [] (Unit {0}) (λ bytes. Ok (tt, bytes))
    none = reads_end tt (λ h. (refl, tt))
kind_field true = given_field 2

pub kind_length : (second : Bool) → length (kind_bytes second) ≤ 1
kind_length false = omega arith
kind_length true = omega arith
