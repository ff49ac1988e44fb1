-- How many blocks a block number can name.
use Rattle.std.proofs.Common.{◌≡◌, ◌≤◌, ℕ, List, length, take, min, sym, ◌∙◌}
use Rattle.std.proofs.lemmas.List.{length-take}
use Rattle.std.proofs.Math.Nat.{min_comm}

pub count_first : (most : ℕ) (blocks : List (List ℕ)) → min (length blocks) most ≡ length (take most blocks)
count_first most blocks = min_comm (length blocks) most ∙ sym (length-take most blocks)
