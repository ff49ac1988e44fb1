-- The rule of quorums.
use Rattle.std.specs.Prelude.{ℕ, Bool, ◌*◌, nat_lt}

-- twice the minority is less than the quorum, so that no votes are a landslide both ways
abbrev pub obeys_quorum_rule : ℕ → ℕ → Bool
obeys_quorum_rule quorum minority = nat_lt (2 * minority) quorum
