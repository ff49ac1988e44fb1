-- The rules of a poll, over what is known of it.
use Rattle.std.specs.Prelude.{ℕ, Bool, not, ◌&&◌, ◌||◌, ◌==◌, nat_lt, List}
use Rattle.lks_base.specs.Checking.{has_member}

-- the outer circle is invited once, while votes are open
abbrev pub may_widen : Bool → Bool → Bool
may_widen voting widened = voting && not widened

-- an inner peer nominates once
abbrev pub may_nominate : Bool → Bool → Bool
may_nominate inner nominated = inner && not nominated

-- an invited peer votes once, with a hash for each block
abbrev pub may_vote : Bool → Bool → ℕ → ℕ → Bool
may_vote invited voted hashes count = invited && not voted && (hashes == count)

-- a peer of the inner circle is invited, and so is one of the outer circle
abbrev pub is_invited : List ℕ → List ℕ → ℕ → Bool
is_invited inner outer voter = has_member inner voter || has_member outer voter

-- fewer votes than the quorum
abbrev pub is_inquorate : ℕ → ℕ → Bool
is_inquorate votes quorum = nat_lt votes quorum
