-- Votes of different voters.
use Rattle.std.specs.Prelude.{◌≢◌, List, AllPairs}
use Rattle.lks_tally.specs.declared.ballots.Vote.{Vote}

-- no two votes are of one voter
abbrev pub AreDistinct : List Vote → Type 0
AreDistinct votes = AllPairs (λ v w. v.voter ≢ w.voter) votes
