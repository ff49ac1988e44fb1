-- Worlds that aren't safe, each in one way.
use Rattle.std.specs.Prelude.{ℕ, true, Some, None, List, [], ◌∷◌}
use Rattle.lks_base.specs.declared.names.HashKind.TheVariants.{Sha256}
use Rattle.lks_base.specs.declared.plans.Rules.{Rules}
use Rattle.lks_base.specs.declared.records.Record.{Record}
use Rattle.lks_base.specs.declared.records.Record.TheVariants.{Deposit, PollOpened, VoteIn, Shut, Replaced, Joined}
use Rattle.lks_base.specs.declared.records.Record.TheVariants.{Committed}
use Rattle.lks_law.specs.Polls.{Station}
use Rattle.lks_law.specs.Voting.{poll_named}
use Rattle.lks_law.specs.World.{Standing, World}

-- a peer of this number under any rules
abbrev pub station : Rules → ℕ → Station
station rules id =
    record { rules = rules; aus = []; id = id; seed = []; proof = []; refs = []; friends = []; hash = Sha256 }

-- a journal whose peer committed to these blocks in poll 1 of peer 1
abbrev pub committed_to : List (List ℕ) → List Record
committed_to blocks =
    Deposit 1 blocks ∷ Joined (poll_named 1 1) 1 0 true None ∷ Committed (poll_named 1 1) [] 0 Sha256 ∷ []

-- an honest peer that committed to a version of two blocks sent these bytes
abbrev pub with_sent : Rules → List ℕ → List ℕ → List ℕ → World
with_sent rules first second bytes = record {
  peers = record { own = station rules 2; journal = committed_to (first ∷ second ∷ []) } ∷ [];
  bag = record { from = 2; to = 1; bytes = bytes } ∷ [];
  tick = 0;
}

-- a poller replaced a block, though it has the vote of an honest peer that held the block and no such vote is allowed
abbrev pub who_replaced : Rules → List (List ℕ) → List ℕ → Standing
who_replaced rules hashes bytes = record {
  own = station rules 1;
  journal =
      Deposit 1 ((65 ∷ []) ∷ []) ∷ PollOpened 1 1 [] (2 ∷ []) 0 (Some (record { quorum = 1; minority = 0 })) Sha256
      ∷ VoteIn 1 2 hashes ∷ Shut 1
      ∷ Replaced 1 1 0 bytes ∷ [];
}

abbrev pub with_holder : Rules → List (List ℕ) → List ℕ → World
with_holder rules hashes bytes = record {
  peers =
      who_replaced rules hashes bytes ∷ record { own = station rules 2; journal = committed_to ((65 ∷ []) ∷ []) }
      ∷ [];
  bag = [];
  tick = 0;
}
