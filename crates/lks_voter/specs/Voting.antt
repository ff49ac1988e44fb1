-- What a session is after its vote, and how it takes requests for repairs.
use Rattle.std.specs.Prelude.{ℕ, nat_lt, if◌then◌else◌, List, [], ◌∷◌, ◌++◌, length}
use Rattle.lks_base.specs.Checking.{has_member}
use Rattle.lks_voter.specs.States.{Committing}
use Rattle.lks_voter.specs.declared.commitments.Serve.{Serve}
use Rattle.lks_voter.specs.declared.commitments.Serve.TheVariants.{First, Again, Spent}

-- to what the voter committed, the hashes of its vote, and the blocks that it served, in order
pub record Vote : Type 0 where
  pub committed : Committing
  pub hashes : List (List ℕ)
  pub served : List ℕ

abbrev pub vote_of : Committing → List (List ℕ) → Vote
vote_of committed hashes = record { committed = committed; hashes = hashes; served = [] }

-- Where these blocks were served, and so many may be, a block that was served is served again. Of new ones, as many are
-- as make up the most.
abbrev pub answer_of : List ℕ → ℕ → ℕ → Serve
answer_of served b most = if has_member served b then Again else (if nat_lt (length served) most then First else Spent)

-- a new block is noted behind those before it, and nothing else changes
abbrev pub after : Vote → ℕ → Serve → Vote
after v b First = record v { served = v.served ++ b ∷ [] }
after v b Again = v
after v b Spent = v
