-- Journals, worlds and lists of events that break a rule, each in one way.
use Rattle.std.specs.Prelude.{ℕ, Some, List, [], ◌∷◌}
use Rattle.lks_base.specs.declared.events.Event.{Event}
use Rattle.lks_base.specs.declared.events.Event.TheVariants.{Step}
use Rattle.lks_base.specs.declared.events.PeerStep.TheVariants.{Deliver}
use Rattle.lks_base.specs.declared.names.HashKind.TheVariants.{Sha256}
use Rattle.lks_base.specs.declared.names.Judged.TheVariants.{NotAsked}
use Rattle.lks_base.specs.declared.plans.Rules.{Rules}
use Rattle.lks_base.specs.declared.records.Record.{Record}
use Rattle.lks_base.specs.declared.records.Record.TheVariants.{PollOpened, VoteIn, Shut, Replaced}
use Rattle.lks_law.specs.World.{Standing, World}

-- a poll on the AU whose inner circle is of peers 2 and 3, and whose quorum is both
abbrev pub opened_on : ℕ → Record
opened_on au = PollOpened 1 au [] (2 ∷ 3 ∷ []) 0 (Some (record { quorum = 2; minority = 0 })) Sha256

abbrev pub vote_by : ℕ → Record
vote_by voter = VoteIn 1 voter []

-- a poll of the same circle in which both votes are a landslide either way
abbrev pub opened_both_ways : ℕ → Record
opened_both_ways au = PollOpened 1 au [] (2 ∷ 3 ∷ []) 0 (Some (record { quorum = 2; minority = 2 })) Sha256

-- a block is replaced, whatever the votes say of it
abbrev pub with_lax_numbers : ℕ → ℕ → List ℕ → List Record
with_lax_numbers au b bytes = opened_both_ways au ∷ vote_by 2 ∷ vote_by 3 ∷ Shut 1 ∷ Replaced 1 au b bytes ∷ []

-- with a vote too few
abbrev pub with_one_vote : ℕ → ℕ → List ℕ → List Record
with_one_vote au b bytes = opened_on au ∷ vote_by 2 ∷ Shut 1 ∷ Replaced 1 au b bytes ∷ []

-- with two votes of one voter
abbrev pub with_one_voter : ℕ → ℕ → List ℕ → List Record
with_one_voter au b bytes = opened_on au ∷ vote_by 2 ∷ vote_by 2 ∷ Shut 1 ∷ Replaced 1 au b bytes ∷ []

-- before the votes came
abbrev pub with_later_votes : ℕ → ℕ → List ℕ → List Record
with_later_votes au b bytes = opened_on au ∷ Shut 1 ∷ Replaced 1 au b bytes ∷ vote_by 2 ∷ vote_by 3 ∷ []

-- worlds of two honest peers, 1 and 2

abbrev pub peer_of : Rules → ℕ → List Record → Standing
peer_of rules id journal =
    record {
      own = record {
        rules = rules;
        aus = [];
        id = id;
        seed = [];
        proof = [];
        refs = [];
        friends = [];
        hash = Sha256;
      };
      journal = journal;
    }

-- the first one counts a vote that the other didn't vote
abbrev pub with_strange_vote : Rules → List (List ℕ) → World
with_strange_vote rules hashes =
    record { peers = peer_of rules 1 (VoteIn 1 2 hashes ∷ []) ∷ peer_of rules 2 [] ∷ []; bag = []; tick = 0 }

-- it sends no message
abbrev pub with_strange_bytes : Rules → World
with_strange_bytes rules =
    record {
      peers = peer_of rules 1 [] ∷ peer_of rules 2 [] ∷ [];
      bag = record { from = 1; to = 2; bytes = [] } ∷ [];
      tick = 0;
    }

-- an envelope is delivered that nobody sent
abbrev pub with_no_envelope : List Event
with_no_envelope = Step (Deliver 0 NotAsked) ∷ []
