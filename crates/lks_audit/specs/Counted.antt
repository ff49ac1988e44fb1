-- A poll of a peer whose hashes are kept over the peer's copy.
use Rattle.std.specs.Prelude.{◌≡◌, ◌<◌, ◌≤◌, ℕ, true, false, is_some, List, [], ◌∷◌, length}
use Rattle.lks_base.specs.declared.limits.TheConstants.{MOST_BLOCKS}
use Rattle.lks_base.specs.declared.reactions.Reaction.{Reaction}
use Rattle.lks_base.specs.declared.records.Record.TheVariants as records
use Rattle.lks_law.specs.Reacting.{asked_of, closed_as}
use Rattle.lks_law.specs.Reaction.{no_effect}
use Rattle.lks_law.specs.State.{Poll}
use Rattle.lks_poller.specs.Polling.{Polled}
use Rattle.lks_poller.specs.declared.stages.Answer.{Answer}
use Rattle.lks_poller.specs.declared.stages.Answer.TheVariants.{Replace, Bad, NotAsked}
use Rattle.lks_poller.specs.declared.stages.Next.{Next}
use Rattle.lks_poller.specs.declared.stages.Next.TheVariants.{Close, Ask}
use Rattle.lks_choice.specs.Asking.{awaited_request}
use Rattle.lks_tally.specs.Keeping.{IsCacheOf}
use Rattle.lks_tally.specs.declared.ballots.Verdict.{Verdict}
use Rattle.lks_tally.specs.declared.ballots.Verdict.TheVariants as verdict

-- a poll of this peer that runs, with these blocks as its copy
pub record IsCountedOn (id : ℕ) (blocks : List (List ℕ)) (s : Polled) : Type 0 where
  pub poller : s.tally.ballot.poll.poller ≡ id
  pub count : s.tally.ballot.count ≡ length blocks
  pub cache : IsCacheOf s.tally blocks
  pub some : 1 ≤ length blocks
  pub waits : s.suppliers.waiting ≡ true → is_some (awaited_request s.suppliers) ≡ true
  pub running : s.closed ≡ false

-- the votes were counted
abbrev pub IsDecided : Verdict → Type 0
IsDecided verdict.Inquorate = ⊥
IsDecided verdict.Agreed = Unit {0}
IsDecided (verdict.Loss block) = Unit {0}
IsDecided (verdict.Split block) = Unit {0}

-- a voter is asked for a block that an AU may have
abbrev pub IsSmall : Next → Type 0
IsSmall (Close outcome) = Unit {0}
IsSmall (Ask block voter) = block < MOST_BLOCKS

-- what the peer adds and sends for what follows from a verdict
abbrev pub done : Poll → ℕ → Next → Reaction
done p tick (Close outcome) = closed_as p tick outcome
done p tick (Ask block voter) = asked_of p block voter

-- a block is put in, or found to be bad
abbrev pub answered_by : Poll → ℕ → ℕ → List ℕ → Answer → Reaction
answered_by p from b bytes Replace =
    record { records = records.Replaced p.number p.opening.au b bytes ∷ []; sends = [] }
answered_by p from b bytes Bad = record { records = records.RepairBad p.number b from ∷ []; sends = [] }
answered_by p from b bytes NotAsked = no_effect
