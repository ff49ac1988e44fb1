-- What is made of bytes: what the steps of a script and the peers of a plan give.
use Rattle.std.specs.Prelude.{◌<◌, ℕ, List, get_or, All}
use Rattle.lks_base.specs.declared.plans.PeerPlan.{PeerPlan}
use Rattle.lks_base.specs.declared.plans.Plan.{Plan}
use Rattle.lks_script.specs.declared.steps.Step.{Step}
use Rattle.lks_script.specs.declared.steps.Step.TheVariants.{Peer, Tick, Next, Lose, Again, Settle, Finish, Forge}
use Rattle.lks_script.specs.declared.steps.Step.TheVariants.{SayPoll, SayProof, SayRequest, SayReceipt, SayChallenge}
use Rattle.lks_script.specs.declared.steps.Step.TheVariants.{SayNominate, SayVote, SayRepair, Crash, Cut}

-- each of these numbers is a byte
abbrev pub AreBytes : List ℕ → Type 0
AreBytes bytes = (i : ℕ) → get_or bytes i 0 < 256

-- the bytes that a step gives to be sent are bytes
abbrev pub GivesBytes : Step → Type 0
GivesBytes (Peer s) = Unit {0}
GivesBytes (Tick by) = Unit {0}
GivesBytes (Next times) = Unit {0}
GivesBytes Lose = Unit {0}
GivesBytes (Again envelope) = Unit {0}
GivesBytes Settle = Unit {0}
GivesBytes Finish = Unit {0}
GivesBytes (Forge from to bytes) = AreBytes bytes
GivesBytes (SayPoll from to number au) = Unit {0}
GivesBytes (SayProof from to number) = Unit {0}
GivesBytes (SayRequest from to number block) = Unit {0}
GivesBytes (SayReceipt from to number) = Unit {0}
GivesBytes (SayChallenge from to number agrees) = Unit {0}
GivesBytes (SayNominate from to number nominees) = Unit {0}
GivesBytes (SayVote from to number au blocks) = Unit {0}
GivesBytes (SayRepair from to number block bytes) = AreBytes bytes
GivesBytes (Crash peer) = Unit {0}
GivesBytes (Cut calls choice s) = Unit {0}

-- each step gives bytes, and the proof of each peer is bytes, as their types in the code say
pub record GiveBytes (plan : Plan) (steps : List Step) : Type 0 where
  pub given : All GivesBytes steps
  pub proofs : All (λ (p : PeerPlan). AreBytes p.proof) plan.peers
