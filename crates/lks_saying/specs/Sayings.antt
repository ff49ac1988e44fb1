-- What corrupt peers say in the steps of a script.
use Rattle.std.specs.Prelude.{◌≡◌, ℕ, true, ◌==◌, Option, Some, None, unwrap_or, List, find, option_map}
use Rattle.lks_base.specs.Checking.{has_corrupt, has_peer}
use Rattle.lks_base.specs.Kinds.{is_second}
use Rattle.lks_base.specs.declared.messages.Message.{Message}
use Rattle.lks_base.specs.declared.messages.Message.TheVariants as message
use Rattle.lks_base.specs.declared.plans.PeerPlan.{PeerPlan}
use Rattle.lks_base.specs.declared.plans.Plan.{Plan}
use Rattle.lks_hash.specs.Hashes.{key_of, nonce_from}
use Rattle.lks_hash.specs.Running.{hashes_of}
use Rattle.lks_script.specs.declared.steps.Step.{Step}
use Rattle.lks_script.specs.declared.steps.Step.TheVariants as step

-- What a corrupt peer says is a message that it might well send, truly named as its sender.

pub record Saying : Type 0 where
  pub from : ℕ
  pub to : ℕ
  pub message : Message

abbrev pub saying : ℕ → ℕ → Message → Saying
saying from to m = record { from = from; to = to; message = m }

abbrev pub planned_peer : Plan → ℕ → Option PeerPlan
planned_peer plan id = find (λ p. p.id == id) plan.peers

-- a proof names the nonce and the hash of the sender's own poll
abbrev pub proof_by : ℕ → ℕ → ℕ → Option PeerPlan → Option Saying
proof_by from to number None = None
proof_by from to number (Some p) =
    Some (saying from to (message.PollProof number (nonce_from p.seed number) p.hash p.proof))

-- a vote is that of a peer which holds these blocks, in the poll of this number of the receiver

abbrev pub count_for : Plan → ℕ → ℕ
count_for plan au = unwrap_or (option_map (λ a. a.count) (find (λ a. a.id == au) plan.aus)) 0

abbrev pub vote_over : ℕ → PeerPlan → PeerPlan → ℕ → ℕ → List (List ℕ) → Message
vote_over count voter poller number au blocks =
    let second = is_second poller.hash in
    message.Vote number
    (hashes_of second (key_of second poller.id number (nonce_from poller.seed number) voter.id au count) blocks)
    voter.proof

abbrev pub vote_by : Plan → ℕ → ℕ → Option PeerPlan → Option PeerPlan → ℕ → ℕ → List (List ℕ) → Option Saying
vote_by plan from to (Some voter) (Some poller) number au blocks =
    Some (saying from to (vote_over (count_for plan au) voter poller number au blocks))
vote_by plan from to _ _ number au blocks = None

-- what is said in a step, in a poll of the sender's or in one of the receiver's
unfoldable pub said_by : Plan → Step → Option Saying
said_by plan (step.Peer s) = None
said_by plan (step.Tick by) = None
said_by plan (step.Next times) = None
said_by plan step.Lose = None
said_by plan (step.Again envelope) = None
said_by plan step.Settle = None
said_by plan step.Finish = None
said_by plan (step.Forge from to bytes) = None
said_by plan (step.SayPoll from to number au) = Some (saying from to (message.Poll number au))
said_by plan (step.SayProof from to number) = proof_by from to number (planned_peer plan from)
said_by plan (step.SayRequest from to number block) = Some (saying from to (message.RepairRequest number block))
said_by plan (step.SayReceipt from to number) = Some (saying from to (message.Receipt number))
said_by plan (step.SayChallenge from to number agrees) = Some (saying from to (message.PollChallenge number agrees))
said_by plan (step.SayNominate from to number nominees) = Some (saying from to (message.Nominate number nominees))
said_by plan (step.SayVote from to number au blocks) =
    vote_by plan from to (planned_peer plan from) (planned_peer plan to) number au blocks
said_by plan (step.SayRepair from to number block bytes) = Some (saying from to (message.Repair number block bytes))
said_by plan (step.Crash peer) = None
said_by plan (step.Cut calls choice s) = None

-- a corrupt peer may say this to a peer of the plan
abbrev pub MayBeSaid : Plan → Saying → Type 0
MayBeSaid plan x = (has_corrupt plan.peers x.from ≡ true) × (has_peer plan.peers x.to ≡ true)

-- a step in which a corrupt peer says something
abbrev pub IsSaying : Step → Type 0
IsSaying (step.Peer s) = ⊥
IsSaying (step.Tick by) = ⊥
IsSaying (step.Next times) = ⊥
IsSaying step.Lose = ⊥
IsSaying (step.Again envelope) = ⊥
IsSaying step.Settle = ⊥
IsSaying step.Finish = ⊥
IsSaying (step.Forge from to bytes) = ⊥
IsSaying (step.SayPoll from to number au) = Unit {0}
IsSaying (step.SayProof from to number) = Unit {0}
IsSaying (step.SayRequest from to number block) = Unit {0}
IsSaying (step.SayReceipt from to number) = Unit {0}
IsSaying (step.SayChallenge from to number agrees) = Unit {0}
IsSaying (step.SayNominate from to number nominees) = Unit {0}
IsSaying (step.SayVote from to number au blocks) = Unit {0}
IsSaying (step.SayRepair from to number block bytes) = Unit {0}
IsSaying (step.Crash peer) = ⊥
IsSaying (step.Cut calls choice s) = ⊥
