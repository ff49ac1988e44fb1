-- Which steps a script with a plan can have.
use Rattle.std.specs.Prelude.{ℕ, Bool, true, false, not, ◌&&◌, ◌||◌, nat_le, nat_lt, List, length, filter}
use Rattle.std.specs.List.{list_all}
use Rattle.lks_base.specs.declared.limits.TheConstants.{LAST_BLOCK, MOST_BLOCKS, MOST_BLOCK_BYTES, MOST_EVENTS}
use Rattle.lks_base.specs.declared.limits.TheConstants.{MOST_FORGED_BYTES, MOST_NOMINEES, MOST_REPAIRS, MOST_TICKS}
use Rattle.lks_base.specs.declared.events.PeerStep.{PeerStep}
use Rattle.lks_base.specs.declared.events.PeerStep.TheVariants as peers
use Rattle.lks_base.specs.declared.names.PollName.{PollName}
use Rattle.lks_base.specs.declared.plans.Plan.{Plan}
use Rattle.lks_base.specs.Checking.{is_within, has_au, has_peer, has_corrupt, has_honest, are_short}
use Rattle.lks_base.specs.Quorums.{obeys_quorum_rule}
use Rattle.lks_script.specs.declared.steps.CutStep.{CutStep}
use Rattle.lks_script.specs.declared.steps.CutStep.TheVariants as cut
use Rattle.lks_script.specs.declared.steps.TheConstants.{MOST_CUT_CALLS, MOST_POWER_FAILURES}
use Rattle.lks_script.specs.declared.steps.Step.{Step}
use Rattle.lks_script.specs.declared.steps.Step.TheVariants.{Peer, Tick, Next, Lose, Again, Settle, Finish, Forge}
use Rattle.lks_script.specs.declared.steps.Step.TheVariants.{SayPoll, SayProof, SayRequest, SayReceipt, SayChallenge}
use Rattle.lks_script.specs.declared.steps.Step.TheVariants.{SayNominate, SayVote, SayRepair, Crash, Cut}

-- an honest peer's part in a poll of a declared one
unfoldable pub is_session : Plan → ℕ → PollName → Bool
is_session plan voter poll = has_honest plan.peers voter && has_peer plan.peers poll.poller

-- the numbers to which an honest peer can be tuned, in the bounds of the plan's rules
unfoldable pub is_tuning : Plan → ℕ → ℕ → ℕ → ℕ → Bool
is_tuning plan peer quorum minority repairs =
    has_honest plan.peers peer && is_within 1 plan.rules.inner quorum && obeys_quorum_rule quorum minority
    && nat_le repairs MOST_REPAIRS

-- a step of a peer's own that a script can name
unfoldable pub is_own_step : Plan → PeerStep → Bool
is_own_step plan (peers.OpenPoll peer au) = has_honest plan.peers peer && has_au plan.aus au
is_own_step plan (peers.Widen peer number) = has_honest plan.peers peer
is_own_step plan (peers.Shut peer number) = has_honest plan.peers peer
is_own_step plan (peers.Tally peer number) = has_honest plan.peers peer
is_own_step plan (peers.Nudge peer number) = has_honest plan.peers peer
is_own_step plan (peers.GiveUp peer number) = has_honest plan.peers peer
is_own_step plan (peers.Check peer) = has_honest plan.peers peer
is_own_step plan (peers.Work peer poll) = is_session plan peer poll
is_own_step plan (peers.Expire peer poll) = is_session plan peer poll
is_own_step plan (peers.Tune peer quorum minority repairs) = is_tuning plan peer quorum minority repairs
is_own_step plan (peers.Deliver envelope judged) = false

-- who sends to whom
unfoldable pub is_said : Plan → ℕ → ℕ → Bool
is_said plan from to = has_corrupt plan.peers from && has_peer plan.peers to

-- who votes to whom, on what AU, over which blocks
unfoldable pub is_said_vote : Plan → ℕ → ℕ → ℕ → List (List ℕ) → Bool
is_said_vote plan from to au blocks =
    is_said plan from to && has_au plan.aus au && is_within 1 MOST_BLOCKS (length blocks) && are_short blocks

-- any bytes
unfoldable pub is_forgery : Plan → ℕ → ℕ → List ℕ → Bool
is_forgery plan from to bytes = is_said plan from to && nat_le (length bytes) MOST_FORGED_BYTES

-- who invites whom to a poll on which AU
unfoldable pub is_invitation : Plan → ℕ → ℕ → ℕ → Bool
is_invitation plan from to au = is_said plan from to && has_au plan.aus au

-- who asks whom for which block
unfoldable pub is_request : Plan → ℕ → ℕ → ℕ → Bool
is_request plan from to block = is_said plan from to && nat_le block LAST_BLOCK

-- who sends whom which block, as which bytes
unfoldable pub is_repair : Plan → ℕ → ℕ → ℕ → List ℕ → Bool
is_repair plan from to block bytes =
    is_said plan from to && nat_le block LAST_BLOCK && nat_le (length bytes) MOST_BLOCK_BYTES

-- who nominates which peers to whom
unfoldable pub is_nomination : Plan → ℕ → ℕ → List ℕ → Bool
is_nomination plan from to nominees = is_said plan from to && nat_le (length nominees) MOST_NOMINEES

-- what a line can cut off
unfoldable pub is_cut_step : Plan → CutStep → Bool
is_cut_step plan cut.Next = true
is_cut_step plan (cut.Again envelope) = true
is_cut_step plan (cut.Peer step) = is_own_step plan step

-- with so many calls of the disk before
unfoldable pub is_cut : Plan → ℕ → CutStep → Bool
is_cut plan calls step = nat_le calls MOST_CUT_CALLS && is_cut_step plan step

-- a step that a script with the plan can have
unfoldable pub is_step_of : Plan → Step → Bool
is_step_of plan (Peer step) = is_own_step plan step
is_step_of plan (Tick by) = is_within 1 MOST_TICKS by
is_step_of plan (Next times) = is_within 1 MOST_EVENTS times
is_step_of plan Lose = true
is_step_of plan (Again envelope) = true
is_step_of plan Settle = true
is_step_of plan Finish = true
is_step_of plan (Forge from to bytes) = is_forgery plan from to bytes
is_step_of plan (SayPoll from to number au) = is_invitation plan from to au
is_step_of plan (SayProof from to number) = is_said plan from to
is_step_of plan (SayRequest from to number block) = is_request plan from to block
is_step_of plan (SayReceipt from to number) = is_said plan from to
is_step_of plan (SayChallenge from to number agrees) = is_said plan from to
is_step_of plan (SayNominate from to number nominees) = is_nomination plan from to nominees
is_step_of plan (SayRepair from to number block bytes) = is_repair plan from to block bytes
is_step_of plan (SayVote from to number au blocks) = is_said_vote plan from to au blocks
is_step_of plan (Crash peer) = has_honest plan.peers peer
is_step_of plan (Cut calls choice step) = is_cut plan calls step

-- every step is one that a script with the plan can have
abbrev pub are_steps_of : Plan → List Step → Bool
are_steps_of plan steps = list_all (is_step_of plan) steps

-- the power of a peer fails in the step
unfoldable pub fails_power : Step → Bool
fails_power (Peer step) = false
fails_power (Tick by) = false
fails_power (Next times) = false
fails_power Lose = false
fails_power (Again envelope) = false
fails_power Settle = false
fails_power Finish = false
fails_power (Forge from to bytes) = false
fails_power (SayPoll from to number au) = false
fails_power (SayProof from to number) = false
fails_power (SayRequest from to number block) = false
fails_power (SayReceipt from to number) = false
fails_power (SayChallenge from to number agrees) = false
fails_power (SayNominate from to number nominees) = false
fails_power (SayRepair from to number block bytes) = false
fails_power (SayVote from to number au blocks) = false
fails_power (Crash peer) = true
fails_power (Cut calls choice step) = true

-- behind these steps the power can fail in one more, if it does
unfoldable pub has_power_for : List Step → Step → Bool
has_power_for steps step = not (fails_power step) || nat_lt (length (filter fails_power steps)) MOST_POWER_FAILURES
