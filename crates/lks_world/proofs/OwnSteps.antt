-- What a step that a script can have is known to be.
use Rattle.std.proofs.Common.{◌≡◌, ◌≤◌, ◌∙◌, ap, sym, ℕ, true, leb, List, length}
use Rattle.std.specs.Prelude.{◌&&◌, nat_le}
use Rattle.std.proofs.lemmas.Bool.{and_parts, leb-true}
use Rattle.lks_base.specs.Checking.{has_au, has_corrupt, has_honest, has_peer, is_within}
use Rattle.lks_base.specs.Quorums.{obeys_quorum_rule}
use Rattle.lks_base.specs.declared.events.Event.{Event}
use Rattle.lks_base.specs.declared.events.PeerStep.{PeerStep}
use Rattle.lks_base.specs.declared.events.PeerStep.TheVariants as peers
use Rattle.lks_base.specs.declared.limits.TheConstants.{MOST_FORGED_BYTES, MOST_REPAIRS, MOST_TICKS}
use Rattle.lks_base.specs.declared.names.PollName.{PollName}
use Rattle.lks_base.specs.declared.plans.Plan.{Plan}
use Rattle.lks_law.specs.Histories.{MayStep}
use Rattle.lks_law.specs.Questions.{Verdicts}
use Rattle.lks_law.specs.World.{World}
use Rattle.lks_script.specs.StepRules.{is_session, is_tuning, is_own_step, is_said, is_forgery, is_cut_step, is_cut}
use Rattle.lks_script.specs.StepRules.{is_step_of}
use Rattle.lks_script.specs.declared.steps.CutStep.{CutStep}
use Rattle.lks_script.specs.declared.steps.Step.{Step}
use Rattle.lks_script.specs.declared.steps.TheConstants.{MOST_CUT_CALLS}
use Rattle.lks_script.specs.declared.steps.Step.TheVariants as step
use Rattle.lks_saying.proofs.Ends.{said_ends}
use Rattle.lks_saying.specs.Sayings.{said_by, IsSaying}
use Rattle.lks_world.specs.Follows.{with_saying, Performs}

session_may : (plan : Plan) (voter : ℕ) (poll : PollName) → is_session plan voter poll ≡ true
    → has_honest plan.peers voter ≡ true
unfolding is_session
session_may plan voter poll legal = (and_parts (has_honest plan.peers voter) (has_peer plan.peers poll.poller) legal).0

tuning_may : (plan : Plan) (peer quorum minority repairs : ℕ) → is_tuning plan peer quorum minority repairs ≡ true
    → has_honest plan.peers peer ≡ true
unfolding is_tuning
tuning_may plan peer quorum minority repairs legal =
    let honest = has_honest plan.peers peer in
    let all = and_parts (honest && is_within 1 plan.rules.inner quorum && obeys_quorum_rule quorum minority)
    (nat_le repairs MOST_REPAIRS) legal in
    let first = and_parts (honest && is_within 1 plan.rules.inner quorum) (obeys_quorum_rule quorum minority) all.0 in
    (and_parts honest (is_within 1 plan.rules.inner quorum) first.0).0

pub own_may : (plan : Plan) (w : World) (s : PeerStep) → is_own_step plan s ≡ true → MayStep plan w s
unfolding is_own_step
own_may plan w (peers.OpenPoll peer au) legal = (and_parts (has_honest plan.peers peer) (has_au plan.aus au) legal).0
own_may plan w (peers.Widen peer number) legal = legal
own_may plan w (peers.Shut peer number) legal = legal
own_may plan w (peers.Tally peer number) legal = legal
own_may plan w (peers.Nudge peer number) legal = legal
own_may plan w (peers.GiveUp peer number) legal = legal
own_may plan w (peers.Work peer poll) legal = session_may plan peer poll legal
own_may plan w (peers.Expire peer poll) legal = session_may plan peer poll legal
own_may plan w (peers.Check peer) legal = legal
own_may plan w (peers.Tune peer quorum minority repairs) legal = tuning_may plan peer quorum minority repairs legal
own_may plan w s legal = absurd cc

-- a step of a peer's own may be taken
pub step_may : (plan : Plan) (w : World) (given : Step) (s : PeerStep) → given ≡ step.Peer s
    → is_step_of plan given ≡ true → MayStep plan w s
unfolding is_step_of
step_may plan w given s is legal = own_may plan w s (ap (is_step_of plan) (sym is) ∙ legal)

-- the peer of a crash is honest
pub crash_may : (plan : Plan) (given : Step) (peer : ℕ) → given ≡ step.Crash peer → is_step_of plan given ≡ true
    → has_honest plan.peers peer ≡ true
unfolding is_step_of
crash_may plan given peer is legal = ap (is_step_of plan) (sym is) ∙ legal

-- what a line cuts off is such a step
pub cut_legal : (plan : Plan) (given : Step) (calls choice : ℕ) (s : CutStep) → given ≡ step.Cut calls choice s
    → is_step_of plan given ≡ true → is_cut_step plan s ≡ true
unfolding is_step_of is_cut
cut_legal plan given calls choice s is legal =
    (and_parts (leb calls MOST_CUT_CALLS) (is_cut_step plan s) (ap (is_step_of plan) (sym is) ∙ legal)).1

-- the clock moves on by some ticks, and by no more
pub ticks_within : (plan : Plan) (given : Step) (by : ℕ) → given ≡ step.Tick by → is_step_of plan given ≡ true
    → (1 ≤ by) × (by ≤ MOST_TICKS)
unfolding is_step_of
ticks_within plan given by is legal =
    let parts = and_parts (leb 1 by) (leb by MOST_TICKS) (ap (is_step_of plan) (sym is) ∙ legal) in
    (leb-true 1 by parts.0, leb-true by MOST_TICKS parts.1)

-- what is forged comes from a corrupt peer, goes to a peer of the plan, and isn't long
pub forgery_may : (plan : Plan) (given : Step) (from to : ℕ) (bytes : List ℕ) → given ≡ step.Forge from to bytes
    → is_step_of plan given ≡ true
    → (has_corrupt plan.peers from ≡ true) × (has_peer plan.peers to ≡ true) × (length bytes ≤ MOST_FORGED_BYTES)
unfolding is_step_of is_forgery
forgery_may plan given from to bytes is legal =
    let all = and_parts (is_said plan from to) (nat_le (length bytes) MOST_FORGED_BYTES)
    (ap (is_step_of plan) (sym is) ∙ legal) in
    let ends = said_ends plan from to all.0 in
    (ends.0, ends.1, leb-true (length bytes) MOST_FORGED_BYTES all.1)

pub says : (verdict : Verdicts) (plan : Plan) (history after : List Event) (s : Step) → IsSaying s
    → after ≡ with_saying history (said_by plan s) → Performs verdict plan history s after
says verdict plan history after (step.SayPoll from to number au) saying is = is
says verdict plan history after (step.SayProof from to number) saying is = is
says verdict plan history after (step.SayRequest from to number block) saying is = is
says verdict plan history after (step.SayReceipt from to number) saying is = is
says verdict plan history after (step.SayChallenge from to number agrees) saying is = is
says verdict plan history after (step.SayNominate from to number nominees) saying is = is
says verdict plan history after (step.SayVote from to number au blocks) saying is = is
says verdict plan history after (step.SayRepair from to number block bytes) saying is = is
says verdict plan history after s saying is = absurd saying
