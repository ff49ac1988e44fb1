-- What is said comes from a corrupt peer and goes to a peer of the plan.
use Rattle.std.proofs.Common.{◌≡◌, ℕ, true, sym, subst, List, length}
use Rattle.std.specs.Prelude.{Option, Some, None, IfSome, ◌&&◌, nat_le}
use Rattle.std.proofs.lemmas.Bool.{and_parts}
use Rattle.lks_base.specs.Checking.{has_au, has_corrupt, has_peer, is_within, are_short}
use Rattle.lks_base.specs.declared.limits.TheConstants.{LAST_BLOCK, MOST_BLOCKS, MOST_BLOCK_BYTES, MOST_NOMINEES}
use Rattle.lks_base.specs.declared.plans.PeerPlan.{PeerPlan}
use Rattle.lks_base.specs.declared.plans.Plan.{Plan}
use Rattle.lks_script.specs.StepRules.{is_said, is_said_vote, is_invitation, is_request, is_repair, is_nomination}
use Rattle.lks_script.specs.StepRules.{is_step_of}
use Rattle.lks_script.specs.declared.steps.Step.{Step}
use Rattle.lks_script.specs.declared.steps.Step.TheVariants as step
use Rattle.lks_saying.specs.Sayings.{Saying, planned_peer, proof_by, vote_by, said_by, MayBeSaid}

pub said_ends : (plan : Plan) (from to : ℕ) → is_said plan from to ≡ true
    → (has_corrupt plan.peers from ≡ true) × (has_peer plan.peers to ≡ true)
unfolding is_said
said_ends plan from to said = and_parts (has_corrupt plan.peers from) (has_peer plan.peers to) said

proof_may : (plan : Plan) (from to number : ℕ) (sender : Option PeerPlan) → is_said plan from to ≡ true
    → IfSome (proof_by from to number sender) (MayBeSaid plan)
proof_may plan from to number None said = tt
proof_may plan from to number (Some p) said = said_ends plan from to said

vote_may : (plan : Plan) (from to : ℕ) (voter poller : Option PeerPlan) (number au : ℕ) (blocks : List (List ℕ))
    → is_said plan from to ≡ true → IfSome (vote_by plan from to voter poller number au blocks) (MayBeSaid plan)
vote_may plan from to None poller number au blocks said = tt
vote_may plan from to (Some v) None number au blocks said = tt
vote_may plan from to (Some v) (Some p) number au blocks said = said_ends plan from to said

saying_may : (plan : Plan) (s : Step) → is_step_of plan s ≡ true → IfSome (said_by plan s) (MayBeSaid plan)
unfolding said_by is_step_of is_invitation is_said_vote is_request is_repair is_nomination
saying_may plan (step.SayPoll from to number au) legal =
    said_ends plan from to (and_parts (is_said plan from to) (has_au plan.aus au) legal).0
saying_may plan (step.SayProof from to number) legal = proof_may plan from to number (planned_peer plan from) legal
saying_may plan (step.SayRequest from to number block) legal =
    said_ends plan from to (and_parts (is_said plan from to) (nat_le block LAST_BLOCK) legal).0
saying_may plan (step.SayReceipt from to number) legal = said_ends plan from to legal
saying_may plan (step.SayChallenge from to number agrees) legal = said_ends plan from to legal
saying_may plan (step.SayNominate from to number nominees) legal =
    said_ends plan from to (and_parts (is_said plan from to) (nat_le (length nominees) MOST_NOMINEES) legal).0
saying_may plan (step.SayVote from to number au blocks) legal =
    let all = and_parts (is_said plan from to && has_au plan.aus au && is_within 1 MOST_BLOCKS (length blocks))
    (are_short blocks) legal in
    let first = and_parts (is_said plan from to && has_au plan.aus au) (is_within 1 MOST_BLOCKS (length blocks))
    all.0 in
    vote_may plan from to (planned_peer plan from) (planned_peer plan to) number au blocks
    (and_parts (is_said plan from to) (has_au plan.aus au) first.0).0
saying_may plan (step.SayRepair from to number block bytes) legal =
    let all = and_parts (is_said plan from to && nat_le block LAST_BLOCK) (nat_le (length bytes) MOST_BLOCK_BYTES)
    legal in
    said_ends plan from to (and_parts (is_said plan from to) (nat_le block LAST_BLOCK) all.0).0
saying_may plan s legal = tt

pub said_may : (plan : Plan) (s : Step) (said : Option Saying) → said ≡ said_by plan s → is_step_of plan s ≡ true
    → IfSome said (MayBeSaid plan)
said_may plan s said is legal = subst (λ x. IfSome x (MayBeSaid plan)) (sym is) (saying_may plan s legal)
