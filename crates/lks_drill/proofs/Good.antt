-- The plan of a drill breaks no rule, and each step of a drill is one that a script with the plan can have.
use Rattle.std.proofs.Common.{◌≡◌, ◌∙◌, ap, refl, ℕ, Bool, true, List, [], ◌∷◌}
use Rattle.std.specs.Prelude.{Option, None, not, nat_le}
use Rattle.lks_base.specs.Checking.{unless, ◌▹◌, each, are_bounded, are_ordered, has_au, au_fault, has_peer}
use Rattle.lks_base.specs.Checking.{has_honest, has_member, member_fault, has_counted, has_copy, copy_fault, is_fit}
use Rattle.lks_base.specs.Checking.{peer_fault, bytes_of_copies, bytes_of_peers, plan_fault}
use Rattle.lks_base.specs.declared.plans.Holding.{Holding}
use Rattle.lks_base.specs.declared.plans.PlanFault.{PlanFault}
use Rattle.lks_base.specs.declared.plans.PlanFault.TheVariants.{Bounds, Repeat, BlockCount}
use Rattle.lks_draw.specs.Words.{Drawn}
use Rattle.lks_script.specs.StepRules.{is_own_step, is_step_of, are_steps_of}
use Rattle.lks_drill.specs.Drill.{holding_of, copies_of, others_than, friends_of, peer_with, peers_of, aus_of_drill}
use Rattle.lks_drill.specs.Drill.{plan_of, audits_of, steps_of_drill}
use Rattle.lks_drill.proofs.Sizes.{copy_has_128, short_copy, copy_bytes}

-- neither of two rules fails
both : (a b : Option PlanFault) → a ≡ None → b ≡ None → (a ▹ b) ≡ None
both a b first second = ap (λ a. a ▹ b) first ∙ second

passes : (test : Bool) (fault : PlanFault) → test ≡ true → unless test fault ≡ None
passes test fault holds = ap (λ test. unless test fault) holds

-- a copy is good beside those before it, of which none is of its AU
good_copy : (before : List Holding) (peer au : ℕ) (d : Drawn) → has_counted aus_of_drill au 128 ≡ true
    → not (has_copy before au) ≡ true
    → copy_fault aus_of_drill before (holding_of peer au d) ≡ None
unfolding copy_fault
good_copy before peer au d counted alone =
    both _ _ (passes _ BlockCount (ap (has_counted aus_of_drill au) (copy_has_128 peer d) ∙ counted))
    (both _ _ (passes _ Repeat alone) (passes _ Bounds (short_copy peer d)))

good_copies : (seed peer : ℕ) → each (copy_fault aus_of_drill) [] (copies_of seed peer) ≡ None
unfolding copies_of has_counted has_copy aus_of_drill
good_copies seed peer =
    both _ _ (good_copy [] peer 1 _ refl refl) (both _ _ (good_copy (holding_of peer 1 _ ∷ []) peer 2 _ refl refl) refl)

bytes_of_drill : (seed peer : ℕ) → bytes_of_copies (copies_of seed peer) ≡ 131072
unfolding copies_of
bytes_of_drill seed peer = simp copy_bytes

good_peers : (seed : ℕ) → each (peer_fault aus_of_drill (peers_of seed)) [] (peers_of seed) ≡ None
unfolding peer_fault is_fit has_peer member_fault has_member peers_of peer_with others_than friends_of
good_peers seed = simp (good_copies seed)

few_bytes : (seed : ℕ) → nat_le (bytes_of_peers (peers_of seed)) 134217728 ≡ true
unfolding peers_of peer_with
few_bytes seed = simp (bytes_of_drill seed)

-- no rule of plans is broken
pub good_plan : (seed : ℕ) → plan_fault (plan_of seed) ≡ None
unfolding plan_fault are_bounded are_ordered au_fault has_au aus_of_drill plan_of peers_of
good_plan seed = both _ _ (good_peers seed) (passes _ Bounds (few_bytes seed))

-- each audit is of a peer and of an AU of the plan
pub steps_stand : (seed : ℕ) → are_steps_of (plan_of seed) steps_of_drill ≡ true
unfolding is_step_of is_own_step has_honest has_au plan_of peers_of peer_with aus_of_drill steps_of_drill audits_of
steps_stand seed = refl
