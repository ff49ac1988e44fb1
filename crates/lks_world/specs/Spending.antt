-- What the lines of a script cost the honest peers of power.
use Rattle.std.specs.Prelude.{◌≡◌, ◌⊎◌, ℕ, Option, Some, None, IfSome, List, [], ◌∷◌, option_map}
use Rattle.std.specs.Option.{option_to_list}
use Rattle.lks_base.specs.declared.events.Event.{Event}
use Rattle.lks_base.specs.declared.plans.Plan.{Plan}
use Rattle.lks_disk.specs.Face.{Face}
use Rattle.lks_law.specs.Questions.{Verdicts}
use Rattle.lks_law.specs.World.{world}
use Rattle.lks_script.specs.declared.steps.CutStep.{CutStep}
use Rattle.lks_script.specs.declared.steps.Step.{Step}
use Rattle.lks_script.specs.declared.steps.Step.TheVariants as step
use Rattle.lks_world.specs.Counts.{honest_ids, BurnsInStep}
use Rattle.lks_world.specs.Cuts.{step_cut, taker_of}
use Rattle.lks_world.specs.Disks.{honest_disks}
use Rattle.lks_world.specs.Follows.{Performs}
use Rattle.lks_world.specs.Powers.{HavePowerOf}
use Rattle.lks_world.specs.declared.faults.WorldFault.{WorldFault}

-- who takes the step that a line cuts off, if there is one
abbrev pub cut_of : Verdicts → Plan → List Event → CutStep → List ℕ
cut_of verdict plan history given =
    option_to_list (option_map (taker_of (world plan history).bag) (step_cut verdict plan history given))

-- whose power a line cuts
abbrev pub loser_of : Verdicts → Plan → List Event → Step → List ℕ
loser_of verdict plan history (step.Peer s) = []
loser_of verdict plan history (step.Tick by) = []
loser_of verdict plan history (step.Next times) = []
loser_of verdict plan history step.Lose = []
loser_of verdict plan history (step.Again envelope) = []
loser_of verdict plan history step.Settle = []
loser_of verdict plan history step.Finish = []
loser_of verdict plan history (step.Forge from to bytes) = []
loser_of verdict plan history (step.SayPoll from to number au) = []
loser_of verdict plan history (step.SayProof from to number) = []
loser_of verdict plan history (step.SayRequest from to number block) = []
loser_of verdict plan history (step.SayReceipt from to number) = []
loser_of verdict plan history (step.SayChallenge from to number agrees) = []
loser_of verdict plan history (step.SayNominate from to number nominees) = []
loser_of verdict plan history (step.SayVote from to number au blocks) = []
loser_of verdict plan history (step.SayRepair from to number block bytes) = []
loser_of verdict plan history (step.Crash peer) = peer ∷ []
loser_of verdict plan history (step.Cut calls choice given) = cut_of verdict plan history given

-- What a line costs: the honest peers' disks counted the fuses that burned and the cuts of the power in its events, and
-- besides at most one cut of the power that the line cuts. Where it cuts a step off, the fuse was one of its calls and
-- choice.
pub record Spends {D : Type 0} (f : Face D) (verdict : Verdicts) (plan : Plan) (s : Step)
    (before after : List Event) (fault : Option WorldFault) (disks now : List D) : Type 0 where
  pub counted : HavePowerOf f plan (loser_of verdict plan before s) before after fault (honest_ids plan.peers)
      (honest_disks plan.peers disks) (honest_disks plan.peers now)
  pub burned : (calls choice : ℕ) (given : CutStep) → s ≡ step.Cut calls choice given → fault ≡ None
      → IfSome (step_cut verdict plan before given) (BurnsInStep f plan before calls choice disks now)

-- What lines cost, one after another, each from the disks as the one before left them.
abbrev pub AreSpent : {D : Type 0} → Face D → Verdicts → Plan → List Event → List D → List Step → List Event
    → List D → Type 0
AreSpent f verdict plan before disks [] after now = (after ≡ before) × (now ≡ disks)
AreSpent {D} f verdict plan before disks (s ∷ ss) after now =
    (mid : List Event) × (there : List D) × Performs verdict plan before s mid
    × Spends f verdict plan s before mid None disks there × AreSpent f verdict plan mid there ss after now

-- The same up to a fault in one of them.
abbrev pub AreSpentUpTo : {D : Type 0} → Face D → Verdicts → Plan → List Event → List D → List Step → WorldFault
    → List Event → List D → Type 0
AreSpentUpTo f verdict plan before disks [] fault after now = ⊥
AreSpentUpTo {D} f verdict plan before disks (s ∷ ss) fault after now =
    Spends f verdict plan s before after (Some fault) disks now
    ⊎
    ((mid : List Event) × (there : List D) × Performs verdict plan before s mid
    × Spends f verdict plan s before mid None disks there
    × AreSpentUpTo f verdict plan mid there ss fault after now)
