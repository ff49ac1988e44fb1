-- How a plan and journals are printed, and what of them reads back.
use Rattle.std.specs.Prelude.{◌≡◌, ℕ, true, None, List, [], ◌∷◌, ◌++◌, codes, filter, not, All}
use Rattle.std.specs.Fmt.{decimal}
use Rattle.std.specs.List.{flat_map}
use Rattle.hex.specs.Hex.{encode_lower, IsBytes}
use Rattle.lks_base.specs.Checking.{plan_fault}
use Rattle.lks_base.specs.declared.plans.PeerPlan.{PeerPlan}
use Rattle.lks_base.specs.declared.plans.Plan.{Plan}
use Rattle.lks_field.specs.Frames.{frames}
use Rattle.lks_gather.specs.Framed.{Spells}
use Rattle.lks_gather.specs.Sets.{Book, may_keep}
use Rattle.lks_print.specs.Said.{IsSaidPeer}
use Rattle.lks_print.specs.Scripts.{plan_text}
use Rattle.lks_print.specs.Steps.{line_of}

-- a peer and the bodies of its batches, as they stand in its journal
pub record Filed : Type 0 where
  pub peer : ℕ
  pub bodies : List (List ℕ)

-- the bytes of a journal: its frames and a closed gate
abbrev pub file_of : List (List ℕ) → List ℕ
file_of bodies = frames bodies ++ 0 ∷ []

-- journal P HEX
unfoldable pub journal_text : Filed → List ℕ
journal_text f = line_of (codes "journal") (decimal f.peer ∷ encode_lower (file_of f.bodies) ∷ [])

-- the lines of a plan, and a line for each journal
unfoldable pub set_text : Plan → List Filed → List ℕ
set_text plan journals = plan_text plan ++ flat_map journal_text journals

-- each of their bytes is one
abbrev pub AreFiles : List Filed → Type 0
AreFiles journals = All (λ f. IsBytes (file_of f.bodies)) journals

-- ---- what reads back

-- the bodies are those of the batches of this book
pub record IsFiled (f : Filed) (b : Book) : Type 0 where
  pub peer : b.peer ≡ f.peer
  pub list : Spells (file_of f.bodies) b.list

-- each book is of an honest peer of the plan that has none before, and is what was filed
abbrev pub AreFiled : Plan → List Book → List Filed → List Book → Type 0
AreFiled plan before [] [] = Unit {0}
AreFiled plan before [] (b ∷ books) = ⊥
AreFiled plan before (f ∷ journals) [] = ⊥
AreFiled plan before (f ∷ journals) (b ∷ books) =
    (may_keep plan before b.peer ≡ true) × IsFiled f b × AreFiled plan (before ++ b ∷ []) journals books

-- a journal and its book for each of these peers, in their order
abbrev pub AreTheirs : List PeerPlan → List Filed → List Book → Type 0
AreTheirs [] [] [] = Unit {0}
AreTheirs [] [] (b ∷ books) = ⊥
AreTheirs [] (f ∷ journals) books = ⊥
AreTheirs (p ∷ peers) [] books = ⊥
AreTheirs (p ∷ peers) (f ∷ journals) [] = ⊥
AreTheirs (p ∷ peers) (f ∷ journals) (b ∷ books) = (b.peer ≡ p.id) × IsFiled f b × AreTheirs peers journals books

-- the honest peers of a plan, in its order
abbrev pub honest_peers : Plan → List PeerPlan
honest_peers plan = filter (λ p. not p.corrupt) plan.peers

-- a plan that can be said
pub record IsSaidPlan (plan : Plan) : Type 0 where
  pub good : plan_fault plan ≡ None
  pub peers : All IsSaidPeer plan.peers
