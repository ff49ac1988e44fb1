-- The reference list of a peer, and what an agreed poll makes of it.
use Rattle.std.specs.Prelude.{◌≢◌, ℕ, not, ◌||◌, ◌==◌, if◌then◌else◌, List, [], ◌∷◌, ◌++◌, filter, All, AllPairs}
use Rattle.lks_base.specs.Checking.{has_member}

-- what contracts see: whose lists these are, the reference list, and the friends
pub record Lists : Type 0 where
  pub own : ℕ
  pub list : List ℕ
  pub friends : List ℕ

-- a list without these peers
abbrev pub without_peers : List ℕ → List ℕ → List ℕ
without_peers out list = filter (λ p. not (has_member out p)) list

-- a peer joins the list of `own` at its end, unless it is there or is `own` itself
abbrev pub joined_by : ℕ → List ℕ → ℕ → List ℕ
joined_by own list p = if p == own || has_member list p then list else list ++ p ∷ []

-- peers join one after another
abbrev pub all_joined : ℕ → List ℕ → List ℕ → List ℕ
all_joined own list [] = list
all_joined own list (p ∷ ps) = all_joined own (joined_by own list p) ps

-- the reference list after an agreed poll: without those against, then with those who join and those who were picked
unfoldable pub list_after : ℕ → List ℕ → List ℕ → List ℕ → List ℕ → List ℕ
list_after own list against joining picked = all_joined own (all_joined own (without_peers against list) joining) picked

-- a list fit for `own`: it names no peer twice, and not `own`
pub record IsReferenceList (own : ℕ) (list : List ℕ) : Type 0 where
  pub once : AllPairs ◌≢◌ list
  pub others : All (λ p. p ≢ own) list
