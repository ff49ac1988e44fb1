-- The rule of a queue that many passes share: of the entries that it holds, and of what each pass put in and got out.
use Rattle.std.specs.Prelude.{◌≡◌, ℕ, ◌+◌, ◌<◌, List, [], ◌∷◌, ◌++◌, length, flat_map, IsPermutation}
use mathlib.Core.Option.{some}
use lib.ListN.{get_elem?}
use Rattle.lks_farm.specs.declared.entries.NumberedJob.{NumberedJob}
use Rattle.lks_farm.specs.declared.rule.View.{View}
use Rattle.lks_farm.specs.Entries.{EachIsOf}

-- what a pass knows: its parts, the pool, and the entries that it put and got
abbrev pub view_knowing : ℕ → List ℕ → List NumberedJob → List NumberedJob → View
view_knowing parts pool put got = record { parts = parts; pool = pool; put = put; got = got }

-- the view with one entry more
abbrev pub putting : View → NumberedJob → View
putting v e = view_knowing v.parts v.pool (v.put ++ e ∷ []) v.got

abbrev pub getting : View → NumberedJob → View
getting v e = view_knowing v.parts v.pool v.put (v.got ++ e ∷ [])

-- one view of two
abbrev pub joined_views : View → View → View
joined_views v w = view_knowing (v.parts + w.parts) v.pool (v.put ++ w.put) (v.got ++ w.got)

-- the parts of all views, added up
abbrev pub parts_of : List View → ℕ
parts_of [] = 0
parts_of (v ∷ vs) = v.parts + parts_of vs

-- what all passes put, and what all got
abbrev pub all_put : List View → List NumberedJob
all_put views = flat_map (λ (v : View). v.put) views

abbrev pub all_got : List View → List NumberedJob
all_got views = flat_map (λ (v : View). v.got) views

-- a view with no part has empty lists; one with a part names the pool
pub record Fits (pool : List ℕ) (v : View) : Type 0 where
  pub idle : v.parts ≡ 0 → (v.put ≡ []) × (v.got ≡ [])
  pub named : 0 < v.parts → v.pool ≡ pool
  pub put : EachIsOf pool v.put
  pub got : EachIsOf pool v.got

-- the rule: what was put is, in some order, what was got and what the queue holds; all is of one pool; and there are
-- 128 parts
pub record Shared (entries : List NumberedJob) (views : List View) : Type 0 where
  pub pool : List ℕ
  pub parts : parts_of views ≡ 128
  pub balance : IsPermutation (all_put views) (all_got views ++ entries)
  pub each : (port : ℕ) (v : View) → get_elem? views port ≡ some v → Fits pool v
  pub held : EachIsOf pool entries

-- by the rule the queue held n entries at one moment, at which one of the passes had this view
pub record Moment (n : ℕ) (v : View) : Type 0 where
  pub entries : List NumberedJob
  pub views : List View
  pub count : length entries ≡ n
  pub shared : Shared entries views
  pub port : ℕ
  pub own : get_elem? views port ≡ some v
