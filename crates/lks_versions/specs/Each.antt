-- All versions are of one pool, before and after each call.
use Rattle.std.specs.Prelude.{◌≡◌, ℕ, zero, suc, List, [], ◌∷◌, ◌++◌, slice_index_or, All}
use Rattle.std.proofs.Common.{sym, ap, refl, subst}
use Rattle.std.proofs.lemmas.List.Elements.{All-nil, All-cons, All-head, All-tail, All-push}
use Rattle.lks_blocks.specs.Block.{Block, AllOf, all_none, all_set}
use Rattle.lks_versions.specs.Shelf.{Shelf, version_of, newest_of, current_of, with_replaced}

-- each block of each version is of this pool
unfoldable pub EachOf : List ℕ → List (List Block) → Type 0
EachOf pool lists = All (λ (list : List Block). AllOf pool list) lists

-- of a deposit
pub each_one : (pool : List ℕ) (lists : List (List Block)) (list : List Block) → lists ≡ list ∷ [] → AllOf pool list
    → EachOf pool lists
unfolding EachOf
each_one pool lists list is of = subst (EachOf pool) (sym is) (All-cons (AllOf pool) list [] of (All-nil (AllOf pool)))

-- of one version more
pub each_put : (pool : List ℕ) (lists after : List (List Block)) (list : List Block) → after ≡ lists ++ list ∷ []
    → EachOf pool lists → AllOf pool list → EachOf pool after
unfolding EachOf
each_put pool lists after list is each of = subst (EachOf pool) (sym is) (All-push (AllOf pool) lists list each of)

each_in : (pool : List ℕ) (lists : List (List Block)) (k : ℕ) → EachOf pool lists
    → AllOf pool (slice_index_or lists k [])
unfolding EachOf
each_in pool [] k each = all_none pool
each_in pool (list ∷ lists) zero each = All-head (AllOf pool) list lists each
each_in pool (list ∷ lists) (suc k) each = each_in pool lists k (All-tail (AllOf pool) list lists each)

-- of the blocks that a version names
pub each_at : (pool : List ℕ) (s : Shelf) (k : ℕ) (list : List Block) → list ≡ version_of s k → EachOf pool s.lists
    → AllOf pool list
each_at pool s k list is each = subst (AllOf pool) (sym is) (each_in pool s.lists k each)

pub each_newest : (pool : List ℕ) (s : Shelf) (list : List Block) → list ≡ newest_of s → EachOf pool s.lists
    → AllOf pool list
each_newest pool s list is each = each_at pool s (current_of s) list is each

-- of what a replacement leaves
pub each_replaced : (pool : List ℕ) (old new : Shelf) (b : ℕ) (block : Block) → new ≡ with_replaced old b block
    → block.pool ≡ pool → EachOf pool old.lists → EachOf pool new.lists
each_replaced pool old new b block is of each =
    each_put pool old.lists new.lists _ (ap (λ (s : Shelf). s.lists) is) each
    (all_set pool (newest_of old) b block (each_at pool old (current_of old) _ refl each) of)
