-- The copies that a peer holds, as they are seen.
use Rattle.std.proofs.Common.{◌≡◌, ◌<◌, ◌≤◌, ◌∙◌, refl, arith, length, ap, sym, subst, ℕ, Bool, true, false, cond}
use Rattle.std.proofs.Common.{List, [], ◌∷◌, get_or}
use Rattle.std.proofs.lemmas.List.Elements.{All-set, All-head, All-tail}
use Rattle.std.specs.Prelude.{Option, Some, None, is_some, ◌==◌, map, find, option_map, slice_set, All, Result, Ok}
use Rattle.std.specs.Prelude.{Err, IfOk}
use Rattle.std.specs.List.{position}
use Rattle.lks_audit.proofs.Changing as changing
use Rattle.lks_blocks.proofs.Bytes.{bytes_count}
use Rattle.lks_blocks.specs.Block.{Block, AllOf}
use Rattle.lks_law.specs.Fitting.{Where, most_numbered}
use Rattle.lks_versions.specs.Shelf.{newest_of, current_of}
use Rattle.lks_law.specs.State.{Copy, copy_at, blocks_in, blocks_at, copy_changed}
use Rattle.lks_audit.specs.declared.copies.Held.{Held}
use Rattle.lks_base.specs.declared.limits.TheConstants.{MOST_BLOCKS}
use Rattle.lks_audit.specs.Seen.{IsOn}
use Rattle.lks_poller.specs.Polling.{Polled}
use Rattle.lks_audit.specs.Copied.{copy_of, copies_of, IsOf, MayReplace, HasBlocks}

pub copy_seen : (au : ℕ) (hs : List Held) (found : Option Held) → found ≡ find (λ (h : Held). h.au == au) hs
    → copy_at au (map copy_of hs) ≡ option_map copy_of found
copy_seen au hs found is = changing.found_seen copy_of (λ (c : Copy). c.au == au) hs ∙ ap (option_map copy_of) (sym is)

pub put_copy : (au : ℕ) (f : Copy → Copy) (hs : List Held) (i : ℕ) (old new : Held)
    → position (λ (h : Held). h.au == au) hs ≡ Some i → old ≡ get_or hs i old
    → copy_of new ≡ f (copy_of old) → map copy_of (slice_set hs i new) ≡ copy_changed au f (map copy_of hs)
put_copy au f = changing.put_first copy_of (λ (c : Copy). c.au == au) f

pub put_nothing : (au : ℕ) (f : Copy → Copy) (hs : List Held) → position (λ (h : Held). h.au == au) hs ≡ None
    → map copy_of hs ≡ copy_changed au f (map copy_of hs)
put_nothing au f = changing.put_none copy_of (λ (c : Copy). c.au == au) f

pub put_of : (pool : List ℕ) (hs : List Held) (i : ℕ) (new : Held) → IsOf pool new → All (IsOf pool) hs
    → All (IsOf pool) (slice_set hs i new)
put_of pool hs i new is all = All-set (IsOf pool) hs i new is all

-- what is true of the copy that is found is true of the one at the place

where_at : (P : Copy → Type 0) (au : ℕ) (hs : List Held) (i : ℕ) (d : Held)
    → position (λ (h : Held). h.au == au) hs ≡ Some i → Where (copy_at au (copies_of hs)) P
    → P (copy_of (get_or hs i d))
where_at P au hs i d at is = subst (λ o. Where o P) (changing.found_at copy_of (λ (c : Copy). c.au == au) hs i d at) is

pub block_at : (au b : ℕ) (hs : List Held) (i : ℕ) (d : Held) → position (λ (h : Held). h.au == au) hs ≡ Some i
    → MayReplace au b (copies_of hs) → b < length (newest_of (get_or hs i d).versions)
unfolding MayReplace
block_at au b hs i d at is =
    let facts = where_at (λ c. (b < length c.blocks) × (c.version < most_numbered)) au hs i d at is in
    subst (λ n. b < n) (bytes_count (newest_of (get_or hs i d).versions)) facts.0

pub room_at : (au b : ℕ) (hs : List Held) (i : ℕ) (d : Held) → position (λ (h : Held). h.au == au) hs ≡ Some i
    → MayReplace au b (copies_of hs) → current_of (get_or hs i d).versions < most_numbered
unfolding MayReplace
room_at au b hs i d at is = (where_at (λ c. (b < length c.blocks) × (c.version < most_numbered)) au hs i d at is).1

-- the copy that is found is of the pool
pub held_of : (pool : List ℕ) (au : ℕ) (hs : List Held) (h : Held) → Some h ≡ find (λ (h : Held). h.au == au) hs
    → All (IsOf pool) hs → IsOf pool h
held_of pool au [] h is all = absurd cc
held_of pool au (x ∷ hs) h is all =
    here (x.au == au) is (λ rest. held_of pool au hs h rest (All-tail (IsOf pool) x hs all))
  where
    here : (b : Bool) → Some h ≡ cond b (Some x) (find (λ (h : Held). h.au == au) hs)
        → (Some h ≡ find (λ (h : Held). h.au == au) hs → IsOf pool h) → IsOf pool h
    here true is rest = let same : x ≡ h = cc in subst (IsOf pool) same (All-head (IsOf pool) x hs all)
    here false is rest = rest is

-- an AU of a poll that runs is held, and has no more blocks than an AU may have
pub held_on : (id : ℕ) (cs : List Copy) (s : Polled) → IsOn id cs s → is_some (copy_at s.tally.ballot.au cs) ≡ true
held_on id cs s on = here (copy_at s.tally.ballot.au cs) on.some
  where
    here : (o : Option Copy) → 1 ≤ length (blocks_in o) → is_some o ≡ true
    here None some = absurd (omega (arith, some))
    here (Some c) some = refl

pub few_on : (au : ℕ) (cs : List Copy) → All HasBlocks cs → length (blocks_at au cs) ≤ MOST_BLOCKS
few_on au [] all = omega arith
few_on au (c ∷ cs) all = here (c.au == au) (All-head HasBlocks c cs all) (few_on au cs (All-tail HasBlocks c cs all))
  where
    here : (b : Bool) → HasBlocks c → length (blocks_at au cs) ≤ MOST_BLOCKS
        → length (blocks_in (cond b (Some c) (copy_at au cs))) ≤ MOST_BLOCKS
    here true has rest = has.1
    here false has rest = rest

-- what is of the pool of a copy that is found is of that of all copies
pub of_found : {E : Type 0} (au : ℕ) (hs : List Held) (h : Held) (result : Result (List Block) E)
    → Some h ≡ find (λ (h : Held). h.au == au) hs
    → IfOk result (λ refs. (pool : List ℕ) → IsOf pool h → AllOf pool refs)
    → IfOk result (λ refs. (pool : List ℕ) → All (IsOf pool) hs → AllOf pool refs)
of_found au hs h (Ok refs) found of = λ pool all. of pool (held_of pool au hs h found all)
of_found au hs h (Err e) found of = tt
