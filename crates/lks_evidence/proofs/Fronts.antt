-- Running hashes over the front of a copy, and how they go on.
use Rattle.std.proofs.Common.{not, ◌<◌, ◌≡◌, ℕ, zero, suc, ◌+◌, ◌≤◌, Bool, true, false, cond, List, [], ◌∷◌, length}
use Rattle.std.proofs.Common.{take, map, refl, ap, sym, ◌∙◌, arith, ◌-◌, ◌≢◌, get_or}
use Rattle.std.specs.Prelude.{Option, Some, None, slice_get, slice_set, nat_lt}
use Rattle.std.proofs.lemmas.Bool.{le-ltb, lt-ltb, ltb-true, ltb-false}
use Rattle.std.proofs.lemmas.List.{length-map}
use Rattle.std.proofs.lemmas.List.Sums.{sum_by-cons}
use Rattle.lks_base.specs.Kinds.{is_second}
use Rattle.std.proofs.lemmas.Option.{get_or_from_slice_get}
use Rattle.lks_hash.specs.Running.{linked, running, hashes_of}
use Rattle.lks_hash.proofs.RunningLaws.{hash_at}
use Rattle.lks_tally.specs.declared.ballots.Ballot.{Ballot}
use Rattle.lks_tally.specs.declared.ballots.Vote.{Vote}
use Rattle.lks_tally.specs.Counting.{key_for, agrees, for_at}
use Rattle.lks_tally.specs.Heads.{heads, matching}
use Rattle.lks_evidence.specs.Recounts.{linked_if}

-- a block more, if there is one, is a link more
pub running_next : (second : Bool) (key : List ℕ) (blocks : List (List ℕ)) (b : ℕ)
    → linked_if second (running second key (take b blocks)) (slice_get blocks b)
    ≡ running second key (take (b + 1) blocks)
running_next second key [] zero = refl
running_next second key [] (suc b) =
    let one_on : suc (b + 1) ≡ suc b + 1 = omega arith in
    ap (λ n. running second key (take n [])) one_on
running_next second key (x ∷ xs) zero = refl
running_next second key (x ∷ xs) (suc b) =
    let one_on : suc (b + 1) ≡ suc b + 1 = omega arith in
    running_next second (linked second key x) xs b ∙ ap (λ n. running second key (take n (x ∷ xs))) one_on

module _ (q : Ballot) (blocks : List (List ℕ)) (b : ℕ) where
  -- so all voters' hashes go on
  pub heads_next : (votes : List Vote)
      → map (λ h. linked_if (is_second q.kind) h (slice_get blocks b)) (heads q (take b blocks) votes)
      ≡ heads q (take (b + 1) blocks) votes
  heads_next [] = refl
  heads_next (v ∷ vs) = λ i. running_next (is_second q.kind) (key_for q v.voter) blocks b i ∷ heads_next vs i

  matching_heads : (votes : List Vote)
      → matching b votes (heads q (take (b + 1) blocks) votes) ≡ for_at q votes blocks b
  matching_heads [] = refl
  matching_heads (v ∷ vs) =
      ap (λ n. cond (agrees q blocks b v) 1 0 + n) (matching_heads vs)
      ∙ sym (sum_by-cons (λ x. cond (agrees q blocks b x) 1 0) v vs)

  module _ (second : Bool) (votes : List Vote) (hashes : List (List ℕ)) (block : Option (List ℕ))
      (kind : second ≡ is_second q.kind)
      (kept : hashes ≡ heads q (take b blocks) votes) (next : block ≡ slice_get blocks b) where
    pub heads_on : map (λ h. linked_if second h block) hashes ≡ heads q (take (b + 1) blocks) votes
    heads_on = (λ i. map (λ h. linked_if (kind i) h (next i)) (kept i)) ∙ heads_next votes

    -- the votes whose hash at b is the next one are those for the copy
    pub for_next : matching b votes (map (λ h. linked_if second h block) hashes) ≡ for_at q votes blocks b
    for_next = ap (matching b votes) heads_on ∙ matching_heads votes

pub heads_length : (q : Ballot) (blocks : List (List ℕ)) (votes : List Vote)
    → length (heads q blocks votes) ≡ length votes
heads_length q blocks votes = length-map votes (λ v. running (is_second q.kind) (key_for q v.voter) blocks)

-- a replaced block leaves the blocks before it as they are
pub take_replaced : (blocks : List (List ℕ)) (n b : ℕ) (bytes : List ℕ) → n ≤ b
    → take n (slice_set blocks b bytes) ≡ take n blocks
take_replaced [] zero b bytes few = refl
take_replaced [] (suc n) b bytes few = refl
take_replaced (x ∷ xs) zero b bytes few = refl
take_replaced (x ∷ xs) (suc n) zero bytes few = absurd (omega arith)
take_replaced (x ∷ xs) (suc n) (suc b) bytes few = ap (λ ys. x ∷ ys) (take_replaced xs n b bytes (omega arith))

-- and stands in its place, where there is one
pub get_replaced : (blocks : List (List ℕ)) (b : ℕ) (bytes : List ℕ)
    → cond (nat_lt b (length blocks)) (Some bytes) None ≡ slice_get (slice_set blocks b bytes) b
get_replaced [] b bytes = ap (λ t. cond t (Some bytes) None) (le-ltb b 0 (omega arith)) ∙ nothing b
  where
    nothing : (b : ℕ) → None ≡ slice_get (slice_set [] b bytes) b
    nothing zero = refl
    nothing (suc b) = refl
get_replaced (x ∷ xs) zero bytes = ap (λ t. cond t (Some bytes) None) (lt-ltb 0 (suc (length xs)) (omega arith))
get_replaced (x ∷ xs) (suc b) bytes =
    ap (λ t. cond t (Some bytes) None) (less (nat_lt b (length xs)) refl) ∙ get_replaced xs b bytes
  where
    less : (t : Bool) → nat_lt b (length xs) ≡ t → nat_lt (suc b) (suc (length xs)) ≡ t
    less true e = lt-ltb (suc b) (suc (length xs)) (omega (arith, ltb-true b (length xs) e))
    less false e = le-ltb (suc b) (suc (length xs)) (omega (arith, ltb-false b (length xs) e))

module _ (q : Ballot) (blocks : List (List ℕ)) (b : ℕ) (bytes : List ℕ) (second : Bool) (votes : List Vote)
    (hashes : List (List ℕ)) (block : Option (List ℕ))
    (kind : second ≡ is_second q.kind) (kept : hashes ≡ heads q (take b blocks) votes)
    (next : block ≡ cond (nat_lt b (length blocks)) (Some bytes) None) where
  -- the hashes before a block serve the copy with another one there as well
  pub for_replaced : matching b votes (map (λ h. linked_if second h block) hashes)
      ≡ for_at q votes (slice_set blocks b bytes) b
  for_replaced =
      for_next q (slice_set blocks b bytes) b second votes hashes block kind
      (kept ∙ ap (λ bs. heads q bs votes) (sym (take_replaced blocks b b bytes (omega arith))))
      (next ∙ get_replaced blocks b bytes)

-- the hash before a block, of a vote over a version with the same blocks before it
pub front_hash : (second : Bool) (key : List ℕ) (version copy hashes : List (List ℕ)) (b : ℕ)
    → hashes ≡ hashes_of second key version → b ≢ 0 → b ≤ length version
    → take b version ≡ take b copy → get_or hashes (b - 1) [] ≡ running second key (take b copy)
front_hash second key version copy hashes b are some within same =
    let back : b - 1 + 1 ≡ b = omega (arith, some) in
    let before : b - 1 < length version = omega (arith, some, within) in
    ap (λ hs. get_or hs (b - 1) []) are
    ∙ get_or_from_slice_get (hashes_of second key version) (b - 1) (running second key (take (b - 1 + 1) version))
    [] (hash_at second key version (b - 1) before)
    ∙ ap (λ n. running second key (take n version)) back ∙ ap (running second key) same

-- what isn't different is the same
pub not_other : (t : Bool) → false ≡ not t → t ≡ true
not_other true e = refl
not_other false e = absurd cc
