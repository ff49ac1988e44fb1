-- How running hashes, counts and verdicts go on from one block to the next.
use Rattle.std.proofs.Common.{◌≡◌, ℕ, suc, ◌+◌, ◌*◌, ◌-◌, ◌<◌, ◌≤◌, Bool, true, false, cond, List, [], ◌∷◌, ◌++◌, min}
use Rattle.std.proofs.Common.{length, take, map, not, Some, refl, ap, sym, ◌∙◌, arith, add-one}
use Rattle.std.specs.List.{slice_get, filter}
use Rattle.std.proofs.Math.Nat.{mul-suc}
use Rattle.std.proofs.lemmas.List.{take_more, take_min, length-map}
use Rattle.std.proofs.lemmas.List.Sums.{sum_by-cons}
use Rattle.std.proofs.lemmas.Option.{slice_get_within, get_or_from_slice_get}
use Rattle.lks_base.specs.Kinds.{is_second}
use Rattle.lks_hash.specs.Running.{linked, running}
use Rattle.lks_hash.proofs.RunningLaws.{running_more}
use Rattle.lks_tally.specs.declared.ballots.Ballot.{Ballot}
use Rattle.lks_tally.specs.declared.ballots.Vote.{Vote}
use Rattle.lks_tally.specs.declared.ballots.At.{At}
use Rattle.lks_tally.specs.Counting.{key_for, agrees, for_at, voters_against, voters_for, landslide, verdict_at}
use Rattle.lks_tally.specs.Counting.{decided_at, first_from}
use Rattle.lks_tally.specs.Heads.{heads, matching, holders, others}

-- the first blocks with the next
pub take_next : (blocks : List (List ℕ)) (b : ℕ) (block : List ℕ) → slice_get blocks b ≡ Some block
    → take (b + 1) blocks ≡ take b blocks ++ block ∷ []
take_next blocks b block at =
    take_more blocks b [] (slice_get_within blocks b block at)
    ∙ ap (λ x. take b blocks ++ x ∷ []) (get_or_from_slice_get blocks b block [] at)

pub heads_push : (q : Ballot) (blocks : List (List ℕ)) (block : List ℕ) (votes : List Vote)
    → map (λ h. linked (is_second q.kind) h block) (heads q blocks votes) ≡ heads q (blocks ++ block ∷ []) votes
heads_push q blocks block [] = refl
heads_push q blocks block (v ∷ vs) =
    λ i. sym (running_more (is_second q.kind) (key_for q v.voter) blocks block) i ∷ heads_push q blocks block vs i

-- one link for each vote takes all running hashes on by a block
pub heads_more : (q : Ballot) (blocks : List (List ℕ)) (votes : List Vote) (b : ℕ) (block : List ℕ)
    → slice_get blocks b ≡ Some block
    → map (λ h. linked (is_second q.kind) h block) (heads q (take b blocks) votes) ≡ heads q (take (b + 1) blocks) votes
heads_more q blocks votes b block at =
    heads_push q (take b blocks) block votes ∙ ap (λ bs. heads q bs votes) (sym (take_next blocks b block at))

-- the votes with their voter's running hash are those for the blocks
pub matching_heads : (q : Ballot) (votes : List Vote) (blocks : List (List ℕ)) (b : ℕ)
    → matching b votes (heads q (take (b + 1) blocks) votes) ≡ for_at q votes blocks b
matching_heads q [] blocks b = refl
matching_heads q (v ∷ vs) blocks b =
    ap (λ n. cond (agrees q blocks b v) 1 0 + n) (matching_heads q vs blocks b)
    ∙ sym (sum_by-cons (λ x. cond (agrees q blocks b x) 1 0) v vs)

-- a voter that is left out or put first
put : (is_for : Bool) (v : Vote) (vs : List Vote)
    → cond is_for [] (v.voter ∷ []) ++ map (λ x. x.voter) vs ≡ map (λ x. x.voter) (cond (not is_for) (v ∷ vs) vs)
put true v vs = refl
put false v vs = refl

-- those of the other votes are against
pub others_heads : (q : Ballot) (votes : List Vote) (blocks : List (List ℕ)) (b : ℕ)
    → others b votes (heads q (take (b + 1) blocks) votes) ≡ voters_against q votes blocks b
others_heads q [] blocks b = refl
others_heads q (v ∷ vs) blocks b =
    ap (λ ids. cond (agrees q blocks b v) [] (v.voter ∷ []) ++ ids) (others_heads q vs blocks b)
    ∙ put (agrees q blocks b v) v (filter (λ x. not (agrees q blocks b x)) vs)

-- a voter that is put first or left out
keep : (is_for : Bool) (v : Vote) (vs : List Vote)
    → cond is_for (v.voter ∷ []) [] ++ map (λ x. x.voter) vs ≡ map (λ x. x.voter) (cond is_for (v ∷ vs) vs)
keep true v vs = refl
keep false v vs = refl

-- those of the votes with the hash are for
holders_heads : (q : Ballot) (votes : List Vote) (blocks : List (List ℕ)) (b : ℕ)
    → holders b votes (heads q (take (b + 1) blocks) votes) ≡ voters_for q votes blocks b
holders_heads q [] blocks b = refl
holders_heads q (v ∷ vs) blocks b =
    ap (λ ids. cond (agrees q blocks b v) (v.voter ∷ []) [] ++ ids) (holders_heads q vs blocks b)
    ∙ keep (agrees q blocks b v) v (filter (agrees q blocks b) vs)

pub holders_linked : (q : Ballot) (votes : List Vote) (blocks : List (List ℕ)) (b end : ℕ)
    (hashes keys : List (List ℕ))
    → end ≡ min (b + 1) (length blocks)
    → keys ≡ heads q (take end blocks) votes → hashes ≡ keys → holders b votes hashes ≡ voters_for q votes blocks b
holders_linked q votes blocks b end hashes keys end_is keys_are hashes_are =
    ap (holders b votes)
    (hashes_are ∙ keys_are
    ∙ ap (λ bs. heads q bs votes) (ap (λ n. take n blocks) end_is ∙ take_min (b + 1) blocks))
    ∙ holders_heads q votes blocks b

pub mul_more : (a b : ℕ) → a * (b + 1) ≡ a * b + a
mul_more a b = rw add-one (mul-suc a b)

-- one block more costs one link a vote
pub cost_more : (start now next votes heads b : ℕ) → now ≤ start + votes * b → next ≡ now + heads → heads ≡ votes
    → next ≤ start + votes * (b + 1)
cost_more start now next votes heads b so_far link each = omega (arith, mul_more votes b)

pub heads_length : (q : Ballot) (blocks : List (List ℕ)) (votes : List Vote)
    → length (heads q blocks votes) ≡ length votes
heads_length q blocks votes = length-map votes (λ v. running (is_second q.kind) (key_for q v.voter) blocks)

-- the verdict from a block on, by the verdict at it
pub first_more : (minority : ℕ) (q : Ballot) (votes : List Vote) (blocks : List (List ℕ)) (b : ℕ) → b < length blocks
    → first_from minority q votes blocks b (length blocks - b)
    ≡ decided_at (verdict_at minority q votes blocks b) b
    (first_from minority q votes blocks (b + 1) (length blocks - (b + 1)))
first_more minority q votes blocks b within =
    let left : length blocks - b ≡ suc (length blocks - (b + 1)) = omega arith in
    ap (first_from minority q votes blocks b) left

module _ (minority : ℕ) (q : Ballot) (votes : List Vote) (blocks : List (List ℕ)) (b : ℕ) where
  -- what the running hashes after a block say is the verdict at it
  pub at_heads_is : (hashes : List (List ℕ)) (a : At) → hashes ≡ heads q (take (b + 1) blocks) votes
      → a ≡ landslide minority (matching b votes hashes) (length votes - matching b votes hashes)
      → a ≡ verdict_at minority q votes blocks b
  at_heads_is hashes a hashes_are a_is =
      a_is ∙ ap (λ hs. landslide minority (matching b votes hs) (length votes - matching b votes hs)) hashes_are
      ∙ ap (λ n. landslide minority n (length votes - n)) (matching_heads q votes blocks b)

  -- one turn of the search for a block that is no win
  pub turn : (a : At) → b < length blocks → a ≡ verdict_at minority q votes blocks b
      → first_from minority q votes blocks b (length blocks - b)
      ≡ decided_at a b (first_from minority q votes blocks (b + 1) (length blocks - (b + 1)))
  turn a within a_is =
      first_more minority q votes blocks b within
      ∙ ap (λ x. decided_at x b (first_from minority q votes blocks (b + 1) (length blocks - (b + 1)))) (sym a_is)

  module _ (second : Bool) (keys hashes : List (List ℕ)) (block : List ℕ) (kind_is : second ≡ is_second q.kind)
      (keys_are : keys ≡ heads q (take b blocks) votes) (block_is : slice_get blocks b ≡ Some block)
      (hashes_are : hashes ≡ map (λ h. linked second h block) keys) where
    -- one link for each vote
    pub link : (hashes ≡ heads q (take (b + 1) blocks) votes) × (length keys ≡ length votes)
    link = (
      hashes_are ∙ (λ i. map (λ h. linked (kind_is i) h block) (keys_are i))
          ∙ heads_more q blocks votes b block block_is,
      ap length keys_are ∙ heads_length q (take b blocks) votes,
    )
