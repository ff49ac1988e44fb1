-- Lines that say what copies a peer has.
use Rattle.std.specs.Prelude.{ℕ, ◌+◌, ◌-◌, ◌==◌, Bool, not, ◌&&◌, nat_le, if◌then◌else◌, List, [], ◌∷◌, ◌++◌, length}
use Rattle.std.specs.Prelude.{codes, Option, Some, None, is_none, slice_get}
use Rattle.std.specs.List.{find, position, slice_set}
use Rattle.std.specs.Str.{bytes_eq}
use Rattle.lks_base.specs.declared.limits.TheConstants.{MOST_BLOCK_BYTES, MOST_COPY_BYTES}
use Rattle.lks_base.specs.declared.plans.AuPlan.{AuPlan}
use Rattle.lks_base.specs.declared.plans.Holding.{Holding}
use Rattle.lks_base.specs.declared.plans.PeerPlan.{PeerPlan}
use Rattle.lks_base.specs.Checking.{bytes_of_blocks, copy_fault}
use Rattle.lks_lines.specs.declared.plan_lines.PlanDraft.{PlanDraft}
use Rattle.lks_words.specs.Numbers.{◌>>=◌}
use Rattle.lks_words.specs.Words.{id_in, index_in, block_in, blocks_in}
use Rattle.lks_lines.specs.PlanLines.{with_peers}

-- an honest peer of this number
unfoldable pub may_hold : ℕ → PeerPlan → Bool
may_hold id peer = peer.id == id && not peer.corrupt

-- the peer with these copies
abbrev pub with_copies : PeerPlan → List Holding → PeerPlan
with_copies p copies =
    record {
      id = p.id;
      corrupt = p.corrupt;
      seed = p.seed;
      proof = p.proof;
      refs = p.refs;
      friends = p.friends;
      copies = copies;
      hash = p.hash;
    }

-- the blocks of a peer's copy of an AU, as they stand now
unfoldable pub copy_at : List PeerPlan → ℕ → ℕ → Option (List (List ℕ))
copy_at peers id au = do
  peer ← find (λ p. p.id == id) peers
  copy ← find (λ c. c.au == au) peer.copies
  Some copy.blocks

-- BLOCKS, like Q
unfoldable pub content_in : List PeerPlan → ℕ → List (List ℕ) → Option (List (List ℕ))
content_in peers au (blocks ∷ []) = blocks_in blocks
content_in peers au (like ∷ id ∷ []) =
    if bytes_eq like (codes "like") then (id_in id >>= λ q. copy_at peers q au) else None
content_in peers au _ = None

-- so many bytes and so many more, if all copies may have them
unfoldable pub with_more : ℕ → ℕ → Option ℕ
with_more bytes more = if nat_le (bytes + more) MOST_COPY_BYTES then Some (bytes + more) else None

-- the copies of a peer with one more, and the bytes of all copies
unfoldable pub copies_with : List AuPlan → ℕ → Holding → List Holding → Option (List Holding × ℕ)
copies_with aus bytes copy copies = do
  all ← with_more bytes (bytes_of_blocks copy.blocks)
  if is_none (copy_fault aus copies copy) then Some (copies ++ copy ∷ [], all) else None

-- the peers, of which one has a copy more
unfoldable pub holding : List AuPlan → ℕ → ℕ → Holding → List PeerPlan → Option (List PeerPlan × ℕ)
holding aus bytes id copy peers = do
  at ← position (may_hold id) peers
  peer ← slice_get peers at
  kept ← copies_with aus bytes copy peer.copies
  Some (slice_set peers at (with_copies peer kept.0), kept.1)

-- copy P A BLOCKS, copy P A like Q
unfoldable pub draft_with_copy : PlanDraft → List (List ℕ) → Option PlanDraft
draft_with_copy d (id ∷ au ∷ content) = do
  p ← id_in id
  a ← id_in au
  blocks ← content_in d.plan.peers a content
  kept ← holding d.plan.aus d.bytes p (record { au = a; blocks = blocks }) d.plan.peers
  Some (with_peers d kept.0 kept.1)
draft_with_copy d _ = None

-- the blocks, of which one is another, and the bytes of all copies
unfoldable pub block_put : ℕ → ℕ → List ℕ → List (List ℕ) → Option (List (List ℕ) × ℕ)
block_put bytes b block blocks = do
  old ← slice_get blocks b
  all ← with_more (bytes - length old) (length block)
  if nat_le (length block) MOST_BLOCK_BYTES then Some (slice_set blocks b block, all) else None

-- the copies, of which one has another block
unfoldable pub copy_damaged : ℕ → ℕ → ℕ → List ℕ → List Holding → Option (List Holding × ℕ)
copy_damaged bytes au b block copies = do
  at ← position (λ c. c.au == au) copies
  copy ← slice_get copies at
  put ← block_put bytes b block copy.blocks
  Some (slice_set copies at (record { au = copy.au; blocks = put.0 }), put.1)

-- the peers, of which one has another block
unfoldable pub peers_with_damage : ℕ → ℕ → ℕ → ℕ → List ℕ → List PeerPlan → Option (List PeerPlan × ℕ)
peers_with_damage bytes id au b block peers = do
  at ← position (may_hold id) peers
  peer ← slice_get peers at
  kept ← copy_damaged bytes au b block peer.copies
  Some (slice_set peers at (with_copies peer kept.0), kept.1)

-- damage P A B BLOCK
unfoldable pub draft_with_damage : PlanDraft → List (List ℕ) → Option PlanDraft
draft_with_damage d (id ∷ au ∷ index ∷ content ∷ []) = do
  p ← id_in id
  a ← id_in au
  b ← index_in index
  block ← block_in content
  kept ← peers_with_damage d.bytes p a b block d.plan.peers
  Some (with_peers d kept.0 kept.1)
draft_with_damage d _ = None
