-- Lines that say a peer's lists and its hash.
use Rattle.std.specs.Prelude.{ℕ, ◌==◌, Bool, not, ◌&&◌, nat_le, if◌then◌else◌, List, [], ◌∷◌, ◌++◌, length, Option}
use Rattle.std.specs.Prelude.{Some, None, is_none, slice_get}
use Rattle.std.specs.List.{position, slice_set}
use Rattle.lks_base.specs.declared.names.HashKind.{HashKind}
use Rattle.lks_base.specs.declared.plans.PeerPlan.{PeerPlan}
use Rattle.lks_base.specs.Checking.{each, has_member, member_fault}
use Rattle.lks_lines.specs.declared.list_lines.ListKind.{ListKind}
use Rattle.lks_lines.specs.declared.list_lines.ListKind.TheVariants.{Refs, Friends}
use Rattle.lks_lines.specs.declared.plan_lines.PlanDraft.{PlanDraft}
use Rattle.lks_words.specs.Numbers.{◌>>=◌}
use Rattle.lks_words.specs.Words.{each_in, id_in, hash_in}
use Rattle.lks_lines.specs.PlanLines.{with_peers}

-- the reference list of a peer, or its friends
unfoldable pub list_of : ListKind → PeerPlan → List ℕ
list_of Refs p = p.refs
list_of Friends p = p.friends

-- an honest peer of this number that has no list of the kind yet
unfoldable pub lacks_list : ListKind → ℕ → PeerPlan → Bool
lacks_list kind id peer = peer.id == id && not peer.corrupt && length (list_of kind peer) == 0

-- the peer with this list of the kind
unfoldable pub with_list : ListKind → PeerPlan → List ℕ → PeerPlan
with_list Refs p ids =
    record {
      id = p.id;
      corrupt = p.corrupt;
      seed = p.seed;
      proof = p.proof;
      refs = ids;
      friends = p.friends;
      copies = p.copies;
      hash = p.hash;
    }
with_list Friends p ids =
    record {
      id = p.id;
      corrupt = p.corrupt;
      seed = p.seed;
      proof = p.proof;
      refs = p.refs;
      friends = ids;
      copies = p.copies;
      hash = p.hash;
    }

-- one peer or more, each a declared one, none the peer itself, and none twice
unfoldable pub is_list : List PeerPlan → ℕ → List ℕ → Bool
is_list peers id ids = nat_le 1 (length ids) && is_none (each (member_fault peers id) [] ids)

-- the peers, of which one has a list more
unfoldable pub peers_with_list : ListKind → ℕ → List ℕ → List PeerPlan → Option (List PeerPlan)
peers_with_list kind id ids peers = do
  at ← position (lacks_list kind id) peers
  peer ← slice_get peers at
  if is_list peers id ids then Some (slice_set peers at (with_list kind peer ids)) else None

-- refs P Q ..., friends P Q ...
unfoldable pub draft_with_list : ListKind → PlanDraft → List (List ℕ) → Option PlanDraft
draft_with_list kind d (id ∷ words) = do
  p ← id_in id
  ids ← each_in id_in words
  peers ← peers_with_list kind p ids d.plan.peers
  Some (with_peers d peers d.bytes)
draft_with_list kind d _ = None

-- the peer with this hash
abbrev pub with_hash : PeerPlan → HashKind → PeerPlan
with_hash p hash =
    record {
      id = p.id;
      corrupt = p.corrupt;
      seed = p.seed;
      proof = p.proof;
      refs = p.refs;
      friends = p.friends;
      copies = p.copies;
      hash = hash;
    }

-- the peers, of which one has this hash
unfoldable pub hashing : ℕ → HashKind → List PeerPlan → Option (List PeerPlan)
hashing id hash peers = do
  at ← position (λ p. p.id == id) peers
  peer ← slice_get peers at
  Some (slice_set peers at (with_hash peer hash))

-- the draft that notes besides that the hash of this peer was said, which it wasn't yet
unfoldable pub draft_with_noted : PlanDraft → ℕ → Option PlanDraft
draft_with_noted d id =
    if has_member d.hashed id then None
    else Some (record { plan = d.plan; bytes = d.bytes; hashed = d.hashed ++ id ∷ [] })

-- hash P sha256, hash P sha512-256
unfoldable pub draft_with_hash : PlanDraft → List (List ℕ) → Option PlanDraft
draft_with_hash d (id ∷ name ∷ []) = do
  p ← id_in id
  hash ← hash_in name
  peers ← hashing p hash d.plan.peers
  draft_with_noted (with_peers d peers d.bytes) p
draft_with_hash d _ = None
