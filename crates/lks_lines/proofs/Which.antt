-- What a line of a plan found: what holds of each draft that it may make holds of the draft that it makes.
use Rattle.std.proofs.Common.{◌≡◌, ◌==◌, ◌∙◌, ap, sym, subst, ℕ, Bool, true, cond, List, [], ◌∷◌, ◌++◌, set, Option}
use Rattle.std.proofs.Common.{Some, None}
use Rattle.std.specs.Prelude.{slice_get}
use Rattle.std.specs.List.{position}
use Rattle.std.proofs.lemmas.List.Quantifiers.{position-Some}
use Rattle.std.proofs.lemmas.Option.{get_or_from_slice_get}
use Rattle.lks_base.specs.declared.names.HashKind.{HashKind}
use Rattle.lks_base.specs.declared.names.HashKind.TheVariants.{Sha256}
use Rattle.lks_base.specs.declared.plans.Holding.{Holding}
use Rattle.lks_base.specs.declared.plans.PeerPlan.{PeerPlan}
use Rattle.lks_base.specs.Checking.{has_member}
use Rattle.lks_lines.specs.declared.list_lines.ListKind.{ListKind}
use Rattle.lks_lines.specs.declared.plan_lines.PlanDraft.{PlanDraft}
use Rattle.lks_words.specs.Numbers.{◌>>=◌}
use Rattle.lks_words.specs.Words.{id_in, index_in, each_in, block_in, hash_in, kind_in, seed_in, proof_in}
use Rattle.lks_lines.specs.PlanLines.{peer_in, with_peers, may_add_peer, draft_with_peer}
use Rattle.lks_lines.specs.ListLines.{lacks_list, with_list, is_list, peers_with_list, draft_with_list, with_hash}
use Rattle.lks_lines.specs.ListLines.{hashing}
use Rattle.lks_lines.specs.ListLines.{draft_with_noted, draft_with_hash}
use Rattle.lks_lines.specs.CopyLines.{may_hold, with_copies, content_in, copies_with, holding, draft_with_copy}
use Rattle.lks_lines.specs.CopyLines.{copy_damaged, peers_with_damage, draft_with_damage}
use Rattle.lks_words.proofs.Steps.{bind_some, if_some, unless_some, some, same_some}

-- the first element that passes, and what is done with it
pub record Found {X Y : Type 0} (test : X → Bool) (xs : List X) (body : ℕ → X → Option Y) (y : Y) : Type 0 where
  pub at : ℕ
  pub x : X
  pub there : slice_get xs at ≡ Some x
  pub passes : test x ≡ true
  pub gives : body at x ≡ Some y

pub found_at : {X Y : Type 0} (test : X → Bool) (xs : List X) (body : ℕ → X → Option Y) (y : Y)
    → (position test xs >>= λ at. slice_get xs at >>= λ x. body at x) ≡ Some y → Found test xs body y
found_at test xs body y e =
    let a = bind_some (position test xs) (λ at. slice_get xs at >>= λ x. body at x) y e in
    let b = bind_some (slice_get xs a.0) (λ x. body a.0 x) y a.2 in
    record {
      at = a.0;
      x = b.0;
      there = b.1;
      passes = ap test (sym (get_or_from_slice_get xs a.0 b.0 b.0 b.1)) ∙ (position-Some test xs a.0 b.0 a.1).1;
      gives = b.2;
    }

-- a peer as its line says it
abbrev pub peer_of : ℕ → Bool → List ℕ → List ℕ → PeerPlan
peer_of id corrupt seed proof =
    record {
      id = id;
      corrupt = corrupt;
      seed = seed;
      proof = proof;
      refs = [];
      friends = [];
      copies = [];
      hash = Sha256;
    }

pub peer_found : (P : PeerPlan → Type 0) (words : List (List ℕ)) (p : PeerPlan)
    → ((w0 w2 w3 : List ℕ) (id : ℕ) (corrupt : Bool) (seed proof : List ℕ) → id_in w0 ≡ Some id
    → seed_in w2 ≡ Some seed → proof_in w3 ≡ Some proof → P (peer_of id corrupt seed proof))
    → peer_in words ≡ Some p → P p
unfolding peer_in
peer_found P (w0 ∷ w1 ∷ w2 ∷ w3 ∷ []) p each e =
    let a0 = bind_some (id_in w0)
    (λ n. kind_in w1 >>= λ corrupt. seed_in w2 >>= λ s. proof_in w3 >>= λ f. some (peer_of n corrupt s f)) p e
    in
    let a1 = bind_some (kind_in w1)
    (λ corrupt. seed_in w2 >>= λ s. proof_in w3 >>= λ f. some (peer_of a0.0 corrupt s f)) p a0.2 in
    let a2 = bind_some (seed_in w2) (λ s. proof_in w3 >>= λ f. some (peer_of a0.0 a1.0 s f)) p a1.2 in
    let a3 = bind_some (proof_in w3) (λ f. some (peer_of a0.0 a1.0 a2.0 f)) p a2.2 in
    subst P (same_some (peer_of a0.0 a1.0 a2.0 a3.0) p a3.2) (each w0 w2 w3 a0.0 a1.0 a2.0 a3.0 a0.1 a2.1 a3.1)
peer_found P _ p each e = absurd cc

-- the draft that notes besides that the hash of this peer was said
abbrev pub also_noted : PlanDraft → ℕ → PlanDraft
also_noted d id = record { plan = d.plan; bytes = d.bytes; hashed = d.hashed ++ id ∷ [] }

-- P holds where the copies of a peer that may hold some are others
abbrev pub HoldsWith : (PlanDraft → Type 0) → PlanDraft → ℕ → (List Holding → Option (List Holding × ℕ)) → Type 0
HoldsWith P d id change =
    (at : ℕ) (p : PeerPlan) (kept : List Holding × ℕ) → slice_get d.plan.peers at ≡ Some p → may_hold id p ≡ true
    → change p.copies ≡ Some kept → P (with_peers d (set d.plan.peers at (with_copies p kept.0)) kept.1)

module _ (P : PlanDraft → Type 0) (d now : PlanDraft) where
  pub added_peer : (words : List (List ℕ))
      → ((p : PeerPlan) → peer_in words ≡ Some p → may_add_peer d.plan p ≡ true
      → P (with_peers d (d.plan.peers ++ p ∷ []) d.bytes))
      → draft_with_peer d words ≡ Some now → P now
  unfolding draft_with_peer
  added_peer words each e =
      let a = bind_some (peer_in words)
      (λ p. cond (may_add_peer d.plan p) (some (with_peers d (d.plan.peers ++ p ∷ []) d.bytes)) None) now e in
      let b = if_some (may_add_peer d.plan a.0) (some (with_peers d (d.plan.peers ++ a.0 ∷ []) d.bytes)) now a.2 in
      subst P (same_some (with_peers d (d.plan.peers ++ a.0 ∷ []) d.bytes) now b.1) (each a.0 a.1 b.0)

  pub list_found : (kind : ListKind) (words : List (List ℕ))
      → ((at id : ℕ) (p : PeerPlan) (ids : List ℕ) → slice_get d.plan.peers at ≡ Some p
      → lacks_list kind id p ≡ true → is_list d.plan.peers id ids ≡ true
      → P (with_peers d (set d.plan.peers at (with_list kind p ids)) d.bytes))
      → draft_with_list kind d words ≡ Some now → P now
  unfolding draft_with_list peers_with_list
  list_found kind [] each e = absurd cc
  list_found kind (id ∷ words) each e =
      let a = bind_some (id_in id)
      (λ n. each_in id_in words >>= λ ids. peers_with_list kind n ids d.plan.peers >>= λ peers. some
      (with_peers d peers d.bytes)) now e in
      let b = bind_some (each_in id_in words)
      (λ ids. peers_with_list kind a.0 ids d.plan.peers >>= λ peers. some (with_peers d peers d.bytes)) now a.2 in
      let c = bind_some (peers_with_list kind a.0 b.0 d.plan.peers)
      (λ peers. some (with_peers d peers d.bytes)) now b.2 in
      let f = found_at (lacks_list kind a.0) d.plan.peers
      (λ at peer. cond (is_list d.plan.peers a.0 b.0) (some (set d.plan.peers at (with_list kind peer b.0)))
      None) c.0 c.1 in
      let made = if_some (is_list d.plan.peers a.0 b.0) (some (set d.plan.peers f.at (with_list kind f.x b.0))) c.0
      f.gives in
      let is = ap (λ peers. with_peers d peers d.bytes)
      (same_some (set d.plan.peers f.at (with_list kind f.x b.0)) c.0 made.1) in
      subst P (is ∙ same_some (with_peers d c.0 d.bytes) now c.2) (each f.at a.0 f.x b.0 f.there f.passes made.0)

  pub hash_found : (words : List (List ℕ))
      → ((at id : ℕ) (p : PeerPlan) (hash : HashKind) → slice_get d.plan.peers at ≡ Some p
      → P (also_noted (with_peers d (set d.plan.peers at (with_hash p hash)) d.bytes) id))
      → draft_with_hash d words ≡ Some now → P now
  unfolding draft_with_hash hashing draft_with_noted
  hash_found (id ∷ name ∷ []) each e =
      let a = bind_some (id_in id)
      (λ n. hash_in name >>= λ hash. hashing n hash d.plan.peers >>= λ peers.
      draft_with_noted (with_peers d peers d.bytes)
      n) now e in
      let b = bind_some (hash_in name)
      (λ hash. hashing a.0 hash d.plan.peers >>= λ peers. draft_with_noted (with_peers d peers d.bytes) a.0) now a.2 in
      let c = bind_some (hashing a.0 b.0 d.plan.peers)
      (λ peers. draft_with_noted (with_peers d peers d.bytes) a.0) now b.2 in
      let f = found_at (λ (p : PeerPlan). p.id == a.0) d.plan.peers
      (λ at peer. some (set d.plan.peers at (with_hash peer b.0))) c.0 c.1 in
      let longer = also_noted (with_peers d c.0 d.bytes) a.0 in
      let is = ap (λ peers. also_noted (with_peers d peers d.bytes) a.0)
      (same_some (set d.plan.peers f.at (with_hash f.x b.0)) c.0 f.gives) in
      subst P (is ∙ same_some longer now (unless_some (has_member d.hashed a.0) (some longer) now c.2))
      (each f.at a.0 f.x b.0 f.there)
  hash_found _ each e = absurd cc

  copies_found : (id : ℕ) (change : List Holding → Option (List Holding × ℕ)) (kept : List PeerPlan × ℕ)
      → HoldsWith P d id change
      → (position (may_hold id) d.plan.peers >>= λ at. slice_get d.plan.peers at >>= λ peer. change peer.copies >>=
      λ kept. some (set d.plan.peers at (with_copies peer kept.0), kept.1))
      ≡ Some kept
      → some (with_peers d kept.0 kept.1) ≡ Some now → P now
  copies_found id change kept each e made =
      let f = found_at (may_hold id) d.plan.peers
      (λ at peer. change peer.copies >>= λ kept. some (set d.plan.peers at (with_copies peer kept.0), kept.1))
      kept e in
      let a = bind_some (change f.x.copies) (λ kept. some (set d.plan.peers f.at (with_copies f.x kept.0), kept.1))
      kept f.gives in
      let is = ap (λ (k : List PeerPlan × ℕ). with_peers d k.0 k.1)
      (same_some (set d.plan.peers f.at (with_copies f.x a.0.0), a.0.1) kept a.2) in
      subst P (is ∙ same_some (with_peers d kept.0 kept.1) now made) (each f.at f.x a.0 f.there f.passes a.1)

  pub copy_found : (words : List (List ℕ))
      → ((id au : ℕ) (content blocks : List (List ℕ)) → content_in d.plan.peers au content ≡ Some blocks
      → HoldsWith P d id (copies_with d.plan.aus d.bytes (record { au = au; blocks = blocks })))
      → draft_with_copy d words ≡ Some now → P now
  unfolding draft_with_copy holding
  copy_found (id ∷ au ∷ content) each e =
      let a = bind_some (id_in id)
      (λ n. id_in au >>= λ k. content_in d.plan.peers k content >>= λ blocks. holding d.plan.aus d.bytes n
      (record { au = k; blocks = blocks }) d.plan.peers >>= λ kept. some (with_peers d kept.0 kept.1)) now e in
      let b = bind_some (id_in au)
      (λ k. content_in d.plan.peers k content >>= λ blocks. holding d.plan.aus d.bytes a.0
      (record { au = k; blocks = blocks }) d.plan.peers >>= λ kept. some (with_peers d kept.0 kept.1)) now a.2
      in
      let c = bind_some (content_in d.plan.peers b.0 content)
      (λ blocks. holding d.plan.aus d.bytes a.0 (record { au = b.0; blocks = blocks }) d.plan.peers >>= λ kept.
      some (with_peers d kept.0 kept.1)) now b.2 in
      let f = bind_some (holding d.plan.aus d.bytes a.0 (record { au = b.0; blocks = c.0 }) d.plan.peers)
      (λ kept. some (with_peers d kept.0 kept.1)) now c.2 in
      copies_found a.0 (copies_with d.plan.aus d.bytes (record { au = b.0; blocks = c.0 })) f.0
      (each a.0 b.0 content c.0 c.1) f.1 f.2
  copy_found _ each e = absurd cc

  pub damage_found : (words : List (List ℕ))
      → ((id au index : ℕ) (content block : List ℕ) → block_in content ≡ Some block
      → HoldsWith P d id (copy_damaged d.bytes au index block))
      → draft_with_damage d words ≡ Some now → P now
  unfolding draft_with_damage peers_with_damage
  damage_found (id ∷ au ∷ index ∷ content ∷ []) each e =
      let a = bind_some (id_in id)
      (λ n. id_in au >>= λ k. index_in index >>= λ b. block_in content >>= λ block.
      peers_with_damage d.bytes n k b block
      d.plan.peers >>= λ kept. some (with_peers d kept.0 kept.1)) now e in
      let b = bind_some (id_in au)
      (λ k. index_in index >>= λ b. block_in content >>= λ block.
      peers_with_damage d.bytes a.0 k b block d.plan.peers >>=
      λ kept. some (with_peers d kept.0 kept.1)) now a.2 in
      let c = bind_some (index_in index)
      (λ i. block_in content >>= λ block. peers_with_damage d.bytes a.0 b.0 i block d.plan.peers >>= λ kept. some
      (with_peers d kept.0 kept.1)) now b.2 in
      let f = bind_some (block_in content)
      (λ block. peers_with_damage d.bytes a.0 b.0 c.0 block d.plan.peers >>= λ kept. some (with_peers d kept.0 kept.1))
      now c.2 in
      let g = bind_some (peers_with_damage d.bytes a.0 b.0 c.0 f.0 d.plan.peers)
      (λ kept. some (with_peers d kept.0 kept.1))
      now f.2 in
      copies_found a.0 (copy_damaged d.bytes b.0 c.0 f.0) g.0 (each a.0 b.0 c.0 content f.0 f.1) g.1 g.2
  damage_found _ each e = absurd cc
