-- A script that was read is said: its values are in their limits, and each of its steps can stand behind those before
-- it.
use Rattle.std.proofs.Common.{◌≡◌, ℕ, zero, suc, ◌-◌, Bool, cond, eqb, is_none, List, [], ◌∷◌, ◌++◌, length, set}
use Rattle.std.proofs.Common.{Option, Some, None, Ok, sym, subst, append_assoc}
use Rattle.std.specs.Prelude.{codes, nat_le, slice_get}
use Rattle.std.specs.List.{All, find}
use Rattle.std.specs.Str.{bytes_eq}
use Rattle.std.proofs.lemmas.List.{append-nil}
use Rattle.std.proofs.lemmas.List.Elements.{All-nil, All-head, All-tail, All-push, All-set}
use Rattle.lks_base.specs.Checking.{bytes_of_blocks, copy_fault}
use Rattle.lks_base.specs.declared.limits.TheConstants.{MOST_BLOCK_BYTES}
use Rattle.lks_base.specs.declared.plans.AuPlan.{AuPlan}
use Rattle.lks_base.specs.declared.plans.Holding.{Holding}
use Rattle.lks_base.specs.declared.plans.PeerPlan.{PeerPlan}
use Rattle.lks_base.specs.declared.plans.Plan.{Plan}
use Rattle.lks_lines.specs.declared.list_lines.ListKind.{ListKind}
use Rattle.lks_lines.specs.declared.list_lines.ListKind.TheVariants.{Refs, Friends}
use Rattle.lks_lines.specs.declared.plan_lines.PlanDraft.{PlanDraft}
use Rattle.lks_lines.specs.PlanLines.{begun_draft, peer_in, draft_with_peer}
use Rattle.lks_lines.specs.ListLines.{with_list, draft_with_list, with_hash, draft_with_hash}
use Rattle.lks_lines.specs.CopyLines.{with_copies, copy_at, content_in, with_more, copies_with, draft_with_copy}
use Rattle.lks_lines.specs.CopyLines.{block_put, copy_damaged, draft_with_damage}
use Rattle.lks_script.specs.declared.drafts.Draft.{Draft}
use Rattle.lks_script.specs.declared.drafts.Draft.TheVariants.{Planned, Stepped}
use Rattle.lks_script.specs.declared.steps.Script.{Script}
use Rattle.lks_script.specs.declared.steps.Step.{Step}
use Rattle.lks_script.specs.Grammar.{script_of}
use Rattle.lks_script.proofs.Sound.{plan_is_good}
use Rattle.lks_script.proofs.Which.{IsKept, script_kept}
use Rattle.lks_lines.proofs.Which.{found_at, peer_found, added_peer, list_found, hash_found, HoldsWith, copy_found}
use Rattle.lks_lines.proofs.Which.{damage_found}
use Rattle.lks_words.specs.Numbers.{◌>>=◌}
use Rattle.lks_words.specs.Texts.{AreFew}
use Rattle.lks_words.specs.Words.{id_in}
use Rattle.lks_words.proofs.Decimals.{number_most}
use Rattle.lks_words.proofs.Kept.{seed_fits, proof_fits, block_fits, blocks_fit}
use Rattle.lks_words.proofs.Steps.{bind_some, if_some, if_else, some, same_some}
use Rattle.lks_print.proofs.Kept.{step_kept}
use Rattle.lks_print.specs.Said.{IsSaidPeer, CanFollow, StepsFollow, IsSaid}

-- ---- what holds of each element

module _ {X : Type 0} (P : X → Type 0) where
  all_get : (xs : List X) (at : ℕ) (x : X) → All P xs → slice_get xs at ≡ Some x → P x
  all_get [] at x h e = absurd cc
  all_get (z ∷ zs) zero x h e = subst P (same_some z x e) (All-head P z zs h)
  all_get (z ∷ zs) (suc at) x h e = all_get zs at x (All-tail P z zs h) e

  all_find : (test : X → Bool) (xs : List X) (x : X) → All P xs → find test xs ≡ Some x → P x
  all_find test [] x h e = absurd cc
  all_find test (z ∷ zs) x h e =
      if_else (test z) (some z) (find test zs) x (λ here. subst P (same_some z x here) (All-head P z zs h))
      (all_find test zs x (All-tail P z zs h)) e

-- ---- peers

abbrev AreShort : Holding → Type 0
AreShort c = All (AreFew MOST_BLOCK_BYTES) c.blocks

peer_said : (words : List (List ℕ)) (p : PeerPlan) → peer_in words ≡ Some p → IsSaidPeer p
peer_said words p = peer_found IsSaidPeer words p (λ w0 w2 w3 id corrupt seed proof n s f.
    let fits = seed_fits w2 seed s in
    record {
      id = number_most 65535 w0 id n;
      seed = fits.0;
      long = fits.1;
      proof = proof_fits w3 proof f;
      copies = All-nil AreShort;
    })

-- a draft whose peers are said
abbrev ArePeers : PlanDraft → Type 0
ArePeers d = All IsSaidPeer d.plan.peers

peer_kept : (d now : PlanDraft) (words : List (List ℕ)) → ArePeers d → draft_with_peer d words ≡ Some now → ArePeers now
peer_kept d now words h =
    added_peer ArePeers d now words (λ p said may. All-push IsSaidPeer d.plan.peers p h (peer_said words p said))

-- ---- lists and hashes

list_said : (kind : ListKind) (p : PeerPlan) (ids : List ℕ) → IsSaidPeer p → IsSaidPeer (with_list kind p ids)
unfolding with_list
list_said Refs p ids h = record { id = h.id; seed = h.seed; long = h.long; proof = h.proof; copies = h.copies }
list_said Friends p ids h = record { id = h.id; seed = h.seed; long = h.long; proof = h.proof; copies = h.copies }

list_kept : (kind : ListKind) (d now : PlanDraft) (words : List (List ℕ)) → ArePeers d
    → draft_with_list kind d words ≡ Some now → ArePeers now
list_kept kind d now words h = list_found ArePeers d now kind words (λ at id p ids there lacks good.
    All-set IsSaidPeer d.plan.peers at (with_list kind p ids)
    (list_said kind p ids (all_get IsSaidPeer d.plan.peers at p h there)) h)

hash_kept : (d now : PlanDraft) (words : List (List ℕ)) → ArePeers d → draft_with_hash d words ≡ Some now → ArePeers now
hash_kept d now words h = hash_found ArePeers d now words (λ at id p hash there.
    let was = all_get IsSaidPeer d.plan.peers at p h there in
    All-set IsSaidPeer d.plan.peers at (with_hash p hash)
    (record { id = was.id; seed = was.seed; long = was.long; proof = was.proof; copies = was.copies }) h)

-- ---- copies

copy_said : (peers : List PeerPlan) (id au : ℕ) (blocks : List (List ℕ)) → All IsSaidPeer peers
    → copy_at peers id au ≡ Some blocks → All (AreFew MOST_BLOCK_BYTES) blocks
unfolding copy_at
copy_said peers id au blocks h e =
    let a = bind_some (find (λ p. eqb p.id id) peers)
    (λ peer. find (λ c. eqb c.au au) peer.copies >>= λ copy. some copy.blocks) blocks e in
    let b = bind_some (find (λ c. eqb c.au au) a.0.copies) (λ copy. some copy.blocks) blocks a.2 in
    let peer = all_find IsSaidPeer (λ p. eqb p.id id) peers a.0 h a.1 in
    subst (All (AreFew MOST_BLOCK_BYTES)) (same_some b.0.blocks blocks b.2)
    (all_find AreShort (λ c. eqb c.au au) a.0.copies b.0 peer.copies b.1)

content_said : (peers : List PeerPlan) (au : ℕ) (words : List (List ℕ)) (blocks : List (List ℕ))
    → All IsSaidPeer peers → content_in peers au words ≡ Some blocks → All (AreFew MOST_BLOCK_BYTES) blocks
unfolding content_in
content_said peers au [] blocks h e = absurd cc
content_said peers au (word ∷ []) blocks h e = (blocks_fit word blocks e).1
content_said peers au (like ∷ id ∷ []) blocks h e =
    let a = if_some (bytes_eq like (codes "like")) (id_in id >>= λ q. copy_at peers q au) blocks e in
    let b = bind_some (id_in id) (λ q. copy_at peers q au) blocks a.1 in
    copy_said peers b.0 au blocks h b.2
content_said peers au (a ∷ b ∷ c ∷ words) blocks h e = absurd cc

-- the copies of one peer are others now, and said too
copies_put : (d : PlanDraft) (id : ℕ) (change : List Holding → Option (List Holding × ℕ)) → ArePeers d
    → ((copies : List Holding) (kept : List Holding × ℕ) → All AreShort copies → change copies ≡ Some kept
    → All AreShort kept.0)
    → HoldsWith ArePeers d id change
copies_put d id change h fine at p kept there holds changed =
    let was = all_get IsSaidPeer d.plan.peers at p h there in
    let one : IsSaidPeer
    (with_copies p kept.0) = record {
      id = was.id;
      seed = was.seed;
      long = was.long;
      proof = was.proof;
      copies = fine p.copies kept was.copies changed;
    } in
    All-set IsSaidPeer d.plan.peers at (with_copies p kept.0) one h

copies_more : (aus : List AuPlan) (bytes : ℕ) (copy : Holding) → AreShort copy
    → (copies : List Holding) (kept : List Holding × ℕ) → All AreShort copies
    → copies_with aus bytes copy copies ≡ Some kept → All AreShort kept.0
unfolding copies_with
copies_more aus bytes copy short copies kept h e =
    let a = bind_some (with_more bytes (bytes_of_blocks copy.blocks))
    (λ all. cond (is_none (copy_fault aus copies copy)) (some (copies ++ copy ∷ [], all)) None) kept e in
    let b = if_some (is_none (copy_fault aus copies copy)) (some (copies ++ copy ∷ [], a.0)) kept a.2 in
    subst (λ (k : List Holding × ℕ). All AreShort k.0) (same_some (copies ++ copy ∷ [], a.0) kept b.1)
    (All-push AreShort copies copy h short)

copy_kept : (d now : PlanDraft) (words : List (List ℕ)) → ArePeers d → draft_with_copy d words ≡ Some now → ArePeers now
copy_kept d now words h = copy_found ArePeers d now words (λ id au content blocks said.
    let copy : Holding = record { au = au; blocks = blocks } in
    copies_put d id (copies_with d.plan.aus d.bytes copy) h
    (copies_more d.plan.aus d.bytes copy (content_said d.plan.peers au content blocks h said)))

-- ---- damage

put_short : (bytes b : ℕ) (block : List ℕ) (blocks : List (List ℕ)) (put : List (List ℕ) × ℕ)
    → AreFew MOST_BLOCK_BYTES block → All (AreFew MOST_BLOCK_BYTES) blocks
    → block_put bytes b block blocks ≡ Some put
    → All (AreFew MOST_BLOCK_BYTES) put.0
unfolding block_put
put_short bytes b block blocks put few h e =
    let a = bind_some (slice_get blocks b)
    (λ old. with_more (bytes - length old) (length block) >>= λ all. cond
    (nat_le (length block) MOST_BLOCK_BYTES) (some (set blocks b block, all)) None) put e in
    let c = bind_some (with_more (bytes - length a.0) (length block))
    (λ all. cond (nat_le (length block) MOST_BLOCK_BYTES) (some (set blocks b block, all)) None) put a.2 in
    let f = if_some (nat_le (length block) MOST_BLOCK_BYTES) (some (set blocks b block, c.0)) put c.2 in
    subst (λ (k : List (List ℕ) × ℕ). All (AreFew MOST_BLOCK_BYTES) k.0)
    (same_some (set blocks b block, c.0) put f.1) (All-set (AreFew MOST_BLOCK_BYTES) blocks b block few h)

damage_short : (bytes au b : ℕ) (block : List ℕ) → AreFew MOST_BLOCK_BYTES block
    → (copies : List Holding) (kept : List Holding × ℕ) → All AreShort copies
    → copy_damaged bytes au b block copies ≡ Some kept → All AreShort kept.0
unfolding copy_damaged
damage_short bytes au b block few copies kept h e =
    let f = found_at (λ (c : Holding). eqb c.au au) copies
    (λ at copy. block_put bytes b block copy.blocks >>= λ put. some
    (set copies at (record { au = copy.au; blocks = put.0 }), put.1)) kept e in
    let a = bind_some (block_put bytes b block f.x.blocks)
    (λ put. some (set copies f.at (record { au = f.x.au; blocks = put.0 }), put.1)) kept f.gives in
    let now : Holding = record { au = f.x.au; blocks = a.0.0 } in
    subst (λ (k : List Holding × ℕ). All AreShort k.0) (same_some (set copies f.at now, a.0.1) kept a.2)
    (All-set AreShort copies f.at now
    (put_short bytes b block f.x.blocks a.0 few (all_get AreShort copies f.at f.x h f.there) a.1) h)

damage_kept : (d now : PlanDraft) (words : List (List ℕ)) → ArePeers d → draft_with_damage d words ≡ Some now
    → ArePeers now
damage_kept d now words h =
    damage_found ArePeers d now words
    (λ id au b content block said. copies_put d id (copy_damaged d.bytes au b block) h
    (damage_short d.bytes au b block (block_fits content block said)))

-- ---- steps

-- one step more at the end
follow_more : (plan : Plan) (before steps : List Step) (step : Step) → StepsFollow plan before steps
    → CanFollow plan (before ++ steps) step → StepsFollow plan before (steps ++ step ∷ [])
follow_more plan before [] step h can = (subst (λ b. CanFollow plan b step) (append-nil before) can, tt)
follow_more plan before (s ∷ steps) step h can = (
  h.0,
  follow_more plan (before ++ s ∷ []) steps step h.1
      (subst (λ b. CanFollow plan b step) (sym (append_assoc before (s ∷ []) steps)) can),
)

-- ---- the script so far

abbrev Drafted : Draft → Type 0
Drafted (Planned at plan) = ArePeers plan
Drafted (Stepped plan steps) = All IsSaidPeer plan.peers × StepsFollow plan [] steps
Drafted _ = Unit {0}

drafted_kept : IsKept Drafted
drafted_kept = record {
  title = tt;
  rules = λ words rules e. tt;
  turns = λ rules word n h e. tt;
  au = λ rules turns aus now words h e. tt;
  first_peer = λ rules turns aus now words h. peer_kept (begun_draft rules turns aus) now words (All-nil IsSaidPeer);
  peer = λ at. peer_kept;
  list = λ kind at. list_kept kind;
  hash = λ at. hash_kept;
  copy = λ at. copy_kept;
  damage = λ at. damage_kept;
  no_steps = λ at plan h. (h, tt);
  step =
      λ plan steps step key more h e stands.
      (h.0, follow_more plan [] steps step h.1 (record { said = step_kept key more step e; stands = stands }));
}

-- a script that the bytes say
pub said_script : (bytes : List ℕ) (s : Script) → script_of bytes ≡ Ok s → IsSaid s
said_script bytes s e =
    let read = script_kept Drafted drafted_kept bytes s tt e in
    record { good = plan_is_good (Ok s) bytes e; peers = read.0; steps = read.1 }
