-- What is read breaks no rule: the draft of a plan passes the check of plans.
use Rattle.std.proofs.Common.{◌≡◌, ◌≤◌, ◌<◌, ◌+◌, ◌-◌, ◌==◌, ◌∙◌, ap, sym, subst, ℕ, zero, suc, Bool, true, false}
use Rattle.std.proofs.Common.{cond, not, ◌&&◌, ◌||◌, List, [], ◌∷◌, ◌++◌, length, get_or, set, map, Option, Some}
use Rattle.std.proofs.Common.{None, is_none, refl, append_assoc, arith}
use Rattle.std.specs.Prelude.{nat_le, nat_lt, slice_get}
use Rattle.std.specs.List.{list_all, list_any}
use Rattle.std.proofs.lemmas.Bool.{and_parts, eqb-true, le-leb, leb-true, ltb-true, not-true}
use Rattle.std.proofs.lemmas.List.{append-nil, length-append, length-set, map-append}
use Rattle.std.proofs.Math.Seq.{map-set_same}
use Rattle.std.proofs.lemmas.List.Folds.{list_any-append}
use Rattle.std.proofs.lemmas.List.Sums.{sum_by-append, sum_by-set}
use Rattle.std.proofs.lemmas.Option.{get_or_from_slice_get, slice_get_within}
use Rattle.lks_base.specs.declared.names.HashKind.{HashKind}
use Rattle.lks_base.specs.declared.plans.AuPlan.{AuPlan}
use Rattle.lks_base.specs.declared.plans.Holding.{Holding}
use Rattle.lks_base.specs.declared.plans.PeerPlan.{PeerPlan}
use Rattle.lks_base.specs.declared.plans.PlanFault.{PlanFault}
use Rattle.lks_base.specs.declared.plans.PlanFault.TheVariants.{Bounds, Repeat, SelfListed, UnknownPeer, BlockCount}
use Rattle.lks_base.specs.declared.plans.Rules.{Rules}
use Rattle.lks_base.specs.Checking.{unless, ◌▹◌, each, is_within, are_bounded, are_ordered, has_au, au_fault}
use Rattle.lks_base.specs.Checking.{has_peer, has_member, member_fault, has_counted, has_copy, are_short, copy_fault}
use Rattle.lks_base.specs.Checking.{is_bare, is_fit, peer_fault, bytes_of_blocks, bytes_of_copies, bytes_of_peers}
use Rattle.lks_base.specs.Checking.{plan_fault}
use Rattle.lks_base.proofs.PlanLaws.{no_first, no_second, stands}
use Rattle.lks_lines.specs.declared.list_lines.ListKind.{ListKind}
use Rattle.lks_lines.specs.declared.list_lines.ListKind.TheVariants.{Refs, Friends}
use Rattle.lks_lines.specs.declared.plan_lines.PlanDraft.{PlanDraft}
use Rattle.lks_words.specs.Numbers.{◌>>=◌, number_in}
use Rattle.lks_words.specs.Words.{id_in}
use Rattle.lks_lines.specs.PlanLines.{are_good, au_in, may_add_au, aus_with, peer_in, begun_draft, with_peers}
use Rattle.lks_lines.specs.PlanLines.{may_add_peer}
use Rattle.lks_lines.specs.PlanLines.{draft_with_peer}
use Rattle.lks_lines.specs.ListLines.{lacks_list, with_list, is_list, draft_with_list, with_hash, draft_with_hash}
use Rattle.lks_lines.specs.CopyLines.{may_hold, with_copies, with_more, copies_with, draft_with_copy, block_put}
use Rattle.lks_lines.specs.CopyLines.{copy_damaged, draft_with_damage}
use Rattle.lks_words.proofs.Decimals.{number_most}
use Rattle.lks_words.proofs.Steps.{bind_some, if_some, some, same_some}
use Rattle.lks_lines.proofs.Which.{found_at, peer_found, also_noted, added_peer, list_found, hash_found, HoldsWith}
use Rattle.lks_lines.proofs.Which.{copy_found, damage_found}

no_fault : (o : Option PlanFault) → is_none o ≡ true → o ≡ None
no_fault None e = refl
no_fault (Some fault) e = absurd cc

-- ---- rules for each element

both : (a b : Option PlanFault) → a ≡ None → b ≡ None → (a ▹ b) ≡ None
both None b e f = f
both (Some fault) b e f = absurd cc

stays_true : (test : Bool) (fault : PlanFault) → test ≡ true → unless test fault ≡ None
stays_true true fault e = refl
stays_true false fault e = absurd cc

each_more : {X : Type 0} (rule : List X → X → Option PlanFault) (before xs : List X) (x : X)
    → each rule before xs ≡ None → rule (before ++ xs) x ≡ None → each rule before (xs ++ x ∷ []) ≡ None
each_more rule before [] x e r = both (rule before x) None (ap (λ b. rule b x) (sym (append-nil before)) ∙ r) refl
each_more rule before (y ∷ ys) x e r =
    both (rule before y) (each rule (before ++ y ∷ []) (ys ++ x ∷ []))
    (no_first (rule before y) (each rule (before ++ y ∷ []) ys) e)
    (each_more rule (before ++ y ∷ []) ys x (no_second (rule before y) (each rule (before ++ y ∷ []) ys) e)
    (ap (λ b. rule b x) (append_assoc before (y ∷ []) ys) ∙ r))

each_same : {X : Type 0} (rule other : List X → X → Option PlanFault)
    → ((before : List X) (x : X) → rule before x ≡ other before x) → (before xs : List X)
    → each rule before xs ≡ each other before xs
each_same rule other same before [] = refl
each_same rule other same before (x ∷ xs) = rw (same before x, each_same rule other same (before ++ x ∷ []) xs) refl

-- two rules that ask of the elements before no more than their keys
module _ {X : Type 0} (key : X → ℕ) (rule other : List X → X → Option PlanFault)
    (same : (before now : List X) (x : X) → map key before ≡ map key now → rule before x ≡ other now x) where
  keys_more : (before now : List X) (x y : X) → map key before ≡ map key now → key x ≡ key y
      → map key (before ++ x ∷ []) ≡ map key (now ++ y ∷ [])
  keys_more before now x y keys one = rw (map-append key before (x ∷ []), map-append key now (y ∷ []), keys, one) refl

  each_kept : (before now xs : List X) → map key before ≡ map key now → each rule before xs ≡ None
      → each other now xs ≡ None
  each_kept before now [] keys e = refl
  each_kept before now (x ∷ xs) keys e =
      both (other now x) (each other (now ++ x ∷ []) xs)
      (sym (same before now x keys) ∙ no_first (rule before x) (each rule (before ++ x ∷ []) xs) e)
      (each_kept (before ++ x ∷ []) (now ++ x ∷ []) xs (keys_more before now x x keys refl)
      (no_second (rule before x) (each rule (before ++ x ∷ []) xs) e))

  pub each_set : (before now xs : List X) (at : ℕ) (x y : X) → map key before ≡ map key now
      → slice_get xs at ≡ Some x → key y ≡ key x → ((b : List X) → rule b x ≡ None → rule b y ≡ None)
      → each rule before xs ≡ None → each other now (set xs at y) ≡ None
  each_set before now [] at x y keys there one ok e = absurd cc
  each_set before now (z ∷ zs) zero x y keys there one ok e =
      let is : z ≡ x = cc in
      both (other now y) (each other (now ++ y ∷ []) zs)
      (sym (same before now y keys)
      ∙ ok before (ap (rule before) (sym is) ∙ no_first (rule before z) (each rule (before ++ z ∷ []) zs) e))
      (each_kept (before ++ z ∷ []) (now ++ y ∷ []) zs (keys_more before now z y keys (ap key is ∙ sym one))
      (no_second (rule before z) (each rule (before ++ z ∷ []) zs) e))
  each_set before now (z ∷ zs) (suc at) x y keys there one ok e =
      both (other now z) (each other (now ++ z ∷ []) (set zs at y))
      (sym (same before now z keys) ∙ no_first (rule before z) (each rule (before ++ z ∷ []) zs) e)
      (each_set (before ++ z ∷ []) (now ++ z ∷ []) zs at x y (keys_more before now z z keys refl) there one ok
      (no_second (rule before z) (each rule (before ++ z ∷ []) zs) e))

-- ---- the rules of peers and copies, by the numbers before

any_key : {X : Type 0} (key : X → ℕ) (n : ℕ) (xs : List X)
    → list_any (λ x. key x == n) xs ≡ list_any (λ i. i == n) (map key xs)
any_key key n [] = refl
any_key key n (x ∷ xs) = ap (λ b. (key x == n) || b) (any_key key n xs)

any_same : {X : Type 0} (key : X → ℕ) (n : ℕ) (xs ys : List X) → map key xs ≡ map key ys
    → list_any (λ x. key x == n) xs ≡ list_any (λ x. key x == n) ys
any_same key n xs ys keys = any_key key n xs ∙ ap (list_any (λ i. i == n)) keys ∙ sym (any_key key n ys)

abbrev peer_key : PeerPlan → ℕ
peer_key p = p.id

abbrev copy_key : Holding → ℕ
copy_key c = c.au

-- lists are asked the same of peers with the same numbers
pub members_same : (peers others : List PeerPlan) → ((id : ℕ) → has_peer peers id ≡ has_peer others id)
    → (own : ℕ) (before ids : List ℕ)
    → each (member_fault peers own) before ids ≡ each (member_fault others own) before ids
unfolding member_fault
members_same peers others same own =
    each_same (member_fault peers own) (member_fault others own) (λ before id. rw (same id) refl)

peer_same : (aus : List AuPlan) (peers others : List PeerPlan) → map peer_key peers ≡ map peer_key others
    → (before now : List PeerPlan) (p : PeerPlan) → map peer_key before ≡ map peer_key now
    → peer_fault aus peers before p ≡ peer_fault aus others now p
unfolding peer_fault has_peer
peer_same aus peers others keys before now p front =
    let same = members_same peers others (λ id. any_same peer_key id peers others keys) p.id [] in
    rw (any_same peer_key p.id before now front, same p.refs, same p.friends) refl

copy_same : (aus : List AuPlan) (before now : List Holding) (c : Holding) → map copy_key before ≡ map copy_key now
    → copy_fault aus before c ≡ copy_fault aus now c
unfolding copy_fault has_copy
copy_same aus before now c keys = rw (any_same copy_key c.au before now keys) refl

-- ---- a draft that breaks no rule

pub record Ready (d : PlanDraft) : Type 0 where
  pub bounded : are_bounded d.plan.rules ≡ true
  pub ordered : are_ordered d.plan.rules ≡ true
  pub turns : nat_le d.plan.turns 4096 ≡ true
  pub few_aus : nat_le (length d.plan.aus) 4 ≡ true
  pub aus : each au_fault [] d.plan.aus ≡ None
  pub few_peers : nat_le (length d.plan.peers) 32 ≡ true
  pub peers : each (peer_fault d.plan.aus d.plan.peers) [] d.plan.peers ≡ None
  pub bytes : d.bytes ≡ bytes_of_peers d.plan.peers
  pub few_bytes : d.bytes ≤ 134217728

pub record Peopled (d : PlanDraft) : Type 0 where
  pub ready : Ready d
  pub some_aus : nat_le 1 (length d.plan.aus) ≡ true
  pub some_peers : nat_le 1 (length d.plan.peers) ≡ true

pub passes : (d : PlanDraft) → Peopled d → plan_fault d.plan ≡ None
unfolding plan_fault
passes d p =
    let few = le-leb (bytes_of_peers d.plan.peers) 134217728
    (subst (λ n. n ≤ 134217728) p.ready.bytes p.ready.few_bytes) in
    rw (
      p.ready.bounded,
      p.ready.ordered,
      p.ready.turns,
      p.some_aus,
      p.ready.few_aus,
      p.ready.aus,
      p.some_peers,
      p.ready.few_peers,
      p.ready.peers,
      few,
    ) refl

-- ---- AUs

abbrev au_of : ℕ → ℕ → AuPlan
au_of id count = record { id = id; count = count }

au_numbered : (words : List (List ℕ)) (au : AuPlan) → au_in words ≡ Some au → is_within 0 65535 au.id ≡ true
unfolding au_in
au_numbered [] au e = absurd cc
au_numbered (id ∷ []) au e = absurd cc
au_numbered (id ∷ count ∷ []) au e =
    let a = bind_some (id_in id) (λ n. number_in 65535 count >>= λ k. some (au_of n k)) au e in
    let b = bind_some (number_in 65535 count) (λ k. some (au_of a.0 k)) au a.2 in
    let is : a.0 ≡ au.id = ap (λ (o : AuPlan). o.id) (same_some (au_of a.0 b.0) au b.2) in
    rw (le-leb 0 au.id (omega arith), le-leb au.id 65535 (subst (λ k. k ≤ 65535) is (number_most 65535 id a.0 a.1)))
    refl
au_numbered (id ∷ count ∷ more ∷ words) au e = absurd cc

-- the AUs of rules that are good
abbrev pub AreAus : List AuPlan → Type 0
AreAus aus = (nat_le (length aus) 4 ≡ true) × (each au_fault [] aus ≡ None)

pub aus_good : (aus now : List AuPlan) (words : List (List ℕ)) → AreAus aus → aus_with aus words ≡ Some now → AreAus now
unfolding aus_with may_add_au au_fault
aus_good aus now words h e =
    let a = bind_some (au_in words) (λ au. cond (may_add_au aus au) (Some (aus ++ au ∷ [])) None) now e in
    let b = if_some (may_add_au aus a.0) (Some (aus ++ a.0 ∷ [])) now a.2 in
    let whole = and_parts (nat_lt (length aus) 4 && is_within 1 512 a.0.count) (not (has_au aus a.0.id)) b.0 in
    let front = and_parts (nat_lt (length aus) 4) (is_within 1 512 a.0.count) whole.0 in
    let room = ltb-true (length aus) 4 front.0 in
    let counts = length-append aus (a.0 ∷ []) in
    let few : nat_le (length (aus ++ a.0 ∷ [])) 4
    ≡ true = le-leb (length (aus ++ a.0 ∷ [])) 4 (omega (arith, room, counts)) in
    let fine : au_fault aus a.0 ≡ None =
    both (unless (is_within 0 65535 a.0.id && is_within 1 512 a.0.count) Bounds)
    (unless (not (has_au aus a.0.id)) Repeat)
    (stays_true (is_within 0 65535 a.0.id && is_within 1 512 a.0.count) Bounds
    (rw (au_numbered words a.0 a.1, front.1) refl)) (stays_true (not (has_au aus a.0.id)) Repeat whole.1) in
    subst AreAus (same_some (aus ++ a.0 ∷ []) now b.1) (few, each_more au_fault [] aus a.0 h.1 fine)

-- ---- peers

pub begun_ready : (rules : Rules) (turns : Option ℕ) (aus : List AuPlan) → are_good rules ≡ true
    → nat_le (begun_draft rules turns aus).plan.turns 4096 ≡ true → AreAus aus → Ready (begun_draft rules turns aus)
unfolding are_good
begun_ready rules turns aus good few are =
    let parts = and_parts (are_bounded rules) (are_ordered rules) good in
    record {
      bounded = parts.0;
      ordered = parts.1;
      turns = few;
      few_aus = are.0;
      aus = are.1;
      few_peers = refl;
      peers = refl;
      bytes = refl;
      few_bytes = omega arith;
    }

-- one peer is another now, with the same number: what the rules ask of all others is as it was
module _ (d : PlanDraft) (ready : Ready d) (at : ℕ) (p q : PeerPlan) (there : slice_get d.plan.peers at ≡ Some p)
    (one : q.id ≡ p.id)
    (ok : (before : List PeerPlan) → peer_fault d.plan.aus d.plan.peers before p ≡ None
    → peer_fault d.plan.aus d.plan.peers before q ≡ None) (bytes : ℕ)
    (counted : bytes + bytes_of_copies p.copies ≡ d.bytes + bytes_of_copies q.copies) (few : bytes ≤ 134217728) where
  within : at < length d.plan.peers
  within = slice_get_within d.plan.peers at p there

  here : get_or d.plan.peers at p ≡ p
  here = get_or_from_slice_get d.plan.peers at p p there

  keys : map peer_key d.plan.peers ≡ map peer_key (set d.plan.peers at q)
  keys = sym (map-set_same peer_key d.plan.peers at q p (one ∙ ap peer_key (sym here)))

  put_ready : Ready (with_peers d (set d.plan.peers at q) bytes)
  put_ready =
      let sums = sum_by-set (λ (x : PeerPlan). bytes_of_copies x.copies) d.plan.peers at q p within in
      let old : bytes_of_copies (get_or d.plan.peers at p).copies
      ≡ bytes_of_copies p.copies = ap (λ (x : PeerPlan). bytes_of_copies x.copies) here in
      let before = ready.bytes in
      record {
        bounded = ready.bounded;
        ordered = ready.ordered;
        turns = ready.turns;
        few_aus = ready.few_aus;
        aus = ready.aus;
        few_peers = ap (λ n. nat_le n 32) (length-set d.plan.peers at q) ∙ ready.few_peers;
        peers =
            each_set peer_key (peer_fault d.plan.aus d.plan.peers) (peer_fault d.plan.aus (set d.plan.peers at q))
            (peer_same d.plan.aus d.plan.peers (set d.plan.peers at q) keys) [] [] d.plan.peers at p q refl there
            one ok ready.peers;
        bytes = omega (arith, sums, old, counted, before);
        few_bytes = few;
      }

  pub put : nat_le 1 (length d.plan.aus) ≡ true → nat_le 1 (length d.plan.peers) ≡ true
      → Peopled (with_peers d (set d.plan.peers at q) bytes)
  put some_aus some_peers =
      record {
        ready = put_ready;
        some_aus = some_aus;
        some_peers = ap (λ n. nat_le 1 n) (length-set d.plan.peers at q) ∙ some_peers;
      }

-- the parts of a peer's rule
pub record PeerFacts (aus : List AuPlan) (peers before : List PeerPlan) (p : PeerPlan) : Type 0 where
  pub fit : is_fit p ≡ true
  pub new : has_peer before p.id ≡ false
  pub refs : each (member_fault peers p.id) [] p.refs ≡ None
  pub friends : each (member_fault peers p.id) [] p.friends ≡ None
  pub copies : each (copy_fault aus) [] p.copies ≡ None

pub parted : (aus : List AuPlan) (peers before : List PeerPlan) (p : PeerPlan)
    → peer_fault aus peers before p ≡ None → PeerFacts aus peers before p
unfolding peer_fault
parted aus peers before p e =
    let after_fit = no_second (unless (is_fit p) Bounds) _ e in
    let after_new = no_second (unless (not (has_peer before p.id)) Repeat) _ after_fit in
    let after_refs = no_second (each (member_fault peers p.id) [] p.refs) _ after_new in
    record {
      fit = stands (is_fit p) Bounds (no_first (unless (is_fit p) Bounds) _ e);
      new =
          not-true (has_peer before p.id)
          (stands (not (has_peer before p.id)) Repeat
          (no_first (unless (not (has_peer before p.id)) Repeat) _ after_fit));
      refs = no_first (each (member_fault peers p.id) [] p.refs) _ after_new;
      friends = no_first (each (member_fault peers p.id) [] p.friends) _ after_refs;
      copies = no_second (each (member_fault peers p.id) [] p.friends) _ after_refs;
    }

joined : (aus : List AuPlan) (peers before : List PeerPlan) (p : PeerPlan) → PeerFacts aus peers before p
    → peer_fault aus peers before p ≡ None
unfolding peer_fault
joined aus peers before p parts = rw (parts.fit, parts.new, parts.refs, parts.friends) parts.copies

-- a peer that is honest may have lists and copies
fit_still : (p q : PeerPlan) → is_fit p ≡ true → q.proof ≡ p.proof → q.corrupt ≡ false → is_fit q ≡ true
unfolding is_fit
fit_still p q fit proof honest = rw (proof, honest, (and_parts (nat_le (length p.proof) 64) _ fit).0) refl

-- ---- lists

list_ok : (kind : ListKind) (aus : List AuPlan) (peers : List PeerPlan) (p : PeerPlan) (ids : List ℕ)
    → p.corrupt ≡ false → each (member_fault peers p.id) [] ids ≡ None
    → (before : List PeerPlan) → peer_fault aus peers before p ≡ None
    → peer_fault aus peers before (with_list kind p ids) ≡ None
unfolding with_list
list_ok Refs aus peers p ids honest fine before e =
    let parts = parted aus peers before p e in
    joined aus peers before (with_list Refs p ids)
    (record {
      fit = fit_still p (with_list Refs p ids) parts.fit refl honest;
      new = parts.new;
      refs = fine;
      friends = parts.friends;
      copies = parts.copies;
    })
list_ok Friends aus peers p ids honest fine before e =
    let parts = parted aus peers before p e in
    joined aus peers before (with_list Friends p ids)
    (record {
      fit = fit_still p (with_list Friends p ids) parts.fit refl honest;
      new = parts.new;
      refs = parts.refs;
      friends = fine;
      copies = parts.copies;
    })

list_id : (kind : ListKind) (p : PeerPlan) (ids : List ℕ) → (with_list kind p ids).id ≡ p.id
unfolding with_list
list_id Refs p ids = refl
list_id Friends p ids = refl

list_copies : (kind : ListKind) (p : PeerPlan) (ids : List ℕ) → (with_list kind p ids).copies ≡ p.copies
unfolding with_list
list_copies Refs p ids = refl
list_copies Friends p ids = refl

pub list_good : (kind : ListKind) (d now : PlanDraft) (words : List (List ℕ)) → Peopled d
    → draft_with_list kind d words ≡ Some now → Peopled now
unfolding lacks_list is_list
list_good kind d now words h = list_found Peopled d now kind words (λ at id p ids there lacks good.
    let who = and_parts (p.id == id) (not p.corrupt) (and_parts (p.id == id && not p.corrupt) _ lacks).0 in
    let rule = no_fault (each (member_fault d.plan.peers id) [] ids) (and_parts (nat_le 1 (length ids)) _ good).1 in
    let fine : each (member_fault d.plan.peers p.id) [] ids
    ≡ None = ap (λ n. each (member_fault d.plan.peers n) [] ids) (eqb-true p.id id who.0) ∙ rule in
    put d h.ready at p (with_list kind p ids) there (list_id kind p ids)
    (list_ok kind d.plan.aus d.plan.peers p ids (not-true p.corrupt who.1) fine) d.bytes
    (ap (λ copies. d.bytes + bytes_of_copies copies) (sym (list_copies kind p ids))) h.ready.few_bytes h.some_aus
    h.some_peers)

-- ---- hashes

hash_ok : (hash : HashKind) (aus : List AuPlan) (peers : List PeerPlan) (p : PeerPlan) (before : List PeerPlan)
    → peer_fault aus peers before p ≡ None → peer_fault aus peers before (with_hash p hash) ≡ None
unfolding peer_fault is_fit is_bare
hash_ok hash aus peers p before e = e

still_good : (d : PlanDraft) (id : ℕ) → Peopled d → Peopled (also_noted d id)
still_good d id h = record {
  ready = record {
    bounded = h.ready.bounded;
    ordered = h.ready.ordered;
    turns = h.ready.turns;
    few_aus = h.ready.few_aus;
    aus = h.ready.aus;
    few_peers = h.ready.few_peers;
    peers = h.ready.peers;
    bytes = h.ready.bytes;
    few_bytes = h.ready.few_bytes;
  };
  some_aus = h.some_aus;
  some_peers = h.some_peers;
}

pub hash_good : (d now : PlanDraft) (words : List (List ℕ)) → Peopled d → draft_with_hash d words ≡ Some now
    → Peopled now
hash_good d now words h = hash_found Peopled d now words (λ at id p hash there.
    still_good (with_peers d (set d.plan.peers at (with_hash p hash)) d.bytes) id
    (put d h.ready at p (with_hash p hash) there refl (hash_ok hash d.plan.aus d.plan.peers p) d.bytes refl
    h.ready.few_bytes h.some_aus h.some_peers))

-- ---- copies

-- the copies of an honest peer are others now
copies_ok : (aus : List AuPlan) (peers : List PeerPlan) (p : PeerPlan) (copies : List Holding) → p.corrupt ≡ false
    → (each (copy_fault aus) [] p.copies ≡ None → each (copy_fault aus) [] copies ≡ None)
    → (before : List PeerPlan) → peer_fault aus peers before p ≡ None
    → peer_fault aus peers before (with_copies p copies) ≡ None
copies_ok aus peers p copies honest fine before e =
    let parts = parted aus peers before p e in
    joined aus peers before (with_copies p copies)
    (record {
      fit = fit_still p (with_copies p copies) parts.fit refl honest;
      new = parts.new;
      refs = parts.refs;
      friends = parts.friends;
      copies = fine parts.copies;
    })

more_most : (bytes more all : ℕ) → with_more bytes more ≡ Some all → (all ≡ bytes + more) × (all ≤ 134217728)
unfolding with_more
more_most bytes more all e =
    let a = if_some (nat_le (bytes + more) 134217728) (some (bytes + more)) all e in
    let is = same_some (bytes + more) all a.1 in
    (sym is, subst (λ n. n ≤ 134217728) is (leb-true (bytes + more) 134217728 a.0))

abbrev AreKept : List AuPlan → ℕ → List Holding → List Holding × ℕ → Type 0
AreKept aus bytes copies kept =
    (each (copy_fault aus) [] copies ≡ None → each (copy_fault aus) [] kept.0 ≡ None)
    × (kept.1 + bytes_of_copies copies ≡ bytes + bytes_of_copies kept.0) × (kept.1 ≤ 134217728)

-- a change of the copies of one honest peer, and of the bytes of all
copies_put : (d : PlanDraft) (id : ℕ) (change : List Holding → Option (List Holding × ℕ)) → Peopled d
    → ((copies : List Holding) (kept : List Holding × ℕ) → change copies ≡ Some kept
    → bytes_of_copies copies ≤ d.bytes → AreKept d.plan.aus d.bytes copies kept)
    → HoldsWith Peopled d id change
unfolding may_hold
copies_put d id change h fine at p kept there holds changed =
    let who = and_parts (p.id == id) (not p.corrupt) holds in
    let within = slice_get_within d.plan.peers at p there in
    let here = get_or_from_slice_get d.plan.peers at p p there in
    let sums = sum_by-set (λ (x : PeerPlan). bytes_of_copies x.copies) d.plan.peers at (with_copies p []) p within in
    let old : bytes_of_copies (get_or d.plan.peers at p).copies
    ≡ bytes_of_copies p.copies = ap (λ (x : PeerPlan). bytes_of_copies x.copies) here in
    let total = h.ready.bytes in
    let part : bytes_of_copies p.copies ≤ d.bytes = omega (arith, sums, old, total) in
    let good = fine p.copies kept changed part in
    put d h.ready at p (with_copies p kept.0) there refl
    (copies_ok d.plan.aus d.plan.peers p kept.0 (not-true p.corrupt who.1) good.0) kept.1 good.1 good.2
    h.some_aus h.some_peers

holding_fine : (aus : List AuPlan) (bytes : ℕ) (copy : Holding) (copies : List Holding) (kept : List Holding × ℕ)
    → copies_with aus bytes copy copies ≡ Some kept → AreKept aus bytes copies kept
unfolding copies_with
holding_fine aus bytes copy copies kept e =
    let a = bind_some (with_more bytes (bytes_of_blocks copy.blocks))
    (λ all. cond (is_none (copy_fault aus copies copy)) (some (copies ++ copy ∷ [], all)) None) kept e in
    let b = if_some (is_none (copy_fault aus copies copy)) (some (copies ++ copy ∷ [], a.0)) kept a.2 in
    let is = same_some (copies ++ copy ∷ [], a.0) kept b.1 in
    let most = more_most bytes (bytes_of_blocks copy.blocks) a.0 a.1 in
    let count = sum_by-append (λ (c : Holding). bytes_of_blocks c.blocks) copies (copy ∷ []) in
    let all = most.0 in
    let sums : a.0 + bytes_of_copies copies
    ≡ bytes + bytes_of_copies (copies ++ copy ∷ []) = omega (arith, count, all) in
    subst (AreKept aus bytes copies) is (
      (λ stood. each_more (copy_fault aus) [] copies copy stood (no_fault (copy_fault aus copies copy) b.0)),
      sums,
      most.1,
    )

pub copy_good : (d now : PlanDraft) (words : List (List ℕ)) → Peopled d → draft_with_copy d words ≡ Some now
    → Peopled now
copy_good d now words h = copy_found Peopled d now words (λ id au content blocks said.
    let copy : Holding = record { au = au; blocks = blocks } in
    copies_put d id (copies_with d.plan.aus d.bytes copy) h
    (λ copies kept e part. holding_fine d.plan.aus d.bytes copy copies kept e))

-- ---- damage

short_set : (blocks : List (List ℕ)) (b : ℕ) (block : List ℕ) → are_short blocks ≡ true
    → nat_le (length block) 16384 ≡ true → are_short (set blocks b block) ≡ true
unfolding are_short
short_set [] b block short few = refl
short_set (x ∷ xs) zero block short few = rw (few, (and_parts (nat_le (length x) 16384) _ short).1) refl
short_set (x ∷ xs) (suc b) block short few =
    let parts = and_parts (nat_le (length x) 16384) (list_all (λ y. nat_le (length y) 16384) xs) short in
    rw (parts.0, short_set xs b block parts.1 few) refl

record IsPut (bytes : ℕ) (blocks : List (List ℕ)) (put : List (List ℕ) × ℕ) : Type 0 where
  count : length put.0 ≡ length blocks
  short : are_short blocks ≡ true → are_short put.0 ≡ true
  sums : put.1 + bytes_of_blocks blocks ≡ bytes + bytes_of_blocks put.0
  most : put.1 ≤ 134217728

put_is : (bytes b : ℕ) (block : List ℕ) (blocks : List (List ℕ)) (put : List (List ℕ) × ℕ)
    → bytes_of_blocks blocks ≤ bytes → block_put bytes b block blocks ≡ Some put → IsPut bytes blocks put
unfolding block_put
put_is bytes b block blocks put part e =
    let a = bind_some (slice_get blocks b)
    (λ old. with_more (bytes - length old) (length block) >>= λ all. cond (nat_le (length block) 16384)
    (some (set blocks b block, all)) None) put e in
    let c = bind_some (with_more (bytes - length a.0) (length block))
    (λ all. cond (nat_le (length block) 16384) (some (set blocks b block, all)) None) put a.2 in
    let f = if_some (nat_le (length block) 16384) (some (set blocks b block, c.0)) put c.2 in
    let is = same_some (set blocks b block, c.0) put f.1 in
    let most = more_most (bytes - length a.0) (length block) c.0 c.1 in
    let within = slice_get_within blocks b a.0 a.1 in
    let old : length (get_or blocks b []) ≡ length a.0 = ap length (get_or_from_slice_get blocks b a.0 [] a.1) in
    let swapped = sum_by-set (λ (x : List ℕ). length x) blocks b block [] within in
    let emptied = sum_by-set (λ (x : List ℕ). length x) blocks b [] [] within in
    let all = most.0 in
    let sums : c.0 + bytes_of_blocks blocks
    ≡ bytes + bytes_of_blocks (set blocks b block) = omega (arith, swapped, emptied, old, all, part) in
    subst (IsPut bytes blocks) is
    (record {
      count = length-set blocks b block;
      short = λ short. short_set blocks b block short f.0;
      sums = sums;
      most = most.1;
    })

copy_ok : (aus : List AuPlan) (copy : Holding) (blocks : List (List ℕ)) → length blocks ≡ length copy.blocks
    → (are_short copy.blocks ≡ true → are_short blocks ≡ true)
    → (before : List Holding) → copy_fault aus before copy ≡ None
    → copy_fault aus before (record { au = copy.au; blocks = blocks }) ≡ None
unfolding copy_fault
copy_ok aus copy blocks count short before e =
    let later = no_second (unless (has_counted aus copy.au (length copy.blocks)) BlockCount) _ e in
    rw (
      count,
      stands (has_counted aus copy.au (length copy.blocks)) BlockCount
          (no_first (unless (has_counted aus copy.au (length copy.blocks)) BlockCount) _ e),
      stands (not (has_copy before copy.au)) Repeat (no_first (unless (not (has_copy before copy.au)) Repeat) _ later),
      short (stands (are_short copy.blocks) Bounds (no_second (unless (not (has_copy before copy.au)) Repeat) _ later)),
    ) refl

damage_fine : (aus : List AuPlan) (bytes au b : ℕ) (block : List ℕ) (copies : List Holding)
    (kept : List Holding × ℕ)
    → copy_damaged bytes au b block copies ≡ Some kept → bytes_of_copies copies ≤ bytes
    → AreKept aus bytes copies kept
unfolding copy_damaged
damage_fine aus bytes au b block copies kept e part =
    let f = found_at (λ (c : Holding). c.au == au) copies
    (λ at copy. block_put bytes b block copy.blocks >>= λ put. some
    (set copies at (record { au = copy.au; blocks = put.0 }), put.1)) kept e in
    let a = bind_some (block_put bytes b block f.x.blocks)
    (λ put. some (set copies f.at (record { au = f.x.au; blocks = put.0 }), put.1)) kept f.gives in
    let within = slice_get_within copies f.at f.x f.there in
    let old : bytes_of_blocks (get_or copies f.at f.x).blocks
    ≡ bytes_of_blocks f.x.blocks = ap (λ (c : Holding). bytes_of_blocks c.blocks)
    (get_or_from_slice_get copies f.at f.x f.x f.there) in
    let emptied = sum_by-set (λ (c : Holding). bytes_of_blocks c.blocks) copies f.at
    (record { au = f.x.au; blocks = [] }) f.x within in
    let few : bytes_of_blocks f.x.blocks ≤ bytes = omega (arith, emptied, old, part) in
    let put = put_is bytes b block f.x.blocks a.0 few a.1 in
    let swapped = sum_by-set (λ (c : Holding). bytes_of_blocks c.blocks) copies f.at
    (record { au = f.x.au; blocks = a.0.0 }) f.x within in
    let counted = put.sums in
    let sums : a.0.1 + bytes_of_copies copies
    ≡ bytes
    + bytes_of_copies (set copies f.at (record { au = f.x.au; blocks = a.0.0 })) = omega
    (arith, swapped, old, counted) in
    subst (AreKept aus bytes copies)
    (same_some (set copies f.at (record { au = f.x.au; blocks = a.0.0 }), a.0.1) kept a.2) (
      each_set copy_key (copy_fault aus) (copy_fault aus) (copy_same aus) [] [] copies f.at f.x
          (record { au = f.x.au; blocks = a.0.0 }) refl f.there refl (copy_ok aus f.x a.0.0 put.count put.short),
      sums,
      put.most,
    )

pub damage_good : (d now : PlanDraft) (words : List (List ℕ)) → Peopled d → draft_with_damage d words ≡ Some now
    → Peopled now
damage_good d now words h =
    damage_found Peopled d now words
    (λ id au b content block said. copies_put d id (copy_damaged d.bytes au b block) h
    (damage_fine d.plan.aus d.bytes au b block))

-- ---- peers

has_more : (peers : List PeerPlan) (p : PeerPlan) (id : ℕ) → has_peer peers id ≡ true
    → has_peer (peers ++ p ∷ []) id ≡ true
unfolding has_peer
has_more peers p id has =
    list_any-append (λ (q : PeerPlan). q.id == id) peers (p ∷ [])
    ∙ ap (λ b. b || list_any (λ (q : PeerPlan). q.id == id) (p ∷ [])) has

member_more : (peers : List PeerPlan) (p : PeerPlan) (own : ℕ) (before : List ℕ) (id : ℕ)
    → member_fault peers own before id ≡ None → member_fault (peers ++ p ∷ []) own before id ≡ None
unfolding member_fault
member_more peers p own before id e =
    let later = no_second (unless (not (id == own)) SelfListed) _ e in
    rw (
      stands (not (id == own)) SelfListed (no_first (unless (not (id == own)) SelfListed) _ e),
      has_more peers p id
          (stands (has_peer peers id) UnknownPeer (no_first (unless (has_peer peers id) UnknownPeer) _ later)),
      stands (not (has_member before id)) Repeat (no_second (unless (has_peer peers id) UnknownPeer) _ later),
    ) refl

each_implies : {X : Type 0} (rule other : List X → X → Option PlanFault)
    → ((before : List X) (x : X) → rule before x ≡ None → other before x ≡ None) → (before xs : List X)
    → each rule before xs ≡ None → each other before xs ≡ None
each_implies rule other implies before [] e = refl
each_implies rule other implies before (x ∷ xs) e =
    both (other before x) (each other (before ++ x ∷ []) xs)
    (implies before x (no_first (rule before x) (each rule (before ++ x ∷ []) xs) e))
    (each_implies rule other implies (before ++ x ∷ []) xs
    (no_second (rule before x) (each rule (before ++ x ∷ []) xs) e))

peer_more : (aus : List AuPlan) (peers : List PeerPlan) (p : PeerPlan) (before : List PeerPlan) (q : PeerPlan)
    → peer_fault aus peers before q ≡ None → peer_fault aus (peers ++ p ∷ []) before q ≡ None
peer_more aus peers p before q e =
    let parts = parted aus peers before q e in
    joined aus (peers ++ p ∷ []) before q (record {
      fit = parts.fit;
      new = parts.new;
      refs =
          each_implies (member_fault peers q.id) (member_fault (peers ++ p ∷ []) q.id) (member_more peers p q.id) []
          q.refs parts.refs;
      friends =
          each_implies (member_fault peers q.id) (member_fault (peers ++ p ∷ []) q.id) (member_more peers p q.id) []
          q.friends parts.friends;
      copies = parts.copies;
    })

-- a peer as its line says it has no lists and no copies
record IsNew (p : PeerPlan) : Type 0 where
  refs : p.refs ≡ []
  friends : p.friends ≡ []
  copies : p.copies ≡ []

new_peer : (words : List (List ℕ)) (p : PeerPlan) → peer_in words ≡ Some p → IsNew p
new_peer words p =
    peer_found IsNew words p
    (λ w0 w2 w3 id corrupt seed proof n s f. record { refs = refl; friends = refl; copies = refl })

pub peer_good : (d now : PlanDraft) (words : List (List ℕ)) → Ready d → draft_with_peer d words ≡ Some now → Peopled now
unfolding may_add_peer
peer_good d now words h = added_peer Peopled d now words (λ p said may.
    let is_new = new_peer words p said in
    let whole = and_parts
    (nat_le 1 (length d.plan.aus) && nat_lt (length d.plan.peers) 32 && not (has_peer d.plan.peers p.id))
    (is_fit p) may in
    let front = and_parts (nat_le 1 (length d.plan.aus) && nat_lt (length d.plan.peers) 32)
    (not (has_peer d.plan.peers p.id)) whole.0 in
    let sizes = and_parts (nat_le 1 (length d.plan.aus)) (nat_lt (length d.plan.peers) 32) front.0 in
    let room = ltb-true (length d.plan.peers) 32 sizes.1 in
    let counts = length-append d.plan.peers (p ∷ []) in
    let bytes = sum_by-append (λ (q : PeerPlan). bytes_of_copies q.copies) d.plan.peers (p ∷ []) in
    let none : bytes_of_copies p.copies ≡ 0 = ap bytes_of_copies is_new.copies in
    let before = h.bytes in
    let fine : peer_fault d.plan.aus (d.plan.peers ++ p ∷ []) d.plan.peers p ≡ None =
    joined d.plan.aus (d.plan.peers ++ p ∷ []) d.plan.peers p (record {
      fit = whole.1;
      new = not-true (has_peer d.plan.peers p.id) front.1;
      refs = ap (each (member_fault (d.plan.peers ++ p ∷ []) p.id) []) is_new.refs;
      friends = ap (each (member_fault (d.plan.peers ++ p ∷ []) p.id) []) is_new.friends;
      copies = ap (each (copy_fault d.plan.aus) []) is_new.copies;
    }) in
    record {
      ready = record {
        bounded = h.bounded;
        ordered = h.ordered;
        turns = h.turns;
        few_aus = h.few_aus;
        aus = h.aus;
        few_peers = le-leb (length (d.plan.peers ++ p ∷ [])) 32 (omega (arith, room, counts));
        peers =
            each_more (peer_fault d.plan.aus (d.plan.peers ++ p ∷ [])) [] d.plan.peers p
            (each_implies (peer_fault d.plan.aus d.plan.peers) (peer_fault d.plan.aus (d.plan.peers ++ p ∷ []))
            (peer_more d.plan.aus d.plan.peers p) [] d.plan.peers h.peers) fine;
        bytes = omega (arith, bytes, none, before);
        few_bytes = h.few_bytes;
      };
      some_aus = sizes.0;
      some_peers = le-leb 1 (length (d.plan.peers ++ p ∷ [])) (omega (arith, counts));
    })
