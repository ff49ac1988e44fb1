-- The lines of what peers have besides, read behind the peers' own lines: each makes one peer of the draft a bit more
-- of what it is.
use Rattle.std.proofs.Common.{◌≡◌, ◌&&◌, ◌||◌, ◌==◌, ℕ, ◌+◌, ◌≤◌, Bool, true, false, cond, not, leb, List, [], ◌∷◌}
use Rattle.std.proofs.Common.{◌++◌, length, map, get_or, Option, Some, None, is_none, inl, inr, refl, sym, ap, subst}
use Rattle.std.proofs.Common.{◌∙◌, append_assoc, arith}
use Rattle.std.specs.Prelude.{codes, slice_get}
use Rattle.std.specs.Fmt.{decimal}
use Rattle.std.specs.List.{All, list_any, list_all, flat_map, position, position_or_len, slice_set}
use Rattle.std.specs.Str.{bytes_eq}
use Rattle.std.proofs.lemmas.Bool.{and_parts, and_from, or_parts, or_cases, leb-true, le-leb, lt-ltb, eq-eqb}
use Rattle.std.proofs.lemmas.Bool.{eqb-true, cases_Bool}
use Rattle.std.proofs.lemmas.List.{append-nil, length-append}
use Rattle.std.proofs.lemmas.List.Sums.{sum_by-append, sum_by-cons}
use Rattle.std.proofs.lemmas.List.Elements.{All-nil, All-cons, All-head, All-tail}
use Rattle.std.proofs.lemmas.Option.{slice_get_read}
use Rattle.lks_base.specs.declared.limits.TheConstants.{MOST_AUS, MOST_BLOCK_BYTES, MOST_COPY_BYTES, MOST_EVENTS}
use Rattle.lks_base.specs.declared.limits.TheConstants.{MOST_PEERS, MOST_PROOF_BYTES}
use Rattle.lks_base.specs.declared.names.HashKind.{HashKind}
use Rattle.lks_base.specs.declared.names.HashKind.TheVariants.{Sha256, Sha512_256}
use Rattle.lks_base.specs.declared.plans.AuPlan.{AuPlan}
use Rattle.lks_base.specs.declared.plans.Holding.{Holding}
use Rattle.lks_base.specs.declared.plans.PeerPlan.{PeerPlan}
use Rattle.lks_base.specs.declared.plans.Rules.{Rules}
use Rattle.lks_base.specs.declared.plans.Plan.{Plan}
use Rattle.lks_base.specs.declared.plans.PlanFault.{PlanFault}
use Rattle.lks_base.specs.declared.plans.PlanFault.TheVariants.{Bounds, RulesOrder, SelfListed, UnknownPeer, BlockCount}
use Rattle.lks_base.specs.Checking.{unless, ◌▹◌, each, is_within, are_bounded, are_ordered, au_fault, has_peer}
use Rattle.lks_base.specs.Checking.{has_member, member_fault, has_counted, copy_fault, is_bare, is_fit, peer_fault}
use Rattle.lks_base.specs.Checking.{bytes_of_blocks, bytes_of_copies, bytes_of_peers, plan_fault}
use Rattle.lks_base.proofs.PlanLaws.{no_first, no_second, stands, lists_stand, all_of, fifth}
use Rattle.lks_lines.proofs.Passing.{members_same, PeerFacts, parted}
use Rattle.lks_lines.specs.declared.list_lines.ListKind.{ListKind}
use Rattle.lks_lines.specs.declared.list_lines.ListKind.TheVariants.{Refs, Friends}
use Rattle.lks_lines.specs.declared.plan_lines.PlanDraft.{PlanDraft}
use Rattle.lks_lines.specs.ListLines.{list_of, lacks_list, with_list, is_list, peers_with_list, draft_with_list}
use Rattle.lks_lines.specs.ListLines.{hashing}
use Rattle.lks_lines.specs.ListLines.{draft_with_noted, draft_with_hash}
use Rattle.lks_lines.specs.CopyLines.{may_hold, content_in, with_more, copies_with, holding, draft_with_copy}
use Rattle.lks_script.specs.declared.drafts.Draft.TheVariants.{Planned}
use Rattle.lks_script.specs.declared.drafts.PlanPart.{PlanPart}
use Rattle.lks_script.specs.declared.drafts.PlanPart.TheVariants as part
use Rattle.lks_script.specs.declared.steps.Script.{Script}
use Rattle.lks_script.specs.Grammar.{declares_peer, later_line, planned_line, line_in}
use Rattle.lks_words.specs.Printing.{blocks_text, hash_text}
use Rattle.lks_words.specs.Texts.{AreFew, are_above}
use Rattle.lks_words.proofs.Splits.{weaker}
use Rattle.lks_words.proofs.Kept.{blocks_again, blocks_above, ids_again, hash_again, hash_above}
use Rattle.lks_print.proofs.Kept.{small_plain, small_again, ids_plain}
use Rattle.lks_print.proofs.Reading.{Reads, words_read}
use Rattle.lks_print.specs.Said.{are_plain, IsSaidPeer}
use Rattle.lks_print.specs.Scripts.{hash_line, list_line, copy_line, belongings}
use Rattle.lks_print.specs.Steps.{line_of}

-- ---- what stands behind others in a list

module _ {X : Type 0} where
  place : (test : X → Bool) (before : List X) (x : X) (after : List X) → list_any test before ≡ false
      → test x ≡ true → position_or_len test (before ++ x ∷ after) ≡ length before
  place test [] x after h t = rw t refl
  place test (y ∷ before) x after h t =
      let p = or_parts (test y) (list_any test before) h in
      let more = place test before x after p.1 t in
      rw p.0 (omega (arith, more))

  place_found : (test : X → Bool) (before : List X) (x : X) (after : List X) → list_any test before ≡ false
      → test x ≡ true → position test (before ++ x ∷ after) ≡ Some (length before)
  place_found test before x after h t =
      let at = place test before x after h t in
      let long = length-append before (x ∷ after) in
      rw (at, lt-ltb (length before) (length (before ++ x ∷ after)) (omega (arith, long))) refl

  got : (before : List X) (x : X) (after : List X) → get_or (before ++ x ∷ after) (length before) x ≡ x
  got [] x after = refl
  got (b ∷ before) x after = got before x after

  read_at : (before : List X) (x : X) (after : List X) → slice_get (before ++ x ∷ after) (length before) ≡ Some x
  read_at before x after =
      let long = length-append before (x ∷ after) in
      slice_get_read (before ++ x ∷ after) (length (before ++ x ∷ after)) (length before) x refl
      (omega (arith, long)) (sym (got before x after))

  set_at : (before : List X) (x y : X) (after : List X)
      → slice_set (before ++ x ∷ after) (length before) y ≡ before ++ y ∷ after
  set_at [] x y after = refl
  set_at (b ∷ before) x y after = ap (λ (xs : List X). b ∷ xs) (set_at before x y after)

-- ---- a peer with a part of what it has

abbrev pub mid : PeerPlan → HashKind → List ℕ → List ℕ → List Holding → PeerPlan
mid p hash refs friends copies =
    record {
      id = p.id;
      corrupt = p.corrupt;
      seed = p.seed;
      proof = p.proof;
      refs = refs;
      friends = friends;
      copies = copies;
      hash = hash;
    }

-- as its own line declares it
abbrev pub bare_of : PeerPlan → PeerPlan
bare_of p = mid p Sha256 [] [] []

-- the peer's number, where its hash is said
abbrev pub hash_said : ℕ → HashKind → List ℕ
hash_said id Sha256 = []
hash_said id Sha512_256 = id ∷ []

abbrev pub said_hashes : List PeerPlan → List ℕ
said_hashes [] = []
said_hashes (p ∷ ps) = hash_said p.id p.hash ++ said_hashes ps

-- the first peers have all that is theirs, the others nothing yet
abbrev pub draft_at : Rules → ℕ → List AuPlan → List PeerPlan → List PeerPlan → PlanDraft
draft_at rules turns aus done rest =
    record {
      plan = record { rules = rules; turns = turns; aus = aus; peers = done ++ map bare_of rest };
      bytes = bytes_of_peers done;
      hashed = said_hashes done;
    }

-- ---- the peers of a draft have the numbers that those of the plan have

pub bare_has : (ps : List PeerPlan) (id : ℕ) → has_peer (map bare_of ps) id ≡ has_peer ps id
unfolding has_peer
bare_has [] id = refl
bare_has (p ∷ ps) id = ap (λ b. (p.id == id) || b) (bare_has ps id)

mid_has : (done : List PeerPlan) (p : PeerPlan) (hash : HashKind) (refs friends : List ℕ) (copies : List Holding)
    (more : List PeerPlan) (id : ℕ)
    → has_peer (done ++ mid p hash refs friends copies ∷ map bare_of more) id ≡ has_peer (done ++ p ∷ more) id
unfolding has_peer
mid_has [] p hash refs friends copies more id = ap (λ b. (p.id == id) || b) (bare_has more id)
mid_has (q ∷ done) p hash refs friends copies more id =
    ap (λ b. (q.id == id) || b) (mid_has done p hash refs friends copies more id)

-- members are peers, whose numbers have two bytes
member_has : (peers : List PeerPlan) (own : ℕ) (before : List ℕ) (id : ℕ) → member_fault peers own before id ≡ None
    → has_peer peers id ≡ true
unfolding member_fault
member_has peers own before id e =
    stands (has_peer peers id) UnknownPeer (no_first _ _ (no_second (unless (not (id == own)) SelfListed) _ e))

members_small : (peers : List PeerPlan) → ((id : ℕ) → has_peer peers id ≡ true → id ≤ 65535)
    → (own : ℕ) (before ids : List ℕ) → each (member_fault peers own) before ids ≡ None → All (λ n. n ≤ 65535) ids
members_small peers small own before [] e = All-nil (λ n. n ≤ 65535)
members_small peers small own before (id ∷ ids) e =
    All-cons (λ n. n ≤ 65535) id ids
    (small id (member_has peers own before id (no_first (member_fault peers own before id) _ e)))
    (members_small peers small own (before ++ id ∷ []) ids (no_second (member_fault peers own before id) _ e))

-- ---- a line behind the peers

later_reads : (at : PlanPart) (d longer : PlanDraft) (key : List ℕ) (more : List (List ℕ)) (text : List ℕ)
    (s : Script)
    → leb 1 (length key) ≡ true → bytes_eq key (codes "peer") ≡ false → are_plain (key ∷ more) ≡ true
    → later_line d key more ≡ Some (Planned part.Lists longer) → Reads (Planned part.Lists longer) text s
    → Reads (Planned at d) (line_of key more ++ text) s
unfolding line_in planned_line declares_peer
later_reads at d longer key more text s some other plain is reads =
    words_read (Planned at d) (Planned part.Lists longer) key more text s some plain (as_later at) reads
  where
    as_later : (at : PlanPart) → line_in (Planned at d) (key ∷ more) ≡ Some (Planned part.Lists longer)
    as_later part.Peers = rw other is
    as_later part.Lists = is

-- ---- what copies are of

abbrev is_numbered : AuPlan → Bool
is_numbered au = is_within 0 65535 au.id && is_within 1 512 au.count

numbered_au : (before : List AuPlan) (au : AuPlan) → au_fault before au ≡ None → is_numbered au ≡ true
unfolding au_fault
numbered_au before au e = stands (is_numbered au) Bounds (no_first _ _ e)

-- an AU that is there has a number of two bytes and a block or more
counted : (aus : List AuPlan) (au n : ℕ) → list_all is_numbered aus ≡ true → has_counted aus au n ≡ true
    → (au ≤ 65535) × (1 ≤ n)
unfolding has_counted
counted [] au n numbered found = absurd cc
counted (a ∷ aus) au n numbered found =
    let all = and_parts (is_numbered a) (list_all is_numbered aus) numbered in
    elim (or_cases (a.id == au && a.count == n) (list_any (λ x. x.id == au && x.count == n) aus) found) [
      | inl here ↦
          let same = and_parts (a.id == au) (a.count == n) here in
          let fits = and_parts (is_within 0 65535 a.id) (is_within 1 512 a.count) all.0 in (
            subst (λ (k : ℕ). k ≤ 65535) (eqb-true a.id au same.0)
                (leb-true a.id 65535 (and_parts (leb 0 a.id) (leb a.id 65535) fits.0).1),
            subst (λ (k : ℕ). 1 ≤ k) (eqb-true a.count n same.1)
                (leb-true 1 a.count (and_parts (leb 1 a.count) (leb a.count 512) fits.1).0),
          )
      | inr there ↦ counted aus au n all.1 there
    ]

copy_counted : (aus : List AuPlan) (held : List Holding) (copy : Holding) → list_all is_numbered aus ≡ true
    → copy_fault aus held copy ≡ None → (copy.au ≤ 65535) × (1 ≤ length copy.blocks)
unfolding copy_fault
copy_counted aus held copy numbered e =
    counted aus copy.au (length copy.blocks) numbered
    (stands (has_counted aus copy.au (length copy.blocks)) BlockCount (no_first _ _ e))

-- ---- what a good plan says of one peer

-- a peer that has something is honest
record IsOwner (p : PeerPlan) : Type 0 where
  refs : 1 ≤ length p.refs → p.corrupt ≡ false
  friends : 1 ≤ length p.friends → p.corrupt ≡ false
  copies : 1 ≤ length p.copies → p.corrupt ≡ false

owns : (p : PeerPlan) → is_fit p ≡ true → IsOwner p
unfolding is_fit is_bare
owns p fit =
    elim (cases_Bool p.corrupt) [
      | inl corrupt ↦ bare (whole corrupt)
      | inr honest ↦ record { refs = λ some. honest; friends = λ some. honest; copies = λ some. honest }
    ]
  where
    whole : p.corrupt ≡ true → is_bare p ≡ true
    whole corrupt =
        ap (λ (c : Bool). cond c (is_bare p) true) (sym corrupt)
        ∙ (and_parts (leb (length p.proof) MOST_PROOF_BYTES) (cond p.corrupt (is_bare p) true) fit).1

    bare : is_bare p ≡ true → IsOwner p
    bare e =
        let a = and_parts (length p.refs == 0 && length p.friends == 0) (length p.copies == 0) e in
        let b = and_parts (length p.refs == 0) (length p.friends == 0) a.0 in
        let no_refs = eqb-true (length p.refs) 0 b.0 in
        let no_friends = eqb-true (length p.friends) 0 b.1 in
        let no_copies = eqb-true (length p.copies) 0 a.1 in
        record {
          refs = λ some. absurd (omega (arith, some, no_refs));
          friends = λ some. absurd (omega (arith, some, no_friends));
          copies = λ some. absurd (omega (arith, some, no_copies));
        }

regroup : (a b c d text : List ℕ) → (a ++ b ++ c ++ d) ++ text ≡ a ++ (b ++ (c ++ (d ++ text)))
regroup a b c d text =
    append_assoc (a ++ b ++ c) d text ∙ append_assoc (a ++ b) c (d ++ text) ∙ append_assoc a b (c ++ (d ++ text))

-- ---- the lines of one peer, of which some peers have all and others nothing yet

module _ (rules : Rules) (turns : ℕ) (aus : List AuPlan) (done : List PeerPlan) (p : PeerPlan)
    (more : List PeerPlan) (small : p.id ≤ 65535) (new : has_peer done p.id ≡ false) where
  abbrev peers_mid : HashKind → List ℕ → List ℕ → List Holding → List PeerPlan
  peers_mid hash refs friends copies = done ++ mid p hash refs friends copies ∷ map bare_of more

  abbrev draft_mid : HashKind → List ℕ → List ℕ → List Holding → List ℕ → ℕ → PlanDraft
  draft_mid hash refs friends copies hashed bytes =
      record {
        plan = record {
          rules = rules;
          turns = turns;
          aus = aus;
          peers = peers_mid hash refs friends copies;
        };
        bytes = bytes;
        hashed = hashed;
      }

  own_id : (p.id == p.id) ≡ true
  own_id = eq-eqb p.id p.id refl

  -- no peer before passes a test that only a peer of the number passes
  others_lack : (test : PeerPlan → Bool) → ((q : PeerPlan) → (q.id == p.id) ≡ false → test q ≡ false)
      → (before : List PeerPlan) → has_peer before p.id ≡ false → list_any test before ≡ false
  unfolding has_peer
  others_lack test other [] h = refl
  others_lack test other (q ∷ before) h =
      let k = or_parts (q.id == p.id) (list_any (λ (x : PeerPlan). x.id == p.id) before) h in
      rw (other q k.0) (others_lack test other before k.1)

  -- ---- hash

  hash_put : (hashed : List ℕ) (bytes : ℕ) → has_member hashed p.id ≡ false
      → later_line (draft_mid Sha256 [] [] [] hashed bytes) (codes "hash")
      (decimal p.id ∷ hash_text Sha512_256 ∷ [])
      ≡ Some (Planned part.Lists (draft_mid Sha512_256 [] [] [] (hashed ++ p.id ∷ []) bytes))
  unfolding later_line draft_with_hash hashing draft_with_noted has_peer
  hash_put hashed bytes lacks =
      let m = mid p Sha256 [] [] [] in
      rw (
        small_again p.id small,
        hash_again Sha512_256,
        place_found (λ (q : PeerPlan). q.id == p.id) done m (map bare_of more) new own_id,
        read_at done m (map bare_of more),
        set_at done m (mid p Sha512_256 [] [] []) (map bare_of more),
        lacks,
      ) refl

  hash_reads : (hash : HashKind) (at : PlanPart) (hashed : List ℕ) (bytes : ℕ) (text : List ℕ) (s : Script)
      → has_member hashed p.id ≡ false
      → ((at : PlanPart) → Reads (Planned at (draft_mid hash [] [] [] (hashed ++ hash_said p.id hash) bytes)) text s)
      → Reads (Planned at (draft_mid Sha256 [] [] [] hashed bytes)) (hash_line p.id hash ++ text) s
  unfolding hash_line
  hash_reads Sha256 at hashed bytes text s lacks reads =
      subst (λ (all : List ℕ). Reads (Planned at (draft_mid Sha256 [] [] [] all bytes)) text s) (append-nil hashed)
      (reads at)
  hash_reads Sha512_256 at hashed bytes text s lacks reads =
      later_reads at (draft_mid Sha256 [] [] [] hashed bytes)
      (draft_mid Sha512_256 [] [] [] (hashed ++ p.id ∷ []) bytes) (codes "hash")
      (decimal p.id ∷ hash_text Sha512_256 ∷ []) text s refl refl
      (rw (small_plain p.id small, weaker 43 44 (hash_text Sha512_256) (omega arith) (hash_above Sha512_256)) refl)
      (hash_put hashed bytes lacks) (reads part.Lists)

  -- ---- refs and friends

  other_lacks : (kind : ListKind) (q : PeerPlan) → (q.id == p.id) ≡ false → lacks_list kind p.id q ≡ false
  unfolding lacks_list
  other_lacks kind q h = rw h refl

  listed_put : (kind : ListKind) (m now : PeerPlan) (after : List PeerPlan) (ids : List ℕ)
      → lacks_list kind p.id m ≡ true → is_list (done ++ m ∷ after) p.id ids ≡ true → with_list kind m ids ≡ now
      → peers_with_list kind p.id ids (done ++ m ∷ after) ≡ Some (done ++ now ∷ after)
  unfolding peers_with_list
  listed_put kind m now after ids lacks good is =
      rw (
        place_found (lacks_list kind p.id) done m after
            (others_lack (lacks_list kind p.id) (other_lacks kind) done new) lacks,
        read_at done m after,
        good,
        is,
        set_at done m now after,
      ) refl

  good_list : (hash : HashKind) (refs friends : List ℕ) (copies : List Holding) (first : ℕ) (rest : List ℕ)
      → each (member_fault (done ++ p ∷ more) p.id) [] (first ∷ rest) ≡ None
      → is_list (peers_mid hash refs friends copies) p.id (first ∷ rest) ≡ true
  unfolding is_list
  good_list hash refs friends copies first rest good =
      and_from (leb 1 (length (first ∷ rest))) _ (le-leb 1 (length (first ∷ rest)) (omega arith))
      (ap is_none
      (members_same (peers_mid hash refs friends copies) (done ++ p ∷ more)
      (mid_has done p hash refs friends copies more) p.id [] (first ∷ rest)
      ∙ good))

  lacks_refs : (hash : HashKind) (friends : List ℕ) → p.corrupt ≡ false
      → lacks_list Refs p.id (mid p hash [] friends []) ≡ true
  unfolding lacks_list list_of
  lacks_refs hash friends honest = rw (own_id, honest) refl

  lacks_friends : (hash : HashKind) (refs : List ℕ) → p.corrupt ≡ false
      → lacks_list Friends p.id (mid p hash refs [] []) ≡ true
  unfolding lacks_list list_of
  lacks_friends hash refs honest = rw (own_id, honest) refl

  refs_put : (hash : HashKind) (first : ℕ) (rest hashed : List ℕ) (bytes : ℕ) → p.corrupt ≡ false
      → each (member_fault (done ++ p ∷ more) p.id) [] (first ∷ rest) ≡ None → All (λ n. n ≤ 65535) (first ∷ rest)
      → later_line (draft_mid hash [] [] [] hashed bytes) (codes "refs") (decimal p.id ∷ map decimal (first ∷ rest))
      ≡ Some (Planned part.Lists (draft_mid hash (first ∷ rest) [] [] hashed bytes))
  unfolding later_line draft_with_list with_list
  refs_put hash first rest hashed bytes honest good fit =
      rw (
        small_again p.id small,
        ids_again (first ∷ rest) fit,
        listed_put Refs (mid p hash [] [] []) (mid p hash (first ∷ rest) [] []) (map bare_of more) (first ∷ rest)
            (lacks_refs hash [] honest) (good_list hash [] [] [] first rest good) refl,
      ) refl

  friends_put : (hash : HashKind) (refs : List ℕ) (first : ℕ) (rest hashed : List ℕ) (bytes : ℕ) → p.corrupt ≡ false
      → each (member_fault (done ++ p ∷ more) p.id) [] (first ∷ rest) ≡ None → All (λ n. n ≤ 65535) (first ∷ rest)
      → later_line (draft_mid hash refs [] [] hashed bytes) (codes "friends")
      (decimal p.id ∷ map decimal (first ∷ rest))
      ≡ Some (Planned part.Lists (draft_mid hash refs (first ∷ rest) [] hashed bytes))
  unfolding later_line draft_with_list with_list
  friends_put hash refs first rest hashed bytes honest good fit =
      rw (
        small_again p.id small,
        ids_again (first ∷ rest) fit,
        listed_put Friends (mid p hash refs [] []) (mid p hash refs (first ∷ rest) []) (map bare_of more)
            (first ∷ rest) (lacks_friends hash refs honest) (good_list hash refs [] [] first rest good) refl,
      ) refl

  ids_line_plain : (key : List ℕ) (ids : List ℕ) → are_above 43 key ≡ true → All (λ n. n ≤ 65535) ids
      → are_plain (key ∷ decimal p.id ∷ map decimal ids) ≡ true
  ids_line_plain key ids plain fit = rw (plain, small_plain p.id small) (ids_plain ids fit)

  refs_reads : (ids : List ℕ) (hash : HashKind) (at : PlanPart) (hashed : List ℕ) (bytes : ℕ) (text : List ℕ)
      (s : Script)
      → (1 ≤ length ids → p.corrupt ≡ false)
      → each (member_fault (done ++ p ∷ more) p.id) [] ids ≡ None → All (λ n. n ≤ 65535) ids
      → ((at : PlanPart) → Reads (Planned at (draft_mid hash ids [] [] hashed bytes)) text s)
      → Reads (Planned at (draft_mid hash [] [] [] hashed bytes)) (list_line (codes "refs") p.id ids ++ text) s
  unfolding list_line
  refs_reads [] hash at hashed bytes text s honest good fit reads = reads at
  refs_reads (first ∷ rest) hash at hashed bytes text s honest good fit reads =
      later_reads at (draft_mid hash [] [] [] hashed bytes) (draft_mid hash (first ∷ rest) [] [] hashed bytes)
      (codes "refs") (decimal p.id ∷ map decimal (first ∷ rest)) text s refl refl
      (ids_line_plain (codes "refs") (first ∷ rest) refl fit)
      (refs_put hash first rest hashed bytes (honest (omega arith)) good fit) (reads part.Lists)

  friends_reads : (ids : List ℕ) (hash : HashKind) (refs : List ℕ) (at : PlanPart) (hashed : List ℕ) (bytes : ℕ)
      (text : List ℕ) (s : Script)
      → (1 ≤ length ids → p.corrupt ≡ false)
      → each (member_fault (done ++ p ∷ more) p.id) [] ids ≡ None → All (λ n. n ≤ 65535) ids
      → ((at : PlanPart) → Reads (Planned at (draft_mid hash refs ids [] hashed bytes)) text s)
      → Reads (Planned at (draft_mid hash refs [] [] hashed bytes)) (list_line (codes "friends") p.id ids ++ text) s
  unfolding list_line
  friends_reads [] hash refs at hashed bytes text s honest good fit reads = reads at
  friends_reads (first ∷ rest) hash refs at hashed bytes text s honest good fit reads =
      later_reads at (draft_mid hash refs [] [] hashed bytes) (draft_mid hash refs (first ∷ rest) [] hashed bytes)
      (codes "friends") (decimal p.id ∷ map decimal (first ∷ rest)) text s refl refl
      (ids_line_plain (codes "friends") (first ∷ rest) refl fit)
      (friends_put hash refs first rest hashed bytes (honest (omega arith)) good fit) (reads part.Lists)

  -- ---- copies

  abbrev AreBlocks : Holding → Type 0
  AreBlocks c = All (AreFew MOST_BLOCK_BYTES) c.blocks

  other_holds : (q : PeerPlan) → (q.id == p.id) ≡ false → may_hold p.id q ≡ false
  unfolding may_hold
  other_holds q h = rw h refl

  holds_more : (hash : HashKind) (refs friends : List ℕ) (held : List Holding) → p.corrupt ≡ false
      → may_hold p.id (mid p hash refs friends held) ≡ true
  unfolding may_hold
  holds_more hash refs friends held honest = rw (own_id, honest) refl

  copies_put : (bytes : ℕ) (copy : Holding) (held : List Holding)
      → bytes + bytes_of_blocks copy.blocks ≤ MOST_COPY_BYTES → copy_fault aus held copy ≡ None
      → copies_with aus bytes copy held ≡ Some (held ++ copy ∷ [], bytes + bytes_of_blocks copy.blocks)
  unfolding copies_with with_more
  copies_put bytes copy held few good = rw (le-leb (bytes + bytes_of_blocks copy.blocks) MOST_COPY_BYTES few, good) refl

  holding_put : (hash : HashKind) (refs friends : List ℕ) (held : List Holding) (copy : Holding) (bytes : ℕ)
      → p.corrupt ≡ false → bytes + bytes_of_blocks copy.blocks ≤ MOST_COPY_BYTES → copy_fault aus held copy ≡ None
      → holding aus bytes p.id copy (peers_mid hash refs friends held)
      ≡ Some (peers_mid hash refs friends (held ++ copy ∷ []), bytes + bytes_of_blocks copy.blocks)
  unfolding holding
  holding_put hash refs friends held copy bytes honest few good =
      let m = mid p hash refs friends held in
      rw (
        place_found (may_hold p.id) done m (map bare_of more) (others_lack (may_hold p.id) other_holds done new)
            (holds_more hash refs friends held honest),
        read_at done m (map bare_of more),
        copies_put bytes copy held few good,
        set_at done m (mid p hash refs friends (held ++ copy ∷ [])) (map bare_of more),
      ) refl

  copy_put : (hash : HashKind) (refs friends : List ℕ) (held : List Holding) (copy : Holding) (hashed : List ℕ)
      (bytes : ℕ)
      → p.corrupt ≡ false → copy.au ≤ 65535 → 1 ≤ length copy.blocks → AreBlocks copy
      → bytes + bytes_of_blocks copy.blocks ≤ MOST_COPY_BYTES → copy_fault aus held copy ≡ None
      → later_line (draft_mid hash refs friends held hashed bytes) (codes "copy")
      (decimal p.id ∷ decimal copy.au ∷ blocks_text copy.blocks ∷ [])
      ≡ Some
      (Planned part.Lists
      (draft_mid hash refs friends (held ++ copy ∷ []) hashed (bytes + bytes_of_blocks copy.blocks)))
  unfolding later_line draft_with_copy content_in
  copy_put hash refs friends held copy hashed bytes honest au some fit few good =
      rw (
        small_again p.id small,
        small_again copy.au au,
        blocks_again copy.blocks some fit,
        holding_put hash refs friends held copy bytes honest few good,
      ) refl

  copies_read : (copies : List Holding) (hash : HashKind) (refs friends : List ℕ) (held : List Holding)
      (at : PlanPart) (hashed : List ℕ) (bytes : ℕ) (text : List ℕ) (s : Script)
      → list_all is_numbered aus ≡ true → (1 ≤ length copies → p.corrupt ≡ false)
      → each (copy_fault aus) held copies ≡ None → All AreBlocks copies
      → bytes + bytes_of_copies copies ≤ MOST_COPY_BYTES
      → ((at : PlanPart)
      → Reads
      (Planned at (draft_mid hash refs friends (held ++ copies) hashed (bytes + bytes_of_copies copies))) text
      s)
      → Reads (Planned at (draft_mid hash refs friends held hashed bytes)) (flat_map (copy_line p.id) copies ++ text) s
  unfolding copy_line
  copies_read [] hash refs friends held at hashed bytes text s numbered honest good fit few reads =
      let none : bytes + bytes_of_copies [] ≡ bytes = omega arith in
      subst (λ (n : ℕ). Reads (Planned at (draft_mid hash refs friends held hashed n)) text s) none
      (subst
      (λ (all : List Holding). Reads
      (Planned at (draft_mid hash refs friends all hashed (bytes + bytes_of_copies []))) text s)
      (append-nil held) (reads at))
  copies_read (copy ∷ copies) hash refs friends held at hashed bytes text s numbered honest good fit few reads =
      let now = no_first (copy_fault aus held copy) (each (copy_fault aus) (held ++ copy ∷ []) copies) good in
      let later = no_second (copy_fault aus held copy) (each (copy_fault aus) (held ++ copy ∷ []) copies) good in
      let counts = copy_counted aus held copy numbered now in
      let first : List ℕ = copy_line p.id copy in
      let sums : bytes_of_copies (copy ∷ copies)
      ≡ bytes_of_blocks copy.blocks
      + bytes_of_copies copies = sum_by-cons (λ (c : Holding). bytes_of_blocks c.blocks) copy copies in
      let total : bytes + bytes_of_copies (copy ∷ copies)
      ≡ (bytes + bytes_of_blocks copy.blocks) + bytes_of_copies copies = omega (arith, sums) in
      let less : bytes + bytes_of_blocks copy.blocks ≤ MOST_COPY_BYTES = omega (arith, total, few) in
      let rest : (bytes + bytes_of_blocks copy.blocks) + bytes_of_copies copies
      ≤ MOST_COPY_BYTES = omega (arith, total, few) in
      let blocks = All-head AreBlocks copy copies fit in
      let is_honest = honest (omega arith) in
      subst (λ (t : List ℕ). Reads (Planned at (draft_mid hash refs friends held hashed bytes)) t s)
      (sym (append_assoc first (flat_map (copy_line p.id) copies) text))
      (later_reads at (draft_mid hash refs friends held hashed bytes)
      (draft_mid hash refs friends (held ++ copy ∷ []) hashed (bytes + bytes_of_blocks copy.blocks))
      (codes "copy") (decimal p.id ∷ decimal copy.au ∷ blocks_text copy.blocks ∷ [])
      (flat_map (copy_line p.id) copies ++ text) s refl refl
      (rw (small_plain p.id small, small_plain copy.au counts.0, blocks_above copy.blocks blocks) refl)
      (copy_put hash refs friends held copy hashed bytes is_honest counts.0 counts.1 blocks less now)
      (copies_read copies hash refs friends (held ++ copy ∷ []) part.Lists hashed
      (bytes + bytes_of_blocks copy.blocks) text s numbered (λ some. is_honest) later
      (All-tail AreBlocks copy copies fit) rest
      (λ at. subst
      (λ (n : ℕ). Reads (Planned at (draft_mid hash refs friends ((held ++ copy ∷ []) ++ copies) hashed n)) text
      s) total
      (subst
      (λ (all : List Holding). Reads
      (Planned at (draft_mid hash refs friends all hashed (bytes + bytes_of_copies (copy ∷ copies)))) text s)
      (sym (append_assoc held (copy ∷ []) copies)) (reads at)))))

  -- all lines of the peer
  peer_reads : (at : PlanPart) (hashed : List ℕ) (bytes : ℕ) (text : List ℕ) (s : Script)
      → list_all is_numbered aus ≡ true → ((id : ℕ) → has_peer (done ++ p ∷ more) id ≡ true → id ≤ 65535)
      → PeerFacts aus (done ++ p ∷ more) done p → has_member hashed p.id ≡ false → All AreBlocks p.copies
      → bytes + bytes_of_copies p.copies ≤ MOST_COPY_BYTES
      → ((at : PlanPart)
      → Reads
      (Planned at
      (draft_mid p.hash p.refs p.friends p.copies (hashed ++ hash_said p.id p.hash)
      (bytes + bytes_of_copies p.copies))) text s)
      → Reads (Planned at (draft_mid Sha256 [] [] [] hashed bytes)) (belongings p ++ text) s
  unfolding belongings
  peer_reads at hashed bytes text s numbered all_small parts lacks fit few reads =
      let own = owns p parts.fit in
      let refs = members_small (done ++ p ∷ more) all_small p.id [] p.refs parts.refs in
      let friends = members_small (done ++ p ∷ more) all_small p.id [] p.friends parts.friends in
      let said : List ℕ = hashed ++ hash_said p.id p.hash in
      let friend_text : List ℕ = list_line (codes "friends") p.id p.friends in
      let copy_text : List ℕ = flat_map (copy_line p.id) p.copies in
      subst (λ (t : List ℕ). Reads (Planned at (draft_mid Sha256 [] [] [] hashed bytes)) t s)
      (sym (regroup (hash_line p.id p.hash) (list_line (codes "refs") p.id p.refs) friend_text copy_text text))
      (hash_reads p.hash at hashed bytes
      (list_line (codes "refs") p.id p.refs ++ (friend_text ++ (copy_text ++ text))) s lacks
      (λ at. refs_reads p.refs p.hash at said bytes (friend_text ++ (copy_text ++ text)) s own.refs parts.refs refs
      (λ at. friends_reads p.friends p.hash p.refs at said bytes (copy_text ++ text) s own.friends parts.friends friends
      (λ at. copies_read p.copies p.hash p.refs p.friends [] at said bytes text s numbered own.copies parts.copies
      fit few reads))))

-- ---- the lines of all

hashes_lack : (ps : List PeerPlan) (id : ℕ) → has_peer ps id ≡ false → has_member (said_hashes ps) id ≡ false
unfolding has_peer has_member
hashes_lack [] id h = refl
hashes_lack (p ∷ ps) id h =
    let k = or_parts (p.id == id) (list_any (λ (x : PeerPlan). x.id == id) ps) h in
    by_hash p.hash k.0 (hashes_lack ps id k.1)
  where
    by_hash : (hash : HashKind) → (p.id == id) ≡ false → has_member (said_hashes ps) id ≡ false
        → has_member (hash_said p.id hash ++ said_hashes ps) id ≡ false
    by_hash Sha256 other rest = rest
    by_hash Sha512_256 other rest = rw other rest

hashes_next : (done : List PeerPlan) (p : PeerPlan)
    → said_hashes (done ++ p ∷ []) ≡ said_hashes done ++ hash_said p.id p.hash
hashes_next [] p = append-nil (hash_said p.id p.hash)
hashes_next (q ∷ done) p =
    ap (λ (ids : List ℕ). hash_said q.id q.hash ++ ids) (hashes_next done p)
    ∙ sym (append_assoc (hash_said q.id q.hash) (said_hashes done) (hash_said p.id p.hash))

bytes_next : (done : List PeerPlan) (p : PeerPlan)
    → bytes_of_peers (done ++ p ∷ []) ≡ bytes_of_peers done + bytes_of_copies p.copies
bytes_next done p =
    let all = sum_by-append (λ (x : PeerPlan). bytes_of_copies x.copies) done (p ∷ []) in
    let one = sum_by-cons (λ (x : PeerPlan). bytes_of_copies x.copies) p [] in
    omega (arith, all, one)

bytes_so_far : (done : List PeerPlan) (p : PeerPlan) (more : List PeerPlan)
    → bytes_of_peers done + bytes_of_copies p.copies ≤ bytes_of_peers (done ++ p ∷ more)
bytes_so_far done p more =
    let all = sum_by-append (λ (x : PeerPlan). bytes_of_copies x.copies) done (p ∷ more) in
    let one = sum_by-cons (λ (x : PeerPlan). bytes_of_copies x.copies) p more in
    omega (arith, all, one)

module _ (rules : Rules) (turns : ℕ) (aus : List AuPlan) (numbered : list_all is_numbered aus ≡ true) where
  abbrev drafted : List PeerPlan → List ℕ → ℕ → PlanDraft
  drafted peers hashed bytes =
      record {
        plan = record { rules = rules; turns = turns; aus = aus; peers = peers };
        bytes = bytes;
        hashed = hashed;
      }

  draft_next : (done : List PeerPlan) (p : PeerPlan) (more : List PeerPlan)
      → draft_at rules turns aus (done ++ p ∷ []) more
      ≡ drafted (done ++ p ∷ map bare_of more) (said_hashes done ++ hash_said p.id p.hash)
      (bytes_of_peers done + bytes_of_copies p.copies)
  draft_next done p more =
      ap (λ (peers : List PeerPlan). drafted peers (said_hashes (done ++ p ∷ [])) (bytes_of_peers (done ++ p ∷ [])))
      (append_assoc done (p ∷ []) (map bare_of more))
      ∙ ap (λ (ids : List ℕ). drafted (done ++ p ∷ map bare_of more) ids (bytes_of_peers (done ++ p ∷ [])))
      (hashes_next done p)
      ∙ ap (λ (n : ℕ). drafted (done ++ p ∷ map bare_of more) (said_hashes done ++ hash_said p.id p.hash) n)
      (bytes_next done p)

  module _ (all : List PeerPlan) (all_small : (id : ℕ) → has_peer all id ≡ true → id ≤ 65535)
      (few : bytes_of_peers all ≤ MOST_COPY_BYTES) (text : List ℕ) (s : Script)
      (reads : (at : PlanPart) → Reads (Planned at (draft_at rules turns aus all [])) text s) where
    peers_read : (done rest : List PeerPlan) (at : PlanPart) → done ++ rest ≡ all
        → each (peer_fault aus all) done rest ≡ None → All IsSaidPeer rest
        → Reads (Planned at (draft_at rules turns aus done rest)) (flat_map belongings rest ++ text) s
    peers_read done [] at is good said =
        subst (λ (ps : List PeerPlan). Reads (Planned at (draft_at rules turns aus ps [])) text s)
        (sym is ∙ append-nil done) (reads at)
    peers_read done (p ∷ more) at is good said =
        let now = no_first (peer_fault aus all done p) (each (peer_fault aus all) (done ++ p ∷ []) more) good in
        let later = no_second (peer_fault aus all done p) (each (peer_fault aus all) (done ++ p ∷ []) more) good in
        let parts = parted aus all done p now in
        let own = All-head IsSaidPeer p more said in
        let same = sym is in
        let sum = bytes_so_far done p more in
        let room : bytes_of_peers (done ++ p ∷ more)
        ≤ MOST_COPY_BYTES = subst (λ (ps : List PeerPlan). bytes_of_peers ps ≤ MOST_COPY_BYTES) same few in
        subst (λ (t : List ℕ). Reads (Planned at (draft_at rules turns aus done (p ∷ more))) t s)
        (sym (append_assoc (belongings p) (flat_map belongings more) text))
        (peer_reads rules turns aus done p more own.id parts.new at (said_hashes done) (bytes_of_peers done)
        (flat_map belongings more ++ text) s numbered
        (subst (λ (ps : List PeerPlan). (id : ℕ) → has_peer ps id ≡ true → id ≤ 65535) same all_small)
        (subst (λ (ps : List PeerPlan). PeerFacts aus ps done p) same parts) (hashes_lack done p.id parts.new)
        own.copies (omega (arith, sum, room))
        (λ at. subst (λ (d : PlanDraft). Reads (Planned at d) (flat_map belongings more ++ text) s)
        (draft_next done p more)
        (peers_read (done ++ p ∷ []) more at (append_assoc done (p ∷ []) more ∙ is) later
        (All-tail IsSaidPeer p more said))))

-- ---- what a good plan says of all

said_small : (ps : List PeerPlan) → All IsSaidPeer ps → (id : ℕ) → has_peer ps id ≡ true → id ≤ 65535
unfolding has_peer
said_small [] said id has = absurd cc
said_small (p ∷ ps) said id has =
    elim (or_cases (p.id == id) (list_any (λ (x : PeerPlan). x.id == id) ps) has) [
      | inl here ↦ subst (λ (n : ℕ). n ≤ 65535) (eqb-true p.id id here) (All-head IsSaidPeer p ps said).id
      | inr there ↦ said_small ps (All-tail IsSaidPeer p ps said) id there
    ]

said_behind : (done rest : List PeerPlan) → All IsSaidPeer (done ++ rest) → All IsSaidPeer rest
said_behind [] rest said = said
said_behind (p ∷ done) rest said = said_behind done rest (All-tail IsSaidPeer p (done ++ rest) said)

each_behind : {X : Type 0} (rule : List X → X → Option PlanFault) (before xs ys : List X)
    → each rule before (xs ++ ys) ≡ None → each rule (before ++ xs) ys ≡ None
each_behind rule before [] ys e = ap (λ b. each rule b ys) (append-nil before) ∙ e
each_behind {X} rule before (x ∷ xs) ys e =
    ap (λ (b : List X). each rule b ys) (sym (append_assoc before (x ∷ []) xs))
    ∙ each_behind rule (before ++ x ∷ []) xs ys (no_second (rule before x) (each rule (before ++ x ∷ []) (xs ++ ys)) e)

eighth : (a b c d e f g h : Option PlanFault) → (a ▹ b ▹ c ▹ d ▹ e ▹ f ▹ g ▹ h) ≡ None → h ≡ None
eighth a b c d e f g h none =
    no_second g h (no_second f (g ▹ h) (no_second e (f ▹ g ▹ h) (fifth a b c d (e ▹ f ▹ g ▹ h) none)))

few_bytes : (plan : Plan) → plan_fault plan ≡ None → bytes_of_peers plan.peers ≤ MOST_COPY_BYTES
unfolding plan_fault
few_bytes plan good =
    leb-true (bytes_of_peers plan.peers) MOST_COPY_BYTES
    (stands (leb (bytes_of_peers plan.peers) MOST_COPY_BYTES) Bounds
    (eighth (unless (are_bounded plan.rules) Bounds) (unless (are_ordered plan.rules) RulesOrder)
    (unless (leb plan.turns MOST_EVENTS) Bounds)
    (unless (is_within 1 MOST_AUS (length plan.aus)) Bounds) (each au_fault [] plan.aus)
    (unless (is_within 1 MOST_PEERS (length plan.peers)) Bounds)
    (each (peer_fault plan.aus plan.peers) [] plan.peers)
    (unless (leb (bytes_of_peers plan.peers) MOST_COPY_BYTES) Bounds) good))

abbrev plan_of : Rules → ℕ → List AuPlan → List PeerPlan → Plan
plan_of rules turns aus peers = record { rules = rules; turns = turns; aus = aus; peers = peers }

-- a member of a list may be any peer, so the numbers of those before are asked too
pub belongings_read : (rules : Rules) (turns : ℕ) (aus : List AuPlan) (done rest : List PeerPlan) (at : PlanPart)
    (text : List ℕ) (s : Script)
    → plan_fault (record { rules = rules; turns = turns; aus = aus; peers = done ++ rest }) ≡ None
    → All IsSaidPeer (done ++ rest)
    → ((at : PlanPart) → Reads (Planned at (draft_at rules turns aus (done ++ rest) [])) text s)
    → Reads (Planned at (draft_at rules turns aus done rest)) (flat_map belongings rest ++ text) s
belongings_read rules turns aus done rest at text s good said reads =
    let plan = plan_of rules turns aus (done ++ rest) in
    let lists = lists_stand plan good in
    peers_read rules turns aus (all_of au_fault is_numbered numbered_au [] aus lists.0) (done ++ rest)
    (said_small (done ++ rest) said) (few_bytes plan good) text s reads done rest at refl
    (each_behind (peer_fault aus (done ++ rest)) [] done rest lists.1) (said_behind done rest said)
