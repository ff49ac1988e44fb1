-- What a peer knows by the facts of its journal.
use Rattle.std.proofs.Common.{◌≡◌, ◌≤◌, ◌<◌, ◌+◌, ◌^◌, ◌∙◌, ap, sym, subst, ℕ, Bool, true, false, cond, eqb, List, []}
use Rattle.std.proofs.Common.{◌∷◌, length, refl, arith}
use Rattle.std.specs.Prelude.{Option, Some, None, unwrap_or, slice_get, All}
use Rattle.std.specs.List.{AllByRecursion, filter_map, cons_option}
use Rattle.std.proofs.lemmas.Bool.{eqb-true}
use Rattle.std.proofs.lemmas.List.Elements.{All-nil, All-set, All-from_recursion}
use Rattle.std.proofs.lemmas.Option.{slice_get_within, get_or_from_slice_get}
use Rattle.sha2.proofs.Facts256.{length-sha256}
use Rattle.sha2.proofs.Facts512.{length-sha512_256}
use Rattle.lks_base.specs.declared.limits.TheConstants.{MOST_BLOCK_BYTES}
use Rattle.lks_base.specs.declared.messages.Message.TheVariants as message
use Rattle.lks_base.specs.declared.names.PollName.{PollName}
use Rattle.lks_base.specs.declared.records.Record.{Record}
use Rattle.lks_base.specs.declared.records.Record.TheVariants.{Deposit, PollOpened, Asked, RepairBad, Replaced}
use Rattle.lks_base.specs.declared.records.Record.TheVariants.{Joined, Committed, Voted}
use Rattle.lks_hash.specs.Hashes.{hash_of, key_of, nonce_from}
use Rattle.lks_hash.specs.Running.{linked, hashes_of}
use Rattle.lks_hash.proofs.RunningLaws.{hashes_length}
use Rattle.lks_message.specs.Spelling.{IsInLimits}
use Rattle.lks_law.specs.Fitting.{AreSmall}
use Rattle.lks_law.specs.Journal.{Opening, Replacement, Request, replacement_in, replaced_by}
use Rattle.lks_law.specs.Journal.{deposit_in, deposit_of, opening_in, opening_of, openings, contents_at, contents_of}
use Rattle.lks_law.specs.Journal.{unanswered_after, unanswered_from, unanswered_request}
use Rattle.lks_law.specs.Polls.{Station}
use Rattle.lks_law.specs.Sessions.{Join, Commitment, is_poll, join_in, join_of, commitment_in, commitment_of}
use Rattle.lks_law.specs.Sessions.{hashes_in, hashes_of_vote, version_now}
use Rattle.lks_law.specs.Voting.{vote_hashes}
use Rattle.lks_law.specs.World.{Standing}
use Rattle.lks_law.specs.Linked.{Has, IsVoteOver}
use Rattle.lks_law.proofs.Linked.{Each, Any, Fact}
use Rattle.lks_law.proofs.Keyed.{same_poll}
use Rattle.lks_law.proofs.Growing.{first_of, opening_first, deposit_first, version_length, contents_length, each_take}

pub has_is : {X : Type 0} (P : X → Type 0) (o : Option X) (x : X) → o ≡ Some x → P x → Has P o
has_is P o x e p = subst (Has P) (sym e) p

pub is_had : {X : Type 0} (P : X → Type 0) (o : Option X) (x : X) → o ≡ Some x → Has P o → P x
is_had P o x e p = subst (Has P) e p

pub hash_length : (second : Bool) (bytes : List ℕ) → length (hash_of second bytes) ≡ 32
hash_length true bytes = length-sha512_256 bytes
hash_length false bytes = length-sha256 bytes

pub nonce_length : (seed : List ℕ) (n : ℕ) → length (nonce_from seed n) ≡ 32
unfolding nonce_from
nonce_length seed n = length-sha256 _

hashes_sized : (second : Bool) (key : List ℕ) (blocks : List (List ℕ))
    → AllByRecursion (λ h. length h ≡ 32) (hashes_of second key blocks)
hashes_sized second key [] = tt
hashes_sized second key (b ∷ bs) = (hash_length second _, hashes_sized second (linked second key b) bs)

pub record OpeningFact (js : List Record) (n : ℕ) (o : Opening) : Type 0 where
  pub low : n ≤ openings js
  pub nonce : length o.nonce ≡ 32
  pub au : o.au < 2 ^ 16

-- how a copy begins
abbrev IsDeposited : ℕ → List (List ℕ) → Type 0
IsDeposited au blocks = (au < 2 ^ 16) × (length blocks ≤ 512) × AreSmall blocks

abbrev HasSmallBytes : Replacement → Type 0
HasSmallBytes x = length x.bytes ≤ MOST_BLOCK_BYTES

replaced_small : (blocks : List (List ℕ)) (xs : List Replacement) → AreSmall blocks → Each HasSmallBytes xs
    → AreSmall (replaced_by blocks xs)
replaced_small blocks [] small each = small
replaced_small blocks (x ∷ xs) small each =
    replaced_small _ xs
    (All-set (λ (b : List ℕ). length b ≤ MOST_BLOCK_BYTES) blocks x.block x.bytes each.0 small) each.1

module _ (peers : List Standing) (own : Station) (js : List Record) (all : Each (Fact peers own js) js) where
  pub opening_fact : (n : ℕ) (o : Opening) → opening_of n js ≡ Some o → OpeningFact js n o
  opening_fact n o e =
      first_of (opening_in n) (Fact peers own js) (OpeningFact js n) by_record js o (sym (opening_first n js) ∙ e) all
    where
      by_number : (b : Bool) (m : ℕ) (x o : Opening) → eqb m n ≡ b
          → (m ≤ openings js) × (length x.nonce ≡ 32) × (x.au < 2 ^ 16) → cond b (Some x) None ≡ Some o
          → OpeningFact js n o
      by_number true m x o same fact e =
          let is : x ≡ o = cc in
          let number = eqb-true m n same in
          let low = fact.0 in
          subst (OpeningFact js n) is (record { low = omega (arith, low, number); nonce = fact.1; au = fact.2 })
      by_number false m x o same fact e = absurd cc

      by_record : (r : Record) (o : Opening) → opening_in n r ≡ Some o → Fact peers own js r → OpeningFact js n o
      by_record (PollOpened m au nonce inner tick limits kind) o e fact = by_number _ m _ o refl fact e
      by_record r o e fact = absurd cc

  pub opened_low : (n : ℕ) (o : Opening) → openings js + 1 < 2 ^ 32 → opening_of n js ≡ Some o → n < 2 ^ 32
  opened_low n o room e = let low = (opening_fact n o e).low in omega (arith, low, room)

  pub deposit_fact : (au : ℕ) (blocks : List (List ℕ)) → deposit_of au js ≡ Some blocks → IsDeposited au blocks
  deposit_fact au blocks e = first_of _ _ _ by_record js blocks (sym (deposit_first au js) ∙ e) all
    where
      by_number : (b : Bool) (a : ℕ) (x blocks : List (List ℕ)) → eqb a au ≡ b → IsDeposited a x
          → cond b (Some x) None ≡ Some blocks → IsDeposited au blocks
      by_number true a x blocks same fact e =
          let is : x ≡ blocks = cc in
          subst (λ (k : ℕ). IsDeposited k blocks) (eqb-true a au same)
          (subst (λ (y : List _). IsDeposited a y) is fact)
      by_number false a x blocks same fact e = absurd cc

      by_record : (r : Record) (blocks : List (List ℕ)) → deposit_in au r ≡ Some blocks → Fact peers own js r
          → IsDeposited au blocks
      by_record (Deposit a x) blocks e fact = by_number (eqb a au) a x blocks refl fact e
      by_record r blocks e fact = absurd cc

  short_deposit : (au : ℕ)
      → (length (unwrap_or (deposit_of au js) []) ≤ 512) × AreSmall (unwrap_or (deposit_of au js) [])
  short_deposit au = by_deposit (deposit_of au js) refl
    where
      by_deposit : (o : Option (List (List ℕ))) → deposit_of au js ≡ o
          → (length (unwrap_or o []) ≤ 512) × AreSmall (unwrap_or o [])
      by_deposit None e = (omega arith, All-nil _)
      by_deposit (Some blocks) e = let fact = deposit_fact au blocks e in (fact.1, fact.2)

  pub short_version : (au k : ℕ) → length (contents_at au k js) ≤ 512
  short_version au k = let all = version_length au k js in let few = (short_deposit au).0 in omega (arith, all, few)

  pub short_contents : (au : ℕ) → length (contents_of au js) ≤ 512
  short_contents au = let all = contents_length au js in let few = (short_deposit au).0 in omega (arith, all, few)

  -- no block of a version is too large

  small_replacements : (au : ℕ) (rs : List Record) → Each (Fact peers own js) rs
      → Each HasSmallBytes (filter_map (replacement_in au) rs)
  small_replacements au [] facts = tt
  small_replacements au (r ∷ rs) facts = by_record r facts.0 (small_replacements au rs facts.1)
    where
      by_au : (b : Bool) (x : Replacement) → HasSmallBytes x
          → Each HasSmallBytes (filter_map (replacement_in au) rs)
          → Each HasSmallBytes (cons_option (cond b (Some x) None) (filter_map (replacement_in au) rs))
      by_au true x is rest = (is, rest)
      by_au false x is rest = rest

      by_record : (r : Record) → Fact peers own js r → Each HasSmallBytes (filter_map (replacement_in au) rs)
          → Each HasSmallBytes (cons_option (replacement_in au r) (filter_map (replacement_in au) rs))
      by_record (Replaced n a b bytes) fact rest = by_au (eqb a au) (record { block = b; bytes = bytes }) fact.1 rest
      by_record r fact rest = rest

  small_version : (au k : ℕ) → AreSmall (contents_at au k js)
  unfolding contents_at
  small_version au k =
      replaced_small _ _ (short_deposit au).1 (each_take HasSmallBytes k _ (small_replacements au js all))

  -- what a peer asks for, and what it gives

  pub request_limits : (n b : ℕ) (o : Opening) → openings js + 1 < 2 ^ 32 → opening_of n js ≡ Some o
      → b < length (contents_of o.au js) → IsInLimits (message.RepairRequest n b)
  request_limits n b o room opened within =
      let few = short_contents o.au in (omega (arith, within, few), opened_low n o room opened)

  pub repair_limits : (n au k b : ℕ) (bytes : List ℕ) → n < 2 ^ 32 → slice_get (contents_at au k js) b ≡ Some bytes
      → IsInLimits (message.Repair n b bytes)
  repair_limits n au k b bytes number at =
      let within = slice_get_within _ b bytes at in
      let few = short_version au k in (
        (
          omega (arith, within, few),
          subst (λ (x : List ℕ). length x ≤ MOST_BLOCK_BYTES)
              (get_or_from_slice_get _ b bytes bytes at) (small_version au k b bytes within),
        ),
        number,
      )

  pub join_fact : (q : PollName) (j : Join) → join_of q js ≡ Some j → q.number < 2 ^ 32
  unfolding join_of
  join_fact q j e = first_of _ _ _ by_record js j e all
    where
      by_name : (b : Bool) (p : PollName) (x : Option Join) (j : Join) → is_poll p q ≡ b → p.number < 2 ^ 32
          → cond b x None ≡ Some j → q.number < 2 ^ 32
      by_name true p x j same low e = subst (λ (s : PollName). s.number < 2 ^ 32) (same_poll p q same) low
      by_name false p x j same low e = absurd cc

      by_record : (r : Record) (j : Join) → join_in q r ≡ Some j → Fact peers own js r → q.number < 2 ^ 32
      by_record (Joined p au tick low repairs) j e fact =
          by_name (is_poll p q) p (Some (record { au = au; tick = tick; low = low; repairs = repairs })) j refl
          fact.0 e
      by_record r j e fact = absurd cc

  pub committed_fact : (q : PollName) (c : Commitment) → commitment_of q js ≡ Some c
      → Has (λ j. c.version ≤ version_now j.au js) (join_of q js)
  unfolding commitment_of
  committed_fact q c e = first_of _ _ _ by_record js c e all
    where
      by_name : (b : Bool) (p : PollName) (x c : Commitment) → is_poll p q ≡ b
          → Has (λ j. x.version ≤ version_now j.au js) (join_of p js) → cond b (Some x) None ≡ Some c
          → Has (λ j. c.version ≤ version_now j.au js) (join_of q js)
      by_name true p x c same has e =
          let is : x ≡ c = cc in
          subst (λ (y : Commitment). Has (λ j. y.version ≤ version_now j.au js) (join_of q js)) is
          (subst (λ (s : PollName). Has (λ j. x.version ≤ version_now j.au js) (join_of s js))
          (same_poll p q same) has)
      by_name false p x c same has e = absurd cc

      by_record : (r : Record) (c : Commitment) → commitment_in q r ≡ Some c → Fact peers own js r
          → Has (λ j. c.version ≤ version_now j.au js) (join_of q js)
      by_record (Committed p nonce version kind) c e fact =
          by_name (is_poll p q) p (record { nonce = nonce; version = version; kind = kind }) c refl fact.0 e
      by_record r c e fact = absurd cc

  pub voted_so : (q : PollName) (r : Record) (hashes : List (List ℕ)) → hashes_in q r ≡ Some hashes
      → Fact peers own js r → Has (λ j. Has (IsVoteOver own js q hashes j) (commitment_of q js)) (join_of q js)
  voted_so q r hashes e fact = by_record r hashes e fact
    where
      by_name : (b : Bool) (p : PollName) (x hs : List (List ℕ)) → is_poll p q ≡ b
          → Has (λ j. Has (IsVoteOver own js p x j) (commitment_of p js)) (join_of p js)
          → cond b (Some x) None ≡ Some hs
          → Has (λ j. Has (IsVoteOver own js q hs j) (commitment_of q js)) (join_of q js)
      by_name true p x hs same has e =
          let is : x ≡ hs = cc in
          subst (λ (y : List _). Has (λ j. Has (IsVoteOver own js q y j) (commitment_of q js)) (join_of q js)) is
          (subst (λ (s : PollName). Has (λ j. Has (IsVoteOver own js s x j) (commitment_of s js)) (join_of s js))
          (same_poll p q same) has)
      by_name false p x hs same has e = absurd cc

      by_record : (r : Record) (hs : List (List ℕ)) → hashes_in q r ≡ Some hs → Fact peers own js r
          → Has (λ j. Has (IsVoteOver own js q hs j) (commitment_of q js)) (join_of q js)
      by_record (Voted p x) hs e fact = by_name (is_poll p q) p x hs refl fact e
      by_record r hs e fact = absurd cc

  pub voted_fact : (q : PollName) (hashes : List (List ℕ)) → hashes_of_vote q js ≡ Some hashes
      → Has (λ j. Has (IsVoteOver own js q hashes j) (commitment_of q js)) (join_of q js)
  unfolding hashes_of_vote
  voted_fact q hashes e = first_of _ _ _ (voted_so q) js hashes e all

  -- a request is for a block that is there
  abbrev pub IsWithin : ℕ → Request → Type 0
  IsWithin n r = Has (λ o. r.block < length (contents_of o.au js)) (opening_of n js)

  within_after : (n : ℕ) (before : Option Request) (r : Record) → Any (IsWithin n) before → Fact peers own js r
      → Any (IsWithin n) (unanswered_after n before r)
  within_after n before (Asked number block voter) was fact = by_number (eqb number n) refl
    where
      by_number : (b : Bool) → eqb number n ≡ b
          → Any (IsWithin n) (cond b (Some (record { block = block; voter = voter })) before)
      by_number true same =
          subst (λ k. Has (λ o. block < length (contents_of o.au js)) (opening_of k js)) (eqb-true number n same) fact
      by_number false same = was
  within_after n before (RepairBad number block voter) was fact = by_number (eqb number n)
    where
      by_number : (b : Bool) → Any (IsWithin n) (cond b None before)
      by_number true = tt
      by_number false = was
  within_after n before (Replaced number au block bytes) was fact = by_number (eqb number n)
    where
      by_number : (b : Bool) → Any (IsWithin n) (cond b None before)
      by_number true = tt
      by_number false = was
  within_after n before r was fact = was

  within_from : (n : ℕ) (before : Option Request) (rs : List Record) → Any (IsWithin n) before
      → Each (Fact peers own js) rs → Any (IsWithin n) (unanswered_from n before rs)
  within_from n before [] was each = was
  within_from n before (r ∷ rs) was each =
      within_from n (unanswered_after n before r) rs (within_after n before r was each.0) each.1

  pub request_fact : (n : ℕ) → Any (IsWithin n) (unanswered_request n js)
  unfolding unanswered_request
  request_fact n = within_from n None js tt all

  -- a vote over a version is in its limits
  pub vote_limits : (q : PollName) (j : Join) (c : Commitment) (hashes : List (List ℕ)) → length own.proof ≤ 64
      → join_of q js ≡ Some j → hashes ≡ vote_hashes own.id q j.au c (contents_at j.au c.version js)
      → IsInLimits (message.Vote q.number hashes own.proof)
  unfolding vote_hashes
  vote_limits q j c hashes proof joined over =
      let blocks = contents_at j.au c.version js in
      let key = key_of _ q.poller q.number c.nonce own.id j.au _ in
      let count = ap length over ∙ hashes_length _ key blocks in
      let short = short_version j.au c.version in (
        (omega (arith, count, short), proof),
        (
          join_fact q j joined,
          subst (λ (hs : List _). All (λ h. length h ≡ 32) hs) (sym over)
              (All-from_recursion _ _
              (hashes_sized _ key blocks)),
        ),
      )

  pub voted_limits : (q : PollName) (hashes : List (List ℕ)) → length own.proof ≤ 64
      → hashes_of_vote q js ≡ Some hashes → IsInLimits (message.Vote q.number hashes own.proof)
  voted_limits q hashes proof voted = by_join (join_of q js) refl (voted_fact q hashes voted)
    where
      by_commitment : (j : Join) (o : Option Commitment) → join_of q js ≡ Some j
          → Has (IsVoteOver own js q hashes j) o → IsInLimits (message.Vote q.number hashes own.proof)
      by_commitment j None joined has = absurd has
      by_commitment j (Some c) joined over = vote_limits q j c hashes proof joined over.1

      by_join : (o : Option Join) → join_of q js ≡ o
          → Has (λ j. Has (IsVoteOver own js q hashes j) (commitment_of q js)) o
          → IsInLimits (message.Vote q.number hashes own.proof)
      by_join None joined has = absurd has
      by_join (Some j) joined has = by_commitment j (commitment_of q js) joined has
