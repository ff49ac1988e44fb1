-- No spelling is longer than its record may be.
use Rattle.std.proofs.Common.{◌≡◌, ◌≤◌, ◌+◌, ◌*◌, ap, ℕ, List, [], ◌∷◌, ◌++◌, length, get_or, refl, arith}
use Rattle.std.specs.Prelude.{All, Option, None, Some, Bool, true, false, sum_by}
use Rattle.std.specs.List.{flat_map, AllByRecursion}
use Rattle.std.specs.Int.{w16, w32, to_be_bytes}
use Rattle.std.proofs.lemmas.List.{length-append}
use Rattle.std.proofs.lemmas.List.Concat.{length-flat_map, flat_map-cons}
use Rattle.std.proofs.lemmas.List.Elements.{recursion_from_All}
use Rattle.std.proofs.lemmas.List.Sums.{sum_by-le, sum_by-cons}
use Rattle.lks_base.specs.declared.limits.TheConstants.{MOST_BLOCKS, MOST_BLOCK_BYTES, MOST_CIRCLE, MOST_NOMINEES}
use Rattle.lks_base.specs.declared.names.Limits.{Limits}
use Rattle.lks_base.specs.declared.names.Outcome.{Outcome}
use Rattle.lks_base.specs.declared.names.Outcome.TheVariants.{Agreed, Inquorate, Split, NoSupplier}
use Rattle.lks_base.specs.declared.names.PollName.{PollName}
use Rattle.lks_base.specs.declared.records.Record.{Record}
use Rattle.lks_base.specs.declared.records.Record.TheVariants.{Deposit, PollOpened, Nominated, OuterOpened, VoteIn}
use Rattle.lks_base.specs.declared.records.Record.TheVariants.{Shut, Asked, RepairBad, Replaced, Closed, Overdue}
use Rattle.lks_base.specs.declared.records.Record.TheVariants.{Joined, Committed, Voted, Served, Ended, Tuned}
use Rattle.lks_base.specs.Kinds.{is_second}
use Rattle.lks_field.proofs.KindFields.{kind_length}
use Rattle.lks_record.specs.Spelling.{flag_bytes, kind_bytes, peer_bytes, hash_bytes, content_bytes, block_bytes}
use Rattle.lks_record.specs.Spelling.{poll_bytes, limit_bytes, optional, outcome_bytes, spelling, batch_spelling}
use Rattle.lks_record.specs.Spelling.{AreHashes, IsInLimits, IsBatch}
use Rattle.lks_record.specs.Sizes.{most_bytes, most_batch_bytes}

-- ---- lists

-- items of at most m bytes each
flat_short : {X : Type 0} (f : X → List ℕ) (m : ℕ) (xs : List X) → All (λ x. length (f x) ≤ m) xs
    → length (flat_map f xs) ≤ length xs * m
flat_short f m xs all = omega (arith, length-flat_map f xs, sum_by-le (λ x. length (f x)) m xs all)

short_peers : (peers : List ℕ) (n : ℕ) → length peers ≤ n → length (peer_bytes peers) ≤ 1 + n * 2
short_peers peers n few = omega (arith, flat_short (to_be_bytes w16) 2 peers (λ k d lt. omega arith))

short_hashes : (hashes : List (List ℕ)) → length hashes ≤ MOST_BLOCKS → AreHashes hashes
    → length (hash_bytes hashes) ≤ 2 + MOST_BLOCKS * 32
short_hashes hashes few sized = omega (arith, flat_short (λ h. h) 32 hashes (λ k d lt. omega (arith, sized k d lt)))

short_blocks : (blocks : List (List ℕ)) → length blocks ≤ MOST_BLOCKS
    → All (λ b. length b ≤ MOST_BLOCK_BYTES) blocks
    → length (block_bytes blocks) ≤ 2 + MOST_BLOCKS * (2 + MOST_BLOCK_BYTES)
short_blocks blocks few short =
    omega (arith, flat_short content_bytes (2 + MOST_BLOCK_BYTES) blocks (λ k d lt. omega (arith, short k d lt)))

-- ---- parts

short_limits : (limits : Option Limits) → length (optional limit_bytes limits) ≤ 4
short_limits None = omega arith
short_limits (Some limits) = omega arith

short_repairs : (repairs : Option ℕ) → length (optional (to_be_bytes w16) repairs) ≤ 2
short_repairs None = omega arith
short_repairs (Some repairs) = omega arith

one_flag : (flag : Bool) → length (flag_bytes flag) ≡ 1
one_flag true = refl
one_flag false = refl

three_bytes : (outcome : Outcome) → length (outcome_bytes outcome) ≡ 3
three_bytes Agreed = refl
three_bytes Inquorate = refl
three_bytes (Split block) = refl
three_bytes (NoSupplier block) = refl

six_bytes : (poll : PollName) → length (poll_bytes poll) ≡ 6
unfolding poll_bytes
six_bytes poll = refl

-- ---- records

four_parts : (a b c d : List ℕ) → length (a ++ b ++ c ++ d) ≡ length a + length b + length c + length d
four_parts a b c d = omega (arith, length-append (a ++ b ++ c) d, length-append (a ++ b) c, length-append a b)

five_parts : (a b c d e : List ℕ)
    → length (a ++ b ++ c ++ d ++ e) ≡ length a + length b + length c + length d + length e
five_parts a b c d e = omega (arith, length-append (a ++ b ++ c ++ d) e, four_parts a b c d)

-- a record is no longer than it may be
pub short_record : (r : Record) → IsInLimits r → length (spelling r) ≤ most_bytes r
unfolding spelling
short_record (Deposit au blocks) h = omega (arith, short_blocks blocks h.0.1 h.0.2)
short_record (PollOpened number au nonce inner tick limits kind) h =
    omega (
      arith,
      five_parts nonce (peer_bytes inner) (to_be_bytes w32 tick) (optional limit_bytes limits)
          (kind_bytes (is_second kind)),
      h.1.2,
      short_peers inner MOST_CIRCLE h.0.0,
      short_limits limits,
      kind_length (is_second kind),
    )
short_record (Nominated number voter nominees) h = omega (arith, short_peers nominees MOST_NOMINEES h.0)
short_record (OuterOpened number outer) h = omega (arith, short_peers outer MOST_CIRCLE h.0)
short_record (VoteIn number voter hashes) h = omega (arith, short_hashes hashes h.0 h.1.2)
short_record (Shut number) h = omega arith
short_record (Asked number block voter) h = omega arith
short_record (RepairBad number block voter) h = omega arith
short_record (Replaced number au block bytes) h = omega (arith, h.0.1)
short_record (Closed number outcome tick) h =
    omega (arith, length-append (outcome_bytes outcome) (to_be_bytes w32 tick), three_bytes outcome)
short_record (Overdue au tick) h = omega arith
short_record (Joined poll au tick low repairs) h =
    omega (
      arith,
      five_parts (poll_bytes poll) (to_be_bytes w16 au) (to_be_bytes w32 tick) (flag_bytes low)
          (optional (to_be_bytes w16) repairs),
      six_bytes poll,
      one_flag low,
      short_repairs repairs,
    )
short_record (Committed poll nonce version kind) h =
    omega (
      arith,
      four_parts (poll_bytes poll) nonce (to_be_bytes w32 version) (kind_bytes (is_second kind)),
      six_bytes poll,
      h.1.1,
      kind_length (is_second kind),
    )
short_record (Voted poll hashes) h =
    omega
    (arith, length-append (poll_bytes poll) (hash_bytes hashes), six_bytes poll, short_hashes hashes h.0 h.1.1)
short_record (Served poll block) h =
    omega (arith, length-append (poll_bytes poll) (to_be_bytes w16 block), six_bytes poll)
short_record (Ended poll) h = omega (arith, six_bytes poll)
short_record (Tuned quorum minority repairs) h = omega arith

-- ---- batches

flat_below : {X : Type 0} (f : X → List ℕ) (most : X → ℕ) (xs : List X)
    → AllByRecursion (λ x. length (f x) ≤ most x) xs → length (flat_map f xs) ≤ sum_by most xs
flat_below f most [] all = omega arith
flat_below f most (x ∷ xs) all =
    omega (
      arith,
      ap length (flat_map-cons f x xs),
      length-append (f x) (flat_map f xs),
      sum_by-cons most x xs,
      all.0,
      flat_below f most xs all.1,
    )

-- and a batch no longer than its records may be
pub short_batch : (list : List Record) → IsBatch list → length (batch_spelling list) ≤ most_batch_bytes list
short_batch list h =
    let each : All (λ r. length (spelling r) ≤ most_bytes r) list = λ k d lt. short_record (get_or list k d)
    (h.1 k d lt) in
    omega (
      arith,
      flat_below spelling most_bytes list
          (recursion_from_All (λ r. length (spelling r) ≤ most_bytes r) list each),
    )
