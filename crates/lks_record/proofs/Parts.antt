-- The fields that records share.
use Rattle.std.proofs.Common.{◌≡◌, ℕ, zero, suc, ◌^◌, ◌<◌, ◌≤◌, Bool, true, false, cond, not, eqb, ltb, Option, None}
use Rattle.std.proofs.Common.{Some, is_some, List, [], ◌∷◌, ◌++◌, length, Ok, refl, ap, arith}
use Rattle.std.specs.Prelude.{IfSome, All}
use Rattle.std.specs.Int.{w16, w32, to_be_bytes}
use Rattle.std.proofs.lemmas.Bool.{ltb-true}
use Rattle.std.proofs.Math.Dec.{eqb-suc-zero}
use Rattle.lks_base.specs.Kinds.{is_second}
use Rattle.lks_base.specs.declared.limits.TheConstants.{LAST_BLOCK, MOST_BLOCKS, MOST_BLOCK_BYTES, MOST_CIRCLE}
use Rattle.lks_base.specs.declared.limits.TheConstants.{MOST_REPAIRS}
use Rattle.lks_base.specs.Quorums.{obeys_quorum_rule}
use Rattle.lks_base.specs.declared.names.HashKind.{HashKind}
use Rattle.lks_base.specs.declared.names.HashKind.TheVariants.{Sha256, Sha512_256}
use Rattle.lks_base.specs.declared.names.Limits.{Limits}
use Rattle.lks_base.specs.declared.names.PollName.{PollName}
use Rattle.lks_base.specs.declared.names.Outcome.{Outcome}
use Rattle.lks_base.specs.declared.names.Outcome.TheVariants.{Agreed, Inquorate, Split, NoSupplier}
use Rattle.lks_field.specs.Reading.{byte_at, given_at, kind_at, number_at, upto_at}
use Rattle.lks_field.proofs.KindFields.{kind_field as plain_kind_field}
use Rattle.lks_field.proofs.Takes.{IsField, told_field, field_as, hash_field}
use Rattle.lks_field.proofs.Steps.{Reader, IsTail, reads_then, reads_end, goes_first, goes_then, guarded_field}
use Rattle.lks_field.proofs.Numbers.{be16_field, be32_field, u8_upto, be16_upto, flag_is}
use Rattle.lks_field.proofs.Counted.{sized_field, list_field}
use Rattle.lks_record.specs.declared.fault.RecFault.{RecFault}
use Rattle.lks_record.specs.declared.fault.RecFault.TheVariants.{Limit}
use Rattle.lks_record.specs.Faults.{told_as, field}
use Rattle.lks_record.specs.Spelling.{kind_bytes, flag_bytes, peer_bytes, hash_bytes, content_bytes, block_bytes}
use Rattle.lks_record.specs.Spelling.{poll_bytes, limit_bytes, optional, outcome_bytes, AreLimits, HasBlock, IsPoll}
use Rattle.lks_record.specs.Spelling.{AreHashes, ArePeers}
use Rattle.lks_record.specs.Reading.{id_at, long_at, nonce_at, flag_at, from_one_at, peers_at, hashes_at, block_at}
use Rattle.lks_record.specs.Reading.{content_at, blocks_at, poll_at, minority_at, limits_at, repairs_at, optional_at}
use Rattle.lks_record.specs.Reading.{said_kind_at, last_block, outcome_as, outcome_at}

-- ---- numbers

byte_upto : (most : ℕ) → most < 256
    → IsField (λ bytes. field (upto_at most byte_at bytes)) (λ b. b ∷ []) (λ n. n ≤ most)
byte_upto most lt = told_field told_as (u8_upto most lt)

short_upto : (most : ℕ) → most < 2 ^ 16
    → IsField (λ bytes. field (upto_at most (number_at w16) bytes)) (to_be_bytes w16) (λ n. n ≤ most)
short_upto most lt = told_field told_as (be16_upto most lt)

pub id_field : IsField id_at (to_be_bytes w16) (λ n. n < 2 ^ 16)
unfolding id_at
id_field = told_field told_as be16_field

pub long_field : IsField long_at (to_be_bytes w32) (λ n. n < 2 ^ 32)
unfolding long_at
long_field = told_field told_as be32_field

pub nonce_field : IsField nonce_at (λ x. x) (λ x. length x ≡ 32)
unfolding nonce_at
nonce_field = told_field told_as hash_field

pub block_field : IsField block_at (to_be_bytes w16) (λ n. n ≤ LAST_BLOCK)
unfolding block_at
block_field = short_upto LAST_BLOCK (omega arith)

pub repairs_field : IsField repairs_at (to_be_bytes w16) (λ n. n ≤ MOST_REPAIRS)
unfolding repairs_at
repairs_field = short_upto MOST_REPAIRS (omega arith)

not_zero : (n : ℕ) → eqb n 0 ≡ false → 1 ≤ n
not_zero zero e = absurd cc
not_zero (suc n) e = omega arith

no_zero : (n : ℕ) → 1 ≤ n → eqb n 0 ≡ false
no_zero zero le = absurd (omega arith)
no_zero (suc n) le = eqb-suc-zero n

pub from_one_field : (most : ℕ) → most < 2 ^ 16
    → IsField (from_one_at most) (to_be_bytes w16) (λ n. (1 ≤ n) × (n ≤ most))
unfolding from_one_at
from_one_field most lt =
    field_as (λ n h. (not_zero n h.1, h.0)) (λ n h. (h.1, no_zero n h.0))
    (guarded_field Limit (λ n. eqb n 0) (short_upto most lt))

-- ---- flags, kinds and what may be absent

pub flag_field : IsField flag_at flag_bytes (λ flag. Unit {0})
unfolding flag_at
flag_field = record { takes = reads.takes tt; again = again }
  where
    reads : IsTail flag_bytes (λ flag. Unit {0}) [] (Unit {0}) flag_at
    reads =
        reads_then _ (byte_upto 1 (omega arith))
        (λ n. reads_end (eqb n 1) (λ h. (ap (λ (b : ℕ). b ∷ []) (flag_is n h.1), tt)))

    again : (flag : Bool) (rest : List ℕ) → Unit {0} → flag_at (flag_bytes flag ++ rest) ≡ Ok (flag, rest)
    again true rest h = (goes_then _ (goes_first flag_at) (byte_upto 1 (omega arith)) 1 (omega arith)).at rest
    again false rest h = (goes_then _ (goes_first flag_at) (byte_upto 1 (omega arith)) 0 (omega arith)).at rest

kind_tail : (kind : HashKind) → IsTail (λ k. kind_bytes (is_second k)) (λ k. k ≡ kind) [] (Unit {0}) (said_kind_at kind)
unfolding said_kind_at
kind_tail kind =
    reads_then _ (told_field told_as (plain_kind_field (is_second kind)))
    (λ known. reads_end kind (λ h. (refl, refl)))

kind_again : (kind k : HashKind) (rest : List ℕ) → k ≡ kind
    → said_kind_at kind (kind_bytes (is_second k) ++ rest) ≡ Ok (k, rest)
unfolding said_kind_at kind_at given_at
kind_again Sha256 Sha256 rest e = refl
kind_again Sha256 Sha512_256 rest e = absurd cc
kind_again Sha512_256 Sha256 rest e = absurd cc
kind_again Sha512_256 Sha512_256 rest e = refl

pub kind_field : (kind : HashKind) → IsField (said_kind_at kind) (λ k. kind_bytes (is_second k)) (λ k. k ≡ kind)
kind_field kind = record { takes = (kind_tail kind).takes tt; again = kind_again kind }

module _ {X : Type 0} {reader : Reader X RecFault} {spell : X → List ℕ} {Fits : X → Type 0}
    (is : IsField reader spell Fits) where
  abbrev IsTold : Bool → Option X → Type 0
  IsTold told o = (is_some o ≡ told) × IfSome o Fits

  optional_takes : (told : Bool) → IsTail (optional spell) (IsTold told) [] (Unit {0}) (optional_at reader told)
  unfolding optional_at
  optional_takes false = reads_end None (λ h. (refl, (refl, tt)))
  optional_takes true = reads_then _ is (λ x. reads_end (Some x) (λ h. (refl, (refl, h.1))))

  optional_again : (told : Bool) (o : Option X) (rest : List ℕ) → IsTold told o
      → optional_at reader told (optional spell o ++ rest) ≡ Ok (o, rest)
  unfolding optional_at
  optional_again false None rest h = refl
  optional_again false (Some x) rest h = absurd (true_is_not_false h.0)
    where
      true_is_not_false : true ≡ false → ⊥
      true_is_not_false e = absurd cc
  optional_again true None rest h = absurd (false_is_not_true h.0)
    where
      false_is_not_true : false ≡ true → ⊥
      false_is_not_true e = absurd cc
  optional_again true (Some x) rest h = (goes_then _ (goes_first (optional_at reader true)) is x h.1).at rest

  pub optional_field : (told : Bool) → IsField (optional_at reader told) (optional spell) (IsTold told)
  optional_field told = record { takes = (optional_takes told).takes tt; again = optional_again told }

-- ---- bytes and lists

pub content_field : IsField content_at content_bytes (λ x. length x ≤ MOST_BLOCK_BYTES)
unfolding content_at
content_field = told_field told_as (sized_field (be16_upto MOST_BLOCK_BYTES (omega arith)))

pub peers_field : (most : ℕ) → most < 256 → IsField (peers_at most) peer_bytes (λ xs. (length xs ≤ most) × ArePeers xs)
unfolding peers_at
peers_field most lt = told_field told_as (list_field (u8_upto most lt) be16_field)

pub hashes_field : IsField hashes_at hash_bytes (λ xs. (length xs ≤ MOST_BLOCKS) × AreHashes xs)
unfolding hashes_at
hashes_field = told_field told_as (list_field (be16_upto MOST_BLOCKS (omega arith)) hash_field)

pub blocks_field : IsField blocks_at block_bytes
    (λ xs. ((1 ≤ length xs) × (length xs ≤ MOST_BLOCKS)) × All (λ b. length b ≤ MOST_BLOCK_BYTES) xs)
unfolding blocks_at
blocks_field = list_field (from_one_field MOST_BLOCKS (omega arith)) content_field

-- ---- names and limits

pub poll_field : IsField poll_at poll_bytes IsPoll
unfolding poll_at poll_bytes
poll_field = record { takes = reads.takes tt; again = again }
  where
    reads : IsTail poll_bytes IsPoll [] (Unit {0}) poll_at
    reads =
        reads_then _ id_field
        (λ poller. reads_then _ long_field
        (λ number. reads_end (record { poller = poller; number = number }) (λ h. (refl, (h.0.1, h.1)))))

    again : (poll : PollName) (rest : List ℕ) → IsPoll poll → poll_at (poll_bytes poll ++ rest) ≡ Ok (poll, rest)
    again poll rest h =
        (goes_then _ (goes_then _ (goes_first poll_at) id_field poll.poller h.0) long_field poll.number h.1).at rest

not_false : (b : Bool) → not b ≡ false → b ≡ true
not_false true e = refl
not_false false e = absurd cc

minority_field : (quorum : ℕ)
    → IsField (minority_at quorum) (to_be_bytes w16)
    (λ n. (n < 2 ^ 16) × (not (obeys_quorum_rule quorum n) ≡ false))
unfolding minority_at
minority_field quorum = guarded_field Limit (λ n. not (obeys_quorum_rule quorum n)) (told_field told_as be16_field)

pub limits_field : IsField limits_at limit_bytes AreLimits
unfolding limits_at
limits_field = record { takes = reads.takes tt; again = again }
  where
    reads : IsTail limit_bytes AreLimits [] (Unit {0}) limits_at
    reads =
        reads_then _ (from_one_field MOST_CIRCLE (omega arith))
        (λ quorum. reads_then _ (minority_field quorum)
        (λ minority. reads_end (record { quorum = quorum; minority = minority })
        (λ h. (refl, (h.0.1.0, h.0.1.1, not_false (obeys_quorum_rule quorum minority) h.1.1)))))

    again : (limits : Limits) (rest : List ℕ) → AreLimits limits
        → limits_at (limit_bytes limits ++ rest) ≡ Ok (limits, rest)
    again limits rest h =
        (goes_then _
        (goes_then _ (goes_first limits_at) (from_one_field MOST_CIRCLE (omega arith)) limits.quorum (h.0, h.1))
        (minority_field limits.quorum) limits.minority (omega (arith, h.1, ltb-true _ _ h.2), ap not h.2)).at rest

-- ---- outcomes

last_block_small : (code : ℕ) → last_block code < 2 ^ 16
last_block_small code = by_test (ltb code 2)
  where
    by_test : (b : Bool) → cond b 0 LAST_BLOCK < 2 ^ 16
    by_test true = omega arith
    by_test false = omega arith

outcome_is : (code block : ℕ) → code ≤ 3 → block ≤ last_block code
    → ((code ∷ []) ++ to_be_bytes w16 block ≡ outcome_bytes (outcome_as code block))
    × HasBlock (outcome_as code block)
outcome_is zero block le last =
    let none : block ≡ 0 = omega (arith, last) in
    (ap (λ (b : ℕ). 0 ∷ to_be_bytes w16 b) none, tt)
outcome_is (suc zero) block le last =
    let none : block ≡ 0 = omega (arith, last) in
    (ap (λ (b : ℕ). 1 ∷ to_be_bytes w16 b) none, tt)
outcome_is (suc (suc zero)) block le last = (refl, last)
outcome_is (suc (suc (suc zero))) block le last = (refl, last)
outcome_is (suc (suc (suc (suc code)))) block le last = absurd (omega arith)

pub outcome_field : IsField outcome_at outcome_bytes HasBlock
unfolding outcome_at
outcome_field = record { takes = reads.takes tt; again = again }
  where
    reads : IsTail outcome_bytes HasBlock [] (Unit {0}) outcome_at
    reads =
        reads_then _ (byte_upto 3 (omega arith))
        (λ code. reads_then _ (short_upto (last_block code) (last_block_small code))
        (λ block. reads_end (outcome_as code block) (λ h. outcome_is code block h.0.1 h.1)))

    coded : (code block : ℕ) (rest : List ℕ) → code ≤ 3 → block ≤ last_block code
        → outcome_at (((code ∷ []) ++ to_be_bytes w16 block) ++ rest) ≡ Ok (outcome_as code block, rest)
    coded code block rest le last =
        (goes_then _ (goes_then _ (goes_first outcome_at) (byte_upto 3 (omega arith)) code le)
        (short_upto (last_block code) (last_block_small code)) block last).at rest

    again : (outcome : Outcome) (rest : List ℕ) → HasBlock outcome
        → outcome_at (outcome_bytes outcome ++ rest) ≡ Ok (outcome, rest)
    again Agreed rest h = coded 0 0 rest (omega arith) (omega arith)
    again Inquorate rest h = coded 1 0 rest (omega arith) (omega arith)
    again (Split block) rest h = coded 2 block rest (omega arith) h
    again (NoSupplier block) rest h = coded 3 block rest (omega arith) h
