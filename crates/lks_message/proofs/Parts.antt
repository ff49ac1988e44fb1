-- The fields that messages share.
use Rattle.std.proofs.Common.{◌≡◌, ℕ, ◌^◌, ◌<◌, ◌≤◌, cond, eqb, List, [], ◌∷◌, ◌++◌, length, Ok, Err, refl, arith}
use Rattle.std.specs.Prelude.{All}
use Rattle.std.specs.Int.{w16, w32, to_be_bytes}
use Rattle.lks_base.specs.Kinds.{is_second}
use Rattle.lks_base.specs.declared.limits.TheConstants.{LAST_BLOCK, MOST_BLOCKS, MOST_BLOCK_BYTES, MOST_NOMINEES}
use Rattle.lks_base.specs.declared.limits.TheConstants.{MOST_PROOF_BYTES}
use Rattle.lks_base.specs.declared.names.HashKind.{HashKind}
use Rattle.lks_base.specs.declared.names.HashKind.TheVariants.{Sha256, Sha512_256}
use Rattle.lks_field.specs.Reading.{byte_at, kind_at, hash_at, number_at, upto_at, tagged}
use Rattle.lks_field.proofs.KindFields.{kind_field as plain_kind_field}
use Rattle.lks_field.proofs.Takes.{IsBytes, Takes, IsField, bind_ok, told_field, byte_field, hash_field}
use Rattle.lks_field.proofs.Numbers.{be16_field, be32_field, u8_upto, be16_upto}
use Rattle.lks_field.proofs.Counted.{sized_field, list_field}
use Rattle.lks_field.proofs.Headings.{AreTags, tag_row, form_row}
use Rattle.lks_message.specs.declared.fault.MsgFault.TheVariants.{Version}
use Rattle.lks_message.specs.declared.heading.MessageHeading.{MessageHeading}
use Rattle.lks_message.specs.declared.heading.MessageHeading.TheVariants.{Poll, PollChallenge, PollProof, Nominate}
use Rattle.lks_message.specs.declared.heading.MessageHeading.TheVariants.{Vote, RepairRequest, Repair, Receipt}
use Rattle.lks_message.specs.Faults.{told_as, field}
use Rattle.lks_message.specs.Spelling.{version_of, kind_bytes, proof_bytes, nominee_bytes, hash_bytes, content_bytes}
use Rattle.lks_message.specs.Reading.{first_heading, second_heading, heading_at, proof_at, nominees_at, hashes_at}
use Rattle.lks_message.specs.Reading.{block_at, content_at}

-- ---- fields

pub number_field : IsField (λ bytes. field (number_at w32 bytes)) (to_be_bytes w32) (λ n. n < 2 ^ 32)
number_field = told_field told_as be32_field

pub au_field : IsField (λ bytes. field (number_at w16 bytes)) (to_be_bytes w16) (λ n. n < 2 ^ 16)
au_field = told_field told_as be16_field

pub flag_field : IsField (λ bytes. field (upto_at 1 byte_at bytes)) (λ b. b ∷ []) (λ n. n ≤ 1)
flag_field = told_field told_as (u8_upto 1 (omega arith))

pub block_field : IsField block_at (to_be_bytes w16) (λ n. n ≤ LAST_BLOCK)
unfolding block_at
block_field = told_field told_as (be16_upto LAST_BLOCK (omega arith))

pub nonce_field : IsField (λ bytes. field (hash_at bytes)) (λ x. x) (λ x. length x ≡ 32)
nonce_field = told_field told_as hash_field

pub proof_field : IsField proof_at proof_bytes (λ x. length x ≤ MOST_PROOF_BYTES)
unfolding proof_at
proof_field = told_field told_as (sized_field (u8_upto MOST_PROOF_BYTES (omega arith)))

pub content_field : IsField content_at content_bytes (λ x. length x ≤ MOST_BLOCK_BYTES)
unfolding content_at
content_field = told_field told_as (sized_field (be16_upto MOST_BLOCK_BYTES (omega arith)))

pub nominees_field : IsField nominees_at nominee_bytes (λ xs. (length xs ≤ MOST_NOMINEES) × All (λ n. n < 2 ^ 16) xs)
unfolding nominees_at
nominees_field = told_field told_as (list_field (u8_upto MOST_NOMINEES (omega arith)) be16_field)

pub hashes_field : IsField hashes_at hash_bytes (λ xs. (length xs ≤ MOST_BLOCKS) × All (λ h. length h ≡ 32) xs)
unfolding hashes_at
hashes_field = told_field told_as (list_field (be16_upto MOST_BLOCKS (omega arith)) hash_field)

pub kind_field : (kind : HashKind)
    → IsField (λ bytes. field (kind_at (is_second kind) bytes)) (λ x. kind_bytes (is_second kind)) (λ x. Unit {0})
kind_field kind = told_field told_as (plain_kind_field (is_second kind))

-- ---- headings

abbrev pub heading_bytes : MessageHeading → List ℕ
heading_bytes Poll = 1 ∷ 1 ∷ []
heading_bytes PollChallenge = 1 ∷ 2 ∷ []
heading_bytes (PollProof kind) = version_of kind ∷ 3 ∷ []
heading_bytes Nominate = 1 ∷ 4 ∷ []
heading_bytes Vote = 1 ∷ 5 ∷ []
heading_bytes RepairRequest = 1 ∷ 6 ∷ []
heading_bytes Repair = 1 ∷ 7 ∷ []
heading_bytes Receipt = 1 ∷ 8 ∷ []

first_is : AreTags heading_bytes 1 first_heading
unfolding first_heading
first_is tag h =
    tag_row heading_bytes 1 tag 1 Poll h _ refl
    (tag_row heading_bytes 1 tag 2 PollChallenge h _ refl
    (tag_row heading_bytes 1 tag 3 (PollProof Sha256) h _ refl
    (tag_row heading_bytes 1 tag 4 Nominate h _ refl
    (tag_row heading_bytes 1 tag 5 Vote h _ refl
    (tag_row heading_bytes 1 tag 6 RepairRequest h _ refl
    (tag_row heading_bytes 1 tag 7 Repair h _ refl
    (tag_row heading_bytes 1 tag 8 Receipt h _ refl (λ e. absurd cc))))))))

second_is : AreTags heading_bytes 2 second_heading
unfolding second_heading
second_is tag h = tag_row heading_bytes 2 tag 3 (PollProof Sha512_256) h _ refl (λ e. absurd cc)

pub heading_takes : (bytes : List ℕ) (x : MessageHeading × List ℕ) → IsBytes bytes → heading_at bytes ≡ Ok x
    → Takes bytes (heading_bytes x.0) x.1
unfolding heading_at
heading_takes bytes x fits e =
    let a = bind_ok (field (byte_at bytes))
    (λ version. cond (eqb version.0 1) (tagged told_as first_heading version.1)
    (cond (eqb version.0 2) (tagged told_as second_heading version.1) (Err Version))) x e in
    let t = (told_field told_as byte_field).takes bytes a.0 fits a.1 in
    rw t.0.parts
    (form_row heading_bytes told_as a.0.0 1 first_heading _ a.0.1 x t.0.rest_fits first_is
    (form_row heading_bytes told_as a.0.0 2 second_heading _ a.0.1 x t.0.rest_fits second_is
    (λ none. absurd cc)) a.2)

pub heading_again : (h : MessageHeading) (rest : List ℕ) → heading_at (heading_bytes h ++ rest) ≡ Ok (h, rest)
unfolding heading_at first_heading second_heading
heading_again Poll rest = refl
heading_again PollChallenge rest = refl
heading_again (PollProof Sha256) rest = refl
heading_again (PollProof Sha512_256) rest = refl
heading_again Nominate rest = refl
heading_again Vote rest = refl
heading_again RepairRequest rest = refl
heading_again Repair rest = refl
heading_again Receipt rest = refl
