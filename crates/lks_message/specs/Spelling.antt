-- The one spelling of each message.
use Rattle.std.specs.Prelude.{◌≡◌, ℕ, ◌<◌, ◌≤◌, ◌^◌, List, [], ◌∷◌, ◌++◌, length, All}
use Rattle.std.specs.Int.{w16, w32, to_be_bytes}
use Rattle.lks_base.specs.Kinds.{is_second}
use Rattle.lks_base.specs.declared.limits.TheConstants.{LAST_BLOCK, MOST_BLOCKS, MOST_BLOCK_BYTES, MOST_NOMINEES}
use Rattle.lks_base.specs.declared.limits.TheConstants.{MOST_PROOF_BYTES}
use Rattle.lks_base.specs.declared.messages.Message.{Message}
use Rattle.lks_base.specs.declared.messages.Message.TheVariants.{Poll, PollChallenge, PollProof, Nominate, Vote}
use Rattle.lks_base.specs.declared.messages.Message.TheVariants.{RepairRequest, Repair, Receipt}
use Rattle.lks_base.specs.declared.names.HashKind.{HashKind}
use Rattle.lks_base.specs.declared.names.HashKind.TheVariants.{Sha256, Sha512_256}
pub use Rattle.lks_field.specs.Spelling.{flag, kind_bytes, number_bytes as nominee_bytes, hash_bytes}
pub use Rattle.lks_field.specs.Spelling.{sized_bytes as content_bytes}

-- what each message begins with: its version, its tag and the number of its poll
abbrev pub start : ℕ → ℕ → ℕ → List ℕ
start version tag number = version ∷ tag ∷ to_be_bytes w32 number

-- the version that spells proofs of this kind
abbrev pub version_of : HashKind → ℕ
version_of Sha256 = 1
version_of Sha512_256 = 2

-- a proof behind its length
abbrev pub proof_bytes : List ℕ → List ℕ
proof_bytes proof = length proof ∷ proof

-- the one spelling of a message
unfoldable pub spelling : Message → List ℕ
spelling (Poll number au) = start 1 1 number ++ to_be_bytes w16 au
spelling (PollChallenge number joins) = start 1 2 number ++ flag joins ∷ []
spelling (PollProof number nonce kind proof) =
    start (version_of kind) 3 number ++ nonce ++ kind_bytes (is_second kind) ++ proof_bytes proof
spelling (Nominate number nominees) = start 1 4 number ++ nominee_bytes nominees
spelling (Vote number hashes proof) = start 1 5 number ++ hash_bytes hashes ++ proof_bytes proof
spelling (RepairRequest number block) = start 1 6 number ++ to_be_bytes w16 block
spelling (Repair number block bytes) = start 1 7 number ++ to_be_bytes w16 block ++ content_bytes bytes
spelling (Receipt number) = start 1 8 number

-- nothing is above its limit
abbrev pub IsWithin : Message → Type 0
IsWithin (Poll number au) = Unit {0}
IsWithin (PollChallenge number joins) = Unit {0}
IsWithin (PollProof number nonce kind proof) = length proof ≤ MOST_PROOF_BYTES
IsWithin (Nominate number nominees) = length nominees ≤ MOST_NOMINEES
IsWithin (Vote number hashes proof) = (length hashes ≤ MOST_BLOCKS) × (length proof ≤ MOST_PROOF_BYTES)
IsWithin (RepairRequest number block) = block ≤ LAST_BLOCK
IsWithin (Repair number block bytes) = (block ≤ LAST_BLOCK) × (length bytes ≤ MOST_BLOCK_BYTES)
IsWithin (Receipt number) = Unit {0}

-- numbers, nonces and hashes have the sizes of their types
abbrev pub IsSized : Message → Type 0
IsSized (Poll number au) = (number < 2 ^ 32) × (au < 2 ^ 16)
IsSized (PollChallenge number joins) = number < 2 ^ 32
IsSized (PollProof number nonce kind proof) = (number < 2 ^ 32) × (length nonce ≡ 32)
IsSized (Nominate number nominees) = (number < 2 ^ 32) × All (λ n. n < 2 ^ 16) nominees
IsSized (Vote number hashes proof) = (number < 2 ^ 32) × All (λ h. length h ≡ 32) hashes
IsSized (RepairRequest number block) = number < 2 ^ 32
IsSized (Repair number block bytes) = number < 2 ^ 32
IsSized (Receipt number) = number < 2 ^ 32

-- a message that has a spelling which is read again
abbrev pub IsInLimits : Message → Type 0
IsInLimits m = IsWithin m × IsSized m
