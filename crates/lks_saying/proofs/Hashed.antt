-- What is made of bytes: lists, numbers with the high byte first, and hashes.
use Rattle.std.proofs.Common.{◌≡◌, ◌<◌, ◌^◌, ◌/◌, ◌%◌, sym, subst, ℕ, zero, suc, Bool, true, false, List, [], ◌∷◌}
use Rattle.std.proofs.Common.{◌++◌, length, take, arith}
use Rattle.std.specs.Prelude.{slice_index}
use Rattle.std.specs.Int.{Width, w32, w64, byte_len, byte_at, bytes_high_first, to_be_bytes}
use Rattle.std.specs.List.{flat_map, AllByRecursion}
use Rattle.std.proofs.lemmas.List.Concat.{flat_map-cons}
use Rattle.sha2.proofs.Facts256.{length-sha256}
use Rattle.sha2.proofs.Facts512.{length-sha512_256}
use Rattle.sha2.specs.Sha256.{sha256, initial_hash_256, digest_bytes as digest_256, final_hash as final_256}
use Rattle.sha2.specs.Sha512.{sha512_256, initial_hash_512_256, digest_bytes as digest_512, final_hash as final_512}
use Rattle.lks_hash.specs.Hashes.{hash_of}
use Rattle.lks_saying.specs.Bytes.{AreBytes}

-- ---- lists of bytes

pub no_bytes : AreBytes []
no_bytes i = omega arith

pub cons_bytes : (b : ℕ) (bytes : List ℕ) → b < 256 → AreBytes bytes → AreBytes (b ∷ bytes)
cons_bytes b bytes first rest zero = first
cons_bytes b bytes first rest (suc i) = rest i

pub append_bytes : (xs ys : List ℕ) → AreBytes xs → AreBytes ys → AreBytes (xs ++ ys)
append_bytes [] ys first then = then
append_bytes (x ∷ xs) ys first then = cons_bytes x (xs ++ ys) (first 0) (append_bytes xs ys (λ i. first (suc i)) then)

pub joined_bytes : (lists : List (List ℕ)) → AllByRecursion AreBytes lists → AreBytes (flat_map (λ bytes. bytes) lists)
joined_bytes [] are = no_bytes
joined_bytes (x ∷ xs) are =
    subst AreBytes (sym (flat_map-cons (λ (y : List ℕ). y) x xs))
    (append_bytes x (flat_map (λ (y : List ℕ). y) xs) are.0 (joined_bytes xs are.1))

taken_bytes : (n : ℕ) (bytes : List ℕ) → AreBytes bytes → AreBytes (take n bytes)
taken_bytes zero bytes are = no_bytes
taken_bytes (suc n) [] are = no_bytes
taken_bytes (suc n) (b ∷ bytes) are = cons_bytes b (take n bytes) (are 0) (taken_bytes n bytes (λ i. are (suc i)))

-- ---- numbers

is_byte : (n : ℕ) → n % 256 < 256
is_byte n = omega arith

byte_small : (k n : ℕ) → byte_at k n < 256
byte_small zero n = is_byte n
byte_small (suc k) n = is_byte (n / 256 ^ suc k)

high_first : (k n : ℕ) → AreBytes (bytes_high_first k n)
high_first zero n = no_bytes
high_first (suc k) n = cons_bytes (byte_at k n) (bytes_high_first k n) (byte_small k n) (high_first k n)

pub number_bytes : (w : Width) (n : ℕ) → AreBytes (to_be_bytes w n)
number_bytes w n = high_first (byte_len w) n

-- ---- hashes

-- a hash: 32 bytes
pub record IsHash (hash : List ℕ) : Type 0 where
  pub size : length hash ≡ 32
  pub are : AreBytes hash

words_256 : (words : List ℕ) (n : ℕ) → AreBytes (digest_256 words n)
unfolding digest_256
words_256 words zero = no_bytes
words_256 words (suc n) =
    append_bytes (digest_256 words n) (to_be_bytes w32 (slice_index words n)) (words_256 words n)
    (number_bytes w32 (slice_index words n))

words_512 : (words : List ℕ) (n : ℕ) → AreBytes (digest_512 words n)
unfolding digest_512
words_512 words zero = no_bytes
words_512 words (suc n) =
    append_bytes (digest_512 words n) (to_be_bytes w64 (slice_index words n)) (words_512 words n)
    (number_bytes w64 (slice_index words n))

bytes_256 : (bytes : List ℕ) → AreBytes (sha256 bytes)
unfolding sha256
bytes_256 bytes = words_256 (final_256 initial_hash_256 bytes) 8

bytes_512_256 : (bytes : List ℕ) → AreBytes (sha512_256 bytes)
unfolding sha512_256
bytes_512_256 bytes =
    let words = final_512 initial_hash_512_256 bytes in
    taken_bytes 32 (digest_512 words 8) (words_512 words 8)

-- what either kind of hash gives is 32 bytes, whatever is hashed
pub is_hash : (second : Bool) (bytes : List ℕ) → IsHash (hash_of second bytes)
is_hash true bytes = record { size = length-sha512_256 bytes; are = bytes_512_256 bytes }
is_hash false bytes = record { size = length-sha256 bytes; are = bytes_256 bytes }
