-- What is printed reads back, and what was read is within its limits.
use Rattle.std.proofs.Common.{◌≡◌, ◌&&◌, ℕ, suc, zero, ◌-◌, ◌/◌, ◌%◌, ◌^◌, ◌≤◌, ◌<◌, Bool, true, false, cond, leb}
use Rattle.std.proofs.Common.{ltb, eqb, List, [], ◌∷◌, ◌++◌, length, map, slice_index, Option, Some, None, Result, Ok}
use Rattle.std.proofs.Common.{Err, inl, inr, refl, sym, ap, subst, ◌∙◌, arith}
use Rattle.std.specs.Prelude.{codes, replicate}
use Rattle.std.specs.Char.{is_ascii_digit}
use Rattle.std.specs.Fmt.{decimal}
use Rattle.std.specs.List.{All, list_all}
use Rattle.std.specs.Str.{all_ascii_digits, bytes_eq}
use Rattle.std.proofs.lemmas.Bool.{and_parts, and_from, and_right, leb-true, le-leb, lt-ltb, cases_lt}
use Rattle.std.proofs.lemmas.List.{append-nil, length-append, length-replicate}
use Rattle.std.proofs.lemmas.List.Elements.{All-nil, All-cons, All-head, All-tail}
use Rattle.std.proofs.lemmas.List.Splits.{length-slice_split}
use Rattle.hex.specs.Hex.{IsBytes, decode_of, encode_lower, encode_with, lower_digits, hex_digit_value}
use Rattle.hex.specs.declared.error.FromHexError.{FromHexError}
use Rattle.hex.proofs.HexLemmas.{decode_of-encode_lower, decode_of-ok, IsDigits-lower_digits}
use Rattle.lks_base.specs.declared.limits.TheConstants.{MOST_BLOCK_BYTES, MOST_FORGED_BYTES, MOST_PROOF_BYTES}
use Rattle.lks_base.specs.declared.names.HashKind.{HashKind}
use Rattle.lks_base.specs.declared.names.HashKind.TheVariants.{Sha256, Sha512_256}
use Rattle.lks_words.specs.Numbers.{◌>>=◌, number_in}
use Rattle.lks_words.specs.Words.{parts, each_in, id_in, hex_in, within, seed_in, proof_in, bytes_in, repeated_in}
use Rattle.lks_words.specs.Words.{filled_block_in, block_in, blocks_in, answer_in, kind_in, hash_in, zeros}
use Rattle.lks_words.specs.Printing.{behind, hex_or_hyphen, blocks_text, answer_text, kind_text, hash_text}
use Rattle.lks_words.specs.Texts.{are_above, AreFew, AreSome}
use Rattle.lks_words.proofs.Decimals.{decimal_digits, number_most, number_again}
use Rattle.lks_words.proofs.Splits.{uncut, weaker, split_behind, above_append, above_behind}
use Rattle.lks_words.proofs.Steps.{bind_some, if_some, some, same_some}

-- ---- which bytes printed values have

digits_above : (ds : List ℕ) → all_ascii_digits ds ≡ true → are_above 44 ds ≡ true
digits_above [] h = refl
digits_above (d ∷ ds) h =
    let p = and_parts (is_ascii_digit d) (all_ascii_digits ds) h in
    let q = and_parts (leb 48 d) (leb d 57) p.0 in
    let low = leb-true 48 d q.0 in
    and_from (ltb 44 d) (are_above 44 ds) (lt-ltb 44 d (omega (arith, low))) (digits_above ds p.1)

pub decimal_above : (n : ℕ) → n < 2 ^ 64 → are_above 44 (decimal n) ≡ true
decimal_above n lt = digits_above (decimal n) (decimal_digits n lt)

-- nothing up to 44 is a hex digit
digit_above : (c d : ℕ) → hex_digit_value c ≡ Some d → 44 < c
digit_above c d e =
    elim (cases_lt 44 c) [
      | inl lt ↦ lt
      | inr le ↦ absurd (grind (arith, e, le))
    ]

pub hex_above : (bytes : List ℕ) → IsBytes bytes → are_above 44 (encode_lower bytes) ≡ true
unfolding encode_with
hex_above [] h = refl
hex_above (b ∷ bytes) h =
    let fits : b < 256 = h 0 in
    let high = digit_above (slice_index lower_digits (b / 16)) (b / 16)
    (IsDigits-lower_digits (b / 16) (omega (arith, fits))) in
    let low = digit_above (slice_index lower_digits (b % 16)) (b % 16)
    (IsDigits-lower_digits (b % 16) (omega (arith, fits))) in
    and_from (ltb 44 (slice_index lower_digits (b / 16))) _ (lt-ltb 44 _ high)
    (and_from (ltb 44 (slice_index lower_digits (b % 16))) _ (lt-ltb 44 _ low) (hex_above bytes (λ i. h (suc i))))

pub text_above : (bytes : List ℕ) → IsBytes bytes → are_above 44 (hex_or_hyphen bytes) ≡ true
text_above [] h = refl
text_above (b ∷ bytes) h = hex_above (b ∷ bytes) h

-- ---- hex

within_parts : (most : ℕ) (bs found : List ℕ) → within most bs ≡ Some found
    → (bs ≡ found) × (1 ≤ length found) × (length found ≤ most)
within_parts most bs found e =
    let p = if_some (leb 1 (length bs) && leb (length bs) most) (Some bs) found e in
    let q = and_parts (leb 1 (length bs)) (leb (length bs) most) p.0 in
    let is = same_some bs found p.1 in (
      is,
      subst (λ (xs : List ℕ). 1 ≤ length xs) is (leb-true 1 (length bs) q.0),
      subst (λ (xs : List ℕ). length xs ≤ most) is (leb-true (length bs) most q.1),
    )

decoded : (most : ℕ) (r : Result (List ℕ) FromHexError) (found : List ℕ)
    → elim r [ Ok bytes ↦ within most bytes | Err fault ↦ None ] ≡ Some found
    → (r ≡ Ok found) × (1 ≤ length found) × (length found ≤ most)
decoded most (Ok bs) found e =
    let p = within_parts most bs found e in
    (ap Ok p.0, p.1, p.2)
decoded most (Err fault) found e = absurd cc

pub hex_fits : (most : ℕ) (word found : List ℕ) → hex_in most word ≡ Some found → AreSome most found
unfolding hex_in
hex_fits most word found e =
    let p = decoded most (decode_of word) found e in
    record { bytes = (decode_of-ok word found p.0).3; some = p.1; few = p.2 }

pub hex_again : (most : ℕ) (bytes : List ℕ) → AreSome most bytes → hex_in most (encode_lower bytes) ≡ Some bytes
unfolding hex_in
hex_again most bytes fit =
    ap (λ (r : Result (List ℕ) FromHexError). elim r [ Ok found ↦ within most found | Err fault ↦ None ])
    (decode_of-encode_lower bytes fit.bytes)
    ∙ rw (le-leb 1 (length bytes) fit.some, le-leb (length bytes) most fit.few) refl

-- ---- no bytes as a hyphen

-- a text of hex is no hyphen
no_hyphen : (a b : ℕ) (rest : List ℕ) → bytes_eq (a ∷ b ∷ rest) (codes "-") ≡ false
no_hyphen a b rest = and_right (eqb a 45) false refl

hex_is_no_hyphen : (b : ℕ) (bytes : List ℕ) → bytes_eq (encode_lower (b ∷ bytes)) (codes "-") ≡ false
unfolding encode_with
hex_is_no_hyphen b bytes =
    no_hyphen (slice_index lower_digits (b / 16)) (slice_index lower_digits (b % 16)) (encode_lower bytes)

-- a hyphen, or what else it says
abbrev pub or_hyphen : (List ℕ → Option (List ℕ)) → List ℕ → Option (List ℕ)
or_hyphen said word = cond (bytes_eq word (codes "-")) (Some []) (said word)

or_fits : (most : ℕ) (said : List ℕ → Option (List ℕ)) (hyphen : Bool) (word found : List ℕ)
    → ((bs : List ℕ) → said word ≡ Some bs → AreSome most bs)
    → cond hyphen (Some []) (said word) ≡ Some found → AreFew most found
or_fits most said true word found h e =
    rw (sym (same_some [] found e)) (record { bytes = λ i. omega arith; few = omega arith })
or_fits most said false word found h e = let fit = h found e in record { bytes = fit.bytes; few = fit.few }

or_again : (most : ℕ) (said : List ℕ → Option (List ℕ)) (bytes : List ℕ)
    → ((bs : List ℕ) → AreSome most bs → said (encode_lower bs) ≡ Some bs) → AreFew most bytes
    → or_hyphen said (hex_or_hyphen bytes) ≡ Some bytes
or_again most said [] h fit = refl
or_again most said (b ∷ bytes) h fit =
    rw (hex_is_no_hyphen b bytes) (h (b ∷ bytes) (record { bytes = fit.bytes; some = omega arith; few = fit.few }))

pub proof_fits : (word found : List ℕ) → proof_in word ≡ Some found → AreFew MOST_PROOF_BYTES found
unfolding proof_in
proof_fits word found e =
    or_fits MOST_PROOF_BYTES (hex_in MOST_PROOF_BYTES) (bytes_eq word (codes "-")) word found
    (hex_fits MOST_PROOF_BYTES word) e

pub proof_again : (bytes : List ℕ) → AreFew MOST_PROOF_BYTES bytes → proof_in (hex_or_hyphen bytes) ≡ Some bytes
unfolding proof_in
proof_again bytes fit = or_again MOST_PROOF_BYTES (hex_in MOST_PROOF_BYTES) bytes (hex_again MOST_PROOF_BYTES) fit

pub bytes_fit : (word found : List ℕ) → bytes_in word ≡ Some found → AreFew MOST_FORGED_BYTES found
unfolding bytes_in
bytes_fit word found e =
    or_fits MOST_FORGED_BYTES (hex_in MOST_FORGED_BYTES) (bytes_eq word (codes "-")) word found
    (hex_fits MOST_FORGED_BYTES word) e

pub bytes_again : (bytes : List ℕ) → AreFew MOST_FORGED_BYTES bytes → bytes_in (hex_or_hyphen bytes) ≡ Some bytes
unfolding bytes_in
bytes_again bytes fit = or_again MOST_FORGED_BYTES (hex_in MOST_FORGED_BYTES) bytes (hex_again MOST_FORGED_BYTES) fit

-- ---- blocks

pub bytes_replicate : (n b : ℕ) → b < 256 → IsBytes (replicate n b)
bytes_replicate zero b lt i = omega arith
bytes_replicate (suc n) b lt zero = lt
bytes_replicate (suc n) b lt (suc i) = bytes_replicate n b lt i

repeated_fits : (byte times found : List ℕ) → repeated_in byte times ≡ Some found → AreSome MOST_BLOCK_BYTES found
unfolding repeated_in
repeated_fits byte times found e =
    let a = bind_some (hex_in 1 byte)
    (λ bytes. number_in MOST_BLOCK_BYTES times >>= λ n. cond (leb 1 n)
    (Some (replicate n (slice_index bytes 0))) None) found e in
    let b = bind_some (number_in MOST_BLOCK_BYTES times)
    (λ n. cond (leb 1 n) (Some (replicate n (slice_index a.0 0))) None) found a.2 in
    let c = if_some (leb 1 b.0) (Some (replicate b.0 (slice_index a.0 0))) found b.2 in
    let is = same_some (replicate b.0 (slice_index a.0 0)) found c.1 in
    let lt : slice_index a.0 0 < 256 = (hex_fits 1 byte a.0 a.1).bytes 0 in
    let long = length-replicate b.0 (slice_index a.0 0) in
    let some = leb-true 1 b.0 c.0 in
    let few = number_most MOST_BLOCK_BYTES times b.0 b.1 in
    subst (AreSome MOST_BLOCK_BYTES) is
    (record {
      bytes = bytes_replicate b.0 (slice_index a.0 0) lt;
      some = omega (arith, long, some);
      few = omega (arith, long, few);
    })

filled_fits : (words : List (List ℕ)) (found : List ℕ) → filled_block_in words ≡ Some found
    → AreSome MOST_BLOCK_BYTES found
unfolding filled_block_in
filled_fits [] found e = absurd cc
filled_fits (word ∷ []) found e = hex_fits MOST_BLOCK_BYTES word found e
filled_fits (byte ∷ times ∷ []) found e = repeated_fits byte times found e
filled_fits (a ∷ b ∷ c ∷ words) found e = absurd cc

filled_again : (bytes : List ℕ) → AreSome MOST_BLOCK_BYTES bytes
    → filled_block_in (parts 42 (encode_lower bytes)) ≡ Some bytes
unfolding filled_block_in
filled_again bytes fit =
    ap filled_block_in (uncut 44 42 (encode_lower bytes) (omega arith) (hex_above bytes fit.bytes))
    ∙ hex_again MOST_BLOCK_BYTES bytes fit

pub block_fits : (word found : List ℕ) → block_in word ≡ Some found → AreFew MOST_BLOCK_BYTES found
unfolding block_in
block_fits word found e =
    or_fits MOST_BLOCK_BYTES (λ w. filled_block_in (parts 42 w)) (bytes_eq word (codes "-")) word found
    (filled_fits (parts 42 word)) e

pub block_again : (bytes : List ℕ) → AreFew MOST_BLOCK_BYTES bytes → block_in (hex_or_hyphen bytes) ≡ Some bytes
unfolding block_in
block_again bytes fit = or_again MOST_BLOCK_BYTES (λ w. filled_block_in (parts 42 w)) bytes filled_again fit

-- ---- words one after another

module _ {X : Type 0} (said : List ℕ → Option X) (P : X → Type 0)
    (fits : (word : List ℕ) (x : X) → said word ≡ Some x → P x) where
  -- as many values as words, each within its limits
  pub each_fits : (words : List (List ℕ)) (xs : List X) → each_in said words ≡ Some xs
      → (length xs ≡ length words) × All P xs
  unfolding each_in
  each_fits [] xs e = rw (sym (same_some [] xs e)) (refl, All-nil P)
  each_fits (word ∷ words) xs e =
      let a = bind_some (said word) (λ x. each_in said words >>= λ more. Some (x ∷ more)) xs e in
      let b = bind_some (each_in said words) (λ more. Some (a.0 ∷ more)) xs a.2 in
      let more = each_fits words b.0 b.1 in
      rw (sym (same_some (a.0 ∷ b.0) xs b.2)) (ap suc more.0, All-cons P a.0 b.0 (fits word a.0 a.1) more.1)

module _ {X : Type 0} (said : List ℕ → Option X) (text : X → List ℕ) (P : X → Type 0)
    (again : (x : X) → P x → said (text x) ≡ Some x) where
  pub each_again : (xs : List X) → All P xs → each_in said (map text xs) ≡ Some xs
  unfolding each_in
  each_again [] h = refl
  each_again (x ∷ xs) h = rw (again x (All-head P x xs h), each_again xs (All-tail P x xs h)) refl

module _ {X : Type 0} (text : X → List ℕ) (code : ℕ) (P : X → Type 0)
    (above : (x : X) → P x → are_above code (text x) ≡ true) where
  pub each_above : (xs : List X) → All P xs → list_all (λ x. are_above code (text x)) xs ≡ true
  each_above [] h = refl
  each_above (x ∷ xs) h =
      and_from (are_above code (text x)) _ (above x (All-head P x xs h)) (each_above xs (All-tail P x xs h))

-- ---- blocks parted by commas

pub blocks_fit : (word : List ℕ) (found : List (List ℕ)) → blocks_in word ≡ Some found
    → (1 ≤ length found) × All (AreFew MOST_BLOCK_BYTES) found
unfolding blocks_in
blocks_fit word found e =
    let p = each_fits block_in (AreFew MOST_BLOCK_BYTES) block_fits (parts 44 word) found e in
    let long = length-slice_split (λ b. eqb b 44) word in
    let same = p.0 in
    (omega (arith, long, same), p.1)

block_above : (code : ℕ) → code ≤ 44 → (block : List ℕ) → AreFew MOST_BLOCK_BYTES block
    → are_above code (hex_or_hyphen block) ≡ true
block_above code le block fit = weaker code 44 (hex_or_hyphen block) le (text_above block fit.bytes)

pub blocks_again : (blocks : List (List ℕ)) → 1 ≤ length blocks → All (AreFew MOST_BLOCK_BYTES) blocks
    → blocks_in (blocks_text blocks) ≡ Some blocks
unfolding blocks_in blocks_text
blocks_again [] some fit = absurd (omega (arith, some))
blocks_again (b ∷ bs) some fit =
    let first = block_above 44 (omega arith) b (All-head (AreFew MOST_BLOCK_BYTES) b bs fit) in
    let rest = each_above hex_or_hyphen 44 (AreFew MOST_BLOCK_BYTES) (block_above 44 (omega arith)) bs
    (All-tail (AreFew MOST_BLOCK_BYTES) b bs fit) in
    ap (each_in block_in) (split_behind hex_or_hyphen 44 44 (hex_or_hyphen b) bs (omega arith) first rest)
    ∙ each_again block_in hex_or_hyphen (AreFew MOST_BLOCK_BYTES) block_again (b ∷ bs) fit

pub blocks_above : (blocks : List (List ℕ)) → All (AreFew MOST_BLOCK_BYTES) blocks
    → are_above 43 (blocks_text blocks) ≡ true
unfolding blocks_text
blocks_above [] fit = refl
blocks_above (b ∷ bs) fit =
    let first = block_above 43 (omega arith) b (All-head (AreFew MOST_BLOCK_BYTES) b bs fit) in
    let rest = each_above hex_or_hyphen 43 (AreFew MOST_BLOCK_BYTES) (block_above 43 (omega arith)) bs
    (All-tail (AreFew MOST_BLOCK_BYTES) b bs fit) in
    above_append 43 (hex_or_hyphen b) (behind 44 hex_or_hyphen bs) first
    (above_behind hex_or_hyphen 43 44 bs (omega arith) rest)

-- ---- numbers of peers

pub ids_fit : (words : List (List ℕ)) (ids : List ℕ) → each_in id_in words ≡ Some ids → All (λ n. n ≤ 65535) ids
ids_fit words ids e = (each_fits id_in (λ n. n ≤ 65535) (number_most 65535) words ids e).1

pub ids_again : (ids : List ℕ) → All (λ n. n ≤ 65535) ids → each_in id_in (map decimal ids) ≡ Some ids
ids_again ids fit =
    each_again id_in decimal (λ n. n ≤ 65535) (λ n le. number_again 65535 n (decimal n) (omega arith) le refl) ids
    fit

pub ids_part : (key ids : List ℕ) → are_above 32 key ≡ true → All (λ n. n ≤ 65535) ids
    → parts 32 (key ++ behind 32 decimal ids) ≡ key ∷ map decimal ids
ids_part key ids above fit =
    split_behind decimal 32 32 key ids (omega arith) above
    (each_above decimal 32 (λ n. n ≤ 65535)
    (λ n le. weaker 32 44 (decimal n) (omega arith) (decimal_above n (omega (arith, le)))) ids fit)

-- ---- names

pub answer_again : (answer : Bool) → answer_in (answer_text answer) ≡ Some answer
unfolding answer_in answer_text
answer_again true = refl
answer_again false = refl

pub kind_again : (corrupt : Bool) → kind_in (kind_text corrupt) ≡ Some corrupt
unfolding kind_in kind_text
kind_again true = refl
kind_again false = refl

pub hash_again : (hash : HashKind) → hash_in (hash_text hash) ≡ Some hash
unfolding hash_in hash_text
hash_again Sha256 = refl
hash_again Sha512_256 = refl

pub answer_above : (answer : Bool) → are_above 44 (answer_text answer) ≡ true
unfolding answer_text
answer_above true = refl
answer_above false = refl

pub kind_above : (corrupt : Bool) → are_above 44 (kind_text corrupt) ≡ true
unfolding kind_text
kind_above true = refl
kind_above false = refl

pub hash_above : (hash : HashKind) → are_above 44 (hash_text hash) ≡ true
unfolding hash_text
hash_above Sha256 = refl
hash_above Sha512_256 = refl

-- ---- seeds

pub bytes_append : (a b : List ℕ) → IsBytes a → IsBytes b → IsBytes (a ++ b)
bytes_append [] b p q i = q i
bytes_append (x ∷ a) b p q zero = p zero
bytes_append (x ∷ a) b p q (suc i) = bytes_append a b (λ k. p (suc k)) q i

seed_from : (bs : List ℕ) → AreSome 32 bs
    → IsBytes (bs ++ zeros (32 - length bs)) × (length (bs ++ zeros (32 - length bs)) ≡ 32)
unfolding zeros
seed_from bs fit =
    let long = length-append bs (replicate (32 - length bs) 0) in
    let more = length-replicate {A = ℕ} (32 - length bs) 0 in
    let few = fit.few in (
      bytes_append bs (replicate (32 - length bs) 0) fit.bytes (bytes_replicate (32 - length bs) 0 (omega arith)),
      omega (arith, long, more, few),
    )

pub seed_fits : (word found : List ℕ) → seed_in word ≡ Some found → IsBytes found × (length found ≡ 32)
unfolding seed_in
seed_fits word found e =
    let a = bind_some (hex_in 32 word) (λ bytes. Some (bytes ++ zeros (32 - length bytes))) found e in
    subst (λ (xs : List ℕ). IsBytes xs × (length xs ≡ 32)) (same_some (a.0 ++ zeros (32 - length a.0)) found a.2)
    (seed_from a.0 (hex_fits 32 word a.0 a.1))

pub seed_again : (seed : List ℕ) → IsBytes seed → length seed ≡ 32 → seed_in (encode_lower seed) ≡ Some seed
unfolding seed_in zeros
seed_again seed fit long =
    rw (hex_again 32 seed (record { bytes = fit; some = omega (arith, long); few = omega (arith, long) }), long)
    (ap Some (append-nil seed))
