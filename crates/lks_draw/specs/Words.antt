-- The random words of a draw: those of ChaCha20 (RFC 8439) under a key that comes from a peer's seed.
use Rattle.std.specs.Prelude.{ℕ, zero, suc, ◌+◌, ◌*◌, ◌/◌, ◌%◌, ◌^◌, List, [], ◌∷◌, ◌++◌}
use Rattle.std.specs.Int.{w32, to_be_bytes}
use Rattle.sha2.specs.Sha256.{sha256}
use Rattle.rand_chacha.specs.ChaCha.{word_at, key_of}

-- how far a draw has come: the eight words of its key, and the place of its next word
pub record Drawn : Type 0 where
  pub key : List ℕ
  pub place : ℕ

-- the bytes of the key of a draw: a hash of its label, the peer's seed and a number, high byte first
unfoldable pub key_bytes : List ℕ → ℕ → ℕ → List ℕ
key_bytes seed label number = sha256 (label ∷ [] ++ seed ++ to_be_bytes w32 number)

-- a draw before its first word
unfoldable pub drawn_from : List ℕ → ℕ → ℕ → Drawn
drawn_from seed label number = record { key = key_of (key_bytes seed label number); place = 0 }

-- the word at each place of stream 0: 20 rounds are 10 double rounds, and the stream repeats after 2 ^ 68 words
unfoldable pub words_of : List ℕ → ℕ → ℕ
words_of key place = word_at 10 key 0 (place % 2 ^ 68)

-- the place so many words on, in a stream that repeats
abbrev pub place_after : ℕ → ℕ → ℕ
place_after place zero = place
place_after place (suc words) = (place + suc words) % 2 ^ 68

-- a draw after so many words more
abbrev pub draw_after : Drawn → ℕ → Drawn
draw_after d words = record d { place = place_after d.place words }

-- a word brought below n
abbrev pub scaled_word : ℕ → ℕ → ℕ
scaled_word word n = word * n / 2 ^ 32

-- what a draw gives next, below n
abbrev pub next_of : Drawn → ℕ → ℕ
next_of d n = scaled_word (words_of d.key d.place) n
