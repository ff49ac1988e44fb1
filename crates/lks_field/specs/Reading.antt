-- Reading fields from the left: a field's value and the bytes after it, or the fault.
use Rattle.std.specs.Prelude.{◌≡◌, ◌==◌, ℕ, zero, suc, Bool, true, false, List, [], ◌∷◌, length, take, drop, Result}
use Rattle.std.specs.Prelude.{Ok, Err, nat_lt, if◌then◌else◌}
use Rattle.std.specs.Int.{Width, byte_len, from_be_bytes}
use Rattle.lks_field.specs.declared.fault.FieldFault.{FieldFault}
use Rattle.lks_field.specs.declared.fault.FieldFault.TheVariants.{Short, Value, Long, Memory}

infixl 10 ◌>>=◌
abbrev pub ◌>>=◌ : {A B E : Type 0} → Result A E → (A → Result B E) → Result B E
(Ok x) >>= f = f x
(Err e) >>= f = Err e

abbrev pub byte_at : List ℕ → Result (ℕ × List ℕ) FieldFault
byte_at [] = Err Short
byte_at (b ∷ rest) = Ok (b, rest)

-- a byte that has to be this one
unfoldable pub given_at : ℕ → List ℕ → Result (Unit {0} × List ℕ) FieldFault
given_at given bytes = do
  byte ← byte_at bytes
  if byte.0 == given then Ok (tt, byte.1) else Err Value

-- the byte of the second kind of hash; the first has none
unfoldable pub kind_at : Bool → List ℕ → Result (Unit {0} × List ℕ) FieldFault
kind_at false bytes = Ok (tt, bytes)
kind_at true bytes = given_at 2 bytes

abbrev pub bytes_at : ℕ → List ℕ → Result (List ℕ × List ℕ) FieldFault
bytes_at n bytes = if nat_lt (length bytes) n then Err Short else Ok (take n bytes, drop n bytes)

-- the 32 bytes of a hash or a nonce
unfoldable pub hash_at : List ℕ → Result (List ℕ × List ℕ) FieldFault
hash_at bytes = bytes_at 32 bytes

abbrev pub number_at : Width → List ℕ → Result (ℕ × List ℕ) FieldFault
number_at w bytes =
    if nat_lt (length bytes) (byte_len w) then Err Short
    else Ok (from_be_bytes w (take (byte_len w) bytes), drop (byte_len w) bytes)

-- a number that is at most this
unfoldable pub upto_at : ℕ → (List ℕ → Result (ℕ × List ℕ) FieldFault) → List ℕ → Result (ℕ × List ℕ) FieldFault
upto_at most reader bytes = do
  n ← reader bytes
  if nat_lt most n.0 then Err Value else Ok n

-- this many values, one after another
unfoldable pub many_at : {X E : Type 0} → (List ℕ → Result (X × List ℕ) E) → ℕ → List ℕ → Result (List X × List ℕ) E
many_at reader zero bytes = Ok ([], bytes)
many_at reader (suc n) bytes = do
  first ← reader bytes
  others ← many_at reader n first.1
  Ok (first.0 ∷ others.0, others.1)

-- bytes behind their length
unfoldable pub sized_at : (List ℕ → Result (ℕ × List ℕ) FieldFault) → List ℕ → Result (List ℕ × List ℕ) FieldFault
sized_at length_at bytes = do
  n ← length_at bytes
  bytes_at n.0 n.1

-- values behind their count
unfoldable pub list_at : {X E : Type 0} → (List ℕ → Result (ℕ × List ℕ) E) → (List ℕ → Result (X × List ℕ) E)
    → List ℕ → Result (List X × List ℕ) E
list_at count_at reader bytes = do
  n ← count_at bytes
  many_at reader n.0 n.1

abbrev pub end_of : List ℕ → Result (Unit {0}) FieldFault
end_of [] = Ok tt
end_of (b ∷ rest) = Err Long

-- the same with its fault told as another
abbrev pub told : {X D E : Type 0} → (D → E) → Result X D → Result X E
told f (Ok x) = Ok x
told f (Err d) = Err (f d)

-- a tag, and what it announces
abbrev pub tagged : {H E : Type 0} → (FieldFault → E) → (ℕ → Result H E) → List ℕ → Result (H × List ℕ) E
tagged told_as heading_of bytes = do
  tag ← told told_as (byte_at bytes)
  heading ← heading_of tag.0
  Ok (heading, tag.1)

-- What a getter answers and leaves is what reading says.
abbrev pub ReadsBy : {X Y E : Type 0} → (X → Y) → Result X E → List ℕ → Result (Y × List ℕ) E → Type 0
ReadsBy view (Ok x) left read = read ≡ Ok (view x, left)
ReadsBy view (Err e) left read = read ≡ Err e

abbrev pub Reads : {X E : Type 0} → Result X E → List ℕ → Result (X × List ℕ) E → Type 0
Reads result left read = ReadsBy (λ x. x) result left read

-- ---- where memory may run out

-- whether it is want of memory
abbrev pub is_memory : FieldFault → Bool
is_memory Memory = true
is_memory fault = false

-- nothing is said where the test holds
abbrev pub Unless : Bool → Type 0 → Type 0
Unless true Said = Unit {0}
Unless false Said = Said

-- The fault is the one of reading, or the want of memory that the test tells.
abbrev pub FailsBut : {X E : Type 0} → (E → Bool) → E → Result X E → Type 0
FailsBut free fault read = Unless (free fault) (read ≡ Err fault)

-- The answer, seen by view, is that of reading, unless memory ran out.
abbrev pub GivesBut : {X Y E : Type 0} → (E → Bool) → (X → Y) → Result X E → Result Y E → Type 0
GivesBut free view (Ok x) read = read ≡ Ok (view x)
GivesBut free view (Err fault) read = FailsBut free fault read

-- The same where bytes are left.
abbrev pub ReadsBut : {X Y E : Type 0} → (E → Bool) → (X → Y) → Result X E → List ℕ → Result (Y × List ℕ) E → Type 0
ReadsBut free view (Ok x) left read = read ≡ Ok (view x, left)
ReadsBut free view (Err fault) left read = FailsBut free fault read
