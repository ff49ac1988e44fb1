-- Frames of a journal, one after another, as a loop reads them.
use Rattle.std.proofs.Common.{◌≡◌, ◌==◌, ◌&&◌, ℕ, zero, suc, ◌≤◌, ◌<◌, Bool, true, false, cond, List, [], ◌∷◌, ◌++◌}
use Rattle.std.proofs.Common.{length, Option, Some, None, Result, Ok, Err, refl, sym, ap, ◌∙◌, arith, append_assoc}
use Rattle.std.specs.Int.{w32}
use Rattle.std.specs.Option.{option_map}
use Rattle.std.proofs.lemmas.List.{append-nil}
use Rattle.lks_base.specs.declared.records.Record.{Record}
use Rattle.lks_field.specs.declared.fault.FieldFault.{FieldFault}
use Rattle.lks_field.specs.Reading.{number_at, sized_at}
use Rattle.lks_words.specs.Numbers.{◌>>=◌}
use Rattle.lks_words.proofs.Steps.{bind_some, map_some, same_some, some}
use Rattle.lks_gather.specs.Framed.{batch_in, frame_in, batch_at, front_in, records_from, records_in, journal_in}
use Rattle.lks_gather.proofs.Fields.{sized_shorter}

abbrev pub Found : Type 0
Found = List Record × List ℕ

-- ---- a frame takes a byte at least

abbrev pub Frame : Type 0
Frame = List ℕ × List ℕ

from_sized : (read : Result Frame FieldFault) (found : Frame)
    → elim read as (λ _. Option Frame) [ Ok f ↦ Some f | Err fault ↦ None ] ≡ Some found → read ≡ Ok found
from_sized (Ok f) found e = cc
from_sized (Err fault) found e = absurd cc

pub frame_sized : (bytes : List ℕ) (found : Frame) → frame_in bytes ≡ Some found
    → sized_at (number_at w32) bytes ≡ Ok found
unfolding frame_in
frame_sized bytes found e = from_sized (sized_at (number_at w32) bytes) found e

-- a batch is read from a frame
pub record IsFramed (bytes : List ℕ) (found : Found) : Type 0 where
  pub body : List ℕ
  pub frame : frame_in bytes ≡ Some (body, found.1)
  pub batch : batch_in body ≡ Some found.0

pub batch_framed : (bytes : List ℕ) (found : Found) → batch_at bytes ≡ Some found → IsFramed bytes found
unfolding batch_at
batch_framed bytes found e =
    let a = bind_some (frame_in bytes) (λ frame. batch_in frame.0 >>= λ batch. some (batch, frame.1)) found e in
    let b = bind_some (batch_in a.0.0) (λ batch. some (batch, a.0.1)) found a.2 in
    let is : (b.0, a.0.1) ≡ found = same_some (b.0, a.0.1) found b.2 in
    record {
      body = a.0.0;
      frame = a.1 ∙ ap (λ (f : Found). some (a.0.0, f.1)) is;
      batch = b.1 ∙ ap (λ (f : Found). some f.0) is;
    }

closing : (b : Bool) (found : Found) → cond b (some None) None ≡ Some (Some found) → ⊥
closing true found e = absurd cc
closing false found e = absurd cc

opening : (b : Bool) (bytes : List ℕ) (shut : Bool) (found : Found)
    → cond b (option_map (λ (f : Found). some f) (batch_at bytes)) (cond shut (Some None) None) ≡ Some (Some found)
    → (b ≡ true) × (batch_at bytes ≡ Some found)
opening true bytes shut found e =
    let a = map_some (λ (f : Found). some f) (batch_at bytes) (Some found) e in
    (refl, a.1 ∙ a.2)
opening false bytes shut found e = absurd (closing shut found e)

pub opened : (gate : ℕ) (bytes : List ℕ) (found : Found) → front_in (gate ∷ bytes) ≡ Some (Some found)
    → (gate == 165 ≡ true) × (batch_at bytes ≡ Some found)
unfolding front_in
opened gate bytes found e = opening (gate == 165) bytes (gate == 0 && length bytes == 0) found e

pub none_first : (found : Option Found) → front_in [] ≡ Some found → ⊥
unfolding front_in
none_first found e = absurd cc

pub shorter : (bytes : List ℕ) (found : Found) → front_in bytes ≡ Some (Some found) → length found.1 < length bytes
shorter [] found e = absurd (none_first (Some found) e)
shorter (gate ∷ bytes) found e =
    let framed = batch_framed bytes found (opened gate bytes found e).1 in
    let le = sized_shorter bytes (framed.body, found.1) (frame_sized bytes (framed.body, found.1) framed.frame) in
    omega (arith, le)

-- ---- as much as there is

module _ (n m : ℕ) (rest : ℕ)
    (same : (bytes : List ℕ) → length bytes < rest → records_in n bytes ≡ records_in m bytes) where
  same_behind : (front : Option Found) → ((found : Found) → front ≡ Some found → length found.1 < rest)
      → records_from (records_in n) front ≡ records_from (records_in m) front
  same_behind None less = refl
  same_behind (Some found) less =
      ap (option_map (λ (list : List Record). found.0 ++ list)) (same found.1 (less found refl))

  same_front : (o : Option (Option Found)) → ((found : Found) → o ≡ Some (Some found) → length found.1 < rest)
      → (o >>= λ front. records_from (records_in n) front) ≡ (o >>= λ front. records_from (records_in m) front)
  same_front None less = refl
  same_front (Some front) less = same_behind front (λ found e. less found (ap some e))

-- nothing more is read with a larger number
pub enough : (n m : ℕ) (bytes : List ℕ) → length bytes ≤ n → length bytes ≤ m → records_in n bytes ≡ records_in m bytes
unfolding records_in front_in
enough zero zero bytes few_n few_m = refl
enough zero (suc m) [] few_n few_m = refl
enough zero (suc m) (b ∷ bytes) few_n few_m = absurd (omega (arith, few_n))
enough (suc n) zero [] few_n few_m = refl
enough (suc n) zero (b ∷ bytes) few_n few_m = absurd (omega (arith, few_m))
enough (suc n) (suc m) bytes few_n few_m =
    same_front n m (length bytes)
    (λ more less. enough n m more (omega (arith, few_n, less)) (omega (arith, few_m, less))) (front_in bytes)
    (shorter bytes)

pub at_front : (n : ℕ) (rest : List ℕ) (o : Option (Option Found)) → front_in rest ≡ o
    → records_in (suc n) rest ≡ (o >>= λ front. records_from (records_in n) front)
unfolding records_in
at_front n rest o front = rw front refl

-- ---- one step of the loop

-- what was read so far and what is to come
pub record IsReading (file : List ℕ) (list : List Record) (rest : List ℕ) : Type 0 where
  pub reads : (n : ℕ) → length rest ≤ n
      → option_map (λ (more : List Record). list ++ more) (records_in n rest) ≡ journal_in file

none_before : (o : Option (List Record)) → option_map (λ (more : List Record). [] ++ more) o ≡ o
none_before (Some more) = refl
none_before None = refl

pub begins : (file : List ℕ) → IsReading file [] file
unfolding journal_in
begins file =
    record { reads = λ n few. none_before (records_in n file) ∙ enough n (length file) file few (omega arith) }

joined : (list batch : List Record) (o : Option (List Record))
    → option_map (λ (more : List Record). (list ++ batch) ++ more) o
    ≡ option_map (λ (more : List Record). list ++ more) (option_map (λ (more : List Record). batch ++ more) o)
joined list batch (Some more) = ap some (append_assoc list batch more)
joined list batch None = refl

module _ (file : List ℕ) (list : List Record) (rest : List ℕ) (so_far : IsReading file list rest) where
  from_front : (o : Option (Option Found)) → front_in rest ≡ o
      → journal_in file
      ≡ option_map (λ (later : List Record). list ++ later)
      (o >>= λ front. records_from (records_in (length rest)) front)
  from_front o front =
      sym (so_far.reads (suc (length rest)) (omega arith))
      ∙ ap (option_map (λ (later : List Record). list ++ later)) (at_front (length rest) rest o front)

  pub goes_on : (batch all : List Record) (more : List ℕ) → front_in rest ≡ Some (Some (batch, more))
      → all ≡ list ++ batch → IsReading file all more
  goes_on batch all more front is =
      let less : length more < length rest = shorter rest (batch, more) front in
      record {
        reads = λ n few.
            ap (λ (xs : List Record). option_map (λ (later : List Record). xs ++ later) (records_in n more)) is
            ∙ joined list batch (records_in n more)
            ∙ ap
            (λ (o : Option (List Record)). option_map (λ (later : List Record). list ++ later)
            (option_map (λ (later : List Record). batch ++ later) o))
            (enough n (length rest) more few (omega (arith, less)))
            ∙ sym (from_front (Some (Some (batch, more))) front);
      }

  pub is_bad : front_in rest ≡ None → journal_in file ≡ None
  is_bad front = from_front None front

  pub is_done : front_in rest ≡ Some None → journal_in file ≡ Some list
  is_done front = from_front (Some None) front ∙ ap some (append-nil list)
