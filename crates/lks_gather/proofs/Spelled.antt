-- The records that are read are those of the frames.
use Rattle.std.proofs.Common.{◌≡◌, ◌==◌, ◌&&◌, ◌+◌, ◌<◌, ◌^◌, ℕ, zero, suc, Bool, true, false, cond, List, [], ◌∷◌}
use Rattle.std.proofs.Common.{◌++◌, length, map, Option, Some, None, Result, Ok, Err, refl, sym, ap, subst, ◌∙◌}
use Rattle.std.proofs.Common.{arith, append_assoc, length-append}
use Rattle.std.specs.Int.{w32, to_be_bytes}
use Rattle.std.specs.List.{All, flat_map}
use Rattle.std.specs.Option.{option_map}
use Rattle.std.proofs.lemmas.Bool.{and_parts, eqb-true}
use Rattle.std.proofs.lemmas.List.Elements.{All-nil, All-cons, All-head, All-tail}
use Rattle.lks_base.specs.declared.records.Record.{Record}
use Rattle.lks_field.specs.Frames.{frame, frames, AreBodies}
use Rattle.lks_field.specs.Reading.{number_at, sized_at}
use Rattle.lks_field.proofs.Counted.{sized_field}
use Rattle.lks_field.proofs.Numbers.{be32_field}
use Rattle.lks_field.proofs.Takes.{IsBytes, IsField}
use Rattle.lks_record.specs.declared.fault.RecFault.{RecFault}
use Rattle.lks_record.specs.Reading.{decode_of}
use Rattle.lks_record.specs.Spelling.{batch_spelling, IsBatch}
use Rattle.lks_record.proofs.Laws.{read_spells, spelling_read}
use Rattle.lks_words.specs.Numbers.{◌>>=◌}
use Rattle.lks_words.proofs.Steps.{map_some, same_some, some}
use Rattle.lks_gather.specs.Framed.{batch_in, frame_in, batch_at, front_in, records_from, records_in, journal_in}
use Rattle.lks_gather.specs.Framed.{Spells}
use Rattle.lks_field.proofs.Frames.{frames_nil}
use Rattle.lks_field.specs.declared.fault.FieldFault.{FieldFault}
use Rattle.lks_gather.proofs.Records.{Found, Frame, batch_framed, frame_sized, opened, none_first, at_front}

frame_field : IsField (sized_at (number_at w32)) (λ body. to_be_bytes w32 (length body) ++ body)
    (λ body. length body < 2 ^ 32)
frame_field = sized_field be32_field

-- ---- what is read is spelled so

-- the first frame and the bytes behind it
record IsFirst (bytes : List ℕ) (found : Found) : Type 0 where
  batch : IsBatch found.0
  sized : length (batch_spelling found.0) < 2 ^ 32
  bytes_is : bytes ≡ frame (batch_spelling found.0) ++ found.1
  rest_fits : IsBytes found.1

from_decoded : (read : Result (List Record) RecFault) (batch : List Record)
    → elim read as (λ _. Option (List Record)) [ Ok b ↦ Some b | Err fault ↦ None ] ≡ Some batch → read ≡ Ok batch
from_decoded (Ok b) batch e = cc
from_decoded (Err fault) batch e = absurd cc

decoded : (body : List ℕ) (batch : List Record) → batch_in body ≡ Some batch → decode_of body ≡ Ok batch
unfolding batch_in
decoded body batch e = from_decoded (decode_of body) batch e

first_of : (bytes : List ℕ) (found : Found) → IsBytes bytes → front_in bytes ≡ Some (Some found) → IsFirst bytes found
first_of [] found fits e = absurd (none_first (Some found) e)
first_of (gate ∷ bytes) found fits e =
    let open_gate = opened gate bytes found e in
    let gate_is : gate ≡ 165 = eqb-true gate 165 open_gate.0 in
    let framed = batch_framed bytes found open_gate.1 in
    let takes = frame_field.takes bytes (framed.body, found.1) (λ i. fits (suc i))
    (frame_sized bytes (framed.body, found.1) framed.frame) in
    let body_fits : IsBytes framed.body = body_bytes (to_be_bytes w32 (length framed.body)) framed.body found.1
    (λ i. subst (λ (t : List ℕ). IsBytes t) takes.0.parts (λ k. fits (suc k)) i) in
    let spelled = read_spells framed.body found.0 body_fits (decoded framed.body found.0 framed.batch) in
    record {
      batch = spelled.0;
      sized = subst (λ (t : List ℕ). length t < 2 ^ 32) spelled.1 takes.1;
      bytes_is = (λ i. gate_is i ∷ takes.0.parts i) ∙ ap (λ (t : List ℕ). frame t ++ found.1) spelled.1;
      rest_fits = takes.0.rest_fits;
    }
  where
    after : (a b : List ℕ) → IsBytes (a ++ b) → IsBytes b
    after [] b h = h
    after (x ∷ a) b h = after a b (λ i. h (suc i))

    before : (a b : List ℕ) → IsBytes (a ++ b) → IsBytes a
    before [] b h i = omega arith
    before (x ∷ a) b h zero = h 0
    before (x ∷ a) b h (suc i) = before a b (λ k. h (suc k)) i

    body_bytes : (size body rest : List ℕ) → IsBytes ((size ++ body) ++ rest) → IsBytes body
    body_bytes size body rest h = after size body (before (size ++ body) rest h)

shutting : (opens shuts : Bool) (o : Option Found)
    → cond opens (option_map (λ (f : Found). some f) o) (cond shuts (some None) None) ≡ Some None → shuts ≡ true
shutting true shuts o e = let a = map_some (λ (f : Found). some f) o None e in absurd (cc a.2)
shutting false true o e = refl
shutting false false o e = absurd cc

none_left : (bytes : List ℕ) → length bytes ≡ 0 → bytes ≡ []
none_left [] e = refl
none_left (b ∷ bytes) e = absurd (omega (arith, e))

shut_is : (bytes : List ℕ) → front_in bytes ≡ Some None → bytes ≡ 0 ∷ []
unfolding front_in
shut_is [] e = absurd cc
shut_is (gate ∷ bytes) e =
    let shuts = shutting (gate == 165) (gate == 0 && length bytes == 0) (batch_at bytes) e in
    let both = and_parts (gate == 0) (length bytes == 0) shuts in
    let gate_is : gate ≡ 0 = eqb-true gate 0 both.0 in
    let rest_is : bytes ≡ [] = none_left bytes (eqb-true (length bytes) 0 both.1) in λ i. gate_is i ∷ rest_is i

spelled_none : (bytes : List ℕ) (list : List Record) → bytes ≡ 0 ∷ [] → list ≡ [] → Spells bytes list
spelled_none bytes list is none =
    record {
      batches = [];
      are = All-nil IsBatch;
      sized = tt;
      file_is = is ∙ sym (ap (λ (t : List ℕ). t ++ 0 ∷ []) frames_nil);
      list_is = none;
    }

spelled_more : (bytes : List ℕ) (found : Found) (rest list : List Record) → IsFirst bytes found
    → Spells found.1 rest → list ≡ found.0 ++ rest → Spells bytes list
unfolding frames
spelled_more bytes found rest list first more is = record {
  batches = found.0 ∷ more.batches;
  are = All-cons IsBatch found.0 more.batches first.batch more.are;
  sized = (first.sized, more.sized);
  file_is =
      first.bytes_is ∙ ap (λ (t : List ℕ). frame (batch_spelling found.0) ++ t) more.file_is
      ∙ sym (append_assoc (frame (batch_spelling found.0)) (frames (map batch_spelling more.batches)) (0 ∷ []));
  list_is = is ∙ ap (λ (l : List Record). found.0 ++ l) more.list_is;
}

module _ (more : List ℕ → Option (List Record))
    (again : (bytes : List ℕ) (list : List Record) → IsBytes bytes → more bytes ≡ Some list → Spells bytes list)
  where
    behind : (bytes : List ℕ) (list : List Record) (o : Option (Option Found)) → IsBytes bytes → front_in bytes ≡ o
        → (o >>= λ front. records_from more front) ≡ Some list → Spells bytes list
    behind bytes list None fits front e = absurd cc
    behind bytes list (Some None) fits front e =
        spelled_none bytes list (shut_is bytes front) (sym (same_some [] list e))
    behind bytes list (Some (Some found)) fits front e =
        let first = first_of bytes found fits front in
        let a = map_some (λ (later : List Record). found.0 ++ later) (more found.1) list e in
        spelled_more bytes found a.0 list first (again found.1 a.0 first.rest_fits a.1) (sym a.2)

spelled : (n : ℕ) (bytes : List ℕ) (list : List Record) → IsBytes bytes → records_in n bytes ≡ Some list
    → Spells bytes list
unfolding records_in
spelled zero bytes list fits e = absurd cc
spelled (suc n) bytes list fits e = behind (records_in n) (spelled n) bytes list (front_in bytes) fits refl e

pub read_is_spelled : (file : List ℕ) (list : List Record) → IsBytes file → journal_in file ≡ Some list
    → Spells file list
unfolding journal_in
read_is_spelled file list fits e = spelled (length file) file list fits e

-- ---- what is spelled so is read

frame_again : (body rest : List ℕ) → length body < 2 ^ 32
    → frame_in ((to_be_bytes w32 (length body) ++ body) ++ rest) ≡ Some (body, rest)
unfolding frame_in
frame_again body rest fits =
    ap (λ (r : Result Frame FieldFault). elim r as (λ _. Option Frame) [ Ok f ↦ Some f | Err fault ↦ None ])
    (frame_field.again body rest fits)

body_again : (batch : List Record) → IsBatch batch → batch_in (batch_spelling batch) ≡ Some batch
unfolding batch_in
body_again batch is =
    ap
    (λ (r : Result (List Record) RecFault).
    elim r as (λ _. Option (List Record)) [ Ok b ↦ Some b | Err fault ↦ None ]) (spelling_read batch is)

batch_again : (batch : List Record) (rest : List ℕ) → IsBatch batch → length (batch_spelling batch) < 2 ^ 32
    → batch_at ((to_be_bytes w32 (length (batch_spelling batch)) ++ batch_spelling batch) ++ rest) ≡ Some (batch, rest)
unfolding batch_at
batch_again batch rest is fits =
    ap (λ (o : Option Frame). o >>= λ found. batch_in found.0 >>= λ b. some (b, found.1))
    (frame_again (batch_spelling batch) rest fits)
    ∙ ap (λ (o : Option (List Record)). o >>= λ b. some (b, rest)) (body_again batch is)

front_again : (batch : List Record) (rest : List ℕ) → IsBatch batch → length (batch_spelling batch) < 2 ^ 32
    → front_in (frame (batch_spelling batch) ++ rest) ≡ Some (Some (batch, rest))
unfolding front_in
front_again batch rest is fits = ap (option_map (λ (f : Found). some f)) (batch_again batch rest is fits)

front_shut : front_in (0 ∷ []) ≡ Some None
unfolding front_in
front_shut = refl

again : (n : ℕ) (batches : List (List Record)) → All IsBatch batches → AreBodies (map batch_spelling batches)
    → length (frames (map batch_spelling batches)) < n
    → records_in n (frames (map batch_spelling batches) ++ 0 ∷ []) ≡ Some (flat_map (λ batch. batch) batches)
unfolding frames
again zero batches are sized few = absurd (omega (arith, few))
again (suc n) [] are sized few = at_front n (0 ∷ []) (Some None) front_shut
again (suc n) (batch ∷ batches) are sized few =
    let bodies = map batch_spelling batches in
    let one = frame (batch_spelling batch) in
    let rest = frames bodies ++ 0 ∷ [] in
    let shorter : length (frames bodies) < n = omega (arith, few, length-append one (frames bodies)) in
    ap (records_in (suc n)) (append_assoc one (frames bodies) (0 ∷ []))
    ∙ at_front n (one ++ rest) (Some (Some (batch, rest)))
    (front_again batch rest (All-head IsBatch batch batches are) sized.0)
    ∙ ap (option_map (λ (later : List Record). batch ++ later))
    (again n batches (All-tail IsBatch batch batches are) sized.1 shorter)

pub spelled_is_read : (file : List ℕ) (list : List Record) → Spells file list → journal_in file ≡ Some list
unfolding journal_in
spelled_is_read file list s =
    let bodies = map batch_spelling s.batches in
    let size : length (frames bodies ++ 0 ∷ []) ≡ length (frames bodies) + 1 = length-append (frames bodies) (0 ∷ []) in
    ap (λ (t : List ℕ). records_in (length t) t) s.file_is
    ∙ again (length (frames bodies ++ 0 ∷ [])) s.batches s.are s.sized (omega (arith, size)) ∙ ap some (sym s.list_is)
