-- What a host stands for is the journal that its disk holds.
use Rattle.std.proofs.Common.{inl, inr, ◌≡◌, ◌≢◌, ◌∙◌, ◌<◌, ◌≤◌, ◌^◌, ℕ, zero, suc, eqb, List, [], ◌∷◌, ◌++◌, length}
use Rattle.std.proofs.Common.{take, drop, refl, ap, arith, append_assoc, length-append}
use Rattle.std.proofs.lemmas.Bool.{cases_Bool, eqb-true}
use Rattle.std.proofs.lemmas.List.{take_at, drop_at}
use Rattle.std.proofs.lemmas.Nat.{from_be_bytes-to_be_bytes_4}
use Rattle.std.specs.Int.{to_be_bytes, from_be_bytes, w32}
use Rattle.lks_base.specs.declared.records.Record.{Record}
use Rattle.lks_disk.specs.Face.{Face}
use Rattle.lks_field.proofs.Frames.{few_bodies}
use Rattle.lks_field.specs.Frames.{frame, frames, AreBodies, HoldsBodies}
use Rattle.lks_host.proofs.ReadingBack.{read_together}
use Rattle.lks_host.specs.Bodies.{bodies_of, records_of}
use Rattle.lks_host.specs.Hosted.{StandsFor}
use Rattle.lks_host.specs.Journals.{bodies_within, list_in, journal_on}
use Rattle.lks_host.specs.declared.hosts.Host.{Host}
use Rattle.lks_law.specs.Batches.{together}

-- a closed gate ends it
shut_ends : (n gate : ℕ) (rest : List ℕ) → gate ≢ 165 → bodies_within n (gate ∷ rest) ≡ []
unfolding bodies_within
shut_ends zero gate rest shut = refl
shut_ends (suc n) gate rest shut = elim (cases_Bool (eqb gate 165)) [
  | inl opened ↦ absurd (shut (eqb-true gate 165 opened))
  | inr closed ↦ rw closed refl
]

-- the frame at the front is the first body's
first_body : (n : ℕ) (body after : List ℕ) → length body < 2 ^ 32
    → bodies_within (suc n) (frame body ++ after) ≡ body ∷ bodies_within n after
unfolding bodies_within
first_body n body after fits =
    let size = to_be_bytes w32 (length body) in
    let rest : List ℕ = size ++ body ++ after in
    let told : from_be_bytes w32 (take 4 rest) ≡ length body =
    ap (λ (l : List ℕ). from_be_bytes w32 (take 4 l)) (append_assoc size body after)
    ∙ ap (λ (l : List ℕ). from_be_bytes w32 l) (take_at size (body ++ after) 4 refl)
    ∙ from_be_bytes-to_be_bytes_4 (length body) fits in
    let behind : drop 4 rest
    ≡ body ++ after = ap (λ (l : List ℕ). drop 4 l) (append_assoc size body after)
    ∙ drop_at size (body ++ after) 4 refl in
    (λ i. take (told i) (behind i) ∷ bodies_within n (drop (told i) (behind i)))
    ∙ (λ i. take_at body after (length body) refl i ∷ bodies_within n (drop_at body after (length body) refl i))

bodies_are : (bodies : List (List ℕ)) (gate : ℕ) (rest : List ℕ) (n : ℕ) → gate ≢ 165 → AreBodies bodies
    → length bodies ≤ n → bodies_within n (frames bodies ++ gate ∷ rest) ≡ bodies
unfolding frames
bodies_are [] gate rest n shut are few = shut_ends n gate rest shut
bodies_are (body ∷ bodies) gate rest zero shut are few = absurd (omega (arith, few))
bodies_are (body ∷ bodies) gate rest (suc n) shut are few =
    ap (bodies_within (suc n)) (append_assoc (frame body) (frames bodies) (gate ∷ rest))
    ∙ first_body n body (frames bodies ++ gate ∷ rest) are.0
    ∙ ap (λ (bs : List (List ℕ)). body ∷ bs) (bodies_are bodies gate rest n shut are.1 (omega (arith, few)))

-- bytes that hold bodies hold no others
pub bodies_held : (bodies : List (List ℕ)) (file : List ℕ) → HoldsBodies bodies file
    → bodies_within (length file) file ≡ bodies
bodies_held bodies file holds =
    let enough : length bodies
    ≤ length file = omega (
      arith,
      few_bodies bodies,
      ap length holds.file_is,
      length-append (frames bodies) (holds.gate ∷ holds.rest),
    ) in
    ap (bodies_within (length file)) holds.file_is
    ∙ bodies_are bodies holds.gate holds.rest (length file) holds.shut holds.are enough

-- the journal on the disk is what the host stands for
pub journal_is : {D : Type 0} (f : Face D) (host : Host D) (batches : List (List Record)) → StandsFor f host batches
    → journal_on f host.journal.disk ≡ together batches
unfolding journal_on
journal_is f host batches stood =
    ap (λ (bs : List (List ℕ)). list_in (records_of bs))
    (bodies_held (bodies_of batches) (f.seen host.journal.disk) stood.disk.holds)
    ∙ ap list_in (read_together batches stood.read)
