-- Bytes hold one list of bodies at most, and then they aren't damaged.
use Rattle.std.proofs.Common.{◌≡◌, ◌≢◌, ⊎_elim, ℕ, ◌+◌, ◌^◌, ◌<◌, List, [], ◌∷◌, ◌++◌, length, get_or, take, drop}
use Rattle.std.proofs.Common.{refl, sym, ◌∙◌, ap, arith, append_assoc, length-append}
use Rattle.std.proofs.lemmas.List.{take_at, drop_at}
use Rattle.std.proofs.lemmas.Nat.{from_be_bytes-to_be_bytes_4}
use Rattle.std.specs.Int.{to_be_bytes, from_be_bytes, w32}
use Rattle.lks_field.specs.Frames.{frame, frames, AreBodies, HoldsBodies, IsCutShort, IsDamagedAt}

four : (body : List ℕ) → length (to_be_bytes w32 (length body)) ≡ 4
four body = refl

-- the length bytes of a frame
size_bytes : (body after : List ℕ)
    → take 4 (to_be_bytes w32 (length body) ++ body ++ after) ≡ to_be_bytes w32 (length body)
size_bytes body after =
    ap (λ (l : List ℕ). take 4 l) (append_assoc (to_be_bytes w32 (length body)) body after)
    ∙ take_at (to_be_bytes w32 (length body)) (body ++ after) 4 (four body)

behind_size : (body after : List ℕ) → drop 4 (to_be_bytes w32 (length body) ++ body ++ after) ≡ body ++ after
behind_size body after =
    ap (λ (l : List ℕ). drop 4 l) (append_assoc (to_be_bytes w32 (length body)) body after)
    ∙ drop_at (to_be_bytes w32 (length body)) (body ++ after) 4 (four body)

-- a frame at the front is one body's, and what stands behind it is the same
same_frame : (a b after_a after_b : List ℕ) → length a < 2 ^ 32 → length b < 2 ^ 32
    → frame a ++ after_a ≡ frame b ++ after_b → (a ≡ b) × (after_a ≡ after_b)
same_frame a b after_a after_b fits_a fits_b same =
    let tails : to_be_bytes w32 (length a) ++ a ++ after_a
    ≡ to_be_bytes w32 (length b) ++ b ++ after_b = ap (λ (l : List ℕ). drop 1 l) same in
    let sizes : to_be_bytes w32 (length a)
    ≡ to_be_bytes w32 (length b) = sym (size_bytes a after_a) ∙ ap (λ (l : List ℕ). take 4 l) tails
    ∙ size_bytes b after_b in
    let lengths : length a ≡ length b =
    sym (from_be_bytes-to_be_bytes_4 (length a) fits_a) ∙ ap (λ (l : List ℕ). from_be_bytes w32 l) sizes
    ∙ from_be_bytes-to_be_bytes_4 (length b) fits_b in
    let rests : a ++ after_a
    ≡ b ++ after_b = sym (behind_size a after_a) ∙ ap (λ (l : List ℕ). drop 4 l) tails
    ∙ behind_size b after_b in (
      sym (take_at a after_a (length a) refl) ∙ ap (λ (l : List ℕ). take (length a) l) rests
          ∙ take_at b after_b (length a) (sym lengths),
      sym (drop_at a after_a (length a) refl) ∙ ap (λ (l : List ℕ). drop (length a) l) rests
          ∙ drop_at b after_b (length a) (sym lengths),
    )

same_bodies : (firsts seconds : List (List ℕ)) (x y : ℕ) (xs ys : List ℕ) → x ≢ 165 → y ≢ 165 → AreBodies firsts
    → AreBodies seconds → frames firsts ++ x ∷ xs ≡ frames seconds ++ y ∷ ys → firsts ≡ seconds
unfolding frames
same_bodies [] [] x y xs ys shut_x shut_y are_a are_b same = refl
same_bodies [] (b ∷ seconds) x y xs ys shut_x shut_y are_a are_b same =
    absurd (shut_x (ap (λ (l : List ℕ). get_or l 0 0) same))
same_bodies (a ∷ firsts) [] x y xs ys shut_x shut_y are_a are_b same =
    absurd (shut_y (sym (ap (λ (l : List ℕ). get_or l 0 0) same)))
same_bodies (a ∷ firsts) (b ∷ seconds) x y xs ys shut_x shut_y are_a are_b same =
    let parts =
    same_frame a b (frames firsts ++ x ∷ xs) (frames seconds ++ y ∷ ys) are_a.0 are_b.0
    (sym (append_assoc (frame a) (frames firsts) (x ∷ xs)) ∙ same ∙ append_assoc (frame b) (frames seconds) (y ∷ ys)) in
    let rest = same_bodies firsts seconds x y xs ys shut_x shut_y are_a.1 are_b.1 parts.1 in λ i. parts.0 i ∷ rest i

-- bytes hold one list of bodies
pub held_once : (a b : List (List ℕ)) (file : List ℕ) → HoldsBodies a file → HoldsBodies b file → a ≡ b
held_once a b file held_a held_b =
    same_bodies a b held_a.gate held_b.gate held_a.rest held_b.rest held_a.shut held_b.shut held_a.are held_b.are
    (sym held_a.file_is ∙ held_b.file_is)

-- a whole frame with something behind it passes no end
not_short : (body after file : List ℕ) → length body < 2 ^ 32 → 0 < length after → file ≡ frame body ++ after
    → IsCutShort file → ⊥
not_short body after file fits more is cut =
    let tail_is : cut.tail
    ≡ to_be_bytes w32 (length body) ++ body ++ after = ap (λ (l : List ℕ). drop 1 l) (sym cut.opened ∙ is) in
    let size : length cut.tail ≡ 4 + length body + length after =
    ap length tail_is
    ∙ omega (
      arith,
      length-append (to_be_bytes w32 (length body) ++ body) after,
      length-append (to_be_bytes w32 (length body)) body,
      four body,
    ) in
    let said : from_be_bytes w32 (take 4 cut.tail) ≡ length body =
    ap (λ (l : List ℕ). from_be_bytes w32 (take 4 l)) tail_is
    ∙ ap (λ (l : List ℕ). from_be_bytes w32 l) (size_bytes body after)
    ∙ from_be_bytes-to_be_bytes_4 (length body) fits in
    ⊎_elim (λ few. omega (arith, few, size)) (λ short. omega (arith, short, size, said, more)) cut.short

whole_of_cut : (firsts seconds : List (List ℕ)) (x : ℕ) (xs rest : List ℕ) → x ≢ 165 → AreBodies firsts
    → AreBodies seconds → IsCutShort rest → frames firsts ++ x ∷ xs ≡ frames seconds ++ rest → ⊥
unfolding frames
whole_of_cut [] [] x xs rest shut are_a are_b cut same = shut (ap (λ (l : List ℕ). get_or l 0 0) (same ∙ cut.opened))
whole_of_cut [] (b ∷ seconds) x xs rest shut are_a are_b cut same = shut (ap (λ (l : List ℕ). get_or l 0 0) same)
whole_of_cut (a ∷ firsts) [] x xs rest shut are_a are_b cut same =
    not_short a (frames firsts ++ x ∷ xs) rest are_a.0 (omega (arith, length-append (frames firsts) (x ∷ xs)))
    (sym same ∙ append_assoc (frame a) (frames firsts) (x ∷ xs)) cut
whole_of_cut (a ∷ firsts) (b ∷ seconds) x xs rest shut are_a are_b cut same =
    let parts =
    same_frame a b (frames firsts ++ x ∷ xs) (frames seconds ++ rest) are_a.0 are_b.0
    (sym (append_assoc (frame a) (frames firsts) (x ∷ xs)) ∙ same ∙ append_assoc (frame b) (frames seconds) rest) in
    whole_of_cut firsts seconds x xs rest shut are_a.1 are_b.1 cut parts.1

-- and then they aren't damaged
pub not_both : (bodies : List (List ℕ)) (file : List ℕ) (offset : ℕ) → HoldsBodies bodies file
    → IsDamagedAt file offset → ⊥
not_both bodies file offset held damaged =
    ⊎_elim
    (λ none. omega (arith, ap length (sym none ∙ held.file_is), length-append (frames bodies) (held.gate ∷ held.rest)))
    (λ cut. whole_of_cut bodies damaged.bodies held.gate held.rest damaged.rest held.shut held.are damaged.are cut
    (sym held.file_is ∙ damaged.file_is))
    damaged.why

same_end : (firsts seconds : List (List ℕ)) (xs ys : List ℕ) → AreBodies firsts → AreBodies seconds → IsCutShort xs
    → IsCutShort ys → frames firsts ++ xs ≡ frames seconds ++ ys → length (frames firsts) ≡ length (frames seconds)
unfolding frames
same_end [] [] xs ys are_a are_b cut_x cut_y same = refl
same_end [] (b ∷ seconds) xs ys are_a are_b cut_x cut_y same =
    absurd
    (not_short b (frames seconds ++ ys) xs are_b.0
    (omega (arith, length-append (frames seconds) ys, ap length cut_y.opened))
    (same ∙ append_assoc (frame b) (frames seconds) ys) cut_x)
same_end (a ∷ firsts) [] xs ys are_a are_b cut_x cut_y same =
    absurd
    (not_short a (frames firsts ++ xs) ys are_a.0
    (omega (arith, length-append (frames firsts) xs, ap length cut_x.opened))
    (sym same ∙ append_assoc (frame a) (frames firsts) xs) cut_y)
same_end (a ∷ firsts) (b ∷ seconds) xs ys are_a are_b cut_x cut_y same =
    let parts =
    same_frame a b (frames firsts ++ xs) (frames seconds ++ ys) are_a.0 are_b.0
    (sym (append_assoc (frame a) (frames firsts) xs) ∙ same ∙ append_assoc (frame b) (frames seconds) ys) in
    let rest = same_end firsts seconds xs ys are_a.1 are_b.1 cut_x cut_y parts.1 in
    omega (
      arith,
      length-append (frame a) (frames firsts),
      length-append (frame b) (frames seconds),
      ap length (ap frame parts.0),
      rest,
    )

-- no bytes are damaged at their first byte
none_at : (file : List ℕ) (offset : ℕ) → file ≡ [] → IsDamagedAt file offset → offset ≡ 0
none_at file offset none damaged =
    omega (
      arith,
      damaged.at,
      ap length (sym none ∙ damaged.file_is),
      length-append (frames damaged.bodies) damaged.rest,
    )

-- bytes are damaged at one place
pub damaged_once : (file : List ℕ) (m n : ℕ) → IsDamagedAt file m → IsDamagedAt file n → m ≡ n
damaged_once file m n at_m at_n =
    ⊎_elim
    (λ none. none_at file m none at_m ∙ sym (none_at file n none at_n))
    (λ cut_m. ⊎_elim
    (λ none. none_at file m none at_m ∙ sym (none_at file n none at_n))
    (λ cut_n. at_m.at
    ∙ same_end at_m.bodies at_n.bodies at_m.rest at_n.rest at_m.are at_n.are cut_m cut_n
    (sym at_m.file_is ∙ at_n.file_is)
    ∙ sym at_n.at)
    at_n.why)
    at_m.why
