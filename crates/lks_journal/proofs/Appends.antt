-- What each of the two writes of an append makes of a journal's bytes, torn or not.
use Rattle.std.proofs.Common.{◌≡◌, inl, inr, ℕ, ◌+◌, ◌^◌, ◌<◌, ◌≤◌, List, [], ◌∷◌, ◌++◌, length, get_or, take, drop}
use Rattle.std.proofs.Common.{sym, ◌∙◌, ap, subst, arith, append_assoc, length-append, take-append-drop}
use Rattle.std.proofs.lemmas.List.{take_at, drop_at, drop_more}
use Rattle.std.proofs.lemmas.Bool.{cases_eq}
use Rattle.std.specs.Int.{to_be_bytes, w32}
use Rattle.lks_disk.specs.Device.{Holds, Torn, Only}
use Rattle.lks_field.specs.Frames.{frame, frames, HoldsBodies}
use Rattle.lks_journal.specs.Tearing.{CanLeaveTorn}
use Rattle.lks_journal.specs.Adding.{HoldsEither, IsFramed}
use Rattle.lks_field.proofs.Frames.{frames_push, AreBodies_push}

-- a file of bodies, and what is written behind its closed gate for one more
pub record Appending (bodies : List (List ℕ)) (body piece file : List ℕ) (end : ℕ) : Type 0 where
  pub holds : HoldsBodies bodies file
  pub end_is : end ≡ length (frames bodies)
  pub fits : length body < 2 ^ 32
  pub piece_is : piece ≡ to_be_bytes w32 (length body) ++ body ++ 0 ∷ []

module _ {bodies : List (List ℕ)} {body piece file : List ℕ} {end : ℕ} (a : Appending bodies body piece file end) where
  gate_front : take (end + 1) file ≡ frames bodies ++ a.holds.gate ∷ []
  gate_front =
      ap (λ (l : List ℕ). take (end + 1) l)
      (a.holds.file_is ∙ sym (append_assoc (frames bodies) (a.holds.gate ∷ []) a.holds.rest))
      ∙ take_at (frames bodies ++ a.holds.gate ∷ []) a.holds.rest (end + 1)
      (omega (arith, length-append (frames bodies) (a.holds.gate ∷ []), a.end_is))

  old_front : take end file ≡ frames bodies
  old_front =
      ap (λ (l : List ℕ). take end l) a.holds.file_is
      ∙ take_at (frames bodies) (a.holds.gate ∷ a.holds.rest) end (sym a.end_is)

  -- where what was written ends
  written : end + 1 + length piece ≡ end + 6 + length body
  written =
      omega (
        arith,
        ap length a.piece_is,
        length-append (to_be_bytes w32 (length body) ++ body) (0 ∷ []),
        length-append (to_be_bytes w32 (length body)) body,
      )

  pub within : end + 1 ≤ length file
  within =
      omega
      (arith, ap length a.holds.file_is, length-append (frames bodies) (a.holds.gate ∷ a.holds.rest), a.end_is)

  -- the closed gate stands in each outcome of the first write
  pub first_torn : (c : List ℕ) → Torn (end + 1) (length piece) file c → HoldsBodies bodies c
  first_torn c torn = record {
    gate = a.holds.gate;
    rest = drop (end + 1) c;
    shut = a.holds.shut;
    are = a.holds.are;
    file_is =
        sym (take-append-drop (end + 1) c) ∙ ap (λ (l : List ℕ). l ++ drop (end + 1) c) (torn.before ∙ gate_front)
        ∙ append_assoc (frames bodies) (a.holds.gate ∷ []) (drop (end + 1) c);
  }

  pub first_crash : (may_leave : List ℕ → Type 0) → Only file may_leave → (c : List ℕ)
      → CanLeaveTorn may_leave (end + 1) (length piece) c → HoldsBodies bodies c
  first_crash may_leave only c left =
      first_torn c (subst (λ (f : List ℕ). Torn (end + 1) (length piece) f c) (only left.from left.left) left.torn)

  module _ (mid : List ℕ) (wrote : Holds file (end + 1) piece mid) where
    abbrev after : List ℕ
    after = drop (end + 1 + length piece) file

    staged : mid ≡ frames bodies ++ a.holds.gate ∷ (piece ++ after)
    staged =
        wrote ∙ ap (λ (l : List ℕ). l ++ piece ++ after) gate_front
        ∙ append_assoc (frames bodies ++ a.holds.gate ∷ []) piece after
        ∙ append_assoc (frames bodies) (a.holds.gate ∷ []) (piece ++ after)

    front : take end mid ≡ frames bodies
    front =
        ap (λ (l : List ℕ). take end l) staged
        ∙ take_at (frames bodies) (a.holds.gate ∷ (piece ++ after)) end (sym a.end_is)

    back : drop (end + 1) mid ≡ piece ++ after
    back =
        ap (λ (l : List ℕ). drop (end + 1) l)
        (staged ∙ sym (append_assoc (frames bodies) (a.holds.gate ∷ []) (piece ++ after)))
        ∙ drop_at (frames bodies ++ a.holds.gate ∷ []) (piece ++ after) (end + 1)
        (omega (arith, length-append (frames bodies) (a.holds.gate ∷ []), a.end_is))

    -- with the gate open the frame counts
    framed : frames bodies ++ 165 ∷ (piece ++ after) ≡ frames bodies ++ frame body ++ 0 ∷ after
    framed =
        ap (λ (l : List ℕ). frames bodies ++ 165 ∷ (l ++ after)) a.piece_is
        ∙ ap (λ (l : List ℕ). frames bodies ++ 165 ∷ l)
        (append_assoc (to_be_bytes w32 (length body) ++ body) (0 ∷ []) after)
        ∙ sym (append_assoc (frames bodies) (frame body) (0 ∷ after))

    opened : frames bodies ++ 165 ∷ (piece ++ after) ≡ frames (bodies ++ body ∷ []) ++ 0 ∷ after
    opened = framed ∙ ap (λ (l : List ℕ). l ++ 0 ∷ after) (sym (frames_push bodies body))

    pub after_holds : (c : List ℕ) → c ≡ frames bodies ++ 165 ∷ (piece ++ after) → HoldsBodies (bodies ++ body ∷ []) c
    after_holds c is =
        record {
          gate = 0;
          rest = after;
          shut = λ e. cc;
          are = AreBodies_push bodies body a.holds.are a.fits;
          file_is = is ∙ opened;
        }

    -- the frame stands whole in each outcome of the second write
    pub second_torn : (c : List ℕ) → Torn end 1 mid c → HoldsEither bodies (bodies ++ body ∷ []) c
    second_torn c torn =
        let gate = get_or c end 0 in
        let long : end
        < length c = omega (
          arith,
          torn.no_shorter,
          ap length staged,
          length-append (frames bodies) (a.holds.gate ∷ (piece ++ after)),
          a.end_is,
        ) in
        let whole : c ≡ frames bodies ++ gate ∷ (piece ++ after) =
        sym (take-append-drop end c)
        ∙ (λ i. (torn.before ∙ front) i
        ++ (drop_more c end 0 long ∙ ap (λ (l : List ℕ). gate ∷ l) (torn.after ∙ back)) i) in
        elim (cases_eq gate 165) [
          | inl is_open ↦ inr (after_holds c (whole ∙ ap (λ (k : ℕ). frames bodies ++ k ∷ (piece ++ after)) is_open))
          | inr shut
              ↦ inl (record { gate = gate; rest = piece ++ after; shut = shut; are = a.holds.are; file_is = whole })
        ]

    pub second_crash : (may_leave : List ℕ → Type 0) → Only mid may_leave → (c : List ℕ)
        → CanLeaveTorn may_leave end 1 c → HoldsEither bodies (bodies ++ body ∷ []) c
    second_crash may_leave only c left =
        second_torn c (subst (λ (f : List ℕ). Torn end 1 f c) (only left.from left.left) left.torn)

    pub first_done : HoldsBodies bodies mid
    first_done =
        record {
          gate = a.holds.gate;
          rest = piece ++ after;
          shut = a.holds.shut;
          are = a.holds.are;
          file_is = staged;
        }

    both_done : (new : List ℕ) → Holds mid end (165 ∷ []) new → new ≡ frames bodies ++ 165 ∷ (piece ++ after)
    both_done new holds =
        holds ∙ ap (λ (l : List ℕ). l ++ 165 ∷ [] ++ drop (end + 1) mid) front
        ∙ ap (λ (l : List ℕ). frames bodies ++ 165 ∷ [] ++ l) back
        ∙ append_assoc (frames bodies) (165 ∷ []) (piece ++ after)

    pub second_done : (new : List ℕ) → Holds mid end (165 ∷ []) new → HoldsBodies (bodies ++ body ∷ []) new
    second_done new holds = after_holds new (both_done new holds)

    -- the frame and a closed gate stand behind what stood there
    pub second_framed : (new : List ℕ) → Holds mid end (165 ∷ []) new → IsFramed body end file new
    second_framed new holds =
        both_done new holds ∙ framed
        ∙ ap (λ (l : List ℕ). l ++ frame body ++ 0 ∷ after) (sym old_front)
        ∙ ap (λ (n : ℕ). take end file ++ frame body ++ 0 ∷ drop n file) written

  pub end_after : end + (5 + length body) ≡ length (frames (bodies ++ body ∷ []))
  end_after =
      omega (
        arith,
        a.end_is,
        ap length (frames_push bodies body),
        length-append (frames bodies) (frame body),
        length-append (to_be_bytes w32 (length body)) body,
      )
