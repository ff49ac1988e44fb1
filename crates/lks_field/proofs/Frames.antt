-- One frame more.
use Rattle.std.proofs.Common.{◌≡◌, ◌≤◌, ◌^◌, ◌<◌, ℕ, List, [], ◌∷◌, ◌++◌, length, refl, sym, ◌∙◌, ap, arith}
use Rattle.std.proofs.Common.{append_assoc, length-append}
use Rattle.std.proofs.lemmas.List.{append-nil}
use Rattle.lks_field.specs.Frames.{frame, frames, AreBodies}

pub frames_nil : frames [] ≡ []
unfolding frames
frames_nil = refl

pub frames_push : (bodies : List (List ℕ)) (body : List ℕ) → frames (bodies ++ body ∷ []) ≡ frames bodies ++ frame body
unfolding frames
frames_push [] body = append-nil (frame body)
frames_push (b ∷ bodies) body =
    ap (λ (l : List ℕ). frame b ++ l) (frames_push bodies body)
    ∙ sym (append_assoc (frame b) (frames bodies) (frame body))

pub AreBodies_push : (bodies : List (List ℕ)) (body : List ℕ) → AreBodies bodies → length body < 2 ^ 32
    → AreBodies (bodies ++ body ∷ [])
AreBodies_push [] body are fits = (fits, tt)
AreBodies_push (b ∷ bodies) body are fits = (are.0, AreBodies_push bodies body are.1 fits)

-- no more bodies than bytes
pub few_bodies : (bodies : List (List ℕ)) → length bodies ≤ length (frames bodies)
unfolding frames
few_bodies [] = omega arith
few_bodies (b ∷ bodies) = omega (arith, few_bodies bodies, length-append (frame b) (frames bodies))
