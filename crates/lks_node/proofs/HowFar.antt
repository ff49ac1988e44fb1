-- How far a loop that reads a source has come.
use Rattle.std.proofs.Common.{◌≡◌, ◌≤◌, ◌++◌, ◌∙◌, ℕ, List, [], length, take, drop, Option, Some, ap, sym, subst}
use Rattle.std.proofs.Common.{append_assoc}
use Rattle.std.proofs.Math.Seq.{take-append_seam, drop-append_seam}
use Rattle.std.proofs.lemmas.List.{drop_all, take-append-drop, take_all}
use Rattle.lks_node.specs.Framing.{Took}

-- of the bytes that were left at first, some were read, and the rest is left now
pub record HasRead (out bytes : List ℕ) (now : Option (List ℕ)) : Type 0 where
  pub rest : List ℕ
  pub split : bytes ≡ out ++ rest
  pub left : now ≡ Some rest

-- one more turn
pub reads_on : (n : ℕ) (out new bytes : List ℕ) (before after : Option (List ℕ)) (h : HasRead out bytes before)
    → Took h.rest out new after n → HasRead new bytes after
reads_on n out new bytes before after h t = record {
  rest = drop n h.rest;
  split = rw (t.0, append_assoc, take-append-drop) h.split;
  left = t.2;
}

-- so many were read
pub reads_all : (most : ℕ) (out bytes : List ℕ) (now : Option (List ℕ)) → HasRead out bytes now → length out ≡ most
    → (out ≡ take most bytes) × (now ≡ Some (drop most bytes))
reads_all most out bytes now h e = (
  subst (λ n. out ≡ take n bytes) e (sym (ap (take (length out)) h.split ∙ take-append_seam out h.rest)),
  h.left
      ∙ ap Some
      (subst (λ n. h.rest ≡ drop n bytes) e (sym (ap (drop (length out)) h.split ∙ drop-append_seam out h.rest))),
)

-- a turn that gave nothing met the end
pub reads_none : (most n : ℕ) (out new bytes : List ℕ) (before after : Option (List ℕ))
    (h : HasRead out bytes before)
    → n ≡ 0 → Took h.rest out new after n → length new ≤ most
    → (new ≡ take most bytes) × (after ≡ Some (drop most bytes))
reads_none most n out new bytes before after h z t few =
    let none : h.rest ≡ [] = t.3 z in
    let all : new ≡ bytes = t.0 ∙ ap (λ k. out ++ take k h.rest) z ∙ ap (λ r. out ++ r) (sym none) ∙ sym h.split in
    let short : length bytes ≤ most = subst (λ (xs : List ℕ). length xs ≤ most) all few in (
      all ∙ sym (take_all most bytes short),
      t.2 ∙ ap (λ k. Some (drop k h.rest)) z ∙ ap Some none ∙ ap Some (sym (drop_all most bytes short)),
    )
