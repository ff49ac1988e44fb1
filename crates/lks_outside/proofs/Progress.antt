-- How far a loop over a stream has come.
use Rattle.std.proofs.Common.{◌≡◌, ◌≤◌, ◌+◌, ◌-◌, ◌++◌, ◌==◌, ℕ, List, [], ◌∷◌, true, false, refl, length, take, drop}
use Rattle.std.proofs.Common.{Option, Some, Ok, Err, ap, arith, eqb-true, append_assoc, ◌∙◌, sym, length-append}
use Rattle.std.proofs.lemmas.List.{take-append-drop, append-nil}
use Rattle.std.proofs.Math.Seq.{drop-append-add, take-append_seam}
use Rattle.lks_outside.specs.declared.sources.ReadStop.{ReadStop}
use Rattle.lks_outside.specs.declared.sources.ReadStop.TheVariants as reading
use Rattle.lks_outside.specs.Streams.{LosesAtMost, AddsFront, ReadEnds}
use Rattle.lks_outside.specs.Turns.{TurnEnds}

-- of the bytes that were left at first, some were read, and the rest is left now
pub record HasRead (out bytes : List ℕ) (now : Option (List ℕ)) : Type 0 where
  pub rest : List ℕ
  pub split : bytes ≡ out ++ rest
  pub left : now ≡ Some rest

-- one more turn
pub reads_on : (room n : ℕ) (out new bytes : List ℕ) (before after : Option (List ℕ)) (h : HasRead out bytes before)
    → TurnEnds room h.rest out new after (Ok n) → HasRead new bytes after
reads_on room n out new bytes before after h t = record {
  rest = drop n h.rest;
  split = rw (t.0, append_assoc, take-append-drop) h.split;
  left = t.2;
}

-- a turn that gave nothing met the end
pub ends_read : (room n : ℕ) (out new bytes : List ℕ) (before after : Option (List ℕ))
    (h : HasRead out bytes before)
    → n ≡ 0 → TurnEnds room h.rest out new after (Ok n) → (new ≡ bytes) × (after ≡ Some [])
ends_read room n out new bytes before after h z t =
    let none : h.rest ≡ [] = t.3 z in (
      t.0 ∙ ap (λ k. out ++ take k h.rest) z ∙ ap (λ r. out ++ r) (sym none) ∙ sym h.split,
      t.2 ∙ ap (λ k. Some (drop k h.rest)) z ∙ ap Some none,
    )

-- what is left behind more bytes
behind : (len : ℕ) (out rest bytes : List ℕ) (k : ℕ) → len ≡ length out → bytes ≡ out ++ rest
    → drop (len + k) bytes ≡ drop k rest
behind len out rest bytes k same split = rw (same, split, drop-append-add)

lost : (most len : ℕ) (out rest bytes : List ℕ) (after : Option (List ℕ)) → len ≡ length out → len ≤ most
    → bytes ≡ out ++ rest → LosesAtMost (most - len) rest after → LosesAtMost most bytes after
lost most len out rest bytes after same fits split l = record {
  count = len + l.count;
  few = let few = l.few in omega arith;
  within = let within = l.within in omega (arith, ap length split, length-append out rest);
  left = l.left ∙ ap Some (sym (behind len out rest bytes l.count same split));
}

-- a turn that stops, stops the reading
stopped : (most len : ℕ) (out new rest bytes : List ℕ) (after : Option (List ℕ)) (e : ReadStop) → len ≡ length out
    → len ≤ most → bytes ≡ out ++ rest → TurnEnds (most - len) rest out new after (Err e)
    → ReadEnds most bytes after (Err e)
stopped most len out new rest bytes after reading.Failed same fits split t =
    lost most len out rest bytes after same fits split t
stopped most len out new rest bytes after reading.Memory same fits split t =
    lost most len out rest bytes after same fits split t
stopped most len out new rest bytes after reading.TooLong same fits split t =
    let long = t.0 in
    let next : len + (most - len + 1) ≡ most + 1 = omega arith in (
      omega (arith, ap length split, length-append out rest),
      t.1 ∙ ap Some (sym (behind len out rest bytes (most - len + 1) same split) ∙ ap (λ k. drop k bytes) next),
    )

pub stops_reading : (most len : ℕ) (out new bytes : List ℕ) (before after : Option (List ℕ)) (e : ReadStop)
    (h : HasRead out bytes before)
    → len ≡ length out → len ≤ most → TurnEnds (most - len) h.rest out new after (Err e)
    → ReadEnds most bytes after (Err e)
stops_reading most len out new bytes before after e h same fits t =
    stopped most len out new h.rest bytes after e same fits h.split t

-- the front of the piece was added to the bytes that were taken at first
pub record HasWritten (piece rest bytes : List ℕ) (now : Option (List ℕ)) : Type 0 where
  pub front : List ℕ
  pub split : piece ≡ front ++ rest
  pub taken : now ≡ Some (bytes ++ front)

pub writes_on : (n : ℕ) (piece rest next bytes : List ℕ) (before after : Option (List ℕ))
    (h : HasWritten piece rest bytes before)
    → next ≡ drop n rest → after ≡ Some ((bytes ++ h.front) ++ take n rest) → HasWritten piece next bytes after
writes_on n piece rest next bytes before after h goes_on took = record {
  front = h.front ++ take n rest;
  split = rw (goes_on, append_assoc, take-append-drop) h.split;
  taken = took ∙ ap Some (append_assoc bytes h.front (take n rest));
}

-- where nothing more is taken and there is a rest
pub stops_writing : (piece rest bytes : List ℕ) (now : Option (List ℕ)) → HasWritten piece rest bytes now
    → (length rest == 0) ≡ false → AddsFront bytes piece now
stops_writing piece [] bytes now h some = absurd cc
stops_writing piece (x ∷ rest) bytes now h some = record {
  count = length h.front;
  within = rw h.split (omega (arith, length-append h.front (x ∷ rest)));
  taken =
      h.taken
      ∙ ap (λ (front : List ℕ). Some (bytes ++ front))
      (sym (ap (take (length h.front)) h.split ∙ take-append_seam h.front (x ∷ rest)));
}

-- a write that takes nothing leaves things as they were
pub keeps_written : (piece rest bytes : List ℕ) (before after : Option (List ℕ))
    → HasWritten piece rest bytes before → after ≡ before → HasWritten piece rest bytes after
keeps_written piece rest bytes before after h kept = record { front = h.front; split = h.split; taken = kept ∙ h.taken }

-- and so does one that answers 0
pub writes_none : (n : ℕ) (piece rest bytes : List ℕ) (before after : Option (List ℕ))
    (h : HasWritten piece rest bytes before)
    → n ≡ 0 → after ≡ Some ((bytes ++ h.front) ++ take n rest) → HasWritten piece rest bytes after
writes_none n piece rest bytes before after h z took = record {
  front = h.front;
  split = h.split;
  taken = took ∙ ap (λ k. Some ((bytes ++ h.front) ++ take k rest)) z ∙ ap Some (append-nil (bytes ++ h.front));
}

-- all of the piece went out
pub wrote_all : (piece rest bytes : List ℕ) (now : Option (List ℕ)) → HasWritten piece rest bytes now → rest ≡ []
    → now ≡ Some (bytes ++ piece)
wrote_all piece rest bytes now h done =
    h.taken
    ∙ ap (λ (front : List ℕ). Some (bytes ++ front))
    (sym (h.split ∙ ap (λ r. h.front ++ r) done ∙ append-nil h.front))

pub no_bytes : (rest : List ℕ) → (length rest == 0) ≡ true → rest ≡ []
no_bytes [] e = refl
no_bytes (x ∷ rest) e = absurd (omega (arith, eqb-true (length (x ∷ rest)) 0 e))

pub some_bytes : {P : Type 0} (rest : List ℕ) → (length rest == 0) ≡ false → rest ≡ [] → P
some_bytes [] e none = absurd cc
some_bytes (x ∷ rest) e none = absurd cc
