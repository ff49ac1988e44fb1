-- Records without their numbers.
use Rattle.std.proofs.Common.{◌≡◌, ℕ, ◌+◌, ◌<◌, List, [], ◌∷◌, ◌++◌, length, take, drop, map, get_or, ap, arith}
use Rattle.std.proofs.Common.{length-drop}
use Rattle.std.proofs.Math.ListN.{set}
use Rattle.std.proofs.lemmas.List.{take_more, take_more_set, drop_more, drop-set-lt, map-append}
use Rattle.std.specs.Prelude.{All}
use Rattle.std.proofs.lemmas.List.Elements.{All-nil, All-cons, All-head, All-tail}
use Rattle.lks_base.specs.declared.names.HashKind.TheVariants.{Sha256, Sha512_256}
use Rattle.lks_base.specs.declared.records.Record.{Record}
use Rattle.lks_base.specs.declared.records.Record.TheVariants as records
use Rattle.lks_law.specs.Facts.{unnumbered}
use Rattle.lks_record.specs.Spelling.{IsWithin}

one_within : (r : Record) → IsWithin r → IsWithin (unnumbered r)
one_within (records.PollOpened number au nonce inner tick limits Sha256) within = (within.0, tt)
one_within (records.PollOpened number au nonce inner tick limits Sha512_256) within = within
one_within (records.Joined poll au tick low repairs) within = tt
one_within r within = within

pub all_within : (rs : List Record) → All IsWithin rs → All IsWithin (map unnumbered rs)
all_within [] within = All-nil IsWithin
all_within (r ∷ rs) within =
    All-cons IsWithin (unnumbered r) (map unnumbered rs) (one_within r (All-head IsWithin r rs within))
    (all_within rs (All-tail IsWithin r rs within))

-- the records before the i-th lost their numbers, and the others are as they were
pub record LackTo (old now : List Record) (i : ℕ) : Type 0 where
  pub lack : take i now ≡ map unnumbered (take i old)
  pub wait : drop i now ≡ drop i old

-- one record more loses its numbers
pub lack_more : (old now : List Record) (i : ℕ) (d y : Record) → i < length now → y ≡ unnumbered (get_or now i d)
    → LackTo old now i → LackTo old (set now i y) (i + 1)
lack_more old now i d y within lacks so_far =
    let left : length (drop i now) ≡ length (drop i old) = ap length so_far.wait in
    let within_old : i < length old = omega (arith, length-drop i now, length-drop i old) in
    let x = get_or old i d in
    let here : drop i now ≡ get_or now i d ∷ drop (i + 1) now = drop_more now i d within in
    let here_old : drop i old ≡ x ∷ drop (i + 1) old = drop_more old i d within_old in
    let front : take (i + 1) (set now i y) ≡ take i now ++ y ∷ [] = take_more_set now i y within in
    let front_old : take (i + 1) old ≡ take i old ++ x ∷ [] = take_more old i d within_old in
    let lack_on : map unnumbered (take i old ++ x ∷ [])
    ≡ map unnumbered (take i old) ++ unnumbered x ∷ [] = map-append unnumbered (take i old) (x ∷ []) in
    let behind : drop (i + 1) (set now i y) ≡ drop (i + 1) now = drop-set-lt (i + 1) now i y (omega arith) in
    record { lack = cc; wait = cc }
