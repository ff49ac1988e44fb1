-- What evidence reads off a journal is what the laws on histories read off it.
use Rattle.std.proofs.Common.{◌≡◌, ◌≤◌, ◌+◌, ◌∙◌, ap, sym, ℕ, Bool, true, false, cond, List, [], ◌∷◌, length, take}
use Rattle.std.proofs.Common.{drop, refl, arith}
use Rattle.std.specs.Prelude.{Option, Some, None, is_some, option_map, option_and_then, count_by}
use Rattle.std.specs.List.{filter_map, cons_option}
use Rattle.std.proofs.lemmas.List.{length-append, take-append-drop}
use Rattle.std.proofs.lemmas.List.Elements.{filter_map-append}
use Rattle.std.proofs.lemmas.List.Sums.{sum_by-cons}
use Rattle.lks_base.specs.declared.names.PollName.{PollName}
use Rattle.lks_base.specs.declared.records.Record.{Record}
use Rattle.lks_law.specs.Journal.{Opening, opening_in, opening_of, replacement_in}
use Rattle.lks_law.specs.Sessions as law
use Rattle.lks_law.specs.Sessions.{Commitment, is_poll, part_of, join_by, of_poll, commitment_in, commitment_of}
use Rattle.lks_law.specs.Sessions.{first_in}
use Rattle.lks_law.proofs.Growing.{opening_first}
use Rattle.lks_evidence.specs.Records.{join_in, openings, version_now, joins, join_of, commitments}

count_is : {X : Type 0} (has : Record → Option X) (js : List Record)
    → count_by (λ r. is_some (has r)) js ≡ length (filter_map has js)
count_is has [] = refl
count_is {X = X} has (j ∷ js) = sum_by-cons (λ r. cond (is_some (has r)) 1 0) j js ∙ by_option (has j) (count_is has js)
  where
    by_option : (o : Option X) → count_by (λ r. is_some (has r)) js ≡ length (filter_map has js)
        → cond (is_some o) 1 0 + count_by (λ r. is_some (has r)) js ≡ length (cons_option o (filter_map has js))
    by_option None rest = omega (arith, rest)
    by_option (Some x) rest = omega (arith, rest)

front_few : {X : Type 0} (has : Record → Option X) (js : List Record) (i : ℕ)
    → length (filter_map has (take i js)) ≤ length (filter_map has js)
front_few has js i =
    let whole = ap (λ rs. length (filter_map has rs)) (sym (take-append-drop i js)) in
    let all = ap length (filter_map-append has (take i js) (drop i js))
    ∙ length-append (filter_map has (take i js)) (filter_map has (drop i js)) in
    omega (arith, whole, all)

found_some : {X : Type 0} (has : Record → Option X) (js : List Record) (x : X) → first_in has js ≡ Some x
    → 1 ≤ length (filter_map has js)
found_some has [] x e = absurd cc
found_some {X = X} has (j ∷ js) x e = by_option (has j) e (found_some has js x)
  where
    by_option : (o : Option X) → cond (is_some o) o (first_in has js) ≡ Some x
        → (first_in has js ≡ Some x → 1 ≤ length (filter_map has js))
        → 1 ≤ length (cons_option o (filter_map has js))
    by_option None f rest = rest f
    by_option (Some y) f rest = omega arith

-- one opening, before a place too
pub opened_once : (n : ℕ) (js : List Record) (i : ℕ) (o : Opening) → length (filter_map (opening_in n) js) ≤ 1
    → opening_of n (take i js) ≡ Some o → openings n (take i js) ≡ 1
unfolding openings
opened_once n js i o single e =
    let few = front_few (opening_in n) js i in
    let some = found_some (opening_in n) (take i js) o (sym (opening_first n (take i js)) ∙ e) in
    let count = count_is (opening_in n) (take i js) in
    omega (arith, few, some, count, single)

pub same_version : (au : ℕ) (js : List Record) → version_now au js ≡ law.version_now au js
unfolding version_now law.version_now
same_version au js = count_is (replacement_in au) js

-- ---- joins and commitments

module _ {X Y : Type 0} (f : X → Y) (has : Record → Option X) (has' : Record → Option Y)
    (same : (r : Record) → has' r ≡ option_map f (has r)) where
  some_same : (o : Option X) → is_some (option_map f o) ≡ is_some o
  some_same None = refl
  some_same (Some x) = refl

  first_same : (js : List Record) → first_in has' js ≡ option_map f (first_in has js)
  first_same [] = refl
  first_same (j ∷ js) = ap (λ o. cond (is_some o) o (first_in has' js)) (same j) ∙ by_option (has j) (first_same js)
    where
      by_option : (o : Option X) → first_in has' js ≡ option_map f (first_in has js)
          → cond (is_some (option_map f o)) (option_map f o) (first_in has' js)
          ≡ option_map f (cond (is_some o) o (first_in has js))
      by_option None rest = rest
      by_option (Some x) rest = refl

  count_same : (js : List Record) → count_by (λ r. is_some (has' r)) js ≡ count_by (λ r. is_some (has r)) js
  count_same [] = refl
  count_same (j ∷ js) =
      sum_by-cons (λ r. cond (is_some (has' r)) 1 0) j js
      ∙ ap (λ b. cond b 1 0 + count_by (λ r. is_some (has' r)) js) (ap is_some (same j) ∙ some_same (has j))
      ∙ ap (λ n. cond (is_some (has j)) 1 0 + n) (count_same js)
      ∙ sym (sum_by-cons (λ r. cond (is_some (has r)) 1 0) j js)

abbrev pub au_of : law.Join → ℕ
au_of j = j.au

join_same : (q : PollName) (r : Record) → join_in q r ≡ option_map au_of (law.join_in q r)
join_same q r = by_part (part_of r)
  where
    by_name : (b : Bool) (j : law.Join) → cond b (Some j.au) None ≡ option_map au_of (cond b (Some j) None)
    by_name true j = refl
    by_name false j = refl

    by_join : (p : law.Part) (o : Option law.Join)
        → option_and_then (λ x. cond (is_poll p.poll q) (Some x) None) (option_map au_of o)
        ≡ option_map au_of (option_and_then (λ x. cond (is_poll p.poll q) (Some x) None) o)
    by_join p None = refl
    by_join p (Some j) = by_name (is_poll p.poll q) j

    by_part : (o : Option law.Part)
        → of_poll q (λ t. option_map au_of (join_by t)) o ≡ option_map au_of (of_poll q join_by o)
    by_part None = refl
    by_part (Some p) = by_join p (join_by p.turn)

pub join_is : (q : PollName) (js : List Record) → join_of q js ≡ option_map au_of (law.join_of q js)
unfolding join_of law.join_of
join_is q js = first_same au_of (law.join_in q) (join_in q) (join_same q) js

pub joined_once : (q : PollName) (js : List Record) (j : law.Join) → length (filter_map (law.join_in q) js) ≤ 1
    → law.join_of q js ≡ Some j → (joins q js ≡ 1) × (join_of q js ≡ Some j.au)
unfolding joins join_of law.join_of
joined_once q js j single e =
    let some = found_some (law.join_in q) js j e in
    let count = count_same au_of (law.join_in q) (join_in q) (join_same q) js ∙ count_is (law.join_in q) js in
    (omega (arith, some, count, single), join_is q js ∙ ap (option_map au_of) e)

pub committed_once : (q : PollName) (js : List Record) (c : Commitment)
    → length (filter_map (commitment_in q) js) ≤ 1 → commitment_of q js ≡ Some c → commitments q js ≡ 1
unfolding commitments commitment_of
committed_once q js c single e =
    omega (arith, found_some (commitment_in q) js c e, count_is (commitment_in q) js, single)
