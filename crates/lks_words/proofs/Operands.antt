-- What is read of one or two words without leading hyphens.
use Rattle.std.proofs.Common.{◌≡◌, ◌-◌, ◌^◌, ◌==◌, ◌&&◌, ◌∙◌, ap, ap₂, if◌then◌else◌, rules, ℕ, Bool, true, false}
use Rattle.std.proofs.Common.{not, refl, true≢false, List, [], ◌∷◌, Option, Some, None, codes}
use Rattle.std.specs.Str.{bytes_eq}
use Rattle.lks_words.specs.Numbers.{with_digit, digits_on, number_in}
use Rattle.clap.specs.Lexer.{long_of, short_of}
use Rattle.clap.specs.Words.{App, Text, first_of, first_value, is_simple, matches_of, rows_of, takes}
use Rattle.clap.specs.declared.parser.matches.Found.{Found}
use Rattle.clap.proofs.WalkLemmas.{first_value-rows}
use Rattle.clap.proofs.OnLiterals.{clap_on_literals}
use Rattle.lks_words.specs.Commands.{alone_in, command_in, command_of, numbered_in, race_of}
use Rattle.lks_words.specs.declared.commands.Command.{Command}
use Rattle.lks_words.specs.CommandLine.{are_operands, is_operand, line}

-- the word is no flag, and doesn't end the flags
record IsPlain (w : List ℕ) : Type 0 where
  not_end : bytes_eq w (45 ∷ 45 ∷ []) ≡ false
  not_long : long_of w ≡ None
  not_short : short_of w ≡ None

is_plain : (w : List ℕ) → is_operand w ≡ true → IsPlain w
is_plain [] h = record { not_end = refl; not_long = refl; not_short = refl }
is_plain (x ∷ xs) h = by_first (x == 45) refl h where
  by_first : (b : Bool) → (x == 45) ≡ b → not b ≡ true → IsPlain (x ∷ xs)
  by_first true e bad = absurd (true≢false cc)
  by_first false e h = record { not_end = rw e refl; not_long = rw e refl; not_short = rw e refl }

pub is_simple_line : (app : App) → app ≡ line → is_simple app ≡ true
unfolding line
is_simple_line app is = rw is refl

takes_one : (w : List ℕ) → IsPlain w → takes line (w ∷ []) ≡ true
unfolding clap_on_literals line
takes_one w p = rw (p.not_end, p.not_long, p.not_short) refl

takes_two : (w n : List ℕ) → IsPlain w → IsPlain n → takes line (w ∷ n ∷ []) ≡ true
unfolding clap_on_literals line
takes_two w n p q = rw (p.not_end, p.not_long, p.not_short, q.not_end, q.not_long, q.not_short) refl

one_command : (w : List ℕ) → IsPlain w → first_of (codes "command") (matches_of line (w ∷ [])) ≡ Some w
unfolding clap_on_literals line
one_command w p = rw (p.not_end, p.not_long, p.not_short) refl

no_count : (w : List ℕ) → IsPlain w → first_of (codes "number") (matches_of line (w ∷ [])) ≡ None
unfolding clap_on_literals line
no_count w p = rw (p.not_end, p.not_long, p.not_short) refl

first_command : (w n : List ℕ) → IsPlain w → IsPlain n
    → first_of (codes "command") (matches_of line (w ∷ n ∷ [])) ≡ Some w
unfolding clap_on_literals line
first_command w n p q = rw (p.not_end, p.not_long, p.not_short, q.not_end, q.not_long, q.not_short) refl

second_count : (w n : List ℕ) → IsPlain w → IsPlain n
    → first_of (codes "number") (matches_of line (w ∷ n ∷ [])) ≡ Some n
unfolding clap_on_literals line
second_count w n p q = rw (p.not_end, p.not_long, p.not_short, q.not_end, q.not_long, q.not_short) refl

both : (a b : Bool) → (a && b) ≡ true → (a ≡ true) × (b ≡ true)
both true true h = (refl, refl)
both true false h = absurd (true≢false cc)
both false b h = absurd (true≢false cc)

pub takes_operands : (app : App) (words : List Text) → app ≡ line → are_operands words ≡ true → takes app words ≡ true
unfolding are_operands
takes_operands app [] is h = absurd (true≢false cc)
takes_operands app (w ∷ []) is h = rw is (takes_one w (is_plain w h))
takes_operands app (w ∷ n ∷ []) is h =
    let p = both (is_operand w) (is_operand n) h in rw is (takes_two w n (is_plain w p.0) (is_plain n p.1))
takes_operands app (w ∷ n ∷ more ∷ others) is h = absurd (true≢false cc)

reads_operands : (words : List (List ℕ)) → are_operands words ≡ true
    → command_of (first_of (codes "command") (matches_of line words))
    (first_of (codes "number") (matches_of line words))
    ≡ command_in words
unfolding are_operands command_in
reads_operands [] h = absurd (true≢false cc)
reads_operands (w ∷ []) h = let p = is_plain w h in rw (one_command w p, no_count w p) refl
reads_operands (w ∷ n ∷ []) h =
    let operands = both (is_operand w) (is_operand n) h in
    let p = is_plain w operands.0 in
    let q = is_plain n operands.1 in
    rw (first_command w n p q, second_count w n p q) refl
reads_operands (w ∷ n ∷ more ∷ others) h = absurd (true≢false cc)

-- the values that clap found of them name what they name
pub names_command : (f : Found) (words : List Text) (word number : Option Text) → are_operands words ≡ true
    → rows_of f ≡ matches_of line words
    → word ≡ first_value f (codes "command") → number ≡ first_value f (codes "number")
    → command_of word number ≡ command_in words
names_command f words word number operands rows word_is number_is =
    ap₂ command_of (word_is ∙ first_value-rows f (codes "command") ∙ ap (first_of (codes "command")) rows)
    (number_is ∙ first_value-rows f (codes "number") ∙ ap (first_of (codes "number")) rows)
    ∙ reads_operands words operands

hyphen : (x : ℕ) → not (x == 45) ≡ false → x ≡ 45
hyphen x h = search rules

none_alone : (w : List ℕ) → is_operand w ≡ false → command_in (w ∷ []) ≡ None
unfolding alone_in command_in
none_alone [] h = absurd (true≢false cc)
none_alone (x ∷ xs) h = rw (hyphen x h) refl

none_numbered : (w n : List ℕ) → is_operand w ≡ false → numbered_in w n ≡ None
unfolding numbered_in
none_numbered [] n h = absurd (true≢false cc)
none_numbered (x ∷ xs) n h = rw (hyphen x h) refl

no_number : (most : ℕ) (n : List ℕ) → is_operand n ≡ false → number_in most n ≡ None
unfolding number_in digits_on with_digit
no_number most [] h = refl
no_number most (x ∷ []) h = rw (hyphen x h) refl
no_number most (x ∷ y ∷ ys) h = rw (hyphen x h) refl

bad_number : (w n : List ℕ) → is_operand n ≡ false → numbered_in w n ≡ None
unfolding numbered_in race_of
bad_number w n h =
    rw (no_number (2 ^ 64 - 1) n h, no_number 64 n h)
    (same (bytes_eq w (codes "race")) (bytes_eq w (codes "drill")) None) where
      same : (b c : Bool) (o : Option Command) → (if b then o else if c then o else o) ≡ o
      same true c o = refl
      same false true o = refl
      same false false o = refl

pub others_name_none : (words : List (List ℕ)) → are_operands words ≡ false → command_in words ≡ None
unfolding are_operands command_in
others_name_none [] h = refl
others_name_none (w ∷ []) h = none_alone w h
others_name_none (w ∷ n ∷ []) h = by_first (is_operand w) refl h where
  by_first : (b : Bool) → is_operand w ≡ b → (b && is_operand n) ≡ false → numbered_in w n ≡ None
  by_first true e bad = bad_number w n bad
  by_first false e bad = none_numbered w n e
others_name_none (w ∷ n ∷ more ∷ others) h = refl
