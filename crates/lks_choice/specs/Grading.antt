-- The grade of a peer, and whether it is admitted.
use Rattle.std.specs.Prelude.{ℕ, Bool, true, false, not, ◌&&◌, ◌-◌, ◌==◌, nat_lt, if◌then◌else◌, Option, Some, None}
use Rattle.lks_base.specs.declared.plans.Rules.{Rules}
use Rattle.lks_draw.specs.Words.{Drawn, next_of}
use Rattle.lks_choice.specs.declared.grades.Grade.{Grade}
use Rattle.lks_choice.specs.declared.grades.Grade.TheVariants.{Unknown, Debt, Even, Credit}

-- the grade of a peer, from the votes that it gave us and those that we gave it
abbrev pub grade_from : ℕ → ℕ → Bool → Grade
grade_from received given friend =
    if nat_lt received given then Debt
    else (if nat_lt given received then Credit
    else (if given == 0 && not friend then Unknown else Even))

-- whether peers of this grade are admitted by chance alone
abbrev pub is_low : Grade → Bool
is_low Unknown = true
is_low Debt = true
is_low Even = false
is_low Credit = false

-- of 100 such peers, how many are admitted
abbrev pub percentage : Grade → Rules → ℕ
percentage Unknown rules = rules.unknown_pct
percentage Debt rules = rules.debt_pct
percentage Even rules = 100
percentage Credit rules = 100

-- whether the last peer that was admitted by chance was so less than `refractory` ticks ago
abbrev pub is_refractory : ℕ → Option ℕ → ℕ → Bool
is_refractory refractory None tick = false
is_refractory refractory (Some last) tick = nat_lt (tick - last) refractory

-- whether chance decides, so that a word is drawn
unfoldable pub is_drawn : Grade → Rules → Option ℕ → ℕ → Bool
is_drawn g rules last_low tick = is_low g && not (is_refractory rules.refractory last_low tick)

-- whether a peer is admitted, by the next word of a draw where chance decides
unfoldable pub is_admitted : Grade → Rules → Option ℕ → ℕ → Drawn → Bool
is_admitted g rules last_low tick d =
    if is_drawn g rules last_low tick then nat_lt (next_of d 100) (percentage g rules) else not (is_low g)
