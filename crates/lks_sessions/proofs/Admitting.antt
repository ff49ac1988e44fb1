-- Admissions by ticks that are cut off.
use Rattle.std.proofs.Common.{◌≡◌, ap, ℕ, ◌-◌, arith}
use Rattle.std.specs.Prelude.{Some, min, not, ◌&&◌, nat_lt, if◌then◌else◌}
use Rattle.lks_base.specs.declared.plans.Rules.{Rules}
use Rattle.lks_draw.specs.Words.{Drawn, next_of}
use Rattle.lks_choice.specs.Grading.{is_low, percentage, is_drawn, is_admitted}
use Rattle.lks_choice.specs.declared.grades.Grade.{Grade}

-- ticks to come count as this one
pub cut_admits : (g : Grade) (rules : Rules) (last tick : ℕ) (d : Drawn)
    → is_admitted g rules (Some (min last tick)) tick d ≡ is_admitted g rules (Some last) tick d
unfolding is_admitted is_drawn
cut_admits g rules last tick d =
    let same : tick - min last tick ≡ tick - last = omega arith in
    ap
    (λ n. if is_low g && not (nat_lt n rules.refractory) then nat_lt (next_of d 100) (percentage g rules)
    else not (is_low g)) same
