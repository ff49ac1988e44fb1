use Rattle.std.proofs.Common.{◌≡◌, ◌-◌}
use Rattle.std.specs.Int.{w16}
use Rattle.lks_field.specs.Reading.{many_at, number_at}
use Rattle.lks_field.proofs.Counted.{with_front}
use Rattle.lks_field.proofs.lists.many_numbers.Given as goal

abbrev pub invariant-loop : goal.invariant-loop
invariant-loop l =
    with_front (number_at w16) l.numbers.items (many_at (number_at w16) (l.count - l.counter) l.fields)
    ≡ many_at (number_at w16) l.count l.initial.fields
