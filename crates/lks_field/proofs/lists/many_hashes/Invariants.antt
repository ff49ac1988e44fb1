use Rattle.std.proofs.Common.{◌≡◌, ◌-◌}
use Rattle.lks_field.specs.Reading.{many_at, hash_at}
use Rattle.lks_field.proofs.Counted.{with_front}
use Rattle.lks_field.proofs.lists.many_hashes.Given as goal

abbrev pub invariant-loop : goal.invariant-loop
invariant-loop l =
    with_front hash_at l.hashes.items (many_at hash_at (l.count - l.counter) l.fields)
    ≡ many_at hash_at l.count l.initial.fields
