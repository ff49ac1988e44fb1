use Rattle.std.proofs.Common.{◌≡◌, ◌-◌}
use Rattle.lks_field.specs.Reading.{many_at}
use Rattle.lks_field.proofs.Counted.{with_front}
use Rattle.lks_record.specs.Reading.{content_at}
use Rattle.lks_record.proofs.reading.many_blocks.Given as goal

abbrev pub invariant-loop : goal.invariant-loop
invariant-loop l =
    with_front content_at l.blocks.items (many_at content_at (l.count - l.counter) l.fields)
    ≡ many_at content_at l.count l.initial.fields
