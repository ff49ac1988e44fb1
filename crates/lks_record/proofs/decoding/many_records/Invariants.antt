use Rattle.std.proofs.Common.{◌≡◌, ◌-◌}
use Rattle.lks_field.specs.Reading.{many_at}
use Rattle.lks_field.proofs.Counted.{with_front}
use Rattle.lks_record.specs.Reading.{record_at}
use Rattle.lks_record.proofs.decoding.many_records.Given as goal

abbrev pub invariant-loop : goal.invariant-loop
invariant-loop l =
    with_front record_at l.list.items (many_at record_at (l.count - l.counter) l.fields)
    ≡ many_at record_at l.count l.initial.fields
