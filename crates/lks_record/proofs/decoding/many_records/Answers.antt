use Rattle.std.proofs.lemmas.Result.{err_from_is_err_and}
use Rattle.lks_field.specs.Reading.{many_at}
use Rattle.lks_field.proofs.Counted.{stops, goes_on, ends, is_done}
use Rattle.lks_record.specs.Reading.{record_at}
use Rattle.lks_record.specs.Faults.{is_memory}
use Rattle.lks_record.proofs.decoding.many_records.Goals as goal

pub returns-in_err-item : goal.returns-in_err-item
returns-in_err-item c =
    let p = err_from_is_err_and c.from_residual.result c.from_residual.ensures.1 in
    let fault = c.in_err-item.field-0.0 in
    let stopped = stops is_memory fault (record_at c.loop.fields) (many_at record_at c.args.count c.args.fields.now)
    (λ e. ends record_at fault c.loop.list.items c.args.count c.loop.counter c.loop.fields
    (many_at record_at c.args.count c.args.fields.now) c.loop-test.true e c.loop.invariant)
    c.in_err-item.ensures in
    rw (p.1, p.2) stopped

pub loop-preserved : goal.loop-preserved
loop-preserved c =
    rw c.in_ok-push.ensures.items
    (goes_on record_at c.loop.list.items c.args.count c.loop.counter c.loop.fields c.in_ok-item.item
    c.record_of.new.fields (many_at record_at c.args.count c.args.fields.now) c.loop-test.true
    c.in_ok-item.ensures c.loop.invariant)

pub returns : goal.returns
returns c =
    is_done record_at c.loop.list.items c.args.count c.loop.counter c.loop.fields
    (many_at record_at c.args.count c.args.fields.now) c.loop-test.false c.loop.invariant
