use Rattle.std.proofs.lemmas.Result.{err_from_is_err_and}
use Rattle.lks_field.specs.Reading.{many_at}
use Rattle.lks_field.proofs.Counted.{stops, goes_on, ends, is_done}
use Rattle.lks_record.specs.Reading.{content_at}
use Rattle.lks_record.specs.Faults.{is_memory}
use Rattle.lks_record.proofs.reading.many_blocks.Goals as goal

pub returns-in_err-block : goal.returns-in_err-block
returns-in_err-block c =
    let p = err_from_is_err_and c.from_residual.result c.from_residual.ensures.1 in
    let fault = c.in_err-block.field-0.0 in
    let stopped = stops is_memory fault (content_at c.loop.fields)
    (many_at content_at c.args.count c.args.fields.now)
    (λ e. ends content_at fault c.loop.blocks.items c.args.count c.loop.counter c.loop.fields
    (many_at content_at c.args.count c.args.fields.now) c.loop-test.true e c.loop.invariant)
    c.in_err-block.ensures in
    rw (p.1, p.2) stopped

pub loop-preserved : goal.loop-preserved
loop-preserved c =
    rw c.in_ok-push.ensures.items
    (goes_on content_at c.loop.blocks.items c.args.count c.loop.counter c.loop.fields c.in_ok-block.block
    c.content_of.new.fields (many_at content_at c.args.count c.args.fields.now) c.loop-test.true
    c.in_ok-block.ensures c.loop.invariant)

pub returns : goal.returns
returns c =
    rw c.from_vec.ensures
    (is_done content_at c.loop.blocks.items c.args.count c.loop.counter c.loop.fields
    (many_at content_at c.args.count c.args.fields.now) c.loop-test.false c.loop.invariant)
