use Rattle.std.proofs.lemmas.Result.{err_from_is_err_and}
use Rattle.std.specs.Int.{w16}
use Rattle.lks_field.specs.Reading.{many_at, number_at, is_memory}
use Rattle.lks_field.proofs.Counted.{fails, goes_on, ends, is_done}
use Rattle.lks_field.proofs.lists.many_numbers.Goals as goal

pub returns-in_err-number : goal.returns-in_err-number
returns-in_err-number c =
    let p = err_from_is_err_and c.from_residual.result c.from_residual.ensures.1 in
    let fault = c.in_err-number.field-0.0 in
    let total = many_at (number_at w16) c.args.count c.args.fields.now in
    rw (p.1, p.2)
    (fails is_memory fault total
    (ends (number_at w16) fault c.loop.numbers.items c.args.count c.loop.counter c.loop.fields total
    c.loop-test.true c.in_err-number.ensures.read c.loop.invariant))

pub loop-preserved : goal.loop-preserved
loop-preserved c =
    rw c.in_ok-push.ensures.items
    (goes_on (number_at w16) c.loop.numbers.items c.args.count c.loop.counter c.loop.fields
    c.in_ok-number.number c.get_be16.new.self (many_at (number_at w16) c.args.count c.args.fields.now)
    c.loop-test.true c.in_ok-number.ensures.read c.loop.invariant)

pub returns : goal.returns
returns c =
    is_done (number_at w16) c.loop.numbers.items c.args.count c.loop.counter c.loop.fields
    (many_at (number_at w16) c.args.count c.args.fields.now) c.loop-test.false c.loop.invariant
