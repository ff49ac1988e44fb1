use Rattle.std.proofs.lemmas.Result.{err_from_is_err_and}
use Rattle.lks_field.specs.Reading.{many_at, hash_at, is_memory}
use Rattle.lks_field.proofs.Counted.{fails, goes_on, ends, is_done}
use Rattle.lks_field.proofs.lists.many_hashes.Goals as goal

pub returns-in_err-hash : goal.returns-in_err-hash
returns-in_err-hash c =
    let p = err_from_is_err_and c.from_residual.result c.from_residual.ensures.1 in
    let fault = c.in_err-hash.field-0.0 in
    let total = many_at hash_at c.args.count c.args.fields.now in
    rw (p.1, p.2)
    (fails is_memory fault total
    (ends hash_at fault c.loop.hashes.items c.args.count c.loop.counter c.loop.fields total c.loop-test.true
    c.in_err-hash.ensures.read c.loop.invariant))

pub loop-preserved : goal.loop-preserved
loop-preserved c =
    rw c.in_ok-push.ensures.items
    (goes_on hash_at c.loop.hashes.items c.args.count c.loop.counter c.loop.fields c.in_ok-hash.hash
    c.get_hash.new.self (many_at hash_at c.args.count c.args.fields.now) c.loop-test.true
    c.in_ok-hash.ensures.read c.loop.invariant)

pub returns : goal.returns
returns c =
    is_done hash_at c.loop.hashes.items c.args.count c.loop.counter c.loop.fields
    (many_at hash_at c.args.count c.args.fields.now) c.loop-test.false c.loop.invariant
