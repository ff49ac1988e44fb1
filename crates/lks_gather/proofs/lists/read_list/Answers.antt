use Rattle.std.proofs.Common.{List, sym, subst}
use Rattle.lks_base.specs.declared.records.Record.{Record}
use Rattle.lks_gather.proofs.Records.{IsReading, begins, goes_on, shorter, is_bad, is_done}
use Rattle.lks_gather.proofs.lists.read_list.Goals as goal

pub batches-init : goal.batches-init
batches-init c =
    subst (λ (l : List Record). IsReading c.args.file.now l c.args.file.now) (sym c.new-list.ensures.items)
    (begins c.args.file.now)

pub batches-smaller : goal.batches-smaller
batches-smaller c =
    shorter c.batches.rest.now (c.in-Ok-Some.batch.items, c.in-Ok-Some.more.now)
    (rw c.in-Ok-Some.field-0-is at c.in-Ok-Some.ensures)

pub batches-preserved : goal.batches-preserved
batches-preserved c =
    goes_on c.args.file.now c.batches.list.items c.batches.rest.now c.batches.invariant c.in-Ok-Some.batch.items
    c.append.new.self.items c.in-Ok-Some.more.now
    (rw c.in-Ok-Some.field-0-is at c.in-Ok-Some.ensures) c.in_ok-append-in-Ok-Some.ensures.items

pub returns-in-Ok-None : goal.returns-in-Ok-None
returns-in-Ok-None c =
    is_done c.args.file.now c.batches.list.items c.batches.rest.now c.batches.invariant
    (rw c.in-Ok-None.field-0-is at c.in-Ok-None.ensures)

pub returns-in-Err-Bad : goal.returns-in-Err-Bad
returns-in-Err-Bad c =
    is_bad c.args.file.now c.batches.list.items c.batches.rest.now c.batches.invariant
    (rw c.in-Err-Bad.field-0-is at c.in-Err-Bad.ensures)
