use Rattle.std.proofs.Common.{◌∙◌, ap}
use Rattle.lks_host.proofs.ReadingBack.{only_memory, one_list, read_together, last_read}
use Rattle.lks_host.specs.Bodies.{records_of, last_of, last_batch}
use Rattle.lks_law.specs.Batches.{together}
use Rattle.lks_host.proofs.reading.read_journal.Goals as goal

pub unread-requires : goal.unread-requires
unread-requires c =
    let w = c.requires.written in
    only_memory c.in-Err.fault (records_of c.args.bodies.now) (together w.0) c.in-Err.ensures
    (ap records_of w.1 ∙ read_together w.0 w.2)

pub unread-requires-in-Err-read_last : goal.unread-requires-in-Err-read_last
unread-requires-in-Err-read_last c =
    let w = c.requires.written in
    only_memory c.in-Err-read_last.fault (last_of c.args.bodies.now) (last_batch w.0) c.in-Err-read_last.ensures
    (ap last_of w.1 ∙ last_read w.0 w.2)

pub returns-in-Ok-read_last-clause-all : goal.returns-in-Ok-read_last-clause-all
returns-in-Ok-read_last-clause-all c = λ batches are read.
    one_list (records_of c.args.bodies.now) c.in-Ok.list.items (together batches) c.in-Ok.ensures
    (ap records_of are ∙ read_together batches read)

pub returns-in-Ok-read_last-clause-last : goal.returns-in-Ok-read_last-clause-last
returns-in-Ok-read_last-clause-last c = λ batches are read.
    c.from_vec.ensures
    ∙ one_list (last_of c.args.bodies.now) c.in-Ok-read_last.last.items (last_batch batches)
    c.in-Ok-read_last.ensures (ap last_of are ∙ last_read batches read)
