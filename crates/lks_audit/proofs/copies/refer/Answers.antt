use Rattle.lks_audit.proofs.Holdings.{of_found}
use Rattle.lks_audit.proofs.copies.refer.Goals as goal

pub returns-in-Some-clause-of : goal.returns-in-Some-clause-of
returns-in-Some-clause-of c =
    of_found c.args.au c.args.copies.now c.in-Some.held.now c.refer.result c.in-Some.ensures c.refer.ensures.of
