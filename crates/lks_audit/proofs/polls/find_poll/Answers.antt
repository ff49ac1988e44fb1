use Rattle.lks_audit.proofs.Running.{on_found}
use Rattle.lks_audit.proofs.polls.find_poll.Goals as goal

pub returns-clause-on : goal.returns-clause-on
returns-clause-on c = on_found c.args.number c.args.polls.now _ c.find.ensures
