use Rattle.std.proofs.Common.{◌∙◌, ap, rules}
use Rattle.lks_outside.specs.Bells.{raised}
use Rattle.lks_outside.proofs.Ringing.{seen-Raises, raised-left_of}
use Rattle.lks_outside.proofs.desks.AlarmDesk.raise.Goals as goal

pub returns-clause-rings : goal.returns-clause-rings
returns-clause-rings g c = (c.ring_each.new.bells.items, search rules, c.drop_sated.ensures)

pub returns-clause-raised : goal.returns-clause-raised
returns-clause-raised g c = seen-Raises _ _ _ _ _ (returns-clause-rings g c)

pub returns-clause-alike : goal.returns-clause-alike
returns-clause-alike g c alarms limits before =
    returns-clause-raised g c ∙ ap (raised c.args.a.now) before ∙ raised-left_of c.args.a.now alarms limits
