use Rattle.lks_field.proofs.Once as once
use Rattle.lks_journal.proofs.laws.one_reading.Goals as goal

pub returns-clause-held_once : goal.returns-clause-held_once
returns-clause-held_once c = once.held_once

pub returns-clause-damaged_once : goal.returns-clause-damaged_once
returns-clause-damaged_once c = once.damaged_once

pub returns-clause-not_both : goal.returns-clause-not_both
returns-clause-not_both c = once.not_both
