use Rattle.std.proofs.Common.{true}
use Rattle.lks_gather.proofs.Parted.{parted_whole, parted_begins, parted_first}
use Rattle.lks_gather.proofs.laws.every_text_is_parted.Goals as goal

pub returns-clause-whole : goal.returns-clause-whole
returns-clause-whole c = parted_whole true

pub returns-clause-begins : goal.returns-clause-begins
returns-clause-begins c = parted_begins true

pub returns-clause-first : goal.returns-clause-first
returns-clause-first c = parted_first true
