use Rattle.lks_world.proofs.Unsafe.{short_vote, one_holder}
use Rattle.lks_world.proofs.laws.worlds_may_be_unsafe.Goals as goal

pub returns-clause-short : goal.returns-clause-short
returns-clause-short c = short_vote

pub returns-clause-held : goal.returns-clause-held
returns-clause-held c = one_holder
