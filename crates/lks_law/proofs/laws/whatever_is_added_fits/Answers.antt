use Rattle.lks_law.proofs.Fitting.{reaction_fits, sound_after}
use Rattle.lks_law.proofs.laws.whatever_is_added_fits.Goals as goal

pub returns-clause-adds : goal.returns-clause-adds
returns-clause-adds c = reaction_fits

pub returns-clause-keeps : goal.returns-clause-keeps
returns-clause-keeps c = sound_after
