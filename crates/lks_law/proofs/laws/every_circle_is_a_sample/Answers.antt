use Rattle.lks_law.proofs.Journals.{circles_are_samples}
use Rattle.lks_law.proofs.laws.every_circle_is_a_sample.Goals as goal

pub returns : goal.returns
returns c = circles_are_samples
