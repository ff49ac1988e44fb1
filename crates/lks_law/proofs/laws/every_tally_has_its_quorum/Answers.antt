use Rattle.lks_law.proofs.Journals.{tallies_have_quorum}
use Rattle.lks_law.proofs.laws.every_tally_has_its_quorum.Goals as goal

pub returns : goal.returns
returns c = tallies_have_quorum
