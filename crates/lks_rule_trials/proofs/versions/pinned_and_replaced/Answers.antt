use Rattle.std.proofs.Common.{rules}
use Rattle.lks_versions.specs.Shelf.{kept_pinned}
use Rattle.lks_rule_trials.proofs.versions.pinned_and_replaced.Goals as goal

pub returns-clause-pinned : goal.returns-clause-pinned
returns-clause-pinned g c = kept_pinned _ 0 c.args.poll (search rules)
