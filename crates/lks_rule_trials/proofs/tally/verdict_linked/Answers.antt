use Rattle.std.proofs.Common.{◌*◌, ◌-◌, ap, arith}
use Rattle.lks_rule_trials.proofs.tally.verdict_linked.Goals as goal

pub returns-clause-links : goal.returns-clause-links
returns-clause-links g c =
    let made = ap (λ n. n * (c.verdict.new.self.kept - c.args.tally.now.kept)) c.requires.three in
    omega (arith, made, c.verdict.ensures.cost, c.verdict.ensures.within, c.requires.count)
