use Rattle.std.proofs.Common.{rules, arith}
use Rattle.lks_versions.proofs.Kept.{kept_within, counted_at}
use Rattle.lks_versions.proofs.versions.Versions.refs.Goals as goal

pub list_at-requires : goal.list_at-requires
list_at-requires c =
    omega (
      arith,
      kept_within c.args.self.now c.args.version _ _ _ c.self.view_is c.requires c.self.invariant,
      c.as_slice.ensures.len,
    )

pub returns-clause-count : goal.returns-clause-count
returns-clause-count c =
    counted_at _ _ c.args.version _ c.self.invariant
    (omega (arith, kept_within c.args.self.now c.args.version _ _ _ c.self.view_is c.requires c.self.invariant))
    (search rules)
