use Rattle.std.proofs.Common.{sym, subst, List}
use Rattle.std.specs.Prelude.{All}
use Rattle.lks_base.specs.declared.records.Record.{Record}
use Rattle.lks_record.specs.Spelling.{IsWithin}
use Rattle.lks_host.proofs.Lacking.{all_within}
use Rattle.lks_host.proofs.comparing.is_added.Goals as goal

pub is_spelled-requires-2-clause-within : goal.is_spelled-requires-2-clause-within
is_spelled-requires-2-clause-within c =
    subst (λ (rs : List Record). All IsWithin rs) (sym c.unnumber_all.ensures)
    (all_within c.args.records.now c.requires.fits.within)
