use Rattle.std.proofs.Common.{subst}
use Rattle.lks_base.specs.declared.names.Outcome.{Outcome}
use Rattle.lks_base.specs.declared.records.Record.TheVariants.{Closed}
use Rattle.lks_law.specs.Fitting.{Fits}
use Rattle.lks_peer.specs.Knows.{state_of}
use Rattle.lks_peer.proofs.Knowing.{agree_fits, tied_on}
use Rattle.lks_peer.proofs.known.end.Goals as goal

pub agree-requires-clause-agreed : goal.agree-requires-clause-agreed
agree-requires-clause-agreed c =
    agree_fits c.args.own.now c.args.pool.now c.args.known.now c.requires.tied c.args.number c.args.tick
    (subst
    (λ (how : Outcome). Fits c.args.own.now (state_of c.args.known.now) (Closed c.args.number how c.args.tick))
    c.in-Agreed.is c.requires.fits)

pub returns-in-Inquorate-clause-tied : goal.returns-in-Inquorate-clause-tied
returns-in-Inquorate-clause-tied c =
    tied_on c.args.own.now.id c.args.pool.now c.args.known.now c.close.new.known c.close.ensures.tied
    c.requires.tied

pub returns-in-Split-clause-tied : goal.returns-in-Split-clause-tied
returns-in-Split-clause-tied c =
    tied_on c.args.own.now.id c.args.pool.now c.args.known.now c.close-in-Split.new.known
    c.close-in-Split.ensures.tied c.requires.tied

pub returns-in-NoSupplier-clause-tied : goal.returns-in-NoSupplier-clause-tied
returns-in-NoSupplier-clause-tied c =
    tied_on c.args.own.now.id c.args.pool.now c.args.known.now c.close-in-NoSupplier.new.known
    c.close-in-NoSupplier.ensures.tied c.requires.tied
