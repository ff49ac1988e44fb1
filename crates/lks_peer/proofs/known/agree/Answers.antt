use Rattle.std.proofs.Common.{refl}
use Rattle.lks_peer.proofs.Knowing.{tied_agreed}
use Rattle.lks_peer.proofs.known.agree.Goals as goal

pub returns-clause-tied : goal.returns-clause-tied
returns-clause-tied c =
    tied_agreed c.args.own.now.id c.args.pool.now c.args.known.now _ c.agree.new.self c.requires.tied
    c.mark.ensures.of c.mark.ensures.on c.agree.ensures.on c.close.ensures.on c.agree.ensures.owner refl
