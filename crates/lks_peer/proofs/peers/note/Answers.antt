use Rattle.lks_peer.proofs.Welling.{well_noted}
use Rattle.lks_peer.proofs.peers.note.Goals as goal

pub returns-clause-well : goal.returns-clause-well
returns-clause-well g c =
    well_noted c.args.own.now c.args.pool.now c.args.known.now c.requires.well c.apply.new.known c.args.r.now
    c.apply.result c.requires.fits c.apply.ensures.state c.apply.ensures.err c.apply.ensures.tied
