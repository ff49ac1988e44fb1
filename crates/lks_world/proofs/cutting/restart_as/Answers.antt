use Rattle.std.proofs.Common.{◌∙◌, sym, arith}
use Rattle.lks_world.proofs.CutActs.{peer_stays, stands_still}
use Rattle.lks_world.proofs.cutting.restart_as.Goals as goal

pub returns-in-Ok-clause-peer : goal.returns-in-Ok-clause-peer
returns-in-Ok-clause-peer g c =
    let ready = c.requires.ready in
    let did = c.in-Ok.ensures in
    peer_stays g.D.Disk.face c.args.host.now c.restart.new.host ready.batches ready.stands ready.written
    did.back.own (did.stands ready.batches ready.stands)

pub returns-in-Ok-clause-on : goal.returns-in-Ok-clause-on
returns-in-Ok-clause-on g c =
    let ready = c.requires.ready in
    let did = c.in-Ok.ensures in
    let stands = did.stands ready.batches ready.stands in
    record {
      whole = λ e. did.back.broken;
      room = omega (arith, stands.disk.end, ready.stands.disk.end);
      unfused = did.back.unfused ∙ sym ready.unfused;
      pool = did.back.pool;
      stands =
          λ bs stood. stands_still g.D.Disk.face c.args.host.now c.restart.new.host ready.batches ready.stands
          ready.written did.back.own bs stands (did.stands bs stood);
    }
