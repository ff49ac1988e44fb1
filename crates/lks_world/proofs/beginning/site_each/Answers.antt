use Rattle.std.proofs.Common.{◌+◌, ◌++◌, ap, length, arith, take, drop}
use Rattle.std.specs.Prelude.{reverse}
use Rattle.std.proofs.lemmas.Result.{err_from_is_err_and}
use Rattle.lks_world.proofs.BeginLaws.{made_start, made_more, peer_at_place, next_done, all_parts, served_then}
use Rattle.lks_world.proofs.BegunUpTo.{begun_up_to}
use Rattle.lks_world.proofs.Stopped.{err_then}
use Rattle.lks_world.specs.Sites.{disks_at}
use Rattle.lks_world.proofs.beginning.site_each.Goals as goal

pub loop-p-init : goal.loop-p-init
loop-p-init g c = record {
  made =
      made_start g.D.Disk.face c.args.pool.now c.args.plan.now c.args.disks.now.items c.args.sites.now.items
      c.requires.sites.none c.requires.sites.begins.fresh;
  count = c.requires.sites.none_there;
  enough = omega (arith, c.requires.sites.begins.enough);
  room = c.requires.sites.room;
  disk_room = omega (arith, c.requires.sites.none_there, c.args.disks.now.ok.1);
}

pub loop-p-preserved : goal.loop-p-preserved
loop-p-preserved g c =
    let peers = c.args.plan.now.peers in
    let items = c.as_slice-p-items.result.now in
    let same = c.as_slice-p-items.ensures in
    let i = c.loop-p.p-index in
    let p = c.p-item.result in
    let was = c.loop-p.invariant in
    let done = c.in_ok-site_next.ensures in
    record {
      made =
          made_more g.D.Disk.face c.args.pool.now c.args.plan.now c.args.disks.now.items c.loop-p.sites.items
          c.site_next.new.sites.items c.loop-p.disks.items c.site_next.new.disks.items p (take i peers)
          (drop (i + 1) peers) (take (i + 1) peers)
          was.made done.siteed done.taken done.fresh done.serves done.power
          (all_parts items peers same i p c.loop-p-test.true c.p-item.is)
          (next_done items peers same i p c.loop-p-test.true c.p-item.is);
      count = omega (arith, was.count, done.rooms.more);
      enough = omega (arith, was.enough, done.rooms.less);
      room = omega (arith, was.room, done.rooms.sites_room);
      disk_room = omega (arith, was.disk_room, done.rooms.all, done.rooms.disks_room);
    }

pub site_next-requires-clause-next : goal.site_next-requires-clause-next
site_next-requires-clause-next g c = λ κs lives. record {
  good = c.requires.sites.begins.good;
  planned = λ honest.
      peer_at_place c.args.plan.now c.requires.sites.begins.good c.as_slice-p-items.result.now
      c.as_slice-p-items.ensures c.loop-p.p-index c.p-item.result c.loop-p-test.true c.p-item.is honest;
  some = omega (arith, c.loop-p.invariant.enough, c.loop-p-test.true, ap length c.as_slice-p-items.ensures);
  fresh = c.loop-p.invariant.made.fresh;
  room =
      omega (
        arith,
        c.loop-p.invariant.room,
        c.loop-p.invariant.count,
        c.loop-p-test.true,
        ap length c.as_slice-p-items.ensures,
      );
}

pub returns-in_err-site_next-clause-serves : goal.returns-in_err-site_next-clause-serves
returns-in_err-site_next-clause-serves g c =
    let f = g.D.Disk.face in
    let peers = c.args.plan.now.peers in
    let items = c.as_slice-p-items.result.now in
    let same = c.as_slice-p-items.ensures in
    let i = c.loop-p.p-index in
    let p = c.p-item.result in
    let e = err_from_is_err_and c.from_residual.result c.from_residual.ensures.1 in
    let middle = disks_at c.loop-p.sites.items ++ reverse c.loop-p.disks.items in
    let after = disks_at c.site_next.new.sites.items ++ reverse c.site_next.new.disks.items in
    rw (e.1, e.2)
    (served_then f peers (take i peers) (drop (i + 1) peers) p (reverse c.args.disks.now.items) middle after
    c.loop-p.invariant.made.serves
    (all_parts items peers same i p c.loop-p-test.true c.p-item.is)
    (c.in_err-site_next.ensures.serves (take i peers) (drop (i + 1) peers) c.loop-p.invariant.made.placed))

pub returns-in_err-site_next-clause-stops : goal.returns-in_err-site_next-clause-stops
returns-in_err-site_next-clause-stops g c =
    let peers = c.args.plan.now.peers in
    let items = c.as_slice-p-items.result.now in
    let same = c.as_slice-p-items.ensures in
    let i = c.loop-p.p-index in
    let p = c.p-item.result in
    err_then c.from_residual.result
    (begun_up_to g.D.Disk.face c.args.pool.now c.args.plan.now c.args.disks.now.items c.loop-p.sites.items
    c.site_next.new.sites.items c.loop-p.disks.items c.site_next.new.disks.items p (take i peers)
    (drop (i + 1) peers)
    c.loop-p.invariant.made (all_parts items peers same i p c.loop-p-test.true c.p-item.is)
    c.in_err-site_next.ensures.stops)
