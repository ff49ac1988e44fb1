use Rattle.std.proofs.Common.{◌++◌, refl, rules}
use Rattle.std.specs.Prelude.{Some, None, reverse}
use Rattle.lks_world.proofs.BeginLaws.{fresh_first, fresh_rest, site_served, site_power, on_site, in_list}
use Rattle.lks_world.specs.Sites.{disk_at, disks_at}
use Rattle.lks_world.proofs.beginning.site_next.Goals as goal

pub make_site-requires-clause-fresh : goal.make_site-requires-clause-fresh
make_site-requires-clause-fresh g c = λ κs lives.
    fresh_first g.D.Disk.face c.args.disks.now.items c.pop.new.self.items c.in-Some.disk c.in-Some.ensures.items
    c.requires.next.fresh

pub returns-in-Ok-clause-siteed : goal.returns-in-Ok-clause-siteed
returns-in-Ok-clause-siteed g c =
    record { made = c.in-Ok.site; more = c.push_reserved.ensures.items; begun = c.in-Ok.ensures.begun }

pub returns-in-Ok-clause-fresh : goal.returns-in-Ok-clause-fresh
returns-in-Ok-clause-fresh g c =
    fresh_rest g.D.Disk.face c.args.disks.now.items c.pop.new.self.items c.in-Some.disk c.in-Some.ensures.items
    c.requires.next.fresh

pub returns-in-Ok-clause-serves : goal.returns-in-Ok-clause-serves
returns-in-Ok-clause-serves g c = λ before after are.
    let left = c.pop.new.self.items in
    site_served g.D.Disk.face c.args.peer.now c.args.sites.now.items c.args.disks.now.items left c.in-Some.disk
    (disk_at c.in-Ok.site) None c.in-Some.ensures.items c.in-Ok.ensures.served
    (disks_at c.push_reserved.new.self.items ++ reverse left)
    (on_site c.args.sites.now.items c.push_reserved.new.self.items c.in-Ok.site left
    c.push_reserved.ensures.items) before after are

pub returns-in-Ok-clause-power : goal.returns-in-Ok-clause-power
returns-in-Ok-clause-power g c =
    let left = c.pop.new.self.items in
    site_power g.D.Disk.face c.args.sites.now.items c.args.disks.now.items left c.in-Some.disk
    (disk_at c.in-Ok.site) c.in-Some.ensures.items c.in-Ok.ensures.power
    (disks_at c.push_reserved.new.self.items ++ reverse left)
    (on_site c.args.sites.now.items c.push_reserved.new.self.items c.in-Ok.site left
    c.push_reserved.ensures.items)

pub returns-in-Err-clause-serves : goal.returns-in-Err-clause-serves
returns-in-Err-clause-serves g c = λ before after are.
    let left = c.pop.new.self.items in
    let back = c.push_reserved-in-Err.new.self.items in
    site_served g.D.Disk.face c.args.peer.now c.args.sites.now.items c.args.disks.now.items left c.in-Some.disk
    c.in-Err.disk (Some c.in-Err.fault) c.in-Some.ensures.items c.in-Err.ensures.served
    (disks_at c.args.sites.now.items ++ reverse back)
    (in_list c.args.sites.now.items left back c.in-Err.disk c.push_reserved-in-Err.ensures.items) before after
    are

pub returns-in-Err-clause-power : goal.returns-in-Err-clause-power
returns-in-Err-clause-power g c =
    let left = c.pop.new.self.items in
    let back = c.push_reserved-in-Err.new.self.items in
    site_power g.D.Disk.face c.args.sites.now.items c.args.disks.now.items left c.in-Some.disk c.in-Err.disk
    c.in-Some.ensures.items c.in-Err.ensures.power
    (disks_at c.args.sites.now.items ++ reverse back)
    (in_list c.args.sites.now.items left back c.in-Err.disk c.push_reserved-in-Err.ensures.items)

pub returns-in-Ok-clause-rooms : goal.returns-in-Ok-clause-rooms
returns-in-Ok-clause-rooms g c =
    record {
      less = search rules;
      more = search rules;
      all = search rules;
      sites_room = search rules;
      disks_room = search rules;
    }

pub returns-in-Err-clause-rooms : goal.returns-in-Err-clause-rooms
returns-in-Err-clause-rooms g c =
    record {
      less = search rules;
      more = search rules;
      all = search rules;
      sites_room = search rules;
      disks_room = search rules;
    }

pub returns-in-Ok-clause-taken : goal.returns-in-Ok-clause-taken
returns-in-Ok-clause-taken g c = record { disk = c.in-Some.disk; front = c.in-Some.ensures.items }

pub returns-in-Err-clause-stops : goal.returns-in-Err-clause-stops
returns-in-Err-clause-stops g c = record {
  honest = c.in-Err.ensures.front.0;
  disk = c.in-Some.disk;
  now = c.in-Err.disk;
  rest = c.pop.new.self.items;
  there = c.in-Some.ensures.items;
  stays = c.push_reserved-in-Err.ensures.items;
  same = refl;
  front = c.in-Err.ensures.front.1;
}
