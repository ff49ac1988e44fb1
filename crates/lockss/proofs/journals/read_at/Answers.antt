use Rattle.std.proofs.Common.{◌∙◌, ap}
use Rattle.std.specs.List.{insert}
use Rattle.lockss.proofs.Rereading.{get_is, put_in_place}
use Rattle.lockss.proofs.journals.read_at.Goals as goal

pub returns : goal.returns
returns g c = record {
  disk = c.remove-disk.result;
  now = c.read_back-disk.result.0;
  there = get_is c.args.disks.now.items c.args.place c.remove-disk.result c.requires.within c.remove-disk.ensures.value;
  back =
      c.put_back.ensures ∙ ap (λ l. insert l c.args.place c.read_back-disk.result.0) c.remove-disk.ensures.items
      ∙ put_in_place c.args.disks.now.items c.args.place c.read_back-disk.result.0 c.requires.within;
  read = c.read_back-disk.ensures.read;
  filed = c.read_back-disk.ensures.filed;
  cause = c.read_back-disk.ensures.cause;
}
