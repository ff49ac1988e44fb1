use Rattle.std.proofs.Common.{◌++◌, map, subst}
use Rattle.std.specs.Prelude.{IsPermutation}
use Rattle.lks_farm.specs.declared.rule.View.{View}
use Rattle.lks_farm.specs.Entries.{entry_done, entry_of}
use Rattle.lks_farm.proofs.Closing.{closed}
use Rattle.lks_farm.proofs.farms.Farm.empty.Goals as goal

pub returns : goal.returns
returns g c =
    let gathered = c.gather-jobs_hand.ensures in
    closed c.args.seats.items _ gathered.once
    (subst (λ (v : View). IsPermutation v.put (v.got ++ map entry_of c.drain.new.out.items)) gathered.jobs
    c.drain.ensures)
    (subst (λ (v : View). IsPermutation v.put (v.got ++ map entry_done c.drain-2.new.out.items)) gathered.results
    c.drain-2.ensures)
