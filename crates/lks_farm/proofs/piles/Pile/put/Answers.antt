use Rattle.std.proofs.Common.{arith}
use Rattle.lks_farm.proofs.Piling.{has_place, placed}
use Rattle.lks_farm.specs.Batches.{asked_done}
use Rattle.lks_farm.proofs.piles.Pile.put.Goals as goal

pub index_mut-requires : goal.index_mut-requires
index_mut-requires g c =
    let within = has_place c.self.inside.done.items g.N.Batch.asked c.args.place (asked_done c.args.done) c.requires
    c.self.invariant.places in
    omega (arith, within, c.self.inside.done.ok)

pub invariant_of-self : goal.invariant_of-self
invariant_of-self g c = record {
  taken = c.self.invariant.taken;
  left = c.self.invariant.left;
  places = placed c.self.inside.done.items g.N.Batch.asked c.args.place c.args.done c.requires c.self.invariant.places;
}
