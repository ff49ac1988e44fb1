use Rattle.lks_race.proofs.Going.{goes_then}
use Rattle.lks_race.proofs.locked.Locked.give.Goals as goal

pub invariant_of-self : goal.invariant_of-self
invariant_of-self g c =
    goes_then g.N.NamesRace.begin c.self.inside.world c.give.new.world c.self.invariant c.give.ensures.on
