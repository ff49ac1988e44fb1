use Rattle.lks_race.proofs.Going.{goes_then}
use Rattle.lks_race.proofs.locked.Locked.meet.Goals as goal

pub invariant_of-self : goal.invariant_of-self
invariant_of-self g c =
    goes_then g.N.NamesRace.begin c.self.inside.world c.meet.new.world c.self.invariant c.meet.ensures.on
