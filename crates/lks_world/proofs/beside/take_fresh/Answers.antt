use Rattle.lks_world.proofs.SameSites.{same_set}
use Rattle.lks_world.proofs.beside.take_fresh.Goals as goal

pub returns-in_err-would_take-clause-same : goal.returns-in_err-would_take-clause-same
returns-in_err-would_take-clause-same g c =
    same_set c.args.sites.now.items c.in-Some-place_of.place c.index_mut.result.now c.would_take.new.self
    c.index_mut.ensures.value c.would_take.ensures

pub returns-then-branch-clause-same : goal.returns-then-branch-clause-same
returns-then-branch-clause-same g c =
    same_set c.args.sites.now.items c.in-Some-place_of.place c.index_mut.result.now c.would_take.new.self
    c.index_mut.ensures.value c.would_take.ensures

pub returns-else-branch-clause-same : goal.returns-else-branch-clause-same
returns-else-branch-clause-same g c =
    same_set c.args.sites.now.items c.in-Some-place_of.place c.index_mut.result.now c.would_take.new.self
    c.index_mut.ensures.value c.would_take.ensures
