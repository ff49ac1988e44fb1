use Rattle.lks_sessions.proofs.Keyed.{cast_stays, place_in}
use Rattle.lks_sessions.proofs.moves.drop_cast.Goals as goal

pub returns-in-None-clause-left : goal.returns-in-None-clause-left
returns-in-None-clause-left c =
    cast_stays c.args.poll c.args.cast.now.items
    (place_in _ _ _ _ _ c.as_slice.ensures.value c.place_of_cast.ensures c.in-None.is)
