use Rattle.lks_sessions.proofs.Keyed.{session_stays, place_in}
use Rattle.lks_sessions.proofs.moves.drop_joined.Goals as goal

pub returns-in-None : goal.returns-in-None
returns-in-None c =
    session_stays c.args.poll c.args.joined.now.items
    (place_in _ _ _ _ _ c.as_slice.ensures.value c.place_of_joined.ensures c.in-None.is)
