use Rattle.lks_sessions.proofs.Keyed.{pinned_stays, place_in}
use Rattle.lks_sessions.proofs.moves.drop_pinned.Goals as goal

pub returns-in-None-clause-left : goal.returns-in-None-clause-left
returns-in-None-clause-left c =
    pinned_stays c.args.poll c.args.pinned.now.items
    (place_in _ _ _ _ _ c.as_slice.ensures.value c.place_of_pinned.ensures c.in-None.is)
