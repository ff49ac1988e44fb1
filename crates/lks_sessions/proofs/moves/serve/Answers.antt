use Rattle.std.proofs.Common.{subst, sym}
use Rattle.lks_law.specs.Fitting.{MayHave}
use Rattle.lks_sessions.proofs.Keyed.{may_at, nothing_serves, place_in}
use Rattle.lks_sessions.proofs.moves.serve.Goals as goal
use Rattle.lks_sessions.specs.Kept.{cast_of}
use Rattle.lks_sessions.specs.declared.stages.CastSession.{CastSession}

pub serve-requires : goal.serve-requires
serve-requires c =
    subst (λ (x : CastSession). MayHave c.args.block (cast_of x)) (sym c.index_mut.ensures.value)
    (may_at c.args.poll c.args.block c.args.cast.now.items c.in-Some.i c.index_mut.result.now
    (place_in _ _ _ _ _ c.as_slice.ensures.value c.place_of_cast.ensures c.in-Some.is) c.requires)

pub returns-in-None-clause-served : goal.returns-in-None-clause-served
returns-in-None-clause-served c =
    nothing_serves c.args.poll c.args.block c.args.cast.now.items
    (place_in _ _ _ _ _ c.as_slice.ensures.value c.place_of_cast.ensures c.in-None.is)
