use Rattle.std.proofs.Common.{ap, sym, subst}
use Rattle.std.specs.Prelude.{map, All}
use Rattle.lks_sessions.proofs.Lasting.{sends_pinned}
use Rattle.lks_sessions.proofs.sessions.Sessions.commit.Goals as goal
use Rattle.lks_sessions.specs.Kept.{Kept, pinned_of}
use Rattle.lks_law.specs.Fitting.{IsPinnedWell}

pub returns-clause-sendable : goal.returns-clause-sendable
returns-clause-sendable c = λ can.
    sends_pinned c.args.self.now _
    (λ all. c.pin.ensures.sendable can
    (subst (λ (k : Kept). All IsPinnedWell (map pinned_of k.pinned)) (sym c.self.view_is) all))
    (ap (λ (k : Kept). k.cast) c.self.view_is)
