use Rattle.std.proofs.Common.{◌∙◌, ap, sym, subst, [], ◌∷◌, ◌++◌}
use Rattle.std.specs.Prelude.{map, All}
use Rattle.std.proofs.lemmas.List.{map_push}
use Rattle.std.proofs.lemmas.List.Elements.{All-push}
use Rattle.lks_law.specs.Fitting.{IsPinnedWell}
use Rattle.lks_law.specs.Taking.{pins_of, session_at}
use Rattle.lks_sessions.proofs.Keyed.{session_stays, session_pins, nothing_pins, place_in}
use Rattle.lks_sessions.proofs.moves.pin.Goals as goal
use Rattle.lks_sessions.specs.Kept.{session_of, pinned_of, IsPinnedOf}
use Rattle.lks_sessions.specs.declared.stages.PinnedSession.{PinnedSession}
use Rattle.lks_voter.specs.States.{Committing}

pub returns-in_ok-reserve-in-Some-clause-pinned : goal.returns-in_ok-reserve-in-Some-clause-pinned
returns-in_ok-reserve-in-Some-clause-pinned c = λ blocks pins.
    ap (map pinned_of)
    (c.push_reserved.ensures.items
    ∙ ap
    (λ xs. xs
    ++ record {
      committed = c.commit.result;
      repairs = c.remove-session.result.repairs;
      refs = c.args.refs;
    }
    ∷ []) c.reserve.ensures.items)
    ∙ (session_pins blocks c.args.poll c.args.joined.now.items c.in-Some.i c.remove-session.result
    c.args.pinned.now.items c.commit.result c.args.refs
    (place_in _ _ _ _ _ c.as_slice.ensures.value c.place_of_joined.ensures c.in-Some.is)
    c.remove-session.ensures.value (ap (λ (k : Committing). k.joined) c.commit.ensures) pins
    ∙ ap
    (λ (k : Committing). map pinned_of c.args.pinned.now.items
    ++ pins_of blocks k.commitment (session_at c.args.poll (map session_of c.args.joined.now.items)))
    c.commit.ensures)

pub returns-in_ok-reserve-in-Some-clause-of : goal.returns-in_ok-reserve-in-Some-clause-of
returns-in_ok-reserve-in-Some-clause-of c = λ pool of all.
    subst (All (IsPinnedOf pool))
    (sym
    (c.push_reserved.ensures.items
    ∙ ap
    (λ xs. xs
    ++ record {
      committed = c.commit.result;
      repairs = c.remove-session.result.repairs;
      refs = c.args.refs;
    }
    ∷ []) c.reserve.ensures.items))
    (All-push (IsPinnedOf pool) c.args.pinned.now.items
    (record { committed = c.commit.result; repairs = c.remove-session.result.repairs; refs = c.args.refs }) all
    of)

pub returns-in_ok-reserve-in-Some-clause-sendable : goal.returns-in_ok-reserve-in-Some-clause-sendable
returns-in_ok-reserve-in-Some-clause-sendable c = λ can all.
    let p : PinnedSession = record {
      committed = c.commit.result;
      repairs = c.remove-session.result.repairs;
      refs = c.args.refs;
    } in
    subst (λ ps. All IsPinnedWell (map pinned_of ps))
    (sym (c.push_reserved.ensures.items ∙ ap (λ xs. xs ++ p ∷ []) c.reserve.ensures.items))
    (subst (All IsPinnedWell) (sym (map_push pinned_of c.args.pinned.now.items p))
    (All-push IsPinnedWell (map pinned_of c.args.pinned.now.items) (pinned_of p) all can))

pub returns-in-None-clause-left : goal.returns-in-None-clause-left
returns-in-None-clause-left c =
    session_stays c.args.poll c.args.joined.now.items
    (place_in _ _ _ _ _ c.as_slice.ensures.value c.place_of_joined.ensures c.in-None.is)

pub returns-in-None-clause-pinned : goal.returns-in-None-clause-pinned
returns-in-None-clause-pinned c = λ blocks pins.
    nothing_pins blocks c.args.poll _ c.args.joined.now.items c.args.pinned.now.items
    (place_in _ _ _ _ _ c.as_slice.ensures.value c.place_of_joined.ensures c.in-None.is)
