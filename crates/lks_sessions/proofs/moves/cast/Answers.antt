use Rattle.std.proofs.Common.{◌∙◌, ap, sym, subst}
use Rattle.std.specs.Prelude.{map, All}
use Rattle.std.proofs.lemmas.List.Elements.{All-push}
use Rattle.lks_sessions.proofs.Keyed.{pinned_stays, pinned_casts, nothing_casts, all_but, of_place, place_in}
use Rattle.lks_sessions.proofs.moves.cast.Goals as goal
use Rattle.lks_sessions.specs.Kept.{cast_of, IsPinnedOf, IsCastOf}

pub returns-in-Some-clause-cast : goal.returns-in-Some-clause-cast
returns-in-Some-clause-cast c =
    ap (map cast_of) c.push_reserved.ensures.items
    ∙ pinned_casts c.args.poll c.args.hashes c.args.pinned.now.items c.in-Some.i c.remove-session.result
    c.args.cast.now.items c.vote.result
    (place_in _ _ _ _ _ c.as_slice.ensures.value c.place_of_pinned.ensures c.in-Some.is)
    c.remove-session.ensures.value c.vote.ensures

pub returns-in-Some-clause-of : goal.returns-in-Some-clause-of
returns-in-Some-clause-of c = λ pool pinned casts. (
  subst (All (IsPinnedOf pool)) (sym c.remove-session.ensures.items)
      (all_but (IsPinnedOf pool) c.args.pinned.now.items c.in-Some.i pinned),
  subst (All (IsCastOf pool)) (sym c.push_reserved.ensures.items)
      (All-push (IsCastOf pool) c.args.cast.now.items
      (record {
        voted = c.vote.result;
        repairs = c.remove-session.result.repairs;
        refs = c.remove-session.result.refs;
      }) casts
      (of_place pool c.args.poll c.args.pinned.now.items c.in-Some.i c.remove-session.result
      (place_in _ _ _ _ _ c.as_slice.ensures.value c.place_of_pinned.ensures c.in-Some.is)
      c.remove-session.ensures.value pinned)),
)

pub returns-in-None-clause-left : goal.returns-in-None-clause-left
returns-in-None-clause-left c =
    pinned_stays c.args.poll c.args.pinned.now.items
    (place_in _ _ _ _ _ c.as_slice.ensures.value c.place_of_pinned.ensures c.in-None.is)

pub returns-in-None-clause-cast : goal.returns-in-None-clause-cast
returns-in-None-clause-cast c =
    nothing_casts c.args.poll c.args.hashes c.args.pinned.now.items c.args.cast.now.items
    (place_in _ _ _ _ _ c.as_slice.ensures.value c.place_of_pinned.ensures c.in-None.is)
