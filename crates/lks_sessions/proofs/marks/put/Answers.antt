use Rattle.std.proofs.Common.{◌≡◌, ◌∙◌, ap, sym, ◌==◌}
use Rattle.std.specs.List.{position}
use Rattle.lks_law.specs.Taking.{Mark}
use Rattle.lks_sessions.proofs.Marking.{put_last}
use Rattle.lks_sessions.proofs.marks.put.Goals as goal

pub returns-in_ok-push-in-None-clause-ok : goal.returns-in_ok-push-in-None-clause-ok
returns-in_ok-push-in-None-clause-ok c =
    let peer : c.mark.inside.peer ≡ c.args.mark.peer = ap (λ (m : Mark). m.peer) c.mark.view_is in
    c.in_ok-push-in-None.ensures.items
    ∙ put_last c.args.mark c.args.marks.now.items
    (ap (λ f. position (λ (x : Mark). x.peer == f) c.args.marks.now.items) (sym peer)
    ∙ (ap (position (λ (x : Mark). x.peer == c.mark.inside.peer)) (sym c.as_slice.ensures.value)
    ∙ (sym c.place_of_mark.ensures ∙ c.in-None.is)))
