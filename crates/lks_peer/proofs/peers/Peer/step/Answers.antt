use Rattle.std.proofs.Common.{◌≡◌, ◌∙◌, rules, subst, sym}
use Rattle.lks_audit.specs.Kept.{kept_of}
use Rattle.lks_law.specs.Fitting.{AreFitting}
use Rattle.lks_law.specs.State.{State}
use Rattle.lks_peer.proofs.Counting.{keeps_step}
use Rattle.lks_peer.proofs.Welling.{adds_fit}
use Rattle.lks_peer.specs.Keeping.{Keeps, kept_after_all, kept_deciding}
use Rattle.lks_peer.specs.Knows.{Knowing, state_of}
use Rattle.lks_peer.proofs.peers.Peer.step.Goals as goal

pub apply_all-requires-clause-fits : goal.apply_all-requires-clause-fits
apply_all-requires-clause-fits g c =
    let own = c.self.inside.own in
    let r = c.in_ok-reaction.reaction in
    let fits = adds_fit own c.self.inside.mark c.self.inside.known c.self.invariant c.args.tick c.args.input.now r
    c.requires.heard (search rules) c.in_ok-reaction.ensures.reaction in
    subst (AreFitting own (state_of c.react.new.known)) (sym c.as_slice-records.ensures)
    (subst (λ (s : State). AreFitting own s r.records) (sym c.in_ok-reaction.ensures.seen) fits)

pub returns-clause-fits : goal.returns-clause-fits
returns-clause-fits g c =
    let r = c.in_ok-reaction.reaction in
    let fits = adds_fit c.self.inside.own c.self.inside.mark c.self.inside.known c.self.invariant c.args.tick
    c.args.input.now r c.requires.heard (search rules) c.in_ok-reaction.ensures.reaction in
    subst (λ (k : Knowing). AreFitting k.own k.state r.records) c.self.view_is fits

pub returns-clause-kept : goal.returns-clause-kept
returns-clause-kept g c =
    let own = c.self.inside.own in
    let known = c.self.inside.known in
    let r = c.in_ok-reaction.reaction in
    let new = kept_of c.apply_all.new.known.polls in
    let after : new
    ≡ kept_after_all own (state_of known) r.records
    (kept_deciding own (state_of known) c.args.input.now (kept_of known.polls)) =
    c.in_ok-apply_all.ensures.kept
    ∙ (λ i. kept_after_all own (c.in_ok-reaction.ensures.seen i) (c.as_slice-records.ensures i)
    (c.in_ok-reaction.ensures.kept i)) in
    subst (λ (k : Knowing). Keeps k.own k.state c.args.input.now r.records k.kept new) c.self.view_is
    (keeps_step own known c.args.tick c.args.input.now r new c.in_ok-reaction.ensures.reaction after)
