use Rattle.std.proofs.Common.{◌∙◌, sym, subst}
use Rattle.lks_base.specs.declared.reactions.Reaction.{Reaction}
use Rattle.lks_host.specs.Fits.{FitsBatch}
use Rattle.lks_host.proofs.Fitting.{reaction_fits}
use Rattle.lks_host.proofs.Taking.{said_as, state_as, written_upto}
use Rattle.lks_host.proofs.sorting.add_batch.Goals as goal

pub is_added-requires-clause-fits : goal.is_added-requires-clause-fits
is_added-requires-clause-fits g c =
    subst FitsBatch (sym (c.as_mut_slice.ensures.value ∙ c.into_vec-records.ensures))
    (subst (λ (r : Reaction). FitsBatch r.records) (sym c.in_ok-reaction.ensures.reaction)
    (reaction_fits c.args.sorter.now.peer.own c.args.sorter.now.peer.state c.in_ok-reaction.ensures.fit
    c.args.named.now.tick c.args.named.now.input c.requires.heard))

pub returns-clause-added : goal.returns-clause-added
returns-clause-added g c =
    let old = c.args.sorter.now in
    said_as old.peer.own old.list.items old.peer.state c.args.named.now.tick c.args.named.now.input
    (written_upto old c.requires.upto) c.requires.upto.2.state c.is_added.result old.tuned
    c.in_ok-reaction.reaction c.as_mut_slice.result.now c.args.batch.now
    c.requires.upto.2.tuned c.in_ok-reaction.ensures.reaction
    (c.as_mut_slice.ensures.value ∙ c.into_vec-records.ensures) c.is_added.ensures

pub returns-clause-state : goal.returns-clause-state
returns-clause-state g c =
    let old = c.args.sorter.now in
    state_as old.peer.own old.list.items old.peer.state c.args.named.now.tick c.args.named.now.input
    (written_upto old c.requires.upto) c.requires.upto.2.state c.is_added.result c.in_ok-reaction.reaction
    c.args.batch.now c.step.new.self.state
    c.in_ok-reaction.ensures.reaction c.in_ok-reaction.ensures.state
    (said_as old.peer.own old.list.items old.peer.state c.args.named.now.tick c.args.named.now.input
    (written_upto old c.requires.upto) c.requires.upto.2.state c.is_added.result old.tuned
    c.in_ok-reaction.reaction c.as_mut_slice.result.now c.args.batch.now
    c.requires.upto.2.tuned c.in_ok-reaction.ensures.reaction
    (c.as_mut_slice.ensures.value ∙ c.into_vec-records.ensures) c.is_added.ensures)
