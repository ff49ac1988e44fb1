use Rattle.std.proofs.Common.{◌∙◌, ap, sym, List}
use Rattle.std.specs.Prelude.{Some}
use Rattle.lks_base.specs.declared.records.Record.{Record}
use Rattle.lks_law.specs.World.{honest_peer, standing_of}
use Rattle.lks_host.proofs.FirstBatches.{begun_fitting, begun_knowing, option_at}
use Rattle.lks_host.proofs.beginnings.begin_peer.Goals as goal

pub restore-requires-clause-fits : goal.restore-requires-clause-fits
restore-requires-clause-fits g c = λ p there.
    let plan = c.args.plan.now in
    begun_fitting plan c.args.id p c.deref.result.now c.requires.good there
    (c.deref.ensures.value
    ∙ option_at (λ q. (standing_of plan q).journal) (honest_peer c.args.id plan) p c.in_ok-list.list.items
    there c.in_ok-list.ensures.list) p there

pub returns-clause-peer : goal.returns-clause-peer
returns-clause-peer g c =
    let plan = c.args.plan.now in
    begun_knowing plan c.args.pool.now (honest_peer c.args.id plan) c.deref.result.now c.in_ok-peer.peer
    (c.in_ok-list.ensures.list ∙ ap (λ (js : List Record). Some js) (sym c.deref.ensures.value)) c.in_ok-peer.ensures
