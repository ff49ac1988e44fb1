use Rattle.std.proofs.Common.{◌∙◌, ◌++◌, ◌+◌, List, drop}
use Rattle.std.specs.List.{filter_map, flat_map}
use Rattle.lks_base.specs.declared.records.Record.{Record}
use Rattle.lks_law.specs.World.{deposit_for}
use Rattle.lks_host.proofs.FirstBatches.{skipped_more}
use Rattle.lks_host.proofs.beginnings.deposit_all.Goals as goal

pub loop-au-preserved : goal.loop-au-preserved
loop-au-preserved c =
    let rest : List Record = flat_map (λ au. filter_map (deposit_for au) c.args.copies.now)
    (drop (c.loop-au.au-index + 1) c.args.aus.now) in
    (λ i. c.in_ok-left.ensures.list i ++ drop (c.in_ok-left.ensures.left i) rest)
    ∙ skipped_more (λ au. filter_map (deposit_for au) c.args.copies.now) c.loop-au.list.items _ c.loop-au.left
    c.loop-au.au-index c.args.aus.now (record { id = 0; count = 0 }) c.loop-au-test.true c.loop-au.invariant
