use Rattle.std.proofs.Common.{◌+◌, ◌-◌, true, false, set, sym, ◌∙◌, arith}
use Rattle.lks_tally.specs.Counting.{agrees}
use Rattle.lks_tally.proofs.RowLaws.{rows_within, trial_is, count_next, mul_next}
use Rattle.lks_tally.proofs.trials.count_for_trial.Goals as goal
use Rattle.lks_tally.proofs.trials.count_for_trial.Goals.{then-has_hash, else-has_hash}

pub head_before-head-requires-clause-row : goal.head_before-head-requires-clause-row
head_before-head-requires-clause-row g c =
    rows_within c.args.ballot.now (g.C.Contents.blocks c.args.copy.now) c.args.votes.now _ c.args.rows.now.count
    c.min-from.result
    (c.deref.ensures.value ∙ c.requires.cache) (omega arith)

pub loop-i-preserved : goal.loop-i-preserved
loop-i-preserved g c =
    let q = c.args.ballot.now in
    let blocks = g.C.Contents.blocks c.args.copy.now in
    let votes = c.args.votes.now in
    let b = c.args.b in
    let v = c.index-votes-i.result in
    let found_is = trial_is q blocks votes c.deref.result.now c.args.rows.now.count c.min-from.result b c.loop-i.i v
    _ _ _ c.args.bytes.now _
    (c.deref.ensures.value ∙ c.requires.cache) (omega arith) c.requires.within c.loop-i-test.true c.index-votes-i.is
    c.second-second.ensures
    c.head_before-head.ensures c.link_to-hash.ensures.hash c.has_hash.ensures in
    let for_now = agrees q (set blocks b c.args.bytes.now) b in
    record {
      count = elim c.if-has_hash.branch [
        | then-has_hash w
            ↦ w.n-is
            ∙ count_next for_now votes c.loop-i.i c.loop-i.n v c.loop-i.invariant.count c.loop-i-test.true
            c.index-votes-i.is true (sym w.if-has_hash.true ∙ found_is)
        | else-has_hash w
            ↦ w.n-is
            ∙ count_next for_now votes c.loop-i.i c.loop-i.n v c.loop-i.invariant.count c.loop-i-test.true
            c.index-votes-i.is false (sym w.if-has_hash.false ∙ found_is)
      ];
      few = elim c.if-has_hash.branch [ then-has_hash w ↦ omega arith | else-has_hash w ↦ omega arith ];
      cost = omega (arith, mul_next c.loop-i.i (b - c.args.rows.now.count + 1));
    }
