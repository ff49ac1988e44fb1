use Rattle.std.proofs.Common.{◌∙◌, ap, subst, ◌∷◌, ◌++◌, [], take, ℕ, List, arith, rules}
use Rattle.std.specs.Prelude.{map}
use Rattle.lks_base.specs.declared.records.Record.{Record}
use Rattle.lks_host.proofs.Cuts.{on_err}
use Rattle.lks_host.proofs.Fronts.{front_or_next, next_front}
use Rattle.lks_host.specs.Bodies.{bodies_of}
use Rattle.lks_journal.specs.Adding.{HoldsEither}
use Rattle.lks_journal.specs.Settled.{IsSettled}
use Rattle.lks_law.specs.Batches.{alone}
use Rattle.lks_record.specs.Spelling.{batch_spelling}
use Rattle.lks_host.proofs.deposits.write_each.Goals as goal

pub returns-in_err-write-clause-front : goal.returns-in_err-write-clause-front
returns-in_err-write-clause-front g c = λ told before begun.
    let i = c.loop-item.item-index in
    let r = c.item-item.result in
    let was = c.loop-item.invariant in
    let bodies = bodies_of (before ++ map alone (take i c.args.records.now)) in
    on_err c.from_residual.result
    (front_or_next g.D.Disk.face before c.args.records.now i r r c.write.new.journal.disk c.loop-item-test.true
    c.item-item.is
    (λ b may. subst (λ (body : List ℕ). HoldsEither bodies (bodies ++ body ∷ []) b)
    (ap batch_spelling c.from_ref.ensures.value)
    ((c.in_err-write.ensures.adds (was.told.0 told) bodies (was.settled told before begun)).crash b may)))

pub loop-item-preserved : goal.loop-item-preserved
loop-item-preserved g c =
    let f = g.D.Disk.face in
    let i = c.loop-item.item-index in
    let r = c.item-item.result in
    let was = c.loop-item.invariant in
    let wrote = c.in_ok-write.ensures in
    record {
      told = (λ told. wrote.called.told.0 (was.told.0 told), λ told. was.told.1 (wrote.called.told.1 told));
      settled = λ told before begun.
          let bodies = bodies_of (before ++ map alone (take i c.args.records.now)) in
          subst (IsSettled f c.write.new.journal)
          (ap (λ (batch : List Record). bodies ++ batch_spelling batch ∷ []) c.from_ref.ensures.value
          ∙ next_front before c.args.records.now i r r c.loop-item-test.true c.item-item.is)
          (wrote.adds (was.told.0 told) bodies (was.settled told before begun)).ok;
      read = search rules;
      end = search rules;
      idle = λ none. absurd (omega (arith, none));
      faults = search rules;
      fused = search rules;
      calls = search rules;
      cuts = search rules;
      choice = search rules;
      burns = search rules;
    }
