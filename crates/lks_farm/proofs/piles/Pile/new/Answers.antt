use Rattle.std.proofs.Common.{◌≡◌, ◌∙◌, ◌+◌, [], ◌∷◌, ap, arith, length, refl, sym}
use Rattle.std.specs.Prelude.{Option, None}
use Rattle.std.proofs.lemmas.List.{append-nil, length-append, length-map}
use Rattle.std.proofs.lemmas.List.Elements.{All-nil, All-push}
use Rattle.lks_farm.proofs.Piling.{all_empty}
use Rattle.lks_farm.specs.Entries.{asked_of}
use Rattle.lks_work.specs.declared.results.JobDone.{JobDone}
use Rattle.lks_farm.proofs.piles.Pile.new.Goals as goal

pub loop-place-init : goal.loop-place-init
loop-place-init g c = rw c.new-done.ensures.items (All-nil (λ (o : Option JobDone). o ≡ None), refl)

pub loop-place-preserved : goal.loop-place-preserved
loop-place-preserved g c =
    let before = c.loop-place.invariant in
    rw c.in_ok-push.ensures.items (
      All-push (λ (o : Option JobDone). o ≡ None) c.loop-place.done.items None before.0 refl,
      length-append c.loop-place.done.items (None ∷ []) ∙ ap (λ n. n + 1) before.1,
    )

pub invariant_of-result : goal.invariant_of-result
invariant_of-result g c =
    let asked : length c.args.jobs.items
    ≡ length g.N.Batch.asked = sym (length-map c.args.jobs.items asked_of) ∙ ap length c.requires in
    let many : length c.loop-place.done.items ≡ length g.N.Batch.asked =
    omega (
      arith,
      c.loop-place.invariant.1,
      c.loop-place-test.false,
      c.loop-place.auto._place-end,
      c.len-place-end.ensures,
      c.args.jobs.ok,
      asked,
    ) in
    record {
      taken = [];
      left = append-nil _ ∙ c.requires;
      places = all_empty c.loop-place.done.items g.N.Batch.asked c.loop-place.invariant.0 many;
    }
