use Rattle.std.proofs.Common.{◌≡◌, ◌+◌, ◌-◌, min, [], ◌++◌, length, take, refl, ap, sym, ◌∙◌, arith, rules}
use Rattle.std.specs.Prelude.{Result, Ok, Err, OnErr}
use Rattle.std.specs.Int.{div_ceil}
use Rattle.std.proofs.lemmas.List.{nil_from_length}
use Rattle.std.proofs.lemmas.Grind.{common_steps}
use Rattle.std.proofs.lemmas.List.Sums.{fold_more}
use Rattle.lks_draw.specs.Picks.{picked_members, words_taken}
use Rattle.lks_draw.specs.Words.{words_of, draw_after}
use Rattle.lks_choice.specs.Circles.{Filled, filled_circle, filled_by, candidates, circle_of, HasComeTo}
use Rattle.lks_choice.proofs.Filling.{filled-peers, filled-words, circle_law}
use Rattle.lks_choice.proofs.circles.outer_circle.Goals as goal

-- what is so is so at a refusal
on_err : {T E P : Type 0} (r : Result T E) → P → OnErr r P
on_err (Ok x) p = tt
on_err (Err e) p = p

pub returns-then-is_empty-clause-draws : goal.returns-then-is_empty-clause-draws
unfolding circle_of
returns-then-is_empty-clause-draws c =
    let none : c.args.nominated.now ≡ [] = nil_from_length _ (grind arith) in
    rw none refl

pub loop-nominees-init : goal.loop-nominees-init
loop-nominees-init c = record { peers = c.new-peers.ensures.items; draws = refl }

pub loop-nominees-preserved : goal.loop-nominees-preserved
loop-nominees-preserved c =
    let d = c.args.draws.now in
    let inv = c.loop-nominees.invariant in
    let i = c.loop-nominees.nominees-index in
    let share = c.share-share.result in
    let those = c.in_ok-those.those.items in
    let so_far : Filled = filled_by d c.args.own c.args.inner.now c.args.size share (take i c.args.nominated.now) in
    let more : filled_by d c.args.own c.args.inner.now c.args.size share (take (i + 1) c.args.nominated.now)
    ≡ filled_circle d c.args.own c.args.inner.now c.args.size share so_far c.nominees-item.result =
    fold_more (filled_circle d c.args.own c.args.inner.now c.args.size share) (record { peers = []; words = 0 })
    c.args.nominated.now i c.nominees-item.result c.loop-nominees-test.true
    ∙ ap (filled_circle d c.args.own c.args.inner.now c.args.size share so_far) (sym c.nominees-item.is) in
    let those_is : those
    ≡ candidates c.args.own c.args.inner.now c.loop-nominees.peers.items c.nominees-item.result = search rules
    in
    let most_is : c.min-most.result ≡ min share (c.args.size - length c.loop-nominees.peers.items) = search rules in
    let members = c.in_ok-members.members.items in
    let members_is : members
    ≡ picked_members (words_of c.loop-nominees.draws.key) c.loop-nominees.draws.place those c.min-most.result = search
    rules in
    let moved_is : c.pick.new.draws
    ≡ draw_after c.loop-nominees.draws (words_taken those c.min-most.result) = search rules in
    let grown : c.extend_from_slice.new.self.items ≡ c.loop-nominees.peers.items ++ members = search rules in
    record {
      peers = grown
          ∙ filled-peers d c.loop-nominees.draws c.args.own c.args.inner.now c.args.size share so_far
          c.nominees-item.result c.loop-nominees.peers.items those c.min-most.result members
          inv.peers inv.draws those_is most_is members_is
          ∙ sym (ap (λ (f : Filled). f.peers) more);
      draws = moved_is
          ∙ filled-words d c.loop-nominees.draws c.args.own c.args.inner.now c.args.size share so_far
          c.nominees-item.result c.loop-nominees.peers.items those c.min-most.result
          inv.peers inv.draws those_is most_is
          ∙ sym (ap (λ (f : Filled). draw_after d f.words) more);
    }

pub returns-in_err-members-clause-err : goal.returns-in_err-members-clause-err
returns-in_err-members-clause-err c =
    let share_is : c.share-share.result ≡ div_ceil c.args.size (length c.args.nominated.now) = search rules in
    let same : c.pick.new.draws ≡ c.loop-nominees.draws = search rules in
    let come : HasComeTo c.args.draws.now c.args.own c.args.inner.now c.args.nominated.now c.args.size
    c.pick.new.draws = record {
      count = c.loop-nominees.nominees-index;
      after = rw (sym share_is) (same ∙ c.loop-nominees.invariant.draws);
    } in
    on_err _ come

pub returns-in_err-extend_from_slice-clause-err : goal.returns-in_err-extend_from_slice-clause-err
returns-in_err-extend_from_slice-clause-err c =
    let d = c.args.draws.now in
    let inv = c.loop-nominees.invariant in
    let i = c.loop-nominees.nominees-index in
    let share = c.share-share.result in
    let those = c.in_ok-those.those.items in
    let so_far : Filled = filled_by d c.args.own c.args.inner.now c.args.size share (take i c.args.nominated.now) in
    let more : filled_by d c.args.own c.args.inner.now c.args.size share (take (i + 1) c.args.nominated.now)
    ≡ filled_circle d c.args.own c.args.inner.now c.args.size share so_far c.nominees-item.result =
    fold_more (filled_circle d c.args.own c.args.inner.now c.args.size share) (record { peers = []; words = 0 })
    c.args.nominated.now i c.nominees-item.result c.loop-nominees-test.true
    ∙ ap (filled_circle d c.args.own c.args.inner.now c.args.size share so_far) (sym c.nominees-item.is) in
    let those_is : those
    ≡ candidates c.args.own c.args.inner.now c.loop-nominees.peers.items c.nominees-item.result = search rules
    in
    let most_is : c.min-most.result ≡ min share (c.args.size - length c.loop-nominees.peers.items) = search rules in
    let moved_is : c.pick.new.draws
    ≡ draw_after c.loop-nominees.draws (words_taken those c.min-most.result) = search rules in
    let share_is : share ≡ div_ceil c.args.size (length c.args.nominated.now) = search rules in
    let come : HasComeTo d c.args.own c.args.inner.now c.args.nominated.now c.args.size c.pick.new.draws = record {
      count = i + 1;
      after = rw (sym share_is) (moved_is
          ∙ filled-words d c.loop-nominees.draws c.args.own c.args.inner.now c.args.size share so_far
          c.nominees-item.result c.loop-nominees.peers.items those c.min-most.result
          inv.peers inv.draws those_is most_is
          ∙ sym (ap (λ (f : Filled). draw_after d f.words) more));
    } in
    on_err _ come

pub returns-clause-law : goal.returns-clause-law
unfolding circle_of
returns-clause-law c =
    circle_law c.args.draws.now c.args.own c.args.inner.now c.args.nominated.now c.args.size _
    (grind (arith, common_steps))
