use Rattle.std.proofs.Common.{◌<◌, ◌≤◌, ℕ, List, length, subst, arith}
use Rattle.lks_node.proofs.FrameLaws.{short_none, long_some}
use Rattle.lks_node.proofs.answering.last.Goals as goal

pub returns-in-empty-clause-found : goal.returns-in-empty-clause-found
returns-in-empty-clause-found g c = λ bytes told.
    let low = c.in-empty.len_below in
    short_none bytes c.in-Ok.more.items (c.in-Ok.ensures.gave bytes told).0
    (subst (λ (xs : List ℕ). length xs < 1) c.as_slice.ensures.value (omega (arith, low)))

pub returns-in-Ok-clause-found : goal.returns-in-Ok-clause-found
returns-in-Ok-clause-found g c = λ bytes told.
    let high = c.in-len1-up.len_at_least in
    long_some bytes c.in-Ok.more.items (c.in-Ok.ensures.gave bytes told).0
    (subst (λ (xs : List ℕ). 1 ≤ length xs) c.as_slice.ensures.value (omega (arith, high)))
