use Rattle.std.proofs.Common.{rules, ◌≡◌, [], sym, subst}
use Rattle.crossbeam_queue.specs.Fifo.{Forks}
use Rattle.crossbeam_queue.specs.Passes.{view}
use Rattle.lks_farm.specs.declared.rule.View.{View}
use Rattle.lks_farm.specs.Sharing.{view_knowing}
use Rattle.lks_farm.proofs.Moves.{Ruled, names}
use Rattle.lks_farm.proofs.queues.Queue.new.Goals as goal

pub another-pass-requires-clause-rule : goal.another-pass-requires-clause-rule
another-pass-requires-clause-rule g c =
    let pool = g.N.NamesPool.pool in
    let first = c.in_ok-line.first in
    let is : view first ≡ view_knowing 128 [] [] [] = search rules in
    subst (λ (v : View).
    Forks (Ruled g.T.Entries.entry) first.id v (view_knowing 0 pool [] []) (view_knowing v.parts pool [] []))
    (sym is) (names g.T.Entries.entry first.id pool)
