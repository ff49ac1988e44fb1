use Rattle.std.proofs.Common.{◌≡◌, ◌++◌, ℕ, List, take}
use Rattle.lks_base.specs.declared.plans.AuPlan.{AuPlan}
use Rattle.lks_base.specs.declared.plans.Holding.{Holding}
use Rattle.lks_host.specs.Owners.{Spell}
use Rattle.lks_host.specs.Sorted.{IsUpTo, AreTaken}
use Rattle.lks_host.proofs.sorting.take_all.Given as goal

abbrev pub invariant-loop-place : goal.invariant-loop-place
invariant-loop-place g l = record {
  own : l.sorter.peer.own ≡ l.fn.sorter.peer.own;
  pool : l.sorter.peer.pool ≡ l.fn.sorter.peer.pool;
  taken : AreTaken l.fn.sorter.peer.own l.fn.sorter.list.items (take l.place l.batches) l.sorter.list.items;
  upto : (aus : List AuPlan) (copies : List Holding) → IsUpTo aus copies l.fn.sorter → IsUpTo aus copies l.sorter;
  spell : (front : List (List ℕ)) → Spell front l.fn.sorter.list.items
      → Spell (front ++ take l.place l.batches) l.sorter.list.items;
}
