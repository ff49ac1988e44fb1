-- A node that is started again on its store.
use Rattle.std.specs.Prelude.{List}
use Rattle.lks_base.specs.declared.records.Record.{Record}
use Rattle.lks_host.specs.Bodies.{bodies_of}
use Rattle.lks_law.specs.Batches.{together}
use Rattle.lks_law.specs.Polls.{Station}
use Rattle.lks_host.specs.Sorted.{SortsAs}
use Rattle.lks_host.specs.declared.sorting.JournalSort.TheVariants.{Whole}

-- these batches are a whole journal of their peer, with its deposits: sorting their bodies says so, and gives their
-- records
abbrev pub AreWhole : Station → List Record → List (List Record) → Type 0
AreWhole own begun batches = SortsAs own begun (bodies_of batches) (Whole (together batches))
