-- What a batch names behind a journal.
use Rattle.std.specs.Prelude.{Option, Some, None, List}
use Rattle.lks_base.specs.declared.records.Record.{Record}
use Rattle.lks_law.specs.Behind.{StandsBehind}
use Rattle.lks_law.specs.Facts.{IsHeard, AddsFor}
use Rattle.lks_law.specs.Polls.{Station}
use Rattle.lks_host.specs.declared.naming.Named.{Named}

-- what is named is in its limits, and the batch stands for a peer exactly where that peer adds it for this
pub record IsAsked (journal batch : List Record) (named : Named) : Type 0 where
  pub heard : IsHeard named.input
  pub adds : (own : Station) → StandsBehind own journal batch
      → AddsFor own journal (record { tick = named.tick; input = named.input }) batch
  pub stands : (own : Station) → AddsFor own journal (record { tick = named.tick; input = named.input }) batch
      → StandsBehind own journal batch

-- or nothing is named, and the batch stands for no peer
abbrev pub Names : List Record → List Record → Option Named → Type 0
Names journal batch None = (own : Station) → StandsBehind own journal batch → ⊥
Names journal batch (Some named) = IsAsked journal batch named
