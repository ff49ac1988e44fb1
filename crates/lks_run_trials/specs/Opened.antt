-- A journal of two blocks, a poll on them, and a part in the poll of another.
use Rattle.std.specs.Prelude.{ℕ, true, Option, List, [], ◌∷◌}
use Rattle.lks_base.specs.declared.names.HashKind.TheVariants.{Sha256}
use Rattle.lks_base.specs.declared.names.Limits.{Limits}
use Rattle.lks_base.specs.declared.names.PollName.{PollName}
use Rattle.lks_base.specs.declared.records.Record.{Record}
use Rattle.lks_base.specs.declared.records.Record.TheVariants.{Deposit, PollOpened, Joined, Committed}
use Rattle.lks_run_trials.specs.Pair.{pair}

abbrev theirs : PollName
theirs = record { poller = 5; number = 1 }

abbrev pub deposit : Record
deposit = Deposit 1 pair

abbrev pub opened_poll : List ℕ → Option Limits → Record
opened_poll nonce limits = PollOpened 1 1 nonce (2 ∷ 3 ∷ 4 ∷ []) 0 limits Sha256

-- with these numbers, or without
abbrev pub journal_of : List ℕ → Option Limits → Option ℕ → List Record
journal_of nonce limits repairs =
    deposit ∷ opened_poll nonce limits ∷ Joined theirs 1 0 true repairs ∷ Committed theirs nonce 0 Sha256 ∷ []
