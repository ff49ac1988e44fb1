-- How far back a journal has to be read for a poll.
use Rattle.std.specs.Prelude.{◌≤◌, ℕ, max, nat_lt, if◌then◌else◌, is_some, Option, Some, None, unwrap_or, option_map}
use Rattle.std.specs.Prelude.{List, length, take, drop, cond}
use Rattle.std.specs.List.{All}
use Rattle.lks_base.specs.declared.records.Record.{Record}
use Rattle.lks_law.specs.Journal.{said_by, opened_in}
use Rattle.lks_evidence.specs.declared.marks.ReadMark.{ReadMark}
use Rattle.lks_evidence.specs.Records.{repair_in}

-- the first of two
abbrev either : Option ℕ → Option ℕ → Option ℕ
either None second = second
either (Some first) second = Some first

-- the peer's own poll that a record opens, takes a vote in or shuts
unfoldable pub polled_in : Record → Option ℕ
polled_in r = either (opened_in r) (either (option_map (λ t. t.number) (said_by r).voted) (said_by r).shut)

abbrev pub AtMost : ℕ → Option ℕ → Type 0
AtMost high None = Unit {0}
AtMost high (Some n) = n ≤ high

-- it does so of no poll above this number
abbrev pub IsUpTo : ℕ → Record → Type 0
IsUpTo high r =
    AtMost high (opened_in r) × AtMost high (option_map (λ t. t.number) (said_by r).voted)
    × AtMost high (said_by r).shut

-- before the mark no poll is above `high`, and before the place none is above `seen`
pub record IsMark (before : List Record) (m : ReadMark) : Type 0 where
  pub within : m.place ≤ length before
  pub marked : All (IsUpTo m.high) (take m.place before)
  pub seen : All (IsUpTo m.seen) before

-- what has to be read for a poll
abbrev pub recent_records : ReadMark → ℕ → List Record → List Record
recent_records m n before = cond (nat_lt m.high n) (drop m.place before) before

-- the mark goes on to each replaced block
unfoldable pub mark_after : ℕ → ReadMark → Record → ReadMark
mark_after place m r =
    let seen = max m.seen (unwrap_or (polled_in r) 0) in
    if is_some (repair_in r) then record { place = place; high = m.seen; seen = seen }
    else record { place = m.place; high = m.high; seen = seen }
