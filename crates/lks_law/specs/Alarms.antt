-- The alarms of a history.
use Rattle.std.specs.Prelude.{ℕ, if◌then◌else◌, Option, Some, None, option_map, List, [], ◌∷◌, ◌++◌}
use Rattle.std.specs.List.{filter_map}
use Rattle.lks_outside.specs.declared.alarms.Alarm.{Alarm}
use Rattle.lks_outside.specs.declared.alarms.AlarmKind.TheVariants as kind
use Rattle.lks_base.specs.Notes.{Ending, noted}
use Rattle.lks_base.specs.declared.entries.Note.{Note}
use Rattle.lks_base.specs.declared.events.Event.{Event}
use Rattle.lks_base.specs.declared.events.Event.TheVariants.{Step, Cut, Tick, Lose, Forge, Crash}
use Rattle.lks_base.specs.declared.names.Outcome.{Outcome}
use Rattle.lks_base.specs.declared.names.Outcome.TheVariants as outcome
use Rattle.lks_base.specs.declared.plans.Plan.{Plan}
use Rattle.lks_base.specs.declared.records.Record.{Record}
use Rattle.lks_law.specs.Journal.{said_by}
use Rattle.lks_law.specs.World.{World, Deed, start, happens, deed_of, effect_of}

-- a poll raises an alarm where it ends without a landslide, or without a supplier

abbrev pub closing_alarm : ℕ → ℕ → ℕ → Outcome → Option Alarm
closing_alarm peer tick number outcome.Agreed = None
closing_alarm peer tick number outcome.Inquorate = None
closing_alarm peer tick number (outcome.Split block) =
    Some (record { peer = peer; tick = tick; kind = kind.Split number block })
closing_alarm peer tick number (outcome.NoSupplier block) =
    Some (record { peer = peer; tick = tick; kind = kind.NoSupplier number block })

-- the alarm of a poll that ended, or of an AU that is overdue
abbrev pub alarm_of : ℕ → ℕ → Option Ending → Option ℕ → Option Alarm
alarm_of peer tick (Some end) overdue = closing_alarm peer tick end.number end.outcome
alarm_of peer tick None (Some au) = Some (record { peer = peer; tick = tick; kind = kind.Overdue au })
alarm_of peer tick None None = None

-- the alarm of a record that the peer adds at this tick
abbrev pub alarm_in : ℕ → ℕ → Record → Option Alarm
alarm_in peer tick r =
    alarm_of peer tick (option_map (λ t. record { number = t.number; outcome = t.fact.outcome }) (said_by r).closed)
    (said_by r).overdue

-- the alarm of which a note tells, where the peer noted it at this tick
abbrev pub alarm_noted : ℕ → ℕ → Note → Option Alarm
alarm_noted peer tick note = alarm_of peer tick (noted note).closed (noted note).overdue

-- those of the records that a deed adds
abbrev pub alarms_of : World → Option Deed → List Alarm
alarms_of w None = []
alarms_of w (Some d) = filter_map (alarm_in d.peer w.tick) (effect_of w.tick w.peers (Some d)).records

-- a lost batch raises none
abbrev pub alarms_by : World → Event → List Alarm
alarms_by w (Step s) = alarms_of w (deed_of w.bag s)
alarms_by w (Cut s kept) = if kept then alarms_of w (deed_of w.bag s) else []
alarms_by w (Tick by) = []
alarms_by w (Lose envelope) = []
alarms_by w (Forge from to bytes) = []
alarms_by w (Crash peer) = []

abbrev pub alarms_from : World → List Event → List Alarm
alarms_from w [] = []
alarms_from w (e ∷ es) = alarms_by w e ++ alarms_from (happens w e) es

-- the alarms of a history, in order
unfoldable pub alarms : Plan → List Event → List Alarm
alarms plan history = alarms_from (start plan) history
