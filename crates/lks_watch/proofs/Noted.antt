-- The notes of what is added tell of its alarms.
use Rattle.std.proofs.Common.{◌≡◌, ap, ℕ, List, [], ◌∷◌, ◌++◌, refl}
use Rattle.std.specs.Prelude.{Bool, Option, Some, None}
use Rattle.std.specs.List.{filter_map, cons_option}
use Rattle.lks_outside.specs.declared.alarms.Alarm.{Alarm}
use Rattle.lks_base.specs.declared.entries.Note.{Note}
use Rattle.lks_base.specs.declared.records.Record.{Record}
use Rattle.lks_base.specs.declared.records.Record.TheVariants.{Deposit, PollOpened, Nominated, OuterOpened, VoteIn}
use Rattle.lks_base.specs.declared.records.Record.TheVariants.{Shut, Asked, RepairBad, Replaced, Closed, Overdue}
use Rattle.lks_base.specs.declared.records.Record.TheVariants.{Joined, Committed, Voted, Served, Ended, Tuned}
use Rattle.lks_law.specs.Alarms.{alarm_in, alarms_of, closing_alarm, alarm_noted}
use Rattle.lks_law.specs.Entries.{session_note_of, note_with, is_inner, notes_at, notes_of}
use Rattle.lks_law.specs.World.{World, Deed, Standing, peer_at, reaction_at, actor_of}

module _ (is_in : ℕ → ℕ → Bool) (peer tick : ℕ) where
  record_noted : (r : Record) (notes : List Note) (alarms : List Alarm)
      → filter_map (alarm_noted peer tick) notes ≡ alarms
      → filter_map (alarm_noted peer tick) (cons_option (note_with is_in r) notes)
      ≡ cons_option (alarm_in peer tick r) alarms
  unfolding note_with session_note_of
  record_noted (Deposit au blocks) notes alarms is = is
  record_noted (PollOpened number au nonce inner at limits hash) notes alarms is = is
  record_noted (Nominated number voter nominees) notes alarms is = is
  record_noted (OuterOpened number outer) notes alarms is = is
  record_noted (VoteIn number voter hashes) notes alarms is = is
  record_noted (Shut number) notes alarms is = is
  record_noted (Asked number block voter) notes alarms is = is
  record_noted (RepairBad number block voter) notes alarms is = is
  record_noted (Replaced number au block bytes) notes alarms is = is
  record_noted (Closed number how at) notes alarms is = ap (cons_option (closing_alarm peer tick number how)) is
  record_noted (Overdue au at) notes alarms is = ap (cons_option (alarm_in peer tick (Overdue au at))) is
  record_noted (Joined poll au at low repairs) notes alarms is = is
  record_noted (Committed poll nonce version hash) notes alarms is = is
  record_noted (Voted poll hashes) notes alarms is = is
  record_noted (Served poll block) notes alarms is = is
  record_noted (Ended poll) notes alarms is = is
  record_noted (Tuned quorum minority repairs) notes alarms is = is

  records_noted : (rs : List Record)
      → filter_map (alarm_noted peer tick) (filter_map (note_with is_in) rs) ≡ filter_map (alarm_in peer tick) rs
  records_noted [] = refl
  records_noted (r ∷ rs) =
      record_noted r (filter_map (note_with is_in) rs) (filter_map (alarm_in peer tick) rs) (records_noted rs)

module _ (w : World) where
  deed_noted : (d : Deed)
      → filter_map (alarm_noted d.peer w.tick) (notes_of w.tick w.peers (Some d)) ≡ alarms_of w (Some d)
  deed_noted d = by_peer (peer_at d.peer w.peers)
    where
      by_peer : (o : Option Standing)
          → filter_map (alarm_noted d.peer w.tick) (notes_at o (reaction_at w.tick o d.input).records)
          ≡ filter_map (alarm_in d.peer w.tick) (reaction_at w.tick o d.input).records
      by_peer None = refl
      by_peer (Some s) =
          let added = (reaction_at w.tick (Some s) d.input).records in
          records_noted (is_inner (s.journal ++ added)) d.peer w.tick added

  -- where nobody acts, nothing is noted
  pub noted : (o : Option Deed)
      → filter_map (alarm_noted (actor_of o) w.tick) (notes_of w.tick w.peers o) ≡ alarms_of w o
  noted None = refl
  noted (Some d) = deed_noted d
