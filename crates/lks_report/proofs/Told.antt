-- The alarms of a history, and what its entries tell of them.
use Rattle.std.proofs.Common.{◌≡◌, ◌+◌, ◌∙◌, ap, sym, ℕ, suc, Bool, true, false, List, [], ◌∷◌, ◌++◌, take, refl, arith}
use Rattle.std.specs.Prelude.{Option, Some, None, ◌||◌, cond, length, slice_get, sum_by, count_by}
use Rattle.std.specs.List.{list_any, filter_map, cons_option, flat_map, enumerate_from}
use Rattle.std.proofs.lemmas.Grind.{flat_map-append}
use Rattle.std.proofs.lemmas.List.{length-append}
use Rattle.std.proofs.lemmas.List.Sums.{sum_by-cons, sum_by-append}
use Rattle.lks_outside.specs.declared.alarms.Alarm.{Alarm}
use Rattle.lks_base.specs.declared.entries.Entry.{Entry}
use Rattle.lks_base.specs.declared.entries.Note.{Note}
use Rattle.lks_base.specs.declared.events.Envelope.{Envelope}
use Rattle.lks_base.specs.declared.events.Event.{Event}
use Rattle.lks_base.specs.declared.events.Event.TheVariants.{Step, Cut, Tick, Lose, Forge, Crash}
use Rattle.lks_base.specs.declared.events.PeerStep.{PeerStep}
use Rattle.lks_base.specs.declared.events.PeerStep.TheVariants as step
use Rattle.lks_base.specs.declared.messages.Message.{Message}
use Rattle.lks_base.specs.declared.names.Outcome.TheVariants as outcome
use Rattle.lks_base.specs.declared.plans.Plan.{Plan}
use Rattle.lks_base.specs.declared.reactions.Input.TheVariants as input
use Rattle.lks_base.specs.declared.records.Record.{Record}
use Rattle.lks_base.specs.declared.records.Record.TheVariants.{Deposit, PollOpened, Nominated, OuterOpened, VoteIn}
use Rattle.lks_base.specs.declared.records.Record.TheVariants.{Shut, Asked, RepairBad, Replaced, Closed, Overdue}
use Rattle.lks_base.specs.declared.records.Record.TheVariants.{Joined, Committed, Voted, Served, Ended, Tuned}
use Rattle.lks_law.specs.Alarms.{alarm_in, alarms_of, alarms_by, alarms_from, alarms}
use Rattle.lks_law.specs.Entries.{session_note_of, note_with, note_of, notes_at, notes_of, receiver_of}
use Rattle.lks_law.specs.Entries.{carried_envelope, entry_of, entries_from, entries}
use Rattle.lks_law.specs.World.{World, Deed, Standing, start, got, message_in, delivers, own_deed_of, deed_of}
use Rattle.lks_law.specs.World.{peer_at, reaction_at, after_step, happens}
use Rattle.lks_report.specs.Alarms.{is_alarming_end, is_alarm, is_alarming, is_alarmed, has_any}
use Rattle.lks_report.specs.Scans.{step_actor, actor, ticks_in, tick_at}
use Rattle.lks_report.specs.Summary.{all_notes}
use Rattle.lks_report.specs.Text.{alarm_text, alarm_line, entry_alarms, alarm_lines}

-- the notes tell of these alarms, raised by this peer at this tick
record Tells (peer tick : ℕ) (notes : List Note) (raised : List Alarm) : Type 0 where
  any : list_any is_alarm notes ≡ has_any raised
  count : count_by is_alarm notes ≡ length raised
  lines : flat_map (alarm_line peer tick) notes ≡ flat_map alarm_text raised

silent : {peer tick : ℕ} → Tells peer tick [] []
silent = record { any = refl; count = refl; lines = refl }

-- one note more
count_more : (note : Note) (b : Bool) (notes : List Note) (n : ℕ) → is_alarm note ≡ b → count_by is_alarm notes ≡ n
    → count_by is_alarm (note ∷ notes) ≡ cond b 1 0 + n
count_more note b notes n is counted =
    sum_by-cons (λ x. cond (is_alarm x) 1 0) note notes
    ∙ ap (λ (c : Bool). cond c 1 0 + count_by is_alarm notes) is
    ∙ ap (λ (k : ℕ). cond b 1 0 + k) counted

module _ (peer tick : ℕ) (journal : List Record) where
  alarm_told : (note : Note) (alarm : Alarm) (notes : List Note) (raised : List Alarm) → is_alarm note ≡ true
      → alarm_line peer tick note ≡ alarm_text alarm
      → Tells peer tick notes raised → Tells peer tick (note ∷ notes) (alarm ∷ raised)
  alarm_told note alarm notes raised is line told = record {
    any = ap (λ b. b || list_any is_alarm notes) is;
    count = count_more note true notes (length raised) is told.count ∙ omega arith;
    lines =
        ap (λ (bs : List ℕ). bs ++ flat_map (alarm_line peer tick) notes) line
        ∙ ap (λ (bs : List ℕ). alarm_text alarm ++ bs) told.lines;
  }

  note_told : (note : Note) (notes : List Note) (raised : List Alarm) → is_alarm note ≡ false
      → alarm_line peer tick note ≡ [] → Tells peer tick notes raised → Tells peer tick (note ∷ notes) raised
  note_told note notes raised is line told = record {
    any = ap (λ b. b || list_any is_alarm notes) is ∙ told.any;
    count = count_more note false notes (length raised) is told.count ∙ omega arith;
    lines = ap (λ (bs : List ℕ). bs ++ flat_map (alarm_line peer tick) notes) line ∙ told.lines;
  }

  record_told : (r : Record) (notes : List Note) (raised : List Alarm) → Tells peer tick notes raised
      → Tells peer tick (cons_option (note_of journal r) notes) (cons_option (alarm_in peer tick r) raised)
  unfolding note_with session_note_of is_alarm is_alarming_end alarm_line
  record_told (Deposit au blocks) notes raised told = told
  record_told (PollOpened number au nonce inner at limits hash) notes raised told =
      note_told _ notes raised refl refl told
  record_told (Nominated number voter nominees) notes raised told = note_told _ notes raised refl refl told
  record_told (OuterOpened number outer) notes raised told = note_told _ notes raised refl refl told
  record_told (VoteIn number voter hashes) notes raised told = note_told _ notes raised refl refl told
  record_told (Shut number) notes raised told = note_told _ notes raised refl refl told
  record_told (Asked number block voter) notes raised told = note_told _ notes raised refl refl told
  record_told (RepairBad number block voter) notes raised told = note_told _ notes raised refl refl told
  record_told (Replaced number au block bytes) notes raised told = note_told _ notes raised refl refl told
  record_told (Closed number outcome.Agreed at) notes raised told = note_told _ notes raised refl refl told
  record_told (Closed number outcome.Inquorate at) notes raised told = note_told _ notes raised refl refl told
  record_told (Closed number (outcome.Split block) at) notes raised told = alarm_told _ _ notes raised refl refl told
  record_told (Closed number (outcome.NoSupplier block) at) notes raised told =
      alarm_told _ _ notes raised refl refl told
  record_told (Overdue au at) notes raised told = alarm_told _ _ notes raised refl refl told
  record_told (Joined poll au at low repairs) notes raised told = note_told _ notes raised refl refl told
  record_told (Committed poll nonce version hash) notes raised told = note_told _ notes raised refl refl told
  record_told (Voted poll hashes) notes raised told = note_told _ notes raised refl refl told
  record_told (Served poll block) notes raised told = note_told _ notes raised refl refl told
  record_told (Ended poll) notes raised told = note_told _ notes raised refl refl told
  record_told (Tuned quorum minority repairs) notes raised told = note_told _ notes raised refl refl told

  records_told : (rs : List Record)
      → Tells peer tick (filter_map (note_of journal) rs) (filter_map (alarm_in peer tick) rs)
  records_told [] = silent
  records_told (r ∷ rs) =
      record_told r (filter_map (note_of journal) rs) (filter_map (alarm_in peer tick) rs) (records_told rs)

module _ (w : World) where
  deed_told : (d : Deed) → Tells d.peer w.tick (notes_of w.tick w.peers (Some d)) (alarms_of w (Some d))
  deed_told d = by_peer (peer_at d.peer w.peers)
    where
      by_peer : (o : Option Standing)
          → Tells d.peer w.tick (notes_at o (reaction_at w.tick o d.input).records)
          (filter_map (alarm_in d.peer w.tick) (reaction_at w.tick o d.input).records)
      by_peer None = silent
      by_peer (Some s) =
          let added = (reaction_at w.tick (Some s) d.input).records in
          records_told d.peer w.tick (s.journal ++ added) added

  -- a step's alarms are those of its actor
  step_told : (s : PeerStep)
      → Tells (step_actor (receiver_of (carried_envelope w.bag s)) s) w.tick
      (notes_of w.tick w.peers (deed_of w.bag s)) (alarms_of w (deed_of w.bag s))
  unfolding step_actor own_deed_of deed_of
  step_told (step.OpenPoll peer au) = deed_told (record { peer = peer; input = input.OpenPoll au })
  step_told (step.Widen peer number) = deed_told (record { peer = peer; input = input.Widen number })
  step_told (step.Shut peer number) = deed_told (record { peer = peer; input = input.Shut number })
  step_told (step.Tally peer number) = deed_told (record { peer = peer; input = input.Tally number })
  step_told (step.Nudge peer number) = deed_told (record { peer = peer; input = input.Nudge number })
  step_told (step.GiveUp peer number) = deed_told (record { peer = peer; input = input.GiveUp number })
  step_told (step.Work peer poll) = deed_told (record { peer = peer; input = input.Work poll })
  step_told (step.Expire peer poll) = deed_told (record { peer = peer; input = input.Expire poll })
  step_told (step.Check peer) = deed_told (record { peer = peer; input = input.Check })
  step_told (step.Tune peer quorum minority repairs) =
      deed_told (record { peer = peer; input = input.Tune quorum minority repairs })
  step_told (step.Deliver envelope judged) = by_envelope (slice_get w.bag envelope)
    where
      by_message : (e : Envelope) (m : Option Message)
          → Tells e.to w.tick (notes_of w.tick w.peers (got e judged m)) (alarms_of w (got e judged m))
      by_message e None = silent
      by_message e (Some m) = deed_told (record { peer = e.to; input = input.Got e.from m judged })

      by_envelope : (o : Option Envelope)
          → Tells (receiver_of o) w.tick (notes_of w.tick w.peers (delivers o judged))
          (alarms_of w (delivers o judged))
      by_envelope None = silent
      by_envelope (Some e) = by_message e (message_in e.bytes)

  event_told : (e : Event) → Tells (actor (entry_of w e)) w.tick (entry_of w e).notes (alarms_by w e)
  unfolding actor entry_of
  event_told (Step s) = step_told s
  event_told (Cut s true) = step_told s
  event_told (Cut s false) = silent
  event_told (Tick by) = silent
  event_told (Lose envelope) = silent
  event_told (Forge from to bytes) = silent
  event_told (Crash peer) = silent

  -- an entry moves the clock on as its event does
  event_ticks : (e : Event) → (happens w e).tick ≡ w.tick + ticks_in (entry_of w e)
  unfolding happens after_step ticks_in entry_of
  event_ticks (Step s) = omega arith
  event_ticks (Cut s true) = omega arith
  event_ticks (Cut s false) = omega arith
  event_ticks (Tick by) = refl
  event_ticks (Lose envelope) = omega arith
  event_ticks (Forge from to bytes) = omega arith
  event_ticks (Crash peer) = omega arith

-- All events.

any_append : (xs ys : List Alarm) → has_any (xs ++ ys) ≡ (has_any xs || has_any ys)
any_append [] ys = refl
any_append (x ∷ xs) ys = refl

told_from : (w : World) (history : List Event)
    → list_any is_alarming (entries_from w history) ≡ has_any (alarms_from w history)
unfolding is_alarming
told_from w [] = refl
told_from w (e ∷ es) =
    ap (λ b. b || list_any is_alarming (entries_from (happens w e) es)) (event_told w e).any
    ∙ ap (λ b. has_any (alarms_by w e) || b) (told_from (happens w e) es)
    ∙ sym (any_append (alarms_by w e) (alarms_from (happens w e) es))

pub all_told : (plan : Plan) (history : List Event) → is_alarmed (entries plan history) ≡ has_any (alarms plan history)
unfolding is_alarmed entries alarms
all_told plan history = told_from (start plan) history

counted_from : (w : World) (history : List Event)
    → count_by is_alarm (all_notes (entries_from w history)) ≡ length (alarms_from w history)
unfolding all_notes
counted_from w [] = refl
counted_from w (e ∷ es) =
    let rest = all_notes (entries_from (happens w e) es) in
    let parts = sum_by-append (λ x. cond (is_alarm x) 1 0) (entry_of w e).notes rest in
    let first = (event_told w e).count in
    let later = counted_from (happens w e) es in
    let all = length-append (alarms_by w e) (alarms_from (happens w e) es) in
    parts ∙ omega (arith, first, later, all)

pub all_counted : (plan : Plan) (history : List Event)
    → count_by is_alarm (all_notes (entries plan history)) ≡ length (alarms plan history)
unfolding entries alarms
all_counted plan history = counted_from (start plan) history

-- the alarms of entries that begin at this tick
abbrev lines_from : ℕ → List Entry → List ℕ
lines_from tick [] = []
lines_from tick (e ∷ es) = entry_alarms tick e ++ lines_from (tick + ticks_in e) es

-- the same of entries numbered from k on, where this clock tells the tick at each number
lines_clocked : (clock : ℕ → ℕ) (k tick : ℕ) (es : List Entry)
    → ((i j : ℕ) → i ≡ k + j → clock i ≡ tick + sum_by ticks_in (take j es))
    → flat_map (λ n. entry_alarms (clock n.0) n.1) (enumerate_from k es) ≡ lines_from tick es
lines_clocked clock k tick [] at = refl
lines_clocked clock k tick (e ∷ es) at =
    let now : clock k ≡ tick = (let here = at k 0 (omega arith) in omega (arith, here)) in
    let later : (i j : ℕ) → i ≡ k + 1 + j → clock i ≡ tick + ticks_in e + sum_by ticks_in (take j es) =
    λ i j is.
    (at i (suc j) (omega (arith, is)) ∙ ap (λ n. tick + n) (sum_by-cons ticks_in e (take j es)) ∙ omega arith)
    in
    ap (λ t. entry_alarms t e ++ flat_map (λ n. entry_alarms (clock n.0) n.1) (enumerate_from (k + 1) es)) now
    ∙ ap (λ (bs : List ℕ). entry_alarms tick e ++ bs) (lines_clocked clock (k + 1) (tick + ticks_in e) es later)

lines_of_world : (w : World) (history : List Event)
    → lines_from w.tick (entries_from w history) ≡ flat_map alarm_text (alarms_from w history)
unfolding entry_alarms
lines_of_world w [] = refl
lines_of_world w (e ∷ es) =
    ap (λ (bs : List ℕ). bs ++ lines_from (w.tick + ticks_in (entry_of w e)) (entries_from (happens w e) es))
    (event_told w e).lines
    ∙ ap (λ t. flat_map alarm_text (alarms_by w e) ++ lines_from t (entries_from (happens w e) es))
    (sym (event_ticks w e))
    ∙ ap (λ (bs : List ℕ). flat_map alarm_text (alarms_by w e) ++ bs) (lines_of_world (happens w e) es)
    ∙ sym (flat_map-append alarm_text (alarms_by w e) (alarms_from (happens w e) es))

pub lines_told : (plan : Plan) (history : List Event)
    → alarm_lines (entries plan history) ≡ flat_map alarm_text (alarms plan history)
unfolding alarm_lines entries alarms start
lines_told plan history =
    let clock : ℕ → ℕ = λ n. tick_at n (entries plan history) in
    let runs : (i j : ℕ) → i ≡ 0 + j
    → clock i ≡ 0 + clock j = λ i j is. (let same : i ≡ j = omega (arith, is) in ap clock same ∙ omega arith) in
    lines_clocked clock 0 0 (entries plan history) runs ∙ lines_of_world (start plan) history
