-- A host over a journal that was read and sorted.
use Rattle.std.proofs.Common.{◌≡◌, ◌≤◌, ◌+◌, ◌*◌, ◌∙◌, inl, inr, ap, sym, subst, ℕ, List, [], ◌∷◌, ◌++◌, length, refl}
use Rattle.std.proofs.Common.{arith, length-append, length-drop, take-append-drop}
use Rattle.std.specs.Int.{to_be_bytes, w32}
use Rattle.std.specs.Prelude.{Option, Some, None, Result, Ok, Err, IfOk, IsSome, All, map, sum_by}
use Rattle.std.proofs.lemmas.Grind.{flat_map-append}
use Rattle.std.proofs.lemmas.List.{append-nil}
use Rattle.std.proofs.lemmas.List.Elements.{All-head, All-tail}
use Rattle.std.proofs.lemmas.List.Sums.{sum_by-cons}
use Rattle.lks_base.specs.Checking.{plan_fault}
use Rattle.lks_base.specs.declared.plans.AuPlan.{AuPlan}
use Rattle.lks_base.specs.declared.plans.Holding.{Holding}
use Rattle.lks_base.specs.declared.plans.PeerPlan.{PeerPlan}
use Rattle.lks_base.specs.declared.plans.Plan.{Plan}
use Rattle.lks_base.specs.declared.records.Record.{Record}
use Rattle.lks_base.specs.declared.records.Record.TheVariants as records
use Rattle.lks_disk.specs.Face.{Face}
use Rattle.lks_field.specs.Frames.{frame, frames}
use Rattle.lks_host.proofs.Standing.{read_both}
use Rattle.lks_host.specs.Adopting.{IsFiled, IsReadAs, with_missing}
use Rattle.lks_host.specs.Bodies.{bodies_of, AreRead}
use Rattle.lks_host.specs.Hosted.{Holds, StandsFor}
use Rattle.lks_host.specs.declared.hosts.Host.{Host}
use Rattle.lks_journal.specs.Settled.{IsSettled}
use Rattle.lks_journal.specs.declared.journals.Journal.{Journal}
use Rattle.lks_law.specs.Batches.{alone, together}
use Rattle.lks_law.specs.Behind.{latest_tick}
use Rattle.lks_law.specs.Facts.{IsJournalOf}
use Rattle.lks_law.specs.Fitting.{AreFitting}
use Rattle.lks_law.specs.Polls.{Station}
use Rattle.lks_law.specs.State.{blank, state_of}
use Rattle.lks_law.specs.World.{deposits, honest_peer, is_honest_at, station_of}
use Rattle.lks_law.proofs.Batches.{each_alone}
use Rattle.lks_law.proofs.Room.{journal_fits}
use Rattle.lks_law.proofs.Sorting.{begun_is}
use Rattle.lks_peer.specs.Knows.{Knowing}
use Rattle.lks_record.specs.Sizes.{most_bytes}
use Rattle.lks_record.specs.Spelling.{batch_spelling}
use Rattle.lks_host.proofs.FirstBatches.{begun_few}
use Rattle.lks_host.proofs.Owners.{nothing_missing}
use Rattle.lks_host.specs.Fits.{IsSpelled}
use Rattle.lks_host.specs.Owners.{IsOwner, Owns, Spell, missing_of}

-- How long a journal of few records is.

no_longer : (r : Record) → most_bytes r ≤ 8389638
no_longer (records.Deposit au blocks) = omega arith
no_longer (records.PollOpened number au nonce inner tick limits kind) = omega arith
no_longer (records.Nominated number voter nominees) = omega arith
no_longer (records.OuterOpened number outer) = omega arith
no_longer (records.VoteIn number voter hashes) = omega arith
no_longer (records.Shut number) = omega arith
no_longer (records.Asked number block voter) = omega arith
no_longer (records.RepairBad number block voter) = omega arith
no_longer (records.Replaced number au block bytes) = omega arith
no_longer (records.Closed number outcome tick) = omega arith
no_longer (records.Overdue au tick) = omega arith
no_longer (records.Joined poll au tick low repairs) = omega arith
no_longer (records.Committed poll nonce version kind) = omega arith
no_longer (records.Voted poll hashes) = omega arith
no_longer (records.Served poll block) = omega arith
no_longer (records.Ended poll) = omega arith
no_longer (records.Tuned quorum minority repairs) = omega arith

sum_low : (rs : List Record) → sum_by most_bytes rs ≤ length rs * 8389638
sum_low [] = omega arith
sum_low (r ∷ rs) = omega (arith, no_longer r, sum_low rs, sum_by-cons most_bytes r rs)

pub frames_low : (batches : List (List Record)) → All IsSpelled batches
    → length (frames (bodies_of batches)) ≤ length (together batches) * 8389645
unfolding frames
frames_low [] are = omega arith
frames_low (b ∷ bs) are =
    let body = batch_spelling b in
    let one : IsSpelled b = All-head IsSpelled b bs are in
    let rest = frames_low bs (All-tail IsSpelled b bs are) in
    let count = one.count.0 in
    let short = one.short in
    let framed : length (frame body)
    ≡ 5 + length body = omega (arith, length-append (to_be_bytes w32 (length body)) body) in
    omega (
      arith,
      rest,
      count,
      short,
      framed,
      sum_low b,
      length-append (frame body) (frames (bodies_of bs)),
      length-append b (together bs),
    )

-- What an owner lacks.

-- with the deposits that it lacks a list is a journal of its peer
pub owner_journal : (aus : List AuPlan) (copies : List Holding) (list : List Record) (peer : Knowing)
    → IsOwner aus copies list peer
    → (tick : ℕ) × IsJournalOf peer.own (deposits aus copies) tick (list ++ missing_of (deposits aus copies) list)
owner_journal aus copies list peer owner = elim owner.own [
  | inl is ↦
      let none : list ++ missing_of (deposits aus copies) list
      ≡ list = ap (λ (rest : List Record). list ++ rest)
      (nothing_missing peer.own aus copies (latest_tick list) list is)
      ∙ append-nil list in
      (latest_tick list, subst (IsJournalOf peer.own (deposits aus copies) (latest_tick list)) (sym none) is)
  | inr front ↦
      let begun = deposits aus copies in
      let all : begun
      ≡ list ++ missing_of begun list = sym (take-append-drop (length list) begun)
      ∙ ap (λ (l : List Record). l ++ missing_of begun list) (sym front.front) in
      (latest_tick begun, subst (IsJournalOf peer.own begun (latest_tick begun)) all (begun_is peer.own begun))
]

-- where one lacks some, the journal is short
pub low_where_missing : {D : Type 0} (f : Face D) (journal : Journal D) (plan : Plan) (id : ℕ) (p : PeerPlan)
    (list missing : List Record) (bodies : List (List ℕ)) (peer : Knowing)
    → plan_fault plan ≡ None → honest_peer id plan ≡ Some p
    → Owns (station_of plan p) plan.aus p.copies bodies list peer → IsReadAs f journal bodies
    → missing ≡ missing_of (deposits plan.aus p.copies) list → (missing ≡ [] → ⊥) → journal.end ≤ 33558580
low_where_missing f journal plan id p list missing bodies peer good there owns read are some = elim owns.owner.own [
  | inl is ↦ absurd (some (are ∙ nothing_missing peer.own plan.aus p.copies (latest_tick list) list is))
  | inr front ↦
      let few : length (deposits plan.aus p.copies) ≤ 4 = begun_few plan good (is_honest_at id) p there in
      let low = front.short in
      omega (
        arith,
        read.end,
        ap (λ (bs : List (List ℕ)). length (frames bs)) owns.spell.spelled,
        frames_low owns.spell.batches owns.spell.are,
        ap length owns.spell.all,
        low,
        few,
      )
]

-- the journal is at rest with batches
pub settled_batches : {D : Type 0} (f : Face D) (journal : Journal D) (list : List Record) (bodies : List (List ℕ))
    → IsReadAs f journal bodies → Spell bodies list → f.told journal.disk
    → (batches : List (List Record)) × IsSettled f journal (bodies_of batches)
settled_batches f journal list bodies read spell told =
    (spell.batches, subst (IsSettled f journal) spell.spelled (read.settled told))

pub found_at : (o : Option PeerPlan) → IsSome o → (p : PeerPlan) × (o ≡ Some p)
found_at None there = absurd cc
found_at (Some p) there = (p, refl)

-- The host stands for the journal and what it lacked.

are_read : (batches : List (List Record)) → All IsSpelled batches → AreRead batches
are_read [] are = tt
are_read (b ∷ bs) are = ((All-head IsSpelled b bs are).read, are_read bs (All-tail IsSpelled b bs are))

module _ {D : Type 0} (f : Face D) (journal : Journal D) (plan : Plan) (id : ℕ) (p : PeerPlan) (list : List Record)
    (batches : List (List Record)) (peer : Knowing) (good : plan_fault plan ≡ None)
    (there : honest_peer id plan ≡ Some p)
    (few : length list ≤ 1000000000) (own : peer.own ≡ station_of plan p)
    (owner : IsOwner plan.aus p.copies list peer) (filed : IsFiled f journal list batches) where
  abbrev missing : List Record
  missing = missing_of (deposits plan.aus p.copies) list

  together_is : together (batches ++ map alone missing) ≡ list ++ missing
  together_is =
      flat_map-append (λ (b : List Record). b) batches (map alone missing)
      ∙ (λ i. sym filed.all i ++ each_alone missing i)

  fit : AreFitting peer.own (blank peer.own) (list ++ missing)
  fit =
      let journal_is = owner_journal plan.aus p.copies list peer owner in
      let deposited : length (deposits plan.aus p.copies) ≤ 4 = begun_few plan good (is_honest_at id) p there in
      subst (λ (o : Station). AreFitting o (blank o) (list ++ missing)) (sym own)
      (journal_fits plan id p good there journal_is.0 (list ++ missing)
      (omega (
        arith,
        few,
        deposited,
        length-append list missing,
        length-drop (length list) (deposits plan.aus p.copies),
      ))
      (subst (λ (o : Station). IsJournalOf o (deposits plan.aus p.copies) journal_is.0 (list ++ missing)) own
      journal_is.1))

  pub adopted : {E : Type 0} (records : List Record) (result : Result (Host D) E) → records ≡ missing
      → IfOk result (λ host. host.peer ≡ peer) → IfOk result (λ host. Holds f host batches records)
      → IfOk result (λ host. StandsFor f host (with_missing (deposits plan.aus p.copies) list batches))
  adopted records (Err e) are same holds = tt
  adopted records (Ok host) are same holds =
      let all : StandsFor f (record host { peer = peer }) (batches ++ map alone missing) =
      record {
        state = owner.state ∙ ap (state_of peer.own) (sym together_is);
        disk =
            subst (λ (rs : List Record). IsSettled f host.journal (bodies_of (batches ++ map alone rs))) are
            holds.disk;
        read =
            read_both batches (map alone missing) (are_read batches filed.spelled)
            (subst (λ (rs : List Record). AreRead (map alone rs)) are holds.read);
        fit = subst (AreFitting peer.own (blank peer.own)) (sym together_is) fit;
      } in
      subst (λ (k : Knowing). StandsFor f (record host { peer = k }) (batches ++ map alone missing)) (sym same) all
