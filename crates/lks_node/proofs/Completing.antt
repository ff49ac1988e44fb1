-- What follows for a node that has work, where no fault is counted.
use Rattle.std.proofs.Common.{◌≡◌, ◌≤◌, ◌<◌, ◌+◌, ◌-◌, ◌∙◌, ap, sym, subst, inl, inr, ℕ, List, [], ◌∷◌, ◌++◌, length}
use Rattle.std.proofs.Common.{length-append, refl, arith}
use Rattle.std.specs.Prelude.{◌⊎◌, Option, Some, None, Result, Ok, Err, sum_by}
use Rattle.lks_base.specs.declared.plans.PeerPlan.{PeerPlan}
use Rattle.lks_base.specs.declared.plans.Plan.{Plan}
use Rattle.lks_base.specs.declared.records.Record.{Record}
use Rattle.lks_disk.specs.Counts.{Rose}
use Rattle.lks_disk.specs.Face.{Face}
use Rattle.lks_outside.specs.declared.questions.Question.{Question}
use Rattle.lks_field.proofs.Once.{held_once, not_both}
use Rattle.lks_field.specs.Frames.{frames, HoldsBodies, IsDamagedAt}
use Rattle.lks_host.specs.Bodies.{bodies_of}
use Rattle.lks_law.specs.Batches.{together}
use Rattle.lks_law.specs.Polls.{Station}
use Rattle.lks_law.specs.Questions.{Verdicts}
use Rattle.lks_law.specs.World.{deposits, honest_peer, station_of}
use Rattle.lks_node.specs.Being.{HasStopped, IsAt}
use Rattle.lks_node.specs.Codes.{status_of}
use Rattle.lks_node.specs.Complete.{Completes, HasWork, IsOwn}
use Rattle.lks_node.specs.Ending.{HadRoom, HasRoom, Leaves}
use Rattle.lks_node.specs.Framing.{frame_of, Framed, Ended, Broken, Whole}
use Rattle.lks_node.specs.Going.{Progress, after, after_all}
use Rattle.lks_node.specs.Opening.{BeginsWith, IsRefused, IsSorted}
use Rattle.lks_node.specs.Orders.{order_in}
use Rattle.lks_node.specs.Promise.{Answers, ComesOver, HasEnded, HasPeer, IsScripted, Serves, Told}
use Rattle.lks_node.specs.Telling.{Begins, HaltsAt, HasNext, IsBad, Tell}
use Rattle.lks_node.specs.declared.answering.TheConstants.{MOST_BODY}
use Rattle.lks_node.specs.declared.ends.NodeEnd.{NodeEnd}
use Rattle.lks_node.specs.declared.ends.NodeEnd.TheVariants as end
use Rattle.lks_node.specs.declared.ends.Fall.TheVariants as fall
use Rattle.lks_node.specs.declared.ends.Rest.TheVariants as rest
use Rattle.lks_node.specs.declared.ends.NodeStop.{NodeStop}
use Rattle.lks_node.specs.declared.ends.NodeStop.TheVariants.{Rested, Fell, Untold}
use Rattle.lks_node.specs.declared.ends.Unready.{Unready}
use Rattle.lks_node.specs.declared.ends.Unready.TheVariants as unready
use Rattle.lks_node.specs.declared.ends.NoScript.TheVariants.{Unread, Unframed, Unsaid}
use Rattle.lks_node.specs.declared.frames.Unread.TheVariants as reading
use Rattle.lks_node.specs.declared.opening.TheConstants.{MOST_BYTES}
use Rattle.lks_node.specs.declared.orders.Order.{Order}
use Rattle.lks_node.specs.declared.runs.TheConstants.{MOST_SCRIPT}
use Rattle.lks_outside.specs.declared.sinks.WriteStop.TheVariants as writing
use Rattle.lks_script.specs.Grammar.{script_of}
use Rattle.lks_script.specs.declared.faults.ScriptFault.TheVariants as script
use Rattle.lks_script.specs.declared.steps.Script.{Script}
use Rattle.lks_host.proofs.Exact.{sorted_once}
use Rattle.lks_host.specs.Sorted.{SortsAs}
use Rattle.lks_host.specs.declared.sorting.JournalSort.TheVariants as sorting
use Rattle.lks_store.specs.Opening.{IsOpened}

-- ---- frames are read in one way

same_whole : (f : Framed) (body rest other more : List ℕ) → f ≡ Whole body rest → f ≡ Whole other more
    → (body ≡ other) × (rest ≡ more)
same_whole f body rest other more is also = let same : Whole body rest ≡ Whole other more = sym is ∙ also in (cc, cc)

abbrev script_in : Script → Result Script ℕ → Script
script_in other (Ok script) = script
script_in other (Err line) = other

abbrev id_in : Option (ℕ × List ℕ) → ℕ
id_in None = 0
id_in (Some named) = named.0

pub same_id : (o : Option (ℕ × List ℕ)) (id other : ℕ) (path there : List ℕ) → o ≡ Some (id, path)
    → o ≡ Some (other, there) → id ≡ other
same_id o id other path there is also = ap id_in (sym is ∙ also)

module _ (plan : Plan) (id : ℕ) where
  -- no bytes begin with no order
  none_begins : (bytes : List ℕ) (o : Order) (more : List ℕ) → bytes ≡ [] → Begins plan id bytes o more → ⊥
  unfolding frame_of
  none_begins bytes o more none begins =
      let read : frame_of MOST_BODY [] ≡ Whole begins.0 more = ap (frame_of MOST_BODY) (sym none) ∙ begins.1 in
      absurd cc

  same_order : (bytes : List ℕ) (o u : Order) (more others : List ℕ) → Begins plan id bytes o more
      → Begins plan id bytes u others → (o ≡ u) × (more ≡ others)
  same_order bytes o u more others one other =
      let same = same_whole (frame_of MOST_BODY bytes) one.0 more other.0 others one.1 other.1 in
      let orders : Some o ≡ Some u = sym one.2 ∙ ap (order_in plan id) same.0 ∙ other.2 in
      (cc, same.1)

  -- what was told is a front of what there is to tell, and the rest is told behind it
  front_told : (os us : List Order) (bytes more : List ℕ) → Tell plan id bytes os more → Tell plan id bytes us []
      → (rest : List Order) × (us ≡ os ++ rest) × Tell plan id more rest []
  front_told [] us bytes more told all = (us, refl, subst (λ b. Tell plan id b us []) told all)
  front_told (o ∷ os) [] bytes more told all = absurd (none_begins bytes o told.0 all told.1)
  front_told (o ∷ os) (u ∷ us) bytes more told all =
      let same = same_order bytes o u told.0 all.0 told.1 all.1 in
      let next = front_told os us told.0 more told.2 (subst (λ b. Tell plan id b us []) (sym same.1) all.2) in
      (next.0, (λ i. sym same.0 i ∷ next.1 i), next.2)

  -- so nothing bad is found
  never_bad : (rest : List Order) (bytes : List ℕ) → Tell plan id bytes rest [] → IsBad plan id bytes → ⊥
  unfolding frame_of
  never_bad [] bytes none (inl broken) = let read = ap (frame_of MOST_BODY) (sym none) ∙ broken in absurd cc
  never_bad [] bytes none (inr whole) = let read = ap (frame_of MOST_BODY) (sym none) ∙ whole.2 in absurd cc
  never_bad (o ∷ os) bytes told (inl broken) = let read = sym broken ∙ told.1.1 in absurd cc
  never_bad (o ∷ os) bytes told (inr whole) =
      let same = same_whole (frame_of MOST_BODY bytes) whole.0 whole.1 told.1.0 told.0 whole.2 told.1.1 in
      let read = sym whole.3 ∙ ap (order_in plan id) same.0 ∙ told.1.2 in
      absurd cc

-- ---- room before an order

room_before : (verdict : Verdicts) (own : Station) (p : Progress) (os : List Order) (o : Order) (rest : List Order)
    → HadRoom verdict own p (os ++ o ∷ rest) → HasRoom (after_all verdict own p os).batches
unfolding after_all
room_before verdict own p [] o rest had = had.0
room_before verdict own p (x ∷ os) o rest had = room_before verdict own (after verdict own p x) os o rest had.1

-- where there are no bytes, there is no closed gate
not_empty : (bodies : List (List ℕ)) (content : List ℕ) → content ≡ [] → HoldsBodies bodies content → ⊥
not_empty bodies content none held =
    omega (arith, ap length (sym none ∙ held.file_is), length-append (frames bodies) (held.gate ∷ held.rest))

-- ---- the end

module _ {D : Type 0} (f : Face D) (verdict : Verdicts) (told : Told) (words : List (List ℕ))
    (left before now : Option (List ℕ)) (asked : List Question) (store store_now : D)
    (work : HasWork verdict told words left) (opened : IsOpened f told.tells told.content told.faults store)
    (tells_now : f.told store_now)
    (source source_now sink sink_now : ℕ) (no_read : Rose source source_now → ⊥) (no_write : Rose sink sink_now → ⊥)
    (no_disk : Rose (f.faults store) (f.faults store_now) → ⊥) where
  content_is : f.seen store ≡ told.content
  content_is = opened.bytes work.tells

  tells_then : f.told store
  tells_then = opened.told.0 work.tells

  module _ (own : Station) (begun : List Record) where
    never_damaged : IsOwn own begun told.content → (offset : ℕ) → IsDamagedAt (f.seen store) offset
        → (f.seen store ≡ [] → ⊥) → ⊥
    never_damaged (inl none) offset at some = some (content_is ∙ none)
    never_damaged (inr held) offset at some =
        not_both (bodies_of held.0) (f.seen store) offset
        (subst (HoldsBodies (bodies_of held.0)) (sym content_is) held.1) at

    same_bodies : (held : List (List Record)) → HoldsBodies (bodies_of held) told.content → (bodies : List (List ℕ))
        → HoldsBodies bodies (f.seen store) → bodies ≡ bodies_of held
    same_bodies held holds bodies also =
        held_once bodies (bodies_of held) (f.seen store) also
        (subst (HoldsBodies (bodies_of held)) (sym content_is) holds)

    never_long : IsOwn own begun told.content → (bodies : List (List ℕ)) → HoldsBodies bodies (f.seen store)
        → MOST_BYTES < sum_by length bodies → ⊥
    never_long (inl none) bodies holds long = not_empty bodies (f.seen store) (content_is ∙ none) holds
    never_long (inr held) bodies holds long =
        let same = ap (sum_by length) (same_bodies held.0 held.1 bodies holds) in
        let few : sum_by length (bodies_of held.0) ≤ MOST_BYTES = held.3 in
        omega (arith, long, few, same)

    never_foreign : IsOwn own begun told.content → (batch : ℕ) (bodies : List (List ℕ))
        → HoldsBodies bodies (f.seen store) → SortsAs own begun bodies (sorting.Foreign batch) → ⊥
    never_foreign (inl none) batch bodies holds sorts = not_empty bodies (f.seen store) (content_is ∙ none) holds
    never_foreign (inr held) batch bodies holds sorts =
        by_sort held.2
        (subst (λ bs. SortsAs own begun bs (sorting.Foreign batch)) (same_bodies held.0 held.1 bodies holds)
        sorts)
      where
        by_sort : IsSorted own begun (bodies_of held.0) (together held.0)
            → SortsAs own begun (bodies_of held.0) (sorting.Foreign batch) → ⊥
        by_sort (inl whole) other =
            let same : sorting.Whole (together held.0)
            ≡ sorting.Foreign batch = sorted_once own begun (bodies_of held.0) _ _ whole other in absurd cc
        by_sort (inr front) other =
            let same : sorting.Begun (together held.0)
            ≡ sorting.Foreign batch = sorted_once own begun (bodies_of held.0) _ _ front other in absurd cc

    refused : IsOwn own begun told.content → (why : Unready) → IsRefused f own begun store store_now why
        → Completes (status_of (end.Unready why))
    refused is unready.Failed cause = absurd (no_disk cause)
    refused is unready.Memory cause = inr refl
    refused is (unready.Damaged offset) cause =
        let damaged = cause tells_then in absurd (never_damaged is offset damaged.0 damaged.1)
    refused is unready.Full cause = let full = cause tells_then in absurd (never_long is full.0 full.1 full.2)
    refused is (unready.Foreign batch) cause =
        let foreign = cause tells_then in absurd (never_foreign is batch foreign.0 foreign.1 foreign.2)

  -- the script is the one that is there
  same_script : (plan : Plan) (behind : Option (List ℕ)) → IsScripted left behind plan
      → (plan ≡ work.script.plan) × (behind ≡ Some work.behind)
  same_script plan behind s =
      let first = s.first work.bytes work.there in
      let same = same_whole (frame_of MOST_SCRIPT work.bytes) s.body first.0 work.body work.behind first.1 work.first in
      let one : s.script ≡ work.script = ap (script_in work.script) (sym s.says ∙ ap script_of same.0 ∙ work.says) in
      (sym s.plan_is ∙ ap (λ (x : Script). x.plan) one, first.2 ∙ ap Some same.1)

  module _ (stop : NodeStop)
      (a : Answers f verdict work.script.plan work.p (Some work.behind) before now asked store store_now stop) where
    abbrev own : Station
    own = station_of work.script.plan work.p

    read : (more : List ℕ) × Tell work.script.plan own.id work.behind a.ends.orders more
        × (a.ends.left_then ≡ Some more)
    read = a.ends.told work.behind refl

    left_to_tell : (rest : List Order) × (work.orders ≡ a.ends.orders ++ rest)
        × Tell work.script.plan own.id read.0 rest []
    left_to_tell = front_told work.script.plan own.id a.ends.orders work.orders work.behind read.0 read.1 work.tell

    had : HadRoom verdict own a.begun.first work.orders
    had =
        work.room a.begun.first
        (subst (λ content. BeginsWith (deposits work.script.plan.aus work.p.copies) content a.begun.first.batches)
        content_is (a.begun.held tells_then)) a.begun.tick a.begun.unasked

    abbrev reached : Progress
    reached = after_all verdict own a.begun.first a.ends.orders

    never_full : (rest : List Order) → work.orders ≡ a.ends.orders ++ rest
        → Tell work.script.plan own.id read.0 rest [] → (next : Option Order)
        → HasNext work.script.plan own.id (length a.ends.orders) next read.0
        → IsAt f work.script.plan.aus work.p.copies reached a.last asked
        → 2147483647 - (a.last.host.journal.end + 1) < 32768 → ⊥
    never_full [] all none None has at full = has.1
    never_full [] all none (Some o) has at full = none_begins work.script.plan own.id read.0 o has.1.0 none has.1.1
    never_full (o ∷ rest) all tells next has at full =
        let room : 32768 ≤ 2147483647 - (length (frames (bodies_of reached.batches)) + 1) =
        room_before verdict own a.begun.first a.ends.orders o rest
        (subst (HadRoom verdict own a.begun.first) all had) in
        let here : f.told a.last.host.journal.disk = subst f.told a.back tells_now in
        let end_is = (at.stands here).disk.end in
        omega (arith, room, full, end_is)

    by_stop : (us : List Order) → work.orders ≡ a.ends.orders ++ us → Tell work.script.plan own.id read.0 us []
        → (s : NodeStop) (next : Option Order)
        → HaltsAt work.script.plan own.id (length a.ends.orders) next read.0 s
        → Leaves f verdict work.script.plan own work.script.plan.aus work.p.copies reached next
        a.ends.taken_then now a.last asked s
        → HasStopped source source_now (f.faults store) (f.faults store_now) sink sink_now s
        → Completes (status_of (end.Answered s))
    by_stop us all tells (Rested rest.Done) next halts leaves cause = inl refl
    by_stop [] all tells (Rested rest.TooMany) next halts leaves cause = absurd (halts.1 tells)
    by_stop (o ∷ os) all tells (Rested rest.TooMany) next halts leaves cause =
        absurd (omega (arith, work.few, halts.0, ap length all, length-append a.ends.orders (o ∷ os)))
    by_stop us all tells (Rested (rest.Unread reading.Failed)) next halts leaves cause = absurd (no_read cause.1)
    by_stop us all tells (Rested (rest.Unread reading.Memory)) next halts leaves cause = inr refl
    by_stop us all tells (Rested (rest.Bad i)) next halts leaves cause =
        absurd (never_bad work.script.plan own.id us read.0 tells halts.2)
    by_stop us all tells (Rested rest.Memory) next halts leaves cause = inr refl
    by_stop us all tells (Rested rest.Full) next halts leaves cause =
        absurd (never_full us all tells next halts leaves.0 leaves.2)
    by_stop us all tells (Fell fall.Failed) next halts leaves cause = absurd (no_disk cause)
    by_stop us all tells (Fell fall.Memory) next halts leaves cause = inr refl
    by_stop us all tells (Untold writing.Failed) next halts leaves cause = absurd (no_write cause.1)
    by_stop us all tells (Untold writing.Memory) next halts leaves cause = inr refl

    answered : HasStopped source source_now (f.faults store) (f.faults store_now) sink sink_now stop
        → Completes (status_of (end.Answered stop))
    answered =
        by_stop left_to_tell.0 left_to_tell.1 left_to_tell.2 stop a.ends.halts.next (a.ends.halts.why read.0 read.2)
        a.ends.halts.leaves

  served : (e : NodeEnd) (plan : Plan) (behind : Option (List ℕ)) (p : PeerPlan) → plan ≡ work.script.plan
      → behind ≡ Some work.behind → p ≡ work.p → Serves f verdict plan p behind before now asked store store_now e
      → Serves f verdict work.script.plan work.p (Some work.behind) before now asked store store_now e
  served e plan behind p plans behinds peers serves =
      subst (λ q. Serves f verdict work.script.plan q (Some work.behind) before now asked store store_now e) peers
      (subst (λ b. Serves f verdict work.script.plan p b before now asked store store_now e) behinds
      (subst (λ x. Serves f verdict x p behind before now asked store store_now e) plans serves))

  serves : (e : NodeEnd) → HasPeer f verdict work.id left before now asked store store_now e
      → Serves f verdict work.script.plan work.p (Some work.behind) before now asked store store_now e
  serves e has =
      let same = same_script has.plan has.behind has.scripted in
      let peers : has.p ≡ work.p = let found = sym has.there ∙ ap (honest_peer work.id) same.0 ∙ work.honest in cc in
      served e has.plan has.behind has.p same.0 same.1 peers has.serves

  -- a store was opened, and the run went on
  pub completes_over : (e : NodeEnd) → ComesOver f verdict work.id left before now asked store store_now e
      → HasEnded source source_now (f.faults store) (f.faults store_now) sink sink_now e → Completes (status_of e)
  completes_over end.Unnamed came cause = absurd came
  completes_over (end.Unopened stop) came cause = absurd came
  completes_over (end.Unscripted (Unread reading.Failed)) came cause = absurd (no_read cause)
  completes_over (end.Unscripted (Unread reading.Memory)) came cause = inr refl
  completes_over (end.Unscripted Unframed) came cause = absurd (by_frame (came.0 work.bytes work.there))
    where
      by_frame : (frame_of MOST_SCRIPT work.bytes ≡ Ended) ⊎ (frame_of MOST_SCRIPT work.bytes ≡ Broken) → ⊥
      by_frame (inl ended) = let read = sym ended ∙ work.first in absurd cc
      by_frame (inr broken) = let read = sym broken ∙ work.first in absurd cc
  completes_over (end.Unscripted (Unsaid (script.BadLine line))) came cause =
      let bad = came.0 in
      let first = bad.2 work.bytes work.there in
      let same = same_whole (frame_of MOST_SCRIPT work.bytes) bad.0 first.0 work.body work.behind first.1 work.first in
      let read : Err line ≡ Ok work.script = sym bad.1 ∙ ap script_of same.0 ∙ work.says in
      absurd cc
  completes_over (end.Unscripted (Unsaid script.Memory)) came cause = inr refl
  completes_over end.Strange came cause =
      let strange = came.0 in
      let same = same_script strange.plan strange.behind strange.scripted in
      let found = sym strange.nobody ∙ ap (honest_peer work.id) same.0 ∙ work.honest in
      absurd cc
  completes_over (end.Unready why) came cause =
      refused (station_of work.script.plan work.p) (deposits work.script.plan.aus work.p.copies) work.own why
      (serves (end.Unready why) came).0.cause
  completes_over (end.Answered stop) came cause = answered stop (serves (end.Answered stop) came) cause
