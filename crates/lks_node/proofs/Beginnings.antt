-- A node that begins over a new journal, or over one of its own.
use Rattle.std.proofs.Common.{◌≡◌, ◌∙◌, ◌++◌, ◌⊎◌, ℕ, List, [], ◌∷◌, Option, Some, ap, sym, subst, refl, arith, inl}
use Rattle.std.proofs.Common.{inr, ⊎_elim, length, ◌≤◌, take, drop, length-append}
use Rattle.std.proofs.lemmas.List.{append-nil, drop_all, drop-map, length-map, length-take, map-append, take_all}
use Rattle.std.proofs.lemmas.List.{take-append-drop}
use Rattle.std.proofs.lemmas.List.Elements.{All-head, All-tail}
use Rattle.std.proofs.lemmas.Simd.{map-map}
use Rattle.std.proofs.lemmas.Grind.{flat_map-append}
use Rattle.std.specs.Prelude.{All, map, option_map, Result, Ok, Err, IfOk, IfErr}
use Rattle.lks_base.specs.declared.plans.AuPlan.{AuPlan}
use Rattle.lks_base.specs.declared.plans.Holding.{Holding}
use Rattle.lks_base.specs.declared.plans.PeerPlan.{PeerPlan}
use Rattle.lks_base.specs.declared.plans.Plan.{Plan}
use Rattle.lks_base.specs.declared.records.Record.{Record}
use Rattle.lks_disk.specs.Counts.{Rose}
use Rattle.lks_disk.specs.Device.{Only}
use Rattle.lks_disk.specs.Face.{Face, Same}
use Rattle.lks_field.specs.Frames.{HoldsBodies, IsDamagedAt}
use Rattle.lks_host.specs.Adopting.{IsFiled, IsReadAs, LeavesFront, with_missing}
use Rattle.lks_host.specs.Bodies.{bodies_of, AreRead}
use Rattle.lks_host.specs.Hosted.{HasFront, StandsFor}
use Rattle.lks_host.specs.declared.hosts.Host.{Host}
use Rattle.lks_journal.specs.Settled.{IsSettled}
use Rattle.lks_journal.specs.Stays.{Stays}
use Rattle.lks_journal.specs.declared.journals.Journal.{Journal}
use Rattle.lks_law.proofs.Batches.{each_alone}
use Rattle.lks_law.proofs.Sorting.{begun_is, latest_both, latest_deposits}
use Rattle.lks_law.proofs.Writing.{deposits_are}
use Rattle.lks_law.specs.Batches.{alone, together}
use Rattle.lks_law.specs.Behind.{latest_tick}
use Rattle.lks_law.specs.Facts.{IsJournalOf}
use Rattle.lks_law.specs.Polls.{Station}
use Rattle.lks_law.specs.State.{state_of}
use Rattle.lks_law.specs.World.{deposits, standing_of, station_of}
use Rattle.lks_node.specs.Again.{AreWhole}
use Rattle.lks_node.specs.Opening.{BeginsInPart, BeginsWith, HandsBack, IsBegun, IsPlain, IsRefused, IsSorted}
use Rattle.lks_node.specs.Opening.{IsUnready, IsUnsorted}
use Rattle.lks_node.specs.declared.ends.Unready.{Unready}
use Rattle.lks_node.specs.declared.ends.Unready.TheVariants.{Failed, Memory, Damaged, Full, Foreign}
use Rattle.lks_node.specs.declared.nodes.Node.{Node}
use Rattle.lks_node.proofs.Moving.{journal_later}
use Rattle.lks_peer.specs.Knows.{Knowing, knowing_of}
use Rattle.lks_host.proofs.Owners.{nothing_missing}
use Rattle.lks_record.specs.Spelling.{batch_spelling}
use Rattle.lks_host.specs.Fits.{IsSpelled}
use Rattle.lks_host.specs.Owners.{IsOwner, Owns, missing_of}
use Rattle.lks_host.specs.Sorted.{AreTaken, SortsAs, spelled_each}
use Rattle.lks_host.specs.declared.sorting.JournalSort.TheVariants.{Whole}

-- deposits have no tick
no_tick : (aus : List AuPlan) (copies : List Holding) → latest_tick (deposits aus copies) ≡ 0
no_tick aus copies = latest_deposits (deposits aus copies) (deposits_are aus copies)

same_peer : (o : Option PeerPlan) (p : PeerPlan) (known : PeerPlan → Knowing) (peer : Knowing) → o ≡ Some p
    → option_map known o ≡ Some peer → peer ≡ known p
same_peer o p known peer there is =
    let found : option_map known (Some p)
    ≡ Some peer = subst (λ (x : Option PeerPlan). option_map known x ≡ Some peer) there is in cc

are_read : (batches : List (List Record)) → All IsSpelled batches → AreRead batches
are_read [] are = tt
are_read (b ∷ bs) are = ((All-head IsSpelled b bs are).read, are_read bs (All-tail IsSpelled b bs are))

-- Deposits, one batch each, are a whole journal, and so is what was sorted, with the deposits that it lacks.

-- what was taken begins with what it stands behind
pub taken_longer : (own : Station) (js : List Record) (bodies : List (List ℕ)) (list : List Record)
    → AreTaken own js bodies list → length js ≤ length list
taken_longer own js [] list taken = let same : length list ≡ length js = ap length taken in omega (arith, same)
taken_longer own js (body ∷ bodies) list taken =
    let rest = taken_longer own (js ++ taken.0) bodies list taken.3 in
    let both = length-append js taken.0 in
    omega (arith, rest, both)

bodies_alone : (list : List Record) → bodies_of (map alone list) ≡ spelled_each list
bodies_alone list = map-map batch_spelling alone list

module _ (own : Station) (begun : List Record) where
  whole_as : (batches : List (List Record)) → bodies_of batches ≡ spelled_each begun → together batches ≡ begun
      → AreWhole own begun batches
  whole_as batches bodies all =
      let count : length (spelled_each begun)
      ≡ length begun = length-map begun (λ (r : Record). batch_spelling (alone r)) in (
        ap (take (length begun)) bodies ∙ take_all (length begun) (spelled_each begun) (omega (arith, count)),
        subst (λ (bs : List (List ℕ)). AreTaken own begun bs (together batches))
            (sym
            (ap (drop (length begun)) bodies
            ∙ drop_all (length begun) (spelled_each begun) (omega (arith, count)))) all,
      )

  whole_new : AreWhole own begun (map alone begun)
  whole_new = whole_as (map alone begun) (bodies_alone begun) (each_alone begun)

  whole_sorted : (batches : List (List Record)) (bodies : List (List ℕ)) (list : List Record)
      → bodies ≡ bodies_of batches → list ≡ together batches → IsSorted own begun bodies list
      → AreWhole own begun (with_missing begun list batches)
  whole_sorted batches bodies list spelled all (inl whole) =
      let none : missing_of begun list
      ≡ [] = drop_all (length list) begun (taken_longer own begun (drop (length begun) bodies) list whole.1) in
      let same : with_missing begun list batches
      ≡ batches = ap (λ (rest : List Record). batches ++ map alone rest) none ∙ append-nil batches in
      subst (AreWhole own begun) (sym same)
      (subst (λ (l : List Record). SortsAs own begun (bodies_of batches) (Whole l)) all
      (subst (λ (bs : List (List ℕ)). SortsAs own begun bs (Whole list)) spelled whole))
  whole_sorted batches bodies list spelled all (inr (few, front, is)) =
      let m = length bodies in
      let count : length list ≡ m = ap length is ∙ length-take m begun ∙ (let low = few in omega arith) in
      let lacking : missing_of begun list ≡ drop m begun = ap (λ n. drop n begun) count in
      let more : bodies_of (with_missing begun list batches) ≡ spelled_each begun =
      map-append batch_spelling batches (map alone (missing_of begun list))
      ∙ (λ i. (sym spelled ∙ front) i
      ++ (bodies_alone (missing_of begun list) ∙ ap spelled_each lacking
      ∙ sym (drop-map (λ (r : Record). batch_spelling (alone r)) m begun)) i)
      ∙ take-append-drop m (spelled_each begun) in
      let records : together (with_missing begun list batches) ≡ begun =
      flat_map-append (λ (b : List Record). b) batches (map alone (missing_of begun list))
      ∙ (λ i. (sym all ∙ is) i ++ (each_alone (missing_of begun list) ∙ lacking) i) ∙ take-append-drop m begun in
      whole_as (with_missing begun list batches) more records

module _ {D : Type 0} (f : Face D) (plan : Plan) (p : PeerPlan) (host : Host D) (store : D) where
  -- over a new journal
  pub begun_new : (pool : List ℕ) (o : Option PeerPlan) → o ≡ Some p
      → option_map (λ (q : PeerPlan). knowing_of pool (standing_of plan q)) o ≡ Some host.peer
      → (f.told host.journal.disk → StandsFor f host (map alone (deposits plan.aus p.copies)))
      → (f.told store → f.seen store ≡ []) → IsBegun f plan p store (record { host = host; tick = 0 })
  begun_new pool o there is stands empty =
      let begun = deposits plan.aus p.copies in
      let peer : host.peer
      ≡ knowing_of pool (standing_of plan p) = same_peer o p
      (λ (q : PeerPlan). knowing_of pool (standing_of plan q)) host.peer there is in
      let own : host.peer.own ≡ station_of plan p = ap (λ (k : Knowing). k.own) peer in
      let all : together (map alone begun) ≡ begun = each_alone begun in
      record {
        first = record { batches = map alone begun; tick = 0; heard = [] };
        unasked = refl;
        own = own;
        at = record {
          state =
              ap (λ (k : Knowing). k.state) peer ∙ ap (state_of (station_of plan p)) (sym all)
              ∙ ap (λ (w : Station). state_of w (together (map alone begun))) (sym own);
          tick = refl;
          heard = refl;
          journal =
              subst (λ n. IsJournalOf host.peer.own begun n (together (map alone begun)))
              (no_tick plan.aus p.copies)
              (subst (IsJournalOf host.peer.own begun (latest_tick begun)) (sym all)
              (begun_is host.peer.own begun));
          stands = stands;
        };
        tick = sym (ap latest_tick all ∙ no_tick plan.aus p.copies);
        whole = whole_new (station_of plan p) begun;
        held = λ told. inl (empty told, refl);
      }

-- With the deposits that it lacks a list is a journal of its owner, at its last tick.

module _ (aus : List AuPlan) (copies : List Holding) (list : List Record) (peer : Knowing)
    (owner : IsOwner aus copies list peer) where
  abbrev missing : List Record
  missing = missing_of (deposits aus copies) list

  latest_is : latest_tick (list ++ missing) ≡ latest_tick list
  latest_is = elim owner.own [
    | inl is
        ↦ ap (λ (rest : List Record). latest_tick (list ++ rest))
        (nothing_missing peer.own aus copies (latest_tick list) list is)
        ∙ ap latest_tick (append-nil list)
    | inr front ↦
        let begun = deposits aus copies in
        let all : begun
        ≡ list ++ missing = sym (take-append-drop (length list) begun)
        ∙ ap (λ (l : List Record). l ++ missing) (sym front.front) in
        let both = latest_both list missing in
        let none : latest_tick (list ++ missing) ≡ 0 = ap latest_tick (sym all) ∙ no_tick aus copies in
        omega (arith, both, none)
  ]

  journal_is : IsJournalOf peer.own (deposits aus copies) (latest_tick list) (list ++ missing)
  journal_is = elim owner.own [
    | inl is ↦
        let none : list ++ missing
        ≡ list = ap (λ (rest : List Record). list ++ rest)
        (nothing_missing peer.own aus copies (latest_tick list) list is)
        ∙ append-nil list in
        subst (IsJournalOf peer.own (deposits aus copies) (latest_tick list)) (sym none) is
    | inr front ↦
        let begun = deposits aus copies in
        let all : begun
        ≡ list ++ missing = sym (take-append-drop (length list) begun)
        ∙ ap (λ (l : List Record). l ++ missing) (sym front.front) in
        let none = no_tick aus copies in
        journal_later peer.own begun (latest_tick begun) (latest_tick list) (list ++ missing) (omega (arith, none))
        (subst (IsJournalOf peer.own begun (latest_tick begun)) all (begun_is peer.own begun))
  ]

module _ {D : Type 0} (f : Face D) (plan : Plan) (p : PeerPlan) (journal : Journal D) (list : List Record)
    (peer : Knowing) (bodies : List (List ℕ)) (read : IsReadAs f journal bodies)
    (owns : Owns (station_of plan p) plan.aus p.copies bodies list peer) where
  abbrev begun : List Record
  begun = deposits plan.aus p.copies

  abbrev batches : List (List Record)
  batches = owns.spell.batches

  all_is : together (with_missing begun list batches) ≡ list ++ missing_of begun list
  all_is =
      flat_map-append (λ (b : List Record). b) batches (map alone (missing_of begun list))
      ∙ (λ i. sym owns.spell.all i ++ each_alone (missing_of begun list) i)

  settled : f.told journal.disk → IsSettled f journal (bodies_of batches)
  settled told = subst (IsSettled f journal) owns.spell.spelled (read.settled told)

  -- over a journal of its own, or the first of its deposits
  pub begun_adopted : (host : Host D) → IsSorted (station_of plan p) begun bodies list → host.peer ≡ peer
      → (f.told host.journal.disk → f.told journal.disk)
      → (f.told journal.disk → (bs : List (List Record)) → IsFiled f journal list bs
      → StandsFor f host (with_missing begun list bs))
      → IsBegun f plan p journal.disk (record { host = host; tick = latest_tick list })
  begun_adopted host sorts same back adopts =
      let own : host.peer.own ≡ peer.own = ap (λ (k : Knowing). k.own) same in
      record {
        first = record { batches = with_missing begun list batches; tick = latest_tick list; heard = [] };
        unasked = refl;
        own = own ∙ owns.own;
        at = record {
          state =
              ap (λ (k : Knowing). k.state) same ∙ owns.owner.state ∙ ap (state_of peer.own) (sym all_is)
              ∙ ap (λ (w : Station). state_of w (together (with_missing begun list batches))) (sym own);
          tick = refl;
          heard = refl;
          journal =
              subst (λ (w : Station).
              IsJournalOf w begun (latest_tick list) (together (with_missing begun list batches)))
              (sym own)
              (subst (IsJournalOf peer.own begun (latest_tick list)) (sym all_is)
              (journal_is plan.aus p.copies list peer owns.owner));
          stands =
              λ told. adopts (back told) batches
              (record { spelled = owns.spell.are; all = owns.spell.all; settled = settled (back told) });
        };
        tick = sym (ap latest_tick all_is ∙ latest_is plan.aus p.copies list peer owns.owner);
        whole = whole_sorted (station_of plan p) begun batches bodies list owns.spell.spelled owns.spell.all sorts;
        held =
            λ told. inr (
              batches,
              (settled told).holds,
              are_read batches owns.spell.are,
              ap (λ (l : List Record). with_missing begun l batches) owns.spell.all,
            );
      }

  -- refused, a crash leaves the batches and a front of the deposits that they lack
  part_adopted : (now : D) → IsSorted (station_of plan p) begun bodies list
      → ((bs : List (List Record)) → IsFiled f journal list bs
      → LeavesFront f bs (map alone (missing_of begun list)) now)
      → f.told journal.disk → BeginsInPart f (station_of plan p) begun journal.disk now
  part_adopted now sorts leaves told = inr (
    batches,
    (settled told).holds,
    are_read batches owns.spell.are,
    subst (IsSorted (station_of plan p) begun (bodies_of batches)) owns.spell.all
        (subst (λ (bs : List (List ℕ)). IsSorted (station_of plan p) begun bs list) owns.spell.spelled sorts),
    subst (λ (l : List Record). LeavesFront f batches (map alone (missing_of begun l)) now) owns.spell.all
        (leaves batches (record { spelled = owns.spell.are; all = owns.spell.all; settled = settled told })),
  )

  pub unsorted_adopted : {X : Type 0} (o : Option PeerPlan) (result : Result X (D × Unready)) → o ≡ Some p
      → IsSorted (station_of plan p) begun bodies list
      → IfErr result (λ e. IsPlain (f.faults journal.disk) (f.faults e.0) e.1
      × ((q : PeerPlan) → o ≡ Some q → f.told journal.disk → (bs : List (List Record)) → IsFiled f journal list bs
      → LeavesFront f bs (map alone (missing_of (deposits plan.aus q.copies) list)) e.0))
      → IfErr result (λ e. IsUnsorted f (station_of plan p) begun bodies journal.disk e.0 e.1)
  unsorted_adopted o (Ok x) there sorts is = tt
  unsorted_adopted o (Err e) there sorts is = by_fault e.1 is.0
    where
      part : f.told journal.disk → BeginsInPart f (station_of plan p) begun journal.disk e.0
      part told = part_adopted e.0 sorts (is.1 p there told) told

      by_fault : (u : Unready) → IsPlain (f.faults journal.disk) (f.faults e.0) u
          → IsUnsorted f (station_of plan p) begun bodies journal.disk e.0 u
      by_fault Failed rose = (rose, part)
      by_fault Memory rose = λ told. inr (part told)
      by_fault (Damaged offset) rose = absurd rose
      by_fault Full rose = absurd rose
      by_fault (Foreign batch) rose = absurd rose

-- The same store, after calls that changed no byte.

no_bytes : (bytes : List ℕ) → length bytes ≡ 0 → bytes ≡ []
no_bytes [] none = refl
no_bytes (b ∷ bs) none = absurd (omega (arith, none))

module _ {D : Type 0} (f : Face D) (old new : D) where
  stays_over : Same f old new → (now : D) → Stays f new now → Stays f old now
  stays_over same now stays = record {
    bytes = stays.bytes ∙ same.bytes;
    crash = λ c left. same.leaves c (stays.crash c left);
    any_moment = record {
      later = let since = same.time in let run = stays.any_moment.later in omega (arith, since, run);
      each =
          λ c left. same.leaves c
          (stays.any_moment.each c (subst (λ (t : ℕ). f.left_since now t c) (sym same.time) left));
      before =
          λ t c le left. let since = same.time in
          ⊎_elim (λ past. inl (same.past t c past)) (λ here. inr (same.leaves c here))
          (stays.any_moment.before t c (omega (arith, le, since)) left);
    };
  }

  part_over : f.seen new ≡ f.seen old → ((c : List ℕ) → f.may_leave new c → f.may_leave old c)
      → (own : Station) (deposited : List Record) (now : D) → BeginsInPart f own deposited new now
      → BeginsInPart f own deposited old now
  part_over same less own deposited now (inl (empty, front)) =
      inl (sym same ∙ empty, λ only. front (λ c left. only c (less c left)))
  part_over same less own deposited now (inr (held, holds, read, sorts, front)) =
      inr (held, subst (HoldsBodies (bodies_of held)) same holds, read, sorts, front)

  either_over : Same f old new → (own : Station) (deposited : List Record) (now : D)
      → Stays f new now ⊎ BeginsInPart f own deposited new now
      → Stays f old now ⊎ BeginsInPart f own deposited old now
  either_over same own deposited now (inl stays) = inl (stays_over same now stays)
  either_over same own deposited now (inr part) = inr (part_over same.bytes same.leaves own deposited now part)

  hands_over : Same f old new → (own : Station) (deposited : List Record) (now : D) (u : Unready)
      → HandsBack f own deposited new now u → HandsBack f own deposited old now u
  hands_over same own deposited now Failed left = either_over same own deposited now left
  hands_over same own deposited now Memory left = either_over same own deposited now left
  hands_over same own deposited now (Damaged offset) left = stays_over same now left
  hands_over same own deposited now Full left = (stays_over same now left.0, λ c leaves. left.1 c leaves ∙ same.bytes)
  hands_over same own deposited now (Foreign batch) left =
      (stays_over same now left.0, λ c leaves. left.1 c leaves ∙ same.bytes)

  pub unready_over : {X : Type 0} → Same f old new
      → (own : Station) (deposited : List Record) (result : Result X (D × Unready)) → f.faults new ≡ f.faults old
      → IfErr result (λ e. IsUnready f own deposited new e.0 e.1)
      → IfErr result (λ e. IsUnready f own deposited old e.0 e.1)
  unready_over same own deposited (Ok x) count is = tt
  unready_over same own deposited (Err e) count is =
      record {
        cause = by_fault e.1 is.cause;
        left = λ t. hands_over same own deposited e.0 e.1 (is.left (same.tells.0 t));
      }
    where
      by_fault : (u : Unready) → IsRefused f own deposited new e.0 u → IsRefused f own deposited old e.0 u
      by_fault Failed is = subst (λ n. Rose n (f.faults e.0)) count is
      by_fault Memory is = tt
      by_fault (Damaged offset) is =
          λ t. subst (λ (file : List ℕ). IsDamagedAt file offset × (file ≡ [] → ⊥)) same.bytes (is (same.tells.0 t))
      by_fault Full is =
          λ t. let found = is (same.tells.0 t) in (found.0, subst (HoldsBodies found.0) same.bytes found.1, found.2)
      by_fault (Foreign batch) is =
          λ t. let found = is (same.tells.0 t) in (found.0, subst (HoldsBodies found.0) same.bytes found.1, found.2)

  -- an empty store on which a new journal wasn't made
  pub unready_new : {X : Type 0} (plan : Plan) (p : PeerPlan) (o : Option PeerPlan) → o ≡ Some p → Same f old new
      → (own : Station) (result : Result X (D × Unready)) → f.faults new ≡ f.faults old
      → (f.told old → length (f.seen old) ≡ 0)
      → IfErr result
      (λ e. IsPlain (f.faults new) (f.faults e.0) e.1
      × ((q : PeerPlan) → o ≡ Some q → f.told new → Only [] (f.may_leave new)
      → HasFront f (map alone (deposits plan.aus q.copies)) e.0))
      → IfErr result (λ e. IsUnready f own (deposits plan.aus p.copies) old e.0 e.1)
  unready_new plan p o there same own (Ok x) count empty is = tt
  unready_new plan p o there same own (Err e) count empty is = by_fault e.1 is.0
    where
      part : f.told old → BeginsInPart f own (deposits plan.aus p.copies) old e.0
      part t =
          inl (
            no_bytes (f.seen old) (empty t),
            λ only. is.1 p there (same.tells.0 t) (λ c left. only c (same.leaves c left)),
          )

      by_fault : (u : Unready) → IsPlain (f.faults new) (f.faults e.0) u
          → IsUnready f own (deposits plan.aus p.copies) old e.0 u
      by_fault Failed rose = record { cause = subst (λ n. Rose n (f.faults e.0)) count rose; left = λ t. inr (part t) }
      by_fault Memory rose = record { cause = tt; left = λ t. inr (part t) }
      by_fault (Damaged offset) rose = absurd rose
      by_fault Full rose = absurd rose
      by_fault (Foreign batch) rose = absurd rose

  -- bodies that a store holds, and that aren't the peer's
  pub unsorted_is : {X : Type 0} → (f.told old → Stays f old new)
      → (own : Station) (deposited : List Record) (bodies : List (List ℕ)) (result : Result X (D × Unready))
      → f.faults new ≡ f.faults old → (f.told old → f.told new)
      → (f.told old → HoldsBodies bodies (f.seen old)) → (f.told old → Only (f.seen old) (f.may_leave new))
      → IfErr result (λ e. IsUnsorted f own deposited bodies new e.0 e.1)
      → IfErr result (λ e. IsUnready f own deposited old e.0 e.1)
  unsorted_is stays own deposited bodies (Ok x) count told holds durable is = tt
  unsorted_is stays own deposited bodies (Err e) count told holds durable is = by_fault e.1 is
    where
      either : f.told old → (e.0 ≡ new) ⊎ BeginsInPart f own deposited new e.0
          → Stays f old e.0 ⊎ BeginsInPart f own deposited old e.0
      either t (inl same) = inl (subst (Stays f old) (sym same) (stays t))
      either t (inr part) = inr (part_over (stays t).bytes (stays t).crash own deposited e.0 part)

      by_fault : (u : Unready) → IsUnsorted f own deposited bodies new e.0 u → IsUnready f own deposited old e.0 u
      by_fault Failed is =
          record {
            cause = subst (λ n. Rose n (f.faults e.0)) count is.0;
            left = λ t. either t (inr (is.1 (told t)));
          }
      by_fault Memory is = record { cause = tt; left = λ t. either t (is (told t)) }
      by_fault (Damaged offset) is = absurd is
      by_fault Full is = absurd is
      by_fault (Foreign batch) is = record {
        cause = λ t. (bodies, holds t, is.0);
        left =
            λ t. (
              subst (Stays f old) (sym is.1) (stays t),
              subst (λ (d : D). Only (f.seen old) (f.may_leave d)) (sym is.1) (durable t),
            );
      }

module _ {D : Type 0} (f : Face D) (plan : Plan) (p : PeerPlan) (old new : D) (told : f.told old → f.told new)
    (same : f.told old → f.seen new ≡ f.seen old) where
  pub begun_over : {E : Type 0} (result : Result (Node D) E) → IfOk result (IsBegun f plan p new)
      → IfOk result (IsBegun f plan p old)
  begun_over (Err e) is = tt
  begun_over (Ok node) is = record {
    first = is.first;
    unasked = is.unasked;
    own = is.own;
    at = is.at;
    tick = is.tick;
    whole = is.whole;
    held =
        λ t. subst (λ (file : List ℕ). BeginsWith (deposits plan.aus p.copies) file is.first.batches) (same t)
        (is.held (told t));
  }
