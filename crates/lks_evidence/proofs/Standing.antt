-- A set holds where there is no first doubt, and there is none where it holds.
use Rattle.std.proofs.Common.{◌≡◌, ◌≤◌, ◌∙◌, ap, sym, subst, ℕ, true, List, [], length, take, refl}
use Rattle.std.specs.Prelude.{Option, Some, None, option_and_then, slice_get, slice_set}
use Rattle.std.specs.List.{All}
use Rattle.std.proofs.lemmas.Bool.{leb-true, le-leb, eqb-true, eq-eqb}
use Rattle.std.proofs.lemmas.List.Elements.{All-weaker}
use Rattle.lks_base.specs.declared.names.Limits.{Limits}
use Rattle.lks_base.specs.declared.plans.Plan.{Plan}
use Rattle.lks_base.specs.declared.records.Record.{Record}
use Rattle.lks_law.specs.Journal.{Opening, Repair, said_by, contents_of, opening_of}
use Rattle.lks_law.specs.Polls.{limits_of, ballot_for, votes_behind}
use Rattle.lks_tally.specs.declared.ballots.Ballot.{Ballot}
use Rattle.lks_tally.specs.declared.ballots.Vote.{Vote}
use Rattle.lks_tally.specs.Counting.{for_at, against_at}
use Rattle.lks_tally.specs.Distinct.{AreDistinct}
use Rattle.lks_evidence.specs.declared.findings.Shelf.{Shelf}
use Rattle.lks_evidence.specs.declared.findings.Why.{Why}
use Rattle.lks_evidence.specs.declared.findings.Why.TheVariants as why
use Rattle.lks_evidence.specs.Records.{repair_in}
use Rattle.lks_evidence.specs.Rules.{unless, is_new, is_held, is_polled, is_long, is_founded, shape_doubt, loss_doubt}
use Rattle.lks_evidence.specs.Rules.{win_doubt, voter_doubt, votes_doubt, opened_doubt, poll_doubt_if, poll_doubt}
use Rattle.lks_evidence.specs.Search.{each, doubt_at, held_doubt, first_at, first_of_shelf, repair_doubt, second_at}
use Rattle.lks_evidence.specs.Search.{second_of_shelf, first_doubt}
use Rattle.lks_evidence.specs.Holding.{Stands, SetHolds}
use Rattle.lks_evidence.proofs.Evidenced.{held_count, polled_parts, polled_from}
use Rattle.lks_evidence.proofs.Doubts.{or_none, none_or, unless_none, none_unless, map_none, none_map, each_none}
use Rattle.lks_evidence.proofs.Doubts.{none_each, failing_none, none_failing, twice_none, none_twice}

-- Of votes.

record Voted (plan : Plan) (set : List Shelf) (limits : Limits) (q : Ballot) (votes : List Vote)
    (copy : List (List ℕ)) (r : Repair) : Type 0 where
  distinct : AreDistinct votes
  whole : All (λ v. length v.hashes ≡ q.count) votes
  quorum : limits.quorum ≤ length votes
  few_for_old : for_at q votes copy r.block ≤ limits.minority
  few_against_new : against_at q votes (slice_set copy r.block r.bytes) r.block ≤ limits.minority
  founded : All (λ v. is_founded plan.aus set q v ≡ true) votes

voted : (plan : Plan) (set : List Shelf) (limits : Limits) (q : Ballot) (votes : List Vote) (copy : List (List ℕ))
    (r : Repair)
    → votes_doubt plan set limits q votes copy r ≡ None → Voted plan set limits q votes copy r
unfolding shape_doubt loss_doubt win_doubt voter_doubt
voted plan set limits q votes copy r e =
    let shape = or_none (shape_doubt q.count votes) _ e in
    let loss = or_none (loss_doubt limits q votes copy r.block) _ shape.1 in
    let win = or_none (win_doubt limits q votes (slice_set copy r.block r.bytes) r.block) _ loss.1 in
    let lengths = or_none _ _ shape.0 in
    let counts = or_none _ _ loss.0 in
    record {
      distinct = twice_none votes (map_none _ _ lengths.0);
      whole =
          All-weaker (λ v. is_long q.count v ≡ true) (λ v. length v.hashes ≡ q.count)
          (λ v t. eqb-true (length v.hashes) q.count t) votes
          (failing_none (is_long q.count) votes (map_none _ _ lengths.1));
      quorum = leb-true limits.quorum (length votes) (unless_none _ _ counts.0);
      few_for_old = leb-true (for_at q votes copy r.block) limits.minority (unless_none _ _ counts.1);
      few_against_new =
          leb-true (against_at q votes (slice_set copy r.block r.bytes) r.block) limits.minority
          (unless_none _ _ win.0);
      founded = failing_none (is_founded plan.aus set q) votes (map_none _ _ win.1);
    }

unvoted : (plan : Plan) (set : List Shelf) (limits : Limits) (q : Ballot) (votes : List Vote) (copy : List (List ℕ))
    (r : Repair)
    → Voted plan set limits q votes copy r → votes_doubt plan set limits q votes copy r ≡ None
unfolding shape_doubt loss_doubt win_doubt voter_doubt
unvoted plan set limits q votes copy r v =
    none_or (shape_doubt q.count votes) _
    (none_or _ _ (none_map _ _ (none_twice votes v.distinct))
    (none_map _ _ (none_failing (is_long q.count) votes
    (All-weaker (λ v. length v.hashes ≡ q.count) (λ v. is_long q.count v ≡ true)
    (λ v t. eq-eqb (length v.hashes) q.count t) votes v.whole))))
    (none_or (loss_doubt limits q votes copy r.block) _
    (none_or _ _ (none_unless _ _ (le-leb limits.quorum (length votes) v.quorum))
    (none_unless _ _ (le-leb (for_at q votes copy r.block) limits.minority v.few_for_old)))
    (none_or (win_doubt limits q votes (slice_set copy r.block r.bytes) r.block) _
    (none_unless _ _
    (le-leb (against_at q votes (slice_set copy r.block r.bytes) r.block) limits.minority v.few_against_new))
    (none_map _ _ (none_failing (is_founded plan.aus set q) votes v.founded))))

-- Of a repair.

module _ (plan : Plan) (set : List Shelf) (poller : ℕ) (journal before : List Record) (r : Repair) where
  -- of the ballot over so many blocks
  abbrev OfVotes : Opening → ℕ → Type 0
  OfVotes o count =
      Voted plan set (limits_of plan.rules o) (ballot_for poller r.number o count) (votes_behind before r o)
      (contents_of r.au before) r

  pub stands : is_held plan.aus journal before r ≡ true → poll_doubt plan set poller before r ≡ None
      → Stands plan set poller journal before r
  unfolding poll_doubt opened_doubt
  stands held e = by_opening (opening_of r.number before) refl e
    where
      by_opening : (o : Option Opening) → opening_of r.number before ≡ o
          → poll_doubt_if plan set poller before r o ≡ None → Stands plan set poller journal before r
      by_opening None is e = absurd cc
      by_opening (Some o) is e =
          let parts = or_none (unless (is_polled (limits_of plan.rules o) before r o) _) _ e in
          let polled = polled_parts (limits_of plan.rules o) before r o (unless_none _ _ parts.0) in
          let v = subst (OfVotes o) (held_count plan.aus journal before r held) (voted plan set _ _ _ _ r parts.1) in
          record {
            held = held;
            evidence = record {
              opening = o;
              opened = is;
              of_au = polled.of_au;
              lawful = polled.lawful;
              ended = polled.ended;
              distinct = v.distinct;
              quorum = v.quorum;
              few_for_old = v.few_for_old;
              few_against_new = v.few_against_new;
            };
            once = polled.once;
            whole = v.whole;
            founded = v.founded;
          }

  pub undoubted : Stands plan set poller journal before r → poll_doubt plan set poller before r ≡ None
  unfolding poll_doubt opened_doubt
  undoubted s =
      let x = s.evidence in
      let limits = limits_of plan.rules x.opening in
      let v : OfVotes x.opening (length (contents_of r.au before)) = record {
        distinct = x.distinct;
        whole = s.whole;
        quorum = x.quorum;
        few_for_old = x.few_for_old;
        few_against_new = x.few_against_new;
        founded = s.founded;
      } in
      ap (poll_doubt_if plan set poller before r) x.opened
      ∙ none_or (unless (is_polled limits before r x.opening) _) _
      (none_unless _ _
      (polled_from limits before r x.opening
      (record { once = s.once; of_au = x.of_au; ended = x.ended; lawful = x.lawful })))
      (unvoted plan set _ _ _ _ r (subst (OfVotes x.opening) (sym (held_count plan.aus journal before r s.held)) v))

-- Of a set.

module _ (plan : Plan) (set : List Shelf) where
  first_round : first_doubt plan set ≡ None → each (first_of_shelf plan) [] set ≡ None
  unfolding first_doubt
  first_round e = (or_none (each (first_of_shelf plan) [] set) _ e).0

  second_round : first_doubt plan set ≡ None → each (second_of_shelf plan set) [] set ≡ None
  unfolding first_doubt
  second_round e = (or_none (each (first_of_shelf plan) [] set) _ e).1

  shelf_parts : (earlier : List Shelf) (s : Shelf) → first_of_shelf plan earlier s ≡ None
      → (is_new plan earlier s.peer ≡ true) × (each (first_at plan s) [] s.list.items ≡ None)
  unfolding first_of_shelf
  shelf_parts earlier s e =
      let parts = or_none (doubt_at s.peer 0 (unless (is_new plan earlier s.peer) _)) _ e in
      (unless_none _ _ (map_none _ _ parts.0), parts.1)

  held_at : (s : Shelf) (i : ℕ) (q : Record) (x : Repair) → each (first_at plan s) [] s.list.items ≡ None
      → slice_get s.list.items i ≡ Some q → (said_by q).replaced ≡ Some x
      → is_held plan.aus s.list.items (take i s.list.items) x ≡ true
  unfolding held_doubt
  held_at s i q x e at says =
      unless_none _ _
      (sym
      (ap (option_and_then (λ r. unless (is_held plan.aus s.list.items (take i s.list.items) r) why.Copy))
      says)
      ∙ map_none _ _ (each_none (first_at plan s) [] s.list.items e i q at))

  polled_at : (earlier : List Shelf) (s : Shelf) (i : ℕ) (q : Record) (x : Repair)
      → second_of_shelf plan set earlier s ≡ None → slice_get s.list.items i ≡ Some q
      → (said_by q).replaced ≡ Some x
      → poll_doubt plan set s.peer (take i s.list.items) x ≡ None
  unfolding second_of_shelf repair_doubt
  polled_at earlier s i q x e at says =
      sym (ap (option_and_then (poll_doubt plan set s.peer (take i s.list.items))) says)
      ∙ map_none _ _ (each_none (second_at plan set s) [] s.list.items e i q at)

  pub holds : first_doubt plan set ≡ None → SetHolds plan set
  holds e = record {
    shelves = λ k s at. (shelf_parts (take k set) s (each_none (first_of_shelf plan) [] set (first_round e) k s at)).0;
    repairs = λ k s at i q x there says.
        stands plan set s.peer s.list.items (take i s.list.items) x
        (held_at s i q x
        (shelf_parts (take k set) s (each_none (first_of_shelf plan) [] set (first_round e) k s at)).1 there
        says)
        (polled_at (take k set) s i q x (each_none (second_of_shelf plan set) [] set (second_round e) k s at) there
        says);
  }

  -- what holds of each replaced block, a rule over records makes no doubt of
  repair_cases : (f : Repair → Option Why) (o : Option Repair) → ((x : Repair) → o ≡ Some x → f x ≡ None)
      → option_and_then f o ≡ None
  repair_cases f None g = refl
  repair_cases f (Some x) g = g x refl

  pub undoubted_set : SetHolds plan set → first_doubt plan set ≡ None
  unfolding first_doubt first_of_shelf second_of_shelf held_doubt repair_doubt
  undoubted_set h =
      none_or (each (first_of_shelf plan) [] set) _
      (none_each (first_of_shelf plan) [] set (λ k s at.
      none_or _ _ (none_map _ _ (none_unless _ _ (h.shelves k s at)))
      (none_each (first_at plan s) [] s.list.items (λ i q there.
      none_map _ _
      (repair_cases (λ x. unless (is_held plan.aus s.list.items (take i s.list.items) x) _) (repair_in q)
      (λ x says.
      none_unless _ _ (h.repairs k s at i q x there says).held))))))
      (none_each (second_of_shelf plan set) [] set (λ k s at.
      none_each (second_at plan set s) [] s.list.items (λ i q there.
      none_map _ _ (repair_cases (poll_doubt plan set s.peer (take i s.list.items)) (repair_in q) (λ x says.
      undoubted plan set s.peer s.list.items (take i s.list.items) x (h.repairs k s at i q x there says))))))
