-- The voter for which a journal stands, whole, and one record more.
use Rattle.std.proofs.Common.{◌≡◌, ◌+◌, ◌∙◌, ap, sym, subst, ℕ, Bool, true, false, cond, List, [], ◌∷◌, ◌++◌, length}
use Rattle.std.proofs.Common.{refl, arith}
use Rattle.std.specs.Prelude.{Option, Some, None, is_some, map, filter, not, ◌&&◌, ◌||◌, count_by}
use Rattle.std.specs.List.{list_any}
use Rattle.std.proofs.lemmas.Bool.{and_parts}
use Rattle.std.proofs.lemmas.List.Elements.{filter-append}
use Rattle.std.proofs.lemmas.List.Folds.{list_any-append}
use Rattle.lks_base.specs.declared.names.PollName.{PollName}
use Rattle.lks_base.specs.declared.plans.Rules.{Rules}
use Rattle.lks_base.specs.declared.records.Record.{Record}
use Rattle.lks_base.specs.declared.records.Record.TheVariants.{Deposit, PollOpened, Nominated, OuterOpened, VoteIn}
use Rattle.lks_base.specs.declared.records.Record.TheVariants.{Shut, Asked, RepairBad, Replaced, Closed, Overdue}
use Rattle.lks_base.specs.declared.records.Record.TheVariants.{Joined, Committed, Voted, Served, Ended, Tuned}
use Rattle.lks_law.specs.Firsts.{without_first}
use Rattle.lks_law.specs.Journal.{contents_of}
use Rattle.lks_law.specs.Sessions.{Join, Commitment, Turn, Part, is_poll, part_of, ends, joined_in, committed_in}
use Rattle.lks_law.specs.Sessions.{join_of, commitment_of, hashes_of_vote, served_blocks, is_ended, is_session}
use Rattle.lks_law.specs.Sessions.{joined_polls, committed_polls, sessions, may_work, votes_received, votes_given}
use Rattle.lks_law.specs.Sessions.{low_part, last_low}
use Rattle.lks_law.specs.Taking.{Pinned, Voter, is_session_of, is_pinned_of, is_cast_of, session_at, pinned_at}
use Rattle.lks_law.specs.Taking.{cast_at, joined_as, pins_of, casts_of, serving_block, turned_by}
use Rattle.lks_law.specs.Taking.{mark_at, newcomer, voter_after}
use Rattle.lks_law.specs.Written.{MayFollow}
use Rattle.lks_law.proofs.Counts.{itself, stands_in, joined_stands, committed_stands, ended_more, joined_more}
use Rattle.lks_law.proofs.Counts.{committed_more, count_push, count_gone, filter_same, filter_left, mark_of}
use Rattle.lks_law.proofs.Counts.{marks_more, low_more}
use Rattle.lks_law.proofs.Keyed.{Apart, at, apart_push, same_poll, is_itself, is_swapped, one_less, absent_without}
use Rattle.lks_law.proofs.Keyed.{names_left, names_push, length_push, length_changed}
use Rattle.lks_law.proofs.Parts.{TakesAt, AreApart, session_in, pinned_in, session_by, pinned_by, cast_by}
use Rattle.lks_law.proofs.Parts.{poll_of_session, poll_of_pinned, poll_of_cast, none_of, begun_phase, joined_phase}
use Rattle.lks_law.proofs.Parts.{committed_phase, voted_phase, turned_at, turned_apart, turned_off}
use Rattle.lks_law.proofs.Phases.{Phase, phase, turned_in, phase_quiet, phase_other, phase_mine}
use Rattle.lks_law.proofs.RunningPolls.{pushed}

-- how many sessions are open
abbrev pub opened_in : Voter → ℕ
opened_in v = length v.sessions + length v.pinned + length v.cast

pub record Takes (rules : Rules) (js : List Record) (v : Voter) : Type 0 where
  pub at : (q : PollName) → TakesAt rules js v q
  pub apart : AreApart v
  pub once : Apart itself (joined_polls js)
  pub ended : (q : PollName) → list_any (λ p. is_poll p q) v.ended ≡ is_ended q js
  pub count : opened_in v ≡ sessions js
  pub order : map poll_of_pinned v.pinned ≡ filter (λ q. may_work q js) (committed_polls js)
  pub marks : (f : ℕ) → mark_at f v.marks ≡ mark_of f js
  pub low : v.last_low ≡ last_low js

-- The phase decides what may be done.

abbrev work_in : Phase → Bool
work_in p = is_some p.join && not p.over && is_some p.commitment && not (is_some p.hashes)

works_by : (q : PollName) (js : List Record) → may_work q js ≡ work_in (phase q js)
unfolding may_work is_session
works_by q js = refl

none_stands : (q : PollName) (names : List PollName) → stands_in q names ≡ false → at itself q names ≡ None
none_stands q names e = none_of _ e

module _ (rules : Rules) (blocks : ℕ → List (List ℕ)) (js : List Record) (v : Voter)
    (are : (au : ℕ) → blocks au ≡ contents_of au js) (is : Takes rules js v) where
  -- Names that are joined stand once.

  once_more : (r : Record) → MayFollow js r → Apart itself (joined_polls (js ++ r ∷ []))
  once_more r may = subst (Apart itself) (sym (joined_more js r)) (by_record r may)
    where
      by_record : (r : Record) → MayFollow js r → Apart itself (pushed (joined_polls js) (joined_in r))
      by_record (Joined n au tick low repairs) may =
          apart_push itself _ n is.once (none_stands n _ (joined_stands n js ∙ ap is_some may.0))
      by_record (Deposit au bs) may = is.once
      by_record (PollOpened number au nonce inner tick limits kind) may = is.once
      by_record (Nominated number voter nominees) may = is.once
      by_record (OuterOpened number outer) may = is.once
      by_record (VoteIn number voter hashes) may = is.once
      by_record (Shut number) may = is.once
      by_record (Asked number block voter) may = is.once
      by_record (RepairBad number block voter) may = is.once
      by_record (Replaced number au block bytes) may = is.once
      by_record (Closed number outcome tick) may = is.once
      by_record (Overdue au tick) may = is.once
      by_record (Committed n nonce version kind) may = is.once
      by_record (Voted n hashes) may = is.once
      by_record (Served n block) may = is.once
      by_record (Ended n) may = is.once
      by_record (Tuned quorum minority repairs) may = is.once

  -- Sessions that are over.

  over_more : (r : Record) (q : PollName)
      → list_any (λ p. is_poll p q) (turned_by rules blocks (part_of r) v).ended ≡ is_ended q (js ++ r ∷ [])
  over_more r q = by_record r ∙ sym (ended_more q js r)
    where
      either : (a b : Bool) → (a || (b || false)) ≡ cond (b && true) true a
      either true true = refl
      either true false = refl
      either false true = refl
      either false false = refl

      not_an_end : (b : Bool) → is_ended q js ≡ cond (b && false) true (is_ended q js)
      not_an_end true = refl
      not_an_end false = refl

      by_record : (r : Record)
          → list_any (λ p. is_poll p q) (turned_by rules blocks (part_of r) v).ended
          ≡ cond (ends q r) true (is_ended q js)
      by_record (Ended n) =
          list_any-append _ v.ended _
          ∙ either (list_any _ v.ended) (is_poll n q)
          ∙ ap (cond (is_poll n q && true) true) (is.ended q)
      by_record (Joined n au tick low repairs) = is.ended q ∙ not_an_end (is_poll n q)
      by_record (Committed n nonce version kind) = is.ended q ∙ not_an_end (is_poll n q)
      by_record (Voted n hashes) = is.ended q ∙ not_an_end (is_poll n q)
      by_record (Served n block) = is.ended q ∙ not_an_end (is_poll n q)
      by_record (Deposit au bs) = is.ended q
      by_record (PollOpened number au nonce inner tick limits kind) = is.ended q
      by_record (Nominated number voter nominees) = is.ended q
      by_record (OuterOpened number outer) = is.ended q
      by_record (VoteIn number voter hashes) = is.ended q
      by_record (Shut number) = is.ended q
      by_record (Asked number block voter) = is.ended q
      by_record (RepairBad number block voter) = is.ended q
      by_record (Replaced number au block bytes) = is.ended q
      by_record (Closed number outcome tick) = is.ended q
      by_record (Overdue au tick) = is.ended q
      by_record (Tuned quorum minority repairs) = is.ended q

  -- How many are open.

  -- none ends, and these are joined
  count_on : (r : Record) → ((q : PollName) → is_ended q (js ++ r ∷ []) ≡ is_ended q js)
      → sessions (js ++ r ∷ []) ≡ count_by (λ q. not (is_ended q js)) (pushed (joined_polls js) (joined_in r))
  unfolding sessions
  count_on r stay = λ i. count_by (λ q. not (stay q i)) (joined_more js r i)

  stay_open : (r : Record) → ((q : PollName) → ends q r ≡ false) → (q : PollName)
      → is_ended q (js ++ r ∷ []) ≡ is_ended q js
  stay_open r none q = ended_more q js r ∙ ap (λ b. cond b true (is_ended q js)) (none q)

  count_same : (r : Record) → ((q : PollName) → ends q r ≡ false) → joined_in r ≡ None
      → sessions (js ++ r ∷ []) ≡ sessions js
  unfolding sessions
  count_same r none nobody =
      count_on r (stay_open r none)
      ∙ ap (λ o. count_by (λ q. not (is_ended q js)) (pushed (joined_polls js) o)) nobody

  never : (q n : PollName) → (is_poll n q && false) ≡ false
  never q n = by_test (is_poll n q)
    where
      by_test : (b : Bool) → (b && false) ≡ false
      by_test true = refl
      by_test false = refl

  count_joined : (n : PollName) (au tick : ℕ) (low : Bool) (repairs : Option ℕ)
      → MayFollow js (Joined n au tick low repairs)
      → sessions (js ++ Joined n au tick low repairs ∷ []) ≡ sessions js + 1
  unfolding sessions
  count_joined n au tick low repairs may =
      count_on _ (stay_open _ (λ q. never q n))
      ∙ count_push _ (joined_polls js) n
      ∙ ap (λ b. sessions js + cond (not b) 1 0) (ap (λ (p : Phase). p.over) (begun_phase js n (is.at n).proper may.0))

  count_ended : (n : PollName) → MayFollow js (Ended n) → sessions js ≡ sessions (js ++ Ended n ∷ []) + 1
  unfolding sessions is_session
  count_ended n opened =
      let parts = and_parts _ _ opened in
      count_gone _ _ n _
      (λ q other. ap not (ended_more q js _ ∙ ap (λ b. cond (b && true) true (is_ended q js)) other))
      is.once (joined_stands n js ∙ parts.0) parts.1
      (ap not (ended_more n js _ ∙ ap (λ b. cond (b && true) true (is_ended n js)) (is_itself n)))
      ∙ ap (λ names. count_by (λ q. not (is_ended q (js ++ Ended n ∷ []))) names + 1) (sym (joined_more js _))

  none_left : (n : PollName) → session_at n v.sessions ≡ None → without_first (is_session_of n) v.sessions ≡ v.sessions
  none_left n e = absent_without poll_of_session n v.sessions e

  -- one of the three lists has one less
  fewer : (n : PollName) → is_session n js ≡ true
      → opened_in v
      ≡ length (without_first (is_session_of n) v.sessions) + length (without_first (is_pinned_of n) v.pinned)
      + length (without_first (is_cast_of n) v.cast) + 1
  unfolding is_session
  fewer n opened = by_phase (join_of n js) refl (commitment_of n js) refl (hashes_of_vote n js) refl parts.0
    where
      parts : (is_some (join_of n js) ≡ true) × (not (is_ended n js) ≡ true)
      parts = and_parts _ _ opened

      on : is_ended n js ≡ false
      on = turned_off _ parts.1

      none_session : session_at n v.sessions ≡ None
          → length (without_first (is_session_of n) v.sessions) ≡ length v.sessions
      none_session e = ap length (absent_without poll_of_session n v.sessions e)

      none_pinned : pinned_at n v.pinned ≡ None → length (without_first (is_pinned_of n) v.pinned) ≡ length v.pinned
      none_pinned e = ap length (absent_without poll_of_pinned n v.pinned e)

      none_cast : cast_at n v.cast ≡ None → length (without_first (is_cast_of n) v.cast) ≡ length v.cast
      none_cast e = ap length (absent_without poll_of_cast n v.cast e)

      by_phase : (j : Option Join) → join_of n js ≡ j → (c : Option Commitment) → commitment_of n js ≡ c
          → (h : Option (List (List ℕ))) → hashes_of_vote n js ≡ h → is_some j ≡ true
          → opened_in v
          ≡ length (without_first (is_session_of n) v.sessions)
          + length (without_first (is_pinned_of n) v.pinned) + length (without_first (is_cast_of n) v.cast)
          + 1
      by_phase None ej c ec h eh there = absurd cc
      by_phase (Some j) ej None ec h eh there =
          let one = one_less poll_of_session n v.sessions
          (ap is_some ((is.at n).sessions ∙ (λ i. session_by rules n (ej i) (ec i) (on i)))) in
          let two = none_pinned
          ((is.at n).pinned ∙ (λ i. pinned_by rules js n (ej i) (ec i) (hashes_of_vote n js) (is_ended n js)))
          in
          let three = none_cast
          ((is.at n).cast
          ∙ (λ i. cast_by rules js n (ej i) (ec i) (hashes_of_vote n js) (served_blocks n js)
          (is_ended n js))) in
          omega (arith, one, two, three)
      by_phase (Some j) ej (Some c) ec None eh there =
          let one = none_session ((is.at n).sessions ∙ (λ i. session_by rules n (ej i) (ec i) (is_ended n js))) in
          let two = one_less poll_of_pinned n v.pinned
          (ap is_some ((is.at n).pinned ∙ (λ i. pinned_by rules js n (ej i) (ec i) (eh i) (on i)))) in
          let three = none_cast
          ((is.at n).cast ∙ (λ i. cast_by rules js n (ej i) (ec i) (eh i) (served_blocks n js) (is_ended n js)))
          in
          omega (arith, one, two, three)
      by_phase (Some j) ej (Some c) ec (Some h) eh there =
          let one = none_session ((is.at n).sessions ∙ (λ i. session_by rules n (ej i) (ec i) (is_ended n js))) in
          let two = none_pinned ((is.at n).pinned ∙ (λ i. pinned_by rules js n (ej i) (ec i) (eh i) (is_ended n js))) in
          let three = one_less poll_of_cast n v.cast
          (ap is_some
          ((is.at n).cast ∙ (λ i. cast_by rules js n (ej i) (ec i) (eh i) (served_blocks n js) (on i)))) in
          omega (arith, one, two, three)

  pinned_grows : (n : PollName) (c : Commitment) (j : Join) → session_at n v.sessions ≡ Some (joined_as rules n j)
      → length (v.pinned ++ pins_of blocks c (session_at n v.sessions)) ≡ length v.pinned + 1
  pinned_grows n c j found =
      ap (λ o. length (v.pinned ++ pins_of blocks c o)) found
      ∙ length_push poll_of_pinned v.pinned _

  cast_grows : (n : PollName) (hashes : List (List ℕ)) (p : Pinned) → pinned_at n v.pinned ≡ Some p
      → length (v.cast ++ casts_of hashes (pinned_at n v.pinned)) ≡ length v.cast + 1
  cast_grows n hashes p found =
      ap (λ o. length (v.cast ++ casts_of hashes o)) found ∙ length_push poll_of_cast v.cast _

  count_more : (r : Record) → MayFollow js r
      → opened_in (turned_by rules blocks (part_of r) v) ≡ sessions (js ++ r ∷ [])
  count_more (Joined n au tick low repairs) may =
      let longer = length_push poll_of_session v.sessions
      (joined_as rules n (record { au = au; tick = tick; low = low; repairs = repairs })) in
      let more = count_joined n au tick low repairs may in
      let before = is.count in
      omega (arith, longer, more, before)
  count_more (Committed n nonce version kind) may =
      let shape = joined_phase js n (is.at n).proper may.0 may.1 in
      let found = (is.at n).sessions ∙ ap (session_in rules n) shape.1 in
      let less = one_less poll_of_session n v.sessions (ap is_some found) in
      let longer = pinned_grows n (record { nonce = nonce; version = version; kind = kind }) shape.0 found in
      let same = count_same (Committed n nonce version kind) (λ q. never q n) refl in
      let before = is.count in
      omega (arith, less, longer, same, before)
  count_more (Voted n hashes) may =
      let shape = committed_phase js n (is.at n).proper may in
      let found = (is.at n).pinned ∙ ap (pinned_in rules js n) shape.2 in
      let less = one_less poll_of_pinned n v.pinned (ap is_some found) in
      let longer = cast_grows n hashes _ found in
      let same = count_same (Voted n hashes) (λ q. never q n) refl in
      let before = is.count in
      omega (arith, less, longer, same, before)
  count_more (Served n block) may =
      let kept = length_changed poll_of_cast (serving_block block) (λ c. refl) n v.cast in
      let same = count_same (Served n block) (λ q. never q n) refl in
      let before = is.count in
      omega (arith, kept, same, before)
  count_more (Ended n) may =
      let less = fewer n may in
      let gone = count_ended n may in
      let before = is.count in
      omega (arith, less, gone, before)
  count_more (Deposit au bs) may = is.count ∙ sym (count_same _ (λ q. refl) refl)
  count_more (PollOpened number au nonce inner tick limits kind) may = is.count ∙ sym (count_same _ (λ q. refl) refl)
  count_more (Nominated number voter nominees) may = is.count ∙ sym (count_same _ (λ q. refl) refl)
  count_more (OuterOpened number outer) may = is.count ∙ sym (count_same _ (λ q. refl) refl)
  count_more (VoteIn number voter hashes) may = is.count ∙ sym (count_same _ (λ q. refl) refl)
  count_more (Shut number) may = is.count ∙ sym (count_same _ (λ q. refl) refl)
  count_more (Asked number block voter) may = is.count ∙ sym (count_same _ (λ q. refl) refl)
  count_more (RepairBad number block voter) may = is.count ∙ sym (count_same _ (λ q. refl) refl)
  count_more (Replaced number au block bytes) may = is.count ∙ sym (count_same _ (λ q. refl) refl)
  count_more (Closed number outcome tick) may = is.count ∙ sym (count_same _ (λ q. refl) refl)
  count_more (Overdue au tick) may = is.count ∙ sym (count_same _ (λ q. refl) refl)
  count_more (Tuned quorum minority repairs) may = is.count ∙ sym (count_same _ (λ q. refl) refl)

  -- Which of them wait for their vote.

  works_other : (r : Record) (x : Part) → part_of r ≡ Some x → (q : PollName) → is_poll x.poll q ≡ false
      → may_work q (js ++ r ∷ []) ≡ may_work q js
  works_other r x says q other = works_by q _ ∙ ap work_in (phase_other q js r x says other) ∙ sym (works_by q js)

  works_mine : (r : Record) (n : PollName) (p : Phase) → phase n (js ++ r ∷ []) ≡ p
      → may_work n (js ++ r ∷ []) ≡ work_in p
  works_mine r n p e = works_by n _ ∙ ap work_in e

  -- for all polls, where it stays so for this one
  works_same : (r : Record) (x : Part) → part_of r ≡ Some x → may_work x.poll (js ++ r ∷ []) ≡ may_work x.poll js
      → (q : PollName) → may_work q (js ++ r ∷ []) ≡ may_work q js
  works_same r x says mine q = by_test (is_poll x.poll q) refl
    where
      by_test : (b : Bool) → is_poll x.poll q ≡ b → may_work q (js ++ r ∷ []) ≡ may_work q js
      by_test true e =
          ap (λ m. may_work m (js ++ r ∷ [])) (sym (same_poll x.poll q e)) ∙ mine
          ∙ ap (λ m. may_work m js) (same_poll x.poll q e)
      by_test false e = works_other r x says q e

  -- and where this one doesn't any more
  works_left : (r : Record) (x : Part) → part_of r ≡ Some x → may_work x.poll (js ++ r ∷ []) ≡ false
      → (q : PollName) → may_work q (js ++ r ∷ []) ≡ (may_work q js && not (is_poll q x.poll))
  works_left r x says mine q = by_test (is_poll x.poll q) refl
    where
      off : (b : Bool) → (b && false) ≡ false
      off true = refl
      off false = refl

      on : (b : Bool) → (b && true) ≡ b
      on true = refl
      on false = refl

      by_test : (b : Bool) → is_poll x.poll q ≡ b
          → may_work q (js ++ r ∷ []) ≡ (may_work q js && not (is_poll q x.poll))
      by_test true e =
          ap (λ m. may_work m (js ++ r ∷ [])) (sym (same_poll x.poll q e)) ∙ mine
          ∙ sym (ap (λ b. may_work q js && not b) (is_swapped q x.poll ∙ e) ∙ off (may_work q js))
      by_test false e =
          works_other r x says q e
          ∙ sym (ap (λ b. may_work q js && not b) (is_swapped q x.poll ∙ e) ∙ on (may_work q js))

  -- nobody more is committed, and these may work
  order_same : (r : Record) → committed_in r ≡ None → ((q : PollName) → may_work q (js ++ r ∷ []) ≡ may_work q js)
      → filter (λ q. may_work q (js ++ r ∷ [])) (committed_polls (js ++ r ∷ []))
      ≡ filter (λ q. may_work q js) (committed_polls js)
  order_same r nobody works =
      ap (filter (λ q. may_work q _)) (committed_more js r ∙ ap (pushed _) nobody)
      ∙ (λ i. filter (λ q. works q i) (committed_polls js))

  order_left : (r : Record) (n : PollName) → committed_in r ≡ None
      → ((q : PollName) → may_work q (js ++ r ∷ []) ≡ (may_work q js && not (is_poll q n)))
      → filter (λ q. not (is_poll q n)) (map poll_of_pinned v.pinned)
      ≡ filter (λ q. may_work q (js ++ r ∷ [])) (committed_polls (js ++ r ∷ []))
  order_left r n nobody works =
      ap (filter (λ q. not (is_poll q n))) is.order
      ∙ sym (filter_left _ _ n _ works)
      ∙ ap (filter (λ q. may_work q _)) (sym (committed_more js r ∙ ap (pushed _) nobody))

  names_pinned : (n : PollName) (c : Commitment) (j : Join) → session_at n v.sessions ≡ Some (joined_as rules n j)
      → map poll_of_pinned (v.pinned ++ pins_of blocks c (session_at n v.sessions))
      ≡ map poll_of_pinned v.pinned ++ n ∷ []
  names_pinned n c j found =
      ap (λ o. map poll_of_pinned (v.pinned ++ pins_of blocks c o)) found
      ∙ names_push poll_of_pinned v.pinned _

  order_more : (r : Record) → MayFollow js r
      → map poll_of_pinned (turned_by rules blocks (part_of r) v).pinned
      ≡ filter (λ q. may_work q (js ++ r ∷ [])) (committed_polls (js ++ r ∷ []))
  order_more (Joined n au tick low repairs) may =
      let r : Record = Joined n au tick low repairs in
      let j : Join = record { au = au; tick = tick; low = low; repairs = repairs } in
      let before = begun_phase js n (is.at n).proper may.0 in
      is.order
      ∙ sym
      (order_same r refl
      (works_same r _ refl
      (works_mine r n _ (phase_mine n js r (Turn.Joins j) refl ∙ ap (turned_in (Turn.Joins j)) before)
      ∙ sym (works_by n js ∙ ap work_in before))))
  order_more (Committed n nonce version kind) may =
      let r : Record = Committed n nonce version kind in
      let c : Commitment = record { nonce = nonce; version = version; kind = kind } in
      let shape = joined_phase js n (is.at n).proper may.0 may.1 in
      let works : may_work n (js ++ r ∷ [])
      ≡ true = works_mine r n _
      (phase_mine n js r _ refl ∙ ap (turned_in (Turn.Commits c)) shape.1) in
      names_pinned n c shape.0 ((is.at n).sessions ∙ ap (session_in rules n) shape.1)
      ∙ ap (λ names. names ++ n ∷ [])
      (is.order ∙ sym (filter_same _ _ n _
      (λ q other. works_other r (record { poll = n; turn = Turn.Commits c }) refl q other)
      (none_stands n _ (committed_stands n js ∙ ap is_some may.1))))
      ∙ sym
      (ap (filter (λ q. may_work q (js ++ r ∷ []))) (committed_more js r)
      ∙ filter-append _ (committed_polls js) (n ∷ [])
      ∙ ap (λ b. filter (λ q. may_work q (js ++ r ∷ [])) (committed_polls js) ++ cond b (n ∷ []) []) works)
  order_more (Voted n hashes) may =
      let r : Record = Voted n hashes in
      let shape = committed_phase js n (is.at n).proper may in
      names_left poll_of_pinned n v.pinned is.apart.pinned
      ∙ order_left r n refl
      (works_left r _ refl
      (works_mine r n _
      (phase_mine n js r (Turn.Votes hashes) refl ∙ ap (turned_in (Turn.Votes hashes)) shape.2)))
  order_more (Served n block) may =
      let r : Record = Served n block in
      let shape = voted_phase js n (is.at n).proper may.0 may.1 in
      is.order
      ∙ sym
      (order_same r refl
      (works_same r (record { poll = n; turn = Turn.Serves block }) refl
      (works_mine r n _
      (phase_mine n js r (Turn.Serves block) refl ∙ ap (turned_in (Turn.Serves block)) shape.3)
      ∙ sym (works_by n js ∙ ap work_in shape.3))))
  order_more (Ended n) may =
      let r : Record = Ended n in
      names_left poll_of_pinned n v.pinned is.apart.pinned
      ∙ order_left r n refl
      (works_left r (record { poll = n; turn = Turn.Ends }) refl
      (works_mine r n _ (phase_mine n js r Turn.Ends refl)
      ∙ over_works (is_some _) (is_some (commitment_of n js)) (is_some (hashes_of_vote n js))))
    where
      over_works : (a b c : Bool) → (a && false && b && not c) ≡ false
      over_works true b c = refl
      over_works false b c = refl
  order_more (Deposit au bs) may =
      is.order
      ∙ sym (order_same (Deposit au bs) refl (λ q. works_by q _ ∙ ap work_in (phase_quiet q js (Deposit au bs) refl)
      ∙ sym (works_by q js)))
  order_more (PollOpened number au nonce inner tick limits kind) may =
      is.order
      ∙ sym (order_same _ refl (λ q. works_by q (js ++ PollOpened number au nonce inner tick limits kind ∷ [])
      ∙ ap work_in (phase_quiet q js (PollOpened number au nonce inner tick limits kind) refl)
      ∙ sym (works_by q js)))
  order_more (Nominated number voter nominees) may =
      is.order
      ∙ sym (order_same (Nominated number voter nominees) refl
      (λ q. works_by q (js ++ Nominated number voter nominees ∷ [])
      ∙ ap work_in (phase_quiet q js _ refl) ∙ sym (works_by q js)))
  order_more (OuterOpened number outer) may =
      is.order
      ∙ sym (order_same (OuterOpened number outer) refl (λ q. works_by q _
      ∙ ap work_in (phase_quiet q js (OuterOpened number outer) refl) ∙ sym (works_by q js)))
  order_more (VoteIn number voter hashes) may =
      is.order
      ∙ sym (order_same _ refl (λ q. works_by q (js ++ VoteIn number voter hashes ∷ [])
      ∙ ap work_in (phase_quiet q js (VoteIn number voter hashes) refl) ∙ sym (works_by q js)))
  order_more (Shut number) may =
      is.order
      ∙ sym (order_same (Shut number) refl
      (λ q. works_by q (js ++ Shut number ∷ []) ∙ ap work_in (phase_quiet q js _ refl)
      ∙ sym (works_by q js)))
  order_more (Asked number block voter) may =
      is.order
      ∙ sym (order_same (Asked number block voter) refl (λ q. works_by q _
      ∙ ap work_in (phase_quiet q js (Asked number block voter) refl) ∙ sym (works_by q js)))
  order_more (RepairBad number block voter) may =
      is.order
      ∙ sym (order_same _ refl (λ q. works_by q (js ++ RepairBad number block voter ∷ [])
      ∙ ap work_in (phase_quiet q js (RepairBad number block voter) refl) ∙ sym (works_by q js)))
  order_more (Replaced number au block bytes) may =
      is.order
      ∙ sym (order_same (Replaced number au block bytes) refl
      (λ q. works_by q (js ++ Replaced number au block bytes ∷ [])
      ∙ ap work_in (phase_quiet q js _ refl) ∙ sym (works_by q js)))
  order_more (Closed number outcome tick) may =
      is.order
      ∙ sym (order_same (Closed number outcome tick) refl (λ q. works_by q _
      ∙ ap work_in (phase_quiet q js (Closed number outcome tick) refl) ∙ sym (works_by q js)))
  order_more (Overdue au tick) may =
      is.order
      ∙ sym (order_same _ refl
      (λ q. works_by q (js ++ Overdue au tick ∷ []) ∙ ap work_in (phase_quiet q js (Overdue au tick) refl)
      ∙ sym (works_by q js)))
  order_more (Tuned quorum minority repairs) may =
      is.order
      ∙ sym (order_same (Tuned quorum minority repairs) refl
      (λ q. works_by q (js ++ Tuned quorum minority repairs ∷ [])
      ∙ ap work_in (phase_quiet q js _ refl) ∙ sym (works_by q js)))

  pub takes_more : (r : Record) → MayFollow js r → Takes rules (js ++ r ∷ []) (voter_after rules blocks r v)
  takes_more r may = record {
    at =
        λ q. let there = turned_at rules blocks js v are is.at is.apart r may q in
        record { proper = there.proper; sessions = there.sessions; pinned = there.pinned; cast = there.cast };
    apart =
        let apart = turned_apart rules blocks js v are is.at is.apart r may in
        record { sessions = apart.sessions; pinned = apart.pinned; cast = apart.cast };
    once = once_more r may;
    ended = over_more r;
    count = count_more r may;
    order = order_more r may;
    marks = marks_more js v.marks is.marks r;
    low = ap (λ l. low_part l (part_of r)) is.low ∙ sym (low_more js r);
  }

pub takes_none : (rules : Rules) → Takes rules [] newcomer
unfolding join_of commitment_of hashes_of_vote served_blocks is_ended joined_polls sessions committed_polls last_low
    votes_received votes_given
takes_none rules = record {
  at = λ q. record {
    proper =
        record {
          committed = λ e. absurd cc;
          voted = λ e. absurd cc;
          over = λ e. absurd cc;
          gave = λ e. refl;
          held = λ j e. absurd cc;
          there = λ j c e f. absurd cc;
        };
    sessions = refl;
    pinned = refl;
    cast = refl;
  };
  apart = record { sessions = tt; pinned = tt; cast = tt };
  once = tt;
  ended = λ q. refl;
  count = refl;
  order = refl;
  marks = λ f. refl;
  low = refl;
}
