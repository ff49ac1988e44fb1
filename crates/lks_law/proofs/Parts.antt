-- The voter for which a journal stands: its sessions in every poll, by their phases.
use Rattle.std.proofs.Common.{◌≡◌, ◌≤◌, ◌∙◌, ap, sym, subst, ℕ, Bool, true, false, cond, List, [], ◌∷◌, ◌++◌, refl}
use Rattle.std.proofs.Common.{arith}
use Rattle.std.specs.Prelude.{Option, Some, None, is_some, option_map, not}
use Rattle.std.proofs.lemmas.Bool.{and_parts}
use Rattle.std.proofs.lemmas.List.{append-nil}
use Rattle.lks_base.specs.declared.names.PollName.{PollName}
use Rattle.lks_base.specs.declared.plans.Rules.{Rules}
use Rattle.lks_base.specs.declared.records.Record.{Record}
use Rattle.lks_base.specs.declared.records.Record.TheVariants.{Deposit, PollOpened, Nominated, OuterOpened, VoteIn}
use Rattle.lks_base.specs.declared.records.Record.TheVariants.{Shut, Asked, RepairBad, Replaced, Closed, Overdue}
use Rattle.lks_base.specs.declared.records.Record.TheVariants.{Joined, Committed, Voted, Served, Ended, Tuned}
use Rattle.lks_law.specs.Journal.{deposit_in, deposit_of, contents_at, contents_of}
use Rattle.lks_law.specs.Sessions.{Join, Commitment, Turn, is_poll, part_of, join_of, commitment_of, hashes_of_vote}
use Rattle.lks_law.specs.Sessions.{served_blocks, is_ended, is_session, may_work, version_now}
use Rattle.lks_law.specs.Taking.{Session, Pinned, Cast, Voter, session_at, pinned_at, cast_at, joined_as, pinned_to}
use Rattle.lks_law.specs.Taking.{cast_as, pins_of, casts_of, after_turn, turned_by}
use Rattle.lks_law.specs.Written.{MayFollow}
use Rattle.lks_law.proofs.Keyed.{Apart, first, first_only, same_poll, is_itself, off, on, at_push, at_named, gone}
use Rattle.lks_law.proofs.Keyed.{others_without, apart_without, apart_push, at_changed, apart_changed}
use Rattle.lks_law.proofs.Phases.{Phase, phase, turned_in, phase_quiet, phase_other, phase_mine, nothing_said}
use Rattle.lks_law.proofs.Phases.{version_stays, newest_is, version_grows, deposit_stays}

-- What the state has of a poll in this phase.

abbrev pub session_by : Rules → PollName → Option Join → Option Commitment → Bool → Option Session
session_by rules q None c over = None
session_by rules q (Some j) (Some c) over = None
session_by rules q (Some j) None over = cond over None (Some (joined_as rules q j))

abbrev pub session_in : Rules → PollName → Phase → Option Session
session_in rules q p = session_by rules q p.join p.commitment p.over

abbrev pub pinned_as : Rules → List Record → PollName → Join → Commitment → Pinned
pinned_as rules js q j c = pinned_to c (contents_at j.au c.version js) (joined_as rules q j)

abbrev pub pinned_by : Rules → List Record → PollName → Option Join → Option Commitment → Option (List (List ℕ))
    → Bool → Option Pinned
pinned_by rules js q None c h over = None
pinned_by rules js q (Some j) None h over = None
pinned_by rules js q (Some j) (Some c) (Some h) over = None
pinned_by rules js q (Some j) (Some c) None over = cond over None (Some (pinned_as rules js q j c))

abbrev pub pinned_in : Rules → List Record → PollName → Phase → Option Pinned
pinned_in rules js q p = pinned_by rules js q p.join p.commitment p.hashes p.over

abbrev pub cast_by : Rules → List Record → PollName → Option Join → Option Commitment → Option (List (List ℕ))
    → List ℕ → Bool → Option Cast
cast_by rules js q None c h given over = None
cast_by rules js q (Some j) None h given over = None
cast_by rules js q (Some j) (Some c) None given over = None
cast_by rules js q (Some j) (Some c) (Some h) given over =
    cond over None (Some (cast_as h given (pinned_as rules js q j c)))

abbrev pub cast_in : Rules → List Record → PollName → Phase → Option Cast
cast_in rules js q p = cast_by rules js q p.join p.commitment p.hashes p.served p.over

-- What every phase has: each step comes after the one before it, on an AU that is held.
pub record IsProper (js : List Record) (p : Phase) : Type 0 where
  pub committed : is_some p.commitment ≡ true → is_some p.join ≡ true
  pub voted : is_some p.hashes ≡ true → is_some p.commitment ≡ true
  pub over : p.over ≡ true → is_some p.join ≡ true
  pub gave : is_some p.hashes ≡ false → p.served ≡ []
  pub held : (j : Join) → p.join ≡ Some j → is_some (deposit_of j.au js) ≡ true
  pub there : (j : Join) (c : Commitment) → p.join ≡ Some j → p.commitment ≡ Some c → c.version ≤ version_now j.au js

abbrev pub poll_of_session : Session → PollName
poll_of_session s = s.joined.poll

abbrev pub poll_of_pinned : Pinned → PollName
poll_of_pinned p = p.committed.joined.poll

abbrev pub poll_of_cast : Cast → PollName
poll_of_cast c = c.voted.committed.joined.poll

-- the sessions of the state in poll q are those of the journal
pub record TakesAt (rules : Rules) (js : List Record) (v : Voter) (q : PollName) : Type 0 where
  pub proper : IsProper js (phase q js)
  pub sessions : session_at q v.sessions ≡ session_in rules q (phase q js)
  pub pinned : pinned_at q v.pinned ≡ pinned_in rules js q (phase q js)
  pub cast : cast_at q v.cast ≡ cast_in rules js q (phase q js)

pub record AreApart (v : Voter) : Type 0 where
  pub sessions : Apart poll_of_session v.sessions
  pub pinned : Apart poll_of_pinned v.pinned
  pub cast : Apart poll_of_cast v.cast

-- Bare options.

pub none_of : {X : Type 0} (o : Option X) → is_some o ≡ false → o ≡ None
none_of None e = refl
none_of (Some x) e = absurd cc

-- what isn't there can't be
not_there : {X Y : Type 0} (o : Option X) (p : Option Y) → (is_some o ≡ true → is_some p ≡ true) → p ≡ None → o ≡ None
not_there None p leads e = refl
not_there (Some x) p leads e = absurd (let both : true ≡ false = sym (leads refl) ∙ ap is_some e in cc)

-- One record more, whatever it is, leaves the versions that are pinned.

module _ (js : List Record) (r : Record) (may : MayFollow js r) where
  pub version_kept : (q : PollName) (j : Join) (c : Commitment) → IsProper js (phase q js) → join_of q js ≡ Some j
      → commitment_of q js ≡ Some c
      → contents_at j.au c.version (js ++ r ∷ []) ≡ contents_at j.au c.version js
  version_kept q j c proper joins commits = by_record r may
    where
      low : c.version ≤ version_now j.au js
      low = proper.there j c joins commits

      by_record : (r : Record) → MayFollow js r
          → contents_at j.au c.version (js ++ r ∷ []) ≡ contents_at j.au c.version js
      by_record (Deposit au blocks) all = absurd (let both : Some j ≡ None = sym joins ∙ nothing_said q js all in cc)
      by_record (PollOpened number au nonce inner tick limits kind) may = version_stays j.au c.version js _ refl low
      by_record (Nominated number voter nominees) may = version_stays j.au c.version js _ refl low
      by_record (OuterOpened number outer) may = version_stays j.au c.version js _ refl low
      by_record (VoteIn number voter hashes) may = version_stays j.au c.version js _ refl low
      by_record (Shut number) may = version_stays j.au c.version js _ refl low
      by_record (Asked number block voter) may = version_stays j.au c.version js _ refl low
      by_record (RepairBad number block voter) may = version_stays j.au c.version js _ refl low
      by_record (Replaced number au block bytes) may = version_stays j.au c.version js _ refl low
      by_record (Closed number outcome tick) may = version_stays j.au c.version js _ refl low
      by_record (Overdue au tick) may = version_stays j.au c.version js _ refl low
      by_record (Joined poll au tick low' repairs) may = version_stays j.au c.version js _ refl low
      by_record (Committed poll nonce version kind) may = version_stays j.au c.version js _ refl low
      by_record (Voted poll hashes) may = version_stays j.au c.version js _ refl low
      by_record (Served poll block) may = version_stays j.au c.version js _ refl low
      by_record (Ended poll) may = version_stays j.au c.version js _ refl low
      by_record (Tuned quorum minority repairs) may = version_stays j.au c.version js _ refl low

  pub pinned_kept : (rules : Rules) (q : PollName) → IsProper js (phase q js)
      → pinned_in rules (js ++ r ∷ []) q (phase q js) ≡ pinned_in rules js q (phase q js)
  pinned_kept rules q proper = by_phase (join_of q js) refl (commitment_of q js) refl (hashes_of_vote q js)
    where
      by_phase : (j : Option Join) → join_of q js ≡ j → (c : Option Commitment) → commitment_of q js ≡ c
          → (h : Option (List (List ℕ)))
          → pinned_by rules (js ++ r ∷ []) q j c h (is_ended q js) ≡ pinned_by rules js q j c h (is_ended q js)
      by_phase None joins c commits h = refl
      by_phase (Some j) joins None commits h = refl
      by_phase (Some j) joins (Some c) commits (Some h) = refl
      by_phase (Some j) joins (Some c) commits None =
          ap (λ bs. cond (is_ended q js) None (Some (pinned_to c bs (joined_as rules q j))))
          (version_kept q j c proper joins commits)

  pub cast_kept : (rules : Rules) (q : PollName) → IsProper js (phase q js)
      → cast_in rules (js ++ r ∷ []) q (phase q js) ≡ cast_in rules js q (phase q js)
  cast_kept rules q proper = by_phase (join_of q js) refl (commitment_of q js) refl (hashes_of_vote q js)
    where
      by_phase : (j : Option Join) → join_of q js ≡ j → (c : Option Commitment) → commitment_of q js ≡ c
          → (h : Option (List (List ℕ)))
          → cast_by rules (js ++ r ∷ []) q j c h (served_blocks q js) (is_ended q js)
          ≡ cast_by rules js q j c h (served_blocks q js) (is_ended q js)
      by_phase None joins c commits h = refl
      by_phase (Some j) joins None commits h = refl
      by_phase (Some j) joins (Some c) commits None = refl
      by_phase (Some j) joins (Some c) commits (Some h) =
          ap (λ bs. cond (is_ended q js) None
          (Some (cast_as h (served_blocks q js) (pinned_to c bs (joined_as rules q j)))))
          (version_kept q j c proper joins commits)

  -- where nothing is said of a poll, its phase stays proper
  pub proper_kept : (q : PollName) → IsProper js (phase q js) → IsProper (js ++ r ∷ []) (phase q js)
  proper_kept q proper = record {
    committed = proper.committed;
    voted = proper.voted;
    over = proper.over;
    gave = proper.gave;
    held = λ j is. deposit_stays j.au js r (proper.held j is);
    there =
        λ j c joins commits. let low = proper.there j c joins commits in let more = version_grows j.au js r in
        omega (arith, low, more);
  }

-- A record that says nothing of any part.

pub quiet_at : (rules : Rules) (js : List Record) (r : Record) (v : Voter) (q : PollName) → MayFollow js r
    → part_of r ≡ None → TakesAt rules js v q → TakesAt rules (js ++ r ∷ []) v q
quiet_at rules js r v q may none is =
    let same = phase_quiet q js r none in
    record {
      proper = subst (IsProper _) (sym same) (proper_kept js r may q is.proper);
      sessions = is.sessions ∙ ap (session_in rules q) (sym same);
      pinned =
          is.pinned ∙ sym (pinned_kept js r may rules q is.proper)
          ∙ ap (pinned_in rules _ q) (sym same);
      cast = is.cast ∙ sym (cast_kept js r may rules q is.proper) ∙ ap (cast_in rules _ q) (sym same);
    }

-- A turn in another poll.

module _ (rules : Rules) (blocks : ℕ → List (List ℕ)) (n q : PollName) (other : is_poll n q ≡ false) (v : Voter) where
  push_session : (s : Session) → s.joined.poll ≡ n → session_at q (v.sessions ++ s ∷ []) ≡ session_at q v.sessions
  push_session s is =
      at_push poll_of_session q v.sessions s
      ∙ ap (first (session_at q v.sessions))
      (off (is_poll s.joined.poll q) (Some s) None (ap (λ m. is_poll m q) is ∙ other))
      ∙ first_only (session_at q v.sessions)

  push_pinned : (p : Pinned) → p.committed.joined.poll ≡ n → pinned_at q (v.pinned ++ p ∷ []) ≡ pinned_at q v.pinned
  push_pinned p is =
      at_push poll_of_pinned q v.pinned p
      ∙ ap (first _) (off _ _ None (ap (λ m. is_poll m q) is ∙ other))
      ∙ first_only _

  push_cast : (c : Cast) → c.voted.committed.joined.poll ≡ n → cast_at q (v.cast ++ c ∷ []) ≡ cast_at q v.cast
  push_cast c is =
      at_push poll_of_cast q v.cast c
      ∙ ap (first _) (off _ _ None (ap (λ m. is_poll m q) is ∙ other))
      ∙ first_only _

  pinning_other : (c : Commitment) (o : Option Session) → session_at n v.sessions ≡ o
      → pinned_at q (v.pinned ++ pins_of blocks c o) ≡ pinned_at q v.pinned
  pinning_other c None e = ap (pinned_at q) (append-nil v.pinned)
  pinning_other c (Some s) e = push_pinned _ (at_named poll_of_session n v.sessions s e)

  casting_other : (hashes : List (List ℕ)) (o : Option Pinned) → pinned_at n v.pinned ≡ o
      → cast_at q (v.cast ++ casts_of hashes o) ≡ cast_at q v.cast
  casting_other hashes None e = ap (cast_at q) (append-nil v.cast)
  casting_other hashes (Some p) e = push_cast _ (at_named poll_of_pinned n v.pinned p e)

  others_sessions : (t : Turn) → session_at q (after_turn rules blocks n t v).sessions ≡ session_at q v.sessions
  others_sessions (Turn.Joins j) = push_session _ refl
  others_sessions (Turn.Commits c) = others_without poll_of_session n q v.sessions other
  others_sessions (Turn.Votes hashes) = refl
  others_sessions (Turn.Serves block) = refl
  others_sessions Turn.Ends = others_without poll_of_session n q v.sessions other

  others_pinned : (t : Turn) → pinned_at q (after_turn rules blocks n t v).pinned ≡ pinned_at q v.pinned
  others_pinned (Turn.Joins j) = refl
  others_pinned (Turn.Commits c) = pinning_other c _ refl
  others_pinned (Turn.Votes hashes) = others_without poll_of_pinned n q v.pinned other
  others_pinned (Turn.Serves block) = refl
  others_pinned Turn.Ends = others_without poll_of_pinned n q v.pinned other

  others_cast : (t : Turn) → cast_at q (after_turn rules blocks n t v).cast ≡ cast_at q v.cast
  others_cast (Turn.Joins j) = refl
  others_cast (Turn.Commits c) = refl
  others_cast (Turn.Votes hashes) = casting_other hashes _ refl
  others_cast (Turn.Serves block) = at_changed poll_of_cast _ (λ c. refl) n q v.cast ∙ off _ _ _ other
  others_cast Turn.Ends = others_without poll_of_cast n q v.cast other

  pub turned_other : (js : List Record) (r : Record) (t : Turn) → MayFollow js r
      → part_of r ≡ Some (record { poll = n; turn = t }) → TakesAt rules js v q
      → TakesAt rules (js ++ r ∷ []) (after_turn rules blocks n t v) q
  turned_other js r t may says is =
      let same = phase_other q js r _ says other in
      record {
        proper = subst (IsProper _) (sym same) (proper_kept js r may q is.proper);
        sessions = others_sessions t ∙ is.sessions ∙ ap (session_in rules q) (sym same);
        pinned =
            others_pinned t ∙ is.pinned ∙ sym (pinned_kept js r may rules q is.proper)
            ∙ ap (pinned_in rules _ q) (sym same);
        cast =
            others_cast t ∙ is.cast ∙ sym (cast_kept js r may rules q is.proper)
            ∙ ap (cast_in rules _ q) (sym same);
      }

-- A turn in this poll.

abbrev begun : Phase
begun = record { join = None; commitment = None; hashes = None; served = []; over = false }

abbrev joined : Join → Phase
joined j = record { join = Some j; commitment = None; hashes = None; served = []; over = false }

abbrev committed : Join → Commitment → Phase
committed j c = record { join = Some j; commitment = Some c; hashes = None; served = []; over = false }

abbrev voted : Join → Commitment → List (List ℕ) → List ℕ → Phase
voted j c h given = record { join = Some j; commitment = Some c; hashes = Some h; served = given; over = false }

pub some_of : {X : Type 0} (o : Option X) → is_some o ≡ true → (x : X) × (o ≡ Some x)
some_of None e = absurd cc
some_of (Some x) e = (x, refl)

is_off : (b : Bool) → (b ≡ true → ⊥) → b ≡ false
is_off false never = refl
is_off true never = absurd (never refl)

pub turned_off : (b : Bool) → not b ≡ true → b ≡ false
turned_off false e = refl
turned_off true e = absurd cc

module _ (js : List Record) (n : PollName) (proper : IsProper js (phase n js)) where
  pub begun_phase : join_of n js ≡ None → phase n js ≡ begun
  begun_phase e =
      let commits : commitment_of n js ≡ None = not_there (commitment_of n js) (join_of n js) proper.committed e in
      let votes : hashes_of_vote n js
      ≡ None = not_there (hashes_of_vote n js) (commitment_of n js) proper.voted commits in
      let ends : is_ended n js
      ≡ false = is_off (is_ended n js)
      (λ over. let both : true ≡ false = sym (proper.over over) ∙ ap is_some e in cc) in
      λ i.
      record {
        join = e i;
        commitment = commits i;
        hashes = votes i;
        served = proper.gave (ap is_some votes) i;
        over = ends i;
      }

  pub joined_phase : is_session n js ≡ true → commitment_of n js ≡ None → (j : Join) × (phase n js ≡ joined j)
  unfolding is_session
  joined_phase opened commits =
      let parts = and_parts _ _ opened in
      let found = some_of _ parts.0 in
      let votes : hashes_of_vote n js
      ≡ None = not_there _ _ proper.voted commits in (
        found.0,
        λ i.
            record {
              join = found.1 i;
              commitment = commits i;
              hashes = votes i;
              served = proper.gave (ap is_some votes) i;
              over = turned_off _ parts.1 i;
            },
      )

  pub committed_phase : may_work n js ≡ true → (j : Join) × (c : Commitment) × (phase n js ≡ committed j c)
  unfolding is_session may_work
  committed_phase may =
      let rest = and_parts _
      _ may in
      let opened = and_parts _ _ rest.0 in
      let parts = and_parts _ _ opened.0 in
      let join = some_of _ parts.0 in
      let commitment = some_of _ opened.1 in
      let votes : is_some _ ≡ false = turned_off _ rest.1 in (
        join.0,
        commitment.0,
        λ i.
            record {
              join = join.1 i;
              commitment = commitment.1 i;
              hashes = none_of _ votes i;
              served = proper.gave votes i;
              over = turned_off _ parts.1 i;
            },
      )

  pub voted_phase : is_session n js ≡ true → is_some (hashes_of_vote n js) ≡ true
      → (j : Join) × (c : Commitment) × (h : List (List ℕ)) × (phase n js ≡ voted j c h (served_blocks n js))
  unfolding is_session
  voted_phase opened votes =
      let parts = and_parts _ _ opened in
      let join = some_of _ parts.0 in
      let commitment = some_of _ (proper.voted votes) in
      let hashes = some_of _ votes in (
        join.0,
        commitment.0,
        hashes.0,
        λ i.
            record {
              join = join.1 i;
              commitment = commitment.1 i;
              hashes = hashes.1 i;
              served = served_blocks n js;
              over = turned_off _ parts.1 i;
            },
      )

module _ (rules : Rules) (js : List Record) (r : Record) (n : PollName) (v w : Voter) where
  -- with another phase
  at_phase : (p : Phase) → phase n (js ++ r ∷ []) ≡ p → IsProper (js ++ r ∷ []) p
      → session_at n w.sessions ≡ session_in rules n p → pinned_at n w.pinned ≡ pinned_in rules (js ++ r ∷ []) n p
      → cast_at n w.cast ≡ cast_in rules (js ++ r ∷ []) n p → TakesAt rules (js ++ r ∷ []) w n
  at_phase p is proper sessions pinned cast = record {
    proper = subst (IsProper (js ++ r ∷ [])) (sym is) proper;
    sessions = sessions ∙ ap (session_in rules n) (sym is);
    pinned = pinned ∙ ap (pinned_in rules (js ++ r ∷ []) n) (sym is);
    cast = cast ∙ ap (cast_in rules (js ++ r ∷ []) n) (sym is);
  }

module _ (rules : Rules) (blocks : ℕ → List (List ℕ)) (js : List Record) (r : Record) (n : PollName) (v : Voter)
    (is : TakesAt rules js v n) (apart : AreApart v) (nothing_new : (au : ℕ) → deposit_in au r ≡ None) where
  joins_mine : (j : Join) → part_of r ≡ Some (record { poll = n; turn = Turn.Joins j }) → join_of n js ≡ None
      → is_some (deposit_of j.au js) ≡ true
      → TakesAt rules (js ++ r ∷ []) (after_turn rules blocks n (Turn.Joins j) v) n
  joins_mine j says new held =
      let before = begun_phase js n is.proper new in
      at_phase rules js r n v (after_turn rules blocks n (Turn.Joins j) v) (joined j)
      (phase_mine n js r (Turn.Joins j) says ∙ ap (turned_in (Turn.Joins j)) before)
      (record {
        committed = λ e. absurd cc;
        voted = λ e. absurd cc;
        over = λ e. absurd cc;
        gave = λ e. refl;
        held =
            λ k e. let same : j ≡ k = cc in
            subst (λ k. is_some (deposit_of k.au (js ++ r ∷ [])) ≡ true) same (deposit_stays j.au js r held);
        there = λ k c joins commits. absurd cc;
      })
      (at_push poll_of_session n v.sessions (joined_as rules n j)
      ∙ (λ i. first ((is.sessions ∙ ap (session_in rules n) before) i)
      (on (is_poll n n) (Some (joined_as rules n j)) None (is_itself n) i)))
      (is.pinned ∙ ap (pinned_in rules js n) before)
      (is.cast ∙ ap (cast_in rules js n) before)

  commits_mine : (c : Commitment) → part_of r ≡ Some (record { poll = n; turn = Turn.Commits c })
      → is_session n js ≡ true → commitment_of n js ≡ None
      → option_map (λ j. version_now j.au js) (join_of n js) ≡ Some c.version
      → ((au : ℕ) → blocks au ≡ contents_of au js)
      → TakesAt rules (js ++ r ∷ []) (after_turn rules blocks n (Turn.Commits c) v) n
  commits_mine c says opened new newest are =
      let shape = joined_phase js n is.proper opened new in
      let j : Join = shape.0 in
      let before : phase n js ≡ joined j = shape.1 in
      let version : version_now j.au js
      ≡ c.version = (let e : Some _
      ≡ Some c.version = ap (option_map _)
      (sym (ap (λ (p : Phase). p.join) before))
      ∙ newest in cc) in
      let found : session_at n v.sessions ≡ Some (joined_as rules n j) = is.sessions ∙ ap (session_in rules n) before in
      let same : contents_at j.au c.version _ ≡ blocks j.au =
      version_stays j.au c.version js r (nothing_new j.au) (omega (arith, version))
      ∙ ap (λ k. contents_at j.au k js) (sym version) ∙ newest_is j.au js ∙ sym (are j.au) in
      at_phase rules js r n v _ _
      (phase_mine n js r _ says ∙ ap (turned_in (Turn.Commits c)) before)
      (record {
        committed = λ e. refl;
        voted = λ e. absurd cc;
        over = λ e. absurd cc;
        gave = λ e. refl;
        held =
            λ k e. let same : j ≡ k = cc in
            subst (λ k. is_some (deposit_of k.au (js ++ r ∷ [])) ≡ true) same
            (deposit_stays j.au js r (is.proper.held j (ap (λ (p : Phase). p.join) before)));
        there = λ k d joins commits.
            let one : j ≡ k = cc in let two : c ≡ d = cc in
            let grows = version_grows j.au js r in
            subst (λ k. d.version ≤ version_now k.au (js ++ r ∷ [])) one
            (subst (λ d. d.version ≤ version_now j.au (js ++ r ∷ [])) two (omega (arith, grows, version)));
      })
      (gone poll_of_session n v.sessions apart.sessions)
      (ap (λ o. pinned_at n (v.pinned ++ pins_of blocks c o)) found
      ∙ at_push poll_of_pinned n v.pinned _
      ∙ (λ i. first ((is.pinned ∙ ap (pinned_in rules js n) before) i)
      (on _ (Some (pinned_to c (sym same i) (joined_as rules n j))) None (is_itself n) i)))
      (is.cast ∙ ap (cast_in rules js n) before)

  -- the version that was named before the record
  kept_as : (j : Join) (c : Commitment) → MayFollow js r → join_of n js ≡ Some j → commitment_of n js ≡ Some c
      → pinned_as rules (js ++ r ∷ []) n j c ≡ pinned_as rules js n j c
  kept_as j c may joins commits =
      ap (λ bs. pinned_to c bs (joined_as rules n j)) (version_kept js r may n j c is.proper joins commits)

  proper_on : (j : Join) (c : Commitment) (h : Option (List (List ℕ))) (given : List ℕ) (over : Bool)
      → join_of n js ≡ Some j → commitment_of n js ≡ Some c → (is_some h ≡ false → given ≡ [])
      → IsProper (js ++ r ∷ []) (record { join = Some j; commitment = Some c; hashes = h; served = given; over = over })
  proper_on j c h given over joins commits none = record {
    committed = λ e. refl;
    voted = λ e. refl;
    over = λ e. refl;
    gave = none;
    held =
        λ k e. let same : j ≡ k = cc in
        subst (λ k. is_some (deposit_of k.au (js ++ r ∷ [])) ≡ true) same
        (deposit_stays j.au js r (is.proper.held j joins));
    there = λ k d e f.
        let one : j ≡ k = cc in let two : c ≡ d = cc in
        let low = is.proper.there j c joins commits in
        let grows = version_grows j.au js r in
        subst (λ k. d.version ≤ version_now k.au (js ++ r ∷ [])) one
        (subst (λ d. d.version ≤ version_now j.au (js ++ r ∷ [])) two (omega (arith, low, grows)));
  }

  votes_mine : (hashes : List (List ℕ)) → MayFollow js r
      → part_of r ≡ Some (record { poll = n; turn = Turn.Votes hashes }) → may_work n js ≡ true
      → TakesAt rules (js ++ r ∷ []) (after_turn rules blocks n (Turn.Votes hashes) v) n
  votes_mine hashes may says works =
      let shape = committed_phase js n is.proper works in
      let j : Join = shape.0 in
      let c : Commitment = shape.1 in
      let before : phase n js ≡ committed j c = shape.2 in
      let joins : join_of n js ≡ Some j = ap (λ (p : Phase). p.join) before in
      let commits : commitment_of n js ≡ Some c = ap (λ (p : Phase). p.commitment) before in
      at_phase rules js r n v _ _
      (phase_mine n js r _ says ∙ ap (turned_in (Turn.Votes hashes)) before)
      (proper_on j c _ [] false joins commits (λ e. refl))
      (is.sessions ∙ ap (session_in rules n) before)
      (gone poll_of_pinned n v.pinned apart.pinned)
      (ap (λ o. cast_at n (v.cast ++ casts_of hashes o)) (is.pinned ∙ ap (pinned_in rules js n) before)
      ∙ at_push poll_of_cast n v.cast _
      ∙ (λ i. first ((is.cast ∙ ap (cast_in rules js n) before) i)
      (on _ (Some (cast_as hashes [] (sym (kept_as j c may joins commits) i))) None (is_itself n)
      i)))

  serves_mine : (block : ℕ) → MayFollow js r → part_of r ≡ Some (record { poll = n; turn = Turn.Serves block })
      → is_session n js ≡ true → is_some (hashes_of_vote n js) ≡ true
      → TakesAt rules (js ++ r ∷ []) (after_turn rules blocks n (Turn.Serves block) v) n
  serves_mine block may says opened votes =
      let shape = voted_phase js n is.proper opened votes in
      let j : Join = shape.0 in
      let c : Commitment = shape.1 in
      let h : List _ = shape.2 in
      let before : phase n js ≡ voted j c h _ = shape.3 in
      let joins : join_of n js ≡ Some j = ap (λ (p : Phase). p.join) before in
      let commits : commitment_of n js ≡ Some c = ap (λ (p : Phase). p.commitment) before in
      at_phase rules js r n v _
      _
      (phase_mine n js r _ says ∙ ap (turned_in (Turn.Serves block)) before)
      (proper_on j c _ _ false joins commits (λ e. absurd cc))
      (is.sessions ∙ ap (session_in rules n) before)
      (is.pinned ∙ ap (pinned_in rules js n) before)
      (at_changed poll_of_cast _ (λ c. refl) n n v.cast
      ∙ on _ _ _ (is_itself n)
      ∙ ap (option_map _) (is.cast ∙ ap (cast_in rules js n) before)
      ∙ ap (λ p. Some (cast_as h (served_blocks n js ++ block ∷ []) p)) (sym (kept_as j c may joins commits)))

  ends_mine : part_of r ≡ Some (record { poll = n; turn = Turn.Ends }) → MayFollow js r → is_session n js ≡ true
      → TakesAt rules (js ++ r ∷ []) (after_turn rules blocks n Turn.Ends v) n
  unfolding is_session
  ends_mine says may opened =
      let parts = and_parts _ _ opened in
      at_phase rules js r n v _ _
      (phase_mine n js r Turn.Ends says)
      (let stays = proper_kept js r may n is.proper in record {
        committed = stays.committed;
        voted = stays.voted;
        over = λ e. parts.0;
        gave = stays.gave;
        held = stays.held;
        there = stays.there;
      })
      (gone poll_of_session n v.sessions apart.sessions ∙ sym (no_session (join_of n js) (commitment_of n js)))
      (gone poll_of_pinned n v.pinned apart.pinned
      ∙ sym (no_pinned (join_of n js) (commitment_of n js) (hashes_of_vote n js)))
      (gone poll_of_cast n v.cast apart.cast ∙ sym (no_cast (join_of n js) (commitment_of n js) (hashes_of_vote n js)))
    where
      no_session : (j : Option Join) (c : Option Commitment) → session_by rules n j c true ≡ None
      no_session None c = refl
      no_session (Some j) None = refl
      no_session (Some j) (Some c) = refl

      no_pinned : (j : Option Join) (c : Option Commitment) (h : Option (List (List ℕ)))
          → pinned_by rules (js ++ r ∷ []) n j c h true ≡ None
      no_pinned None c h = refl
      no_pinned (Some j) None h = refl
      no_pinned (Some j) (Some c) None = refl
      no_pinned (Some j) (Some c) (Some h) = refl

      no_cast : (j : Option Join) (c : Option Commitment) (h : Option (List (List ℕ)))
          → cast_by rules (js ++ r ∷ []) n j c h (served_blocks n js) true ≡ None
      no_cast None c h = refl
      no_cast (Some j) None h = refl
      no_cast (Some j) (Some c) None = refl
      no_cast (Some j) (Some c) (Some h) = refl

-- One record more.

module _ (rules : Rules) (blocks : ℕ → List (List ℕ)) (js : List Record) (v : Voter)
    (are : (au : ℕ) → blocks au ≡ contents_of au js) (is : (q : PollName) → TakesAt rules js v q)
    (apart : AreApart v) where
  by_name : (r : Record) (n : PollName) (t : Turn) → MayFollow js r
      → part_of r ≡ Some (record { poll = n; turn = t })
      → TakesAt rules (js ++ r ∷ []) (after_turn rules blocks n t v) n
      → (q : PollName) → TakesAt rules (js ++ r ∷ []) (after_turn rules blocks n t v) q
  by_name r n t may says mine q = by_test (is_poll n q) refl
    where
      by_test : (b : Bool) → is_poll n q ≡ b → TakesAt rules (js ++ r ∷ []) (after_turn rules blocks n t v) q
      by_test true e = subst (TakesAt rules (js ++ r ∷ []) (after_turn rules blocks n t v)) (same_poll n q e) mine
      by_test false e = turned_other rules blocks n q e v js r t may says (is q)

  pub turned_at : (r : Record) → MayFollow js r → (q : PollName)
      → TakesAt rules (js ++ r ∷ []) (turned_by rules blocks (part_of r) v) q
  turned_at (Joined n au tick low repairs) may q =
      let r : Record = Joined n au tick low repairs in
      let j : Join = record { au = au; tick = tick; low = low; repairs = repairs } in
      by_name r n _ may refl
      (joins_mine rules blocks js r n v (is n) apart (λ a. refl) j refl may.0 may.1) q
  turned_at (Committed n nonce version kind) may q =
      let r : Record = Committed n nonce version kind in
      let c : Commitment = record { nonce = nonce; version = version; kind = kind } in
      by_name r n _ may refl
      (commits_mine rules blocks js r n v (is n) apart (λ a. refl) c refl may.0 may.1 may.2 are) q
  turned_at (Voted n hashes) may q =
      let r : Record = Voted n hashes in
      by_name r n _ may refl
      (votes_mine rules blocks js r n v (is n) apart (λ a. refl) hashes may refl may) q
  turned_at (Served n block) may q =
      let r : Record = Served n block in
      by_name r n _ may refl
      (serves_mine rules blocks js r n v (is n) apart (λ a. refl) block may refl may.0 may.1) q
  turned_at (Ended n) may q =
      let r : Record = Ended n in
      by_name r n Turn.Ends may refl (ends_mine rules blocks js r n v (is n) apart (λ a. refl) refl may may) q
  turned_at (Deposit au blocks) may q = quiet_at rules js _ v q may refl (is q)
  turned_at (PollOpened number au nonce inner tick limits kind) may q = quiet_at rules js _ v q may refl (is q)
  turned_at (Nominated number voter nominees) may q = quiet_at rules js _ v q may refl (is q)
  turned_at (OuterOpened number outer) may q = quiet_at rules js _ v q may refl (is q)
  turned_at (VoteIn number voter hashes) may q = quiet_at rules js _ v q may refl (is q)
  turned_at (Shut number) may q = quiet_at rules js _ v q may refl (is q)
  turned_at (Asked number block voter) may q = quiet_at rules js _ v q may refl (is q)
  turned_at (RepairBad number block voter) may q = quiet_at rules js _ v q may refl (is q)
  turned_at (Replaced number au block bytes) may q = quiet_at rules js _ v q may refl (is q)
  turned_at (Closed number outcome tick) may q = quiet_at rules js _ v q may refl (is q)
  turned_at (Overdue au tick) may q = quiet_at rules js _ v q may refl (is q)
  turned_at (Tuned quorum minority repairs) may q = quiet_at rules js _ v q may refl (is q)

  apart_pinning : (n : PollName) (c : Commitment) (o : Option Session) → session_at n v.sessions ≡ o
      → pinned_at n v.pinned ≡ None → Apart poll_of_pinned (v.pinned ++ pins_of blocks c o)
  apart_pinning n c None found new = subst (Apart poll_of_pinned) (sym (append-nil v.pinned)) apart.pinned
  apart_pinning n c (Some s) found new =
      apart_push poll_of_pinned v.pinned _ apart.pinned
      (ap (λ m. pinned_at m v.pinned) (at_named poll_of_session n v.sessions s found) ∙ new)

  apart_casting : (n : PollName) (hashes : List (List ℕ)) (o : Option Pinned) → pinned_at n v.pinned ≡ o
      → cast_at n v.cast ≡ None → Apart poll_of_cast (v.cast ++ casts_of hashes o)
  apart_casting n hashes None found new = subst (Apart poll_of_cast) (sym (append-nil v.cast)) apart.cast
  apart_casting n hashes (Some p) found new =
      apart_push poll_of_cast v.cast _ apart.cast
      (ap (λ m. cast_at m v.cast) (at_named poll_of_pinned n v.pinned p found) ∙ new)

  pub turned_apart : (r : Record) → MayFollow js r → AreApart (turned_by rules blocks (part_of r) v)
  turned_apart (Joined n au tick low repairs) may =
      record {
        sessions =
            apart_push poll_of_session v.sessions _ apart.sessions
            ((is n).sessions ∙ ap (session_in rules n) (begun_phase js n (is n).proper may.0));
        pinned = apart.pinned;
        cast = apart.cast;
      }
  turned_apart (Committed n nonce version kind) may =
      let shape = joined_phase js n (is n).proper may.0 may.1 in
      record {
        sessions = apart_without poll_of_session n v.sessions apart.sessions;
        pinned =
            apart_pinning n _ _ refl ((is n).pinned ∙ ap (pinned_in rules js n) shape.1);
        cast = apart.cast;
      }
  turned_apart (Voted n hashes) may =
      let shape = committed_phase js n (is n).proper may in
      record {
        sessions = apart.sessions;
        pinned = apart_without poll_of_pinned n v.pinned apart.pinned;
        cast = apart_casting n hashes _ refl ((is n).cast ∙ ap (cast_in rules js n) shape.2);
      }
  turned_apart (Served n block) may =
      record {
        sessions = apart.sessions;
        pinned = apart.pinned;
        cast = apart_changed poll_of_cast _ (λ c. refl) n v.cast apart.cast;
      }
  turned_apart (Ended n) may =
      record {
        sessions = apart_without poll_of_session n v.sessions apart.sessions;
        pinned = apart_without poll_of_pinned n v.pinned apart.pinned;
        cast = apart_without poll_of_cast n v.cast apart.cast;
      }
  turned_apart (Deposit au blocks) may = apart
  turned_apart (PollOpened number au nonce inner tick limits kind) may = apart
  turned_apart (Nominated number voter nominees) may = apart
  turned_apart (OuterOpened number outer) may = apart
  turned_apart (VoteIn number voter hashes) may = apart
  turned_apart (Shut number) may = apart
  turned_apart (Asked number block voter) may = apart
  turned_apart (RepairBad number block voter) may = apart
  turned_apart (Replaced number au block bytes) may = apart
  turned_apart (Closed number outcome tick) may = apart
  turned_apart (Overdue au tick) may = apart
  turned_apart (Tuned quorum minority repairs) may = apart
