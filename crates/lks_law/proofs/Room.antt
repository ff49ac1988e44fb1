-- A journal that is short enough leaves room for a record more, so each of its records fits the state before it.
use Rattle.std.proofs.Common.{◌≡◌, ◌≤◌, ◌<◌, ◌+◌, ◌∙◌, inl, inr, ap, sym, subst, ℕ, suc, Bool, true, false, cond, eqb}
use Rattle.std.proofs.Common.{ltb, List, [], ◌∷◌, ◌++◌, length, refl, arith, length-append}
use Rattle.std.specs.Prelude.{Option, Some, None, is_some, unwrap_or, map, find, slice_get, ◌&&◌, nat_le, All}
use Rattle.std.specs.List.{list_all, filter_map, cons_option}
use Rattle.std.proofs.lemmas.Bool.{and_from, leb-true, lt-ltb}
use Rattle.std.proofs.lemmas.List.Elements.{All-nil, All-cons, All-append, All-head, All-tail, All-weaker}
use Rattle.lks_base.proofs.PlanBounds.{good_rules, sound_copy}
use Rattle.lks_base.proofs.PlanLaws.{no_first, stands}
use Rattle.lks_base.specs.Checking.{plan_fault, are_bounded}
use Rattle.lks_base.specs.declared.limits.TheConstants.{MOST_CIRCLE, MOST_REPAIRS, MOST_TICKS}
use Rattle.lks_base.specs.declared.names.Outcome.TheVariants.{Agreed, Inquorate, Split, NoSupplier}
use Rattle.lks_base.specs.declared.plans.AuPlan.{AuPlan}
use Rattle.lks_base.specs.declared.plans.Holding.{Holding}
use Rattle.lks_base.specs.declared.plans.PeerPlan.{PeerPlan}
use Rattle.lks_base.specs.declared.plans.Plan.{Plan}
use Rattle.lks_base.specs.declared.reactions.Input.{Input}
use Rattle.lks_base.specs.declared.reactions.Reaction.{Reaction}
use Rattle.lks_base.specs.declared.records.Record.{Record}
use Rattle.lks_base.specs.declared.records.Record.TheVariants as records
use Rattle.lks_law.specs.Facts.{Heard, unnumbered, AddsFor, GoesBy, IsJournalOf}
use Rattle.lks_law.specs.Firsts.{changed_first}
use Rattle.lks_law.specs.Fitting.{Fits, AreFitting, IsSound, has_mark_left, has_room, most_numbered}
use Rattle.lks_law.specs.Journal.{is_opening, openings}
use Rattle.lks_law.specs.Reaction.{no_effect, may_open, opens_poll, on_open}
use Rattle.lks_law.specs.Polls.{Station}
use Rattle.lks_law.specs.State.{Poll, Copy, State, copy_at, poll_at, deposited_copy}
use Rattle.lks_law.specs.State.{agreed_on, noted_overdue, copies_after, after, after_all, blank, state_of}
use Rattle.lks_law.specs.Table.{react_on, reaction}
use Rattle.lks_law.specs.Taking.{Mark, mark_at, mark_put, marked_received, marked_given}
use Rattle.lks_law.specs.World.{station_of, deposit_for, deposits, honest_peer}
use Rattle.lks_law.specs.Written.{AreWritten}
use Rattle.lks_law.proofs.Fitting.{sound_after, reaction_fits}
use Rattle.lks_law.proofs.Starts.{IsSoundCopy}
use Rattle.lks_law.proofs.Unnumbered.{half, other_same}
use Rattle.lks_law.proofs.VoterAdds.{VoterAdds}
use Rattle.lks_law.proofs.VoterRows.{law as react_is}
use Rattle.lks_law.proofs.Writing.{written_by}

abbrev HasVersions : ℕ → Copy → Type 0
HasVersions n c = c.version ≤ n

abbrev HasMarks : ℕ → Mark → Type 0
HasMarks n m = (m.received ≤ n) × (m.given ≤ n)

-- no number that the state counts is above this one
record HasAtMost (n : ℕ) (s : State) : Type 0 where
  openings : s.openings ≤ n
  versions : All (HasVersions n) s.copies
  marks : All (HasMarks n) s.voter.marks

-- One record more counts one more.

changed_weaker : {X : Type 0} (P Q : X → Type 0) (test : X → Bool) (f : X → X) (xs : List X) → ((x : X) → P x → Q x)
    → ((x : X) → P x → Q (f x)) → All P xs → All Q (changed_first test f xs)
changed_weaker P Q test f [] still new all = All-nil Q
changed_weaker P Q test f (x ∷ xs) still new all =
    here (test x) (changed_weaker P Q test f xs still new (All-tail P x xs all))
  where
    here : (b : Bool) → All Q (changed_first test f xs) → All Q (cond b (f x ∷ xs) (x ∷ changed_first test f xs))
    here true rest = All-cons Q (f x) xs (new x (All-head P x xs all)) (All-weaker P Q still xs (All-tail P x xs all))
    here false rest = All-cons Q x _ (still x (All-head P x xs all)) rest

module _ (n : ℕ) where
  later_version : (c : Copy) → HasVersions n c → HasVersions (n + 1) c
  later_version c low = omega arith

  versions_stay : (cs : List Copy) → All (HasVersions n) cs → All (HasVersions (n + 1)) cs
  versions_stay cs all = All-weaker _ _ later_version cs all

  versions_change : (au : ℕ) (f : Copy → Copy) (cs : List Copy)
      → ((c : Copy) → HasVersions n c → HasVersions (n + 1) (f c)) → All (HasVersions n) cs
      → All (HasVersions (n + 1)) (changed_first (λ (c : Copy). eqb c.au au) f cs)
  versions_change au f cs new all = changed_weaker _ _ _ f cs later_version new all

  versions_after : (ps : List Poll) (r : Record) (cs : List Copy) → All (HasVersions n) cs
      → All (HasVersions (n + 1)) (copies_after ps r cs)
  versions_after ps (records.Deposit au blocks) cs all = here (copy_at au cs)
    where
      here : (o : Option Copy) → All (HasVersions (n + 1)) (cond (is_some o) cs (cs ++ deposited_copy au blocks ∷ []))
      here (Some c) = versions_stay cs all
      here None =
          All-append (HasVersions _) cs _ (versions_stay cs all) (All-cons (HasVersions (n + 1)) _ [] (omega arith)
          (All-nil _))
  versions_after ps (records.PollOpened number au nonce inner tick limits kind) cs all =
      versions_change au _ cs (λ c low. omega arith) all
  versions_after ps (records.Replaced number au block bytes) cs all =
      versions_change au _ cs (λ c low. omega arith) all
  versions_after ps (records.Closed number Agreed tick) cs all = here (poll_at number ps)
    where
      here : (o : Option Poll) → All (HasVersions (n + 1)) (agreed_on o tick cs)
      here None = versions_stay cs all
      here (Some p) = versions_change p.opening.au _ cs (λ c low. omega arith) all
  versions_after ps (records.Closed number Inquorate tick) cs all = versions_stay cs all
  versions_after ps (records.Closed number (Split block) tick) cs all = versions_stay cs all
  versions_after ps (records.Closed number (NoSupplier block) tick) cs all = versions_stay cs all
  versions_after ps (records.Overdue au tick) cs all = versions_change au noted_overdue cs (λ c low. omega arith) all
  versions_after ps r cs all = versions_stay cs all

  later_marks : (m : Mark) → HasMarks n m → HasMarks (n + 1) m
  later_marks m low = let one = low.0 in let two = low.1 in (omega arith, omega arith)

  marks_stay : (ms : List Mark) → All (HasMarks n) ms → All (HasMarks (n + 1)) ms
  marks_stay ms all = All-weaker _ _ later_marks ms all

  marks_at : (f : ℕ) (ms : List Mark) → All (HasMarks n) ms → HasMarks n (mark_at f ms)
  marks_at f [] all = (omega arith, omega arith)
  marks_at f (m ∷ ms) all = here (eqb m.peer f) (marks_at f ms (All-tail (HasMarks n) m ms all))
    where
      here : (b : Bool) → HasMarks n (mark_at f ms)
          → HasMarks n
          (unwrap_or (cond b (Some m) (find (λ (m : Mark). eqb m.peer f) ms))
          (record { peer = f; received = 0; given = 0 }))
      here true rest = All-head (HasMarks n) m ms all
      here false rest = rest

  marks_put : (m : Mark) (ms : List Mark) → HasMarks (n + 1) m → All (HasMarks n) ms
      → All (HasMarks (n + 1)) (mark_put m ms)
  marks_put m [] low all = All-cons _ m [] low (All-nil (HasMarks (n + 1)))
  marks_put m (x ∷ xs) low all = here (eqb x.peer m.peer) (marks_put m xs low (All-tail (HasMarks n) x xs all))
    where
      here : (b : Bool) → All (HasMarks (n + 1)) (mark_put m xs)
          → All (HasMarks (n + 1)) (cond b (m ∷ xs) (x ∷ mark_put m xs))
      here true rest = All-cons (HasMarks _) m xs low (marks_stay xs (All-tail (HasMarks n) x xs all))
      here false rest = All-cons (HasMarks _) x _ (later_marks x (All-head (HasMarks n) x xs all)) rest

  received_more : (f : ℕ) (ms : List Mark) → All (HasMarks n) ms → All (HasMarks (n + 1)) (marked_received f ms)
  received_more f ms all =
      let low = marks_at f ms all in let one = low.0 in let two = low.1 in
      marks_put _ ms (omega arith, omega arith)
      all

  given_more : (f : ℕ) (ms : List Mark) → All (HasMarks n) ms → All (HasMarks (n + 1)) (marked_given f ms)
  given_more f ms all =
      let low = marks_at f ms all in let one = low.0 in let two = low.1 in
      marks_put _ ms (omega arith, omega arith) all

  marks_after : (own : Station) (s : State) (r : Record) → All (HasMarks n) s.voter.marks
      → All (HasMarks (n + 1)) (after own s r).voter.marks
  unfolding after
  marks_after own s (records.VoteIn number voter hashes) all = received_more voter s.voter.marks all
  marks_after own s (records.Voted poll hashes) all = given_more poll.poller s.voter.marks all
  marks_after own s r all = marks_stay s.voter.marks all

  most_more : (own : Station) (s : State) (r : Record) → HasAtMost n s → HasAtMost (n + 1) (after own s r)
  unfolding after
  most_more own s r most = record {
    openings = by_test (is_opening r);
    versions = versions_after s.polls r s.copies most.versions;
    marks = marks_after own s r most.marks;
  }
    where
      by_test : (b : Bool) → cond b (s.openings + 1) s.openings ≤ n + 1
      by_test true = let low = most.openings in omega arith
      by_test false = let low = most.openings in omega arith

-- and there is room while that is below the last number

room_in : (n : ℕ) (s : State) → n < most_numbered → HasAtMost n s → has_room s ≡ true
room_in n s few most =
    and_from _ _ (and_from _ _
    (lt-ltb s.openings most_numbered (let low = most.openings in omega arith))
    (by_copies s.copies most.versions)) (by_marks s.voter.marks most.marks)
  where
    by_copies : (cs : List Copy) → All (HasVersions n) cs
        → list_all (λ (c : Copy). ltb c.version most_numbered) cs ≡ true
    by_copies [] all = refl
    by_copies (c ∷ cs) all =
        and_from _ _
        (lt-ltb c.version most_numbered (let low = All-head (HasVersions n) c cs all in omega (arith, low, few)))
        (by_copies cs (All-tail (HasVersions n) c cs all))

    by_marks : (ms : List Mark) → All (HasMarks n) ms → list_all has_mark_left ms ≡ true
    by_marks [] all = refl
    by_marks (m ∷ ms) all =
        let low = All-head (HasMarks n) m ms all in
        let one = low.0 in
        let two = low.1 in
        and_from _ _
        (and_from _ _
        (lt-ltb m.received most_numbered (omega (arith, one, few)))
        (lt-ltb m.given most_numbered (omega (arith, two, few))))
        (by_marks ms (All-tail (HasMarks n) m ms all))

-- Records that fit, one after another.

record IsFine (n : ℕ) (s : State) : Type 0 where
  sound : IsSound s
  most : HasAtMost n s

fine_all : (own : Station) (n : ℕ) (s : State) (rs : List Record) → AreFitting own s rs → IsFine n s
    → IsFine (n + length rs) (after_all own s rs)
fine_all own n s [] fits fine = subst (λ (k : ℕ). IsFine k s) (omega arith) fine
fine_all own n s (r ∷ rs) fits fine =
    subst (λ (k : ℕ). IsFine k (after_all own (after own s r) rs)) (omega arith) (fine_all own (n + 1) _ rs fits.1
    (record { sound = sound_after own s r fits.0 fine.sound; most = most_more n own s r fine.most }))

fit_more : (own : Station) (s : State) (xs ys : List Record) → AreFitting own s xs
    → AreFitting own (after_all own s xs) ys → AreFitting own s (xs ++ ys)
fit_more own s [] ys first next = next
fit_more own s (x ∷ xs) ys first next = (first.0, fit_more own (after own s x) xs ys first.1 next)

blank_most : (own : Station) → HasAtMost 0 (blank own)
blank_most own = record { openings = omega arith; versions = All-nil _; marks = All-nil _ }

most_all : (own : Station) (n : ℕ) (s : State) (rs : List Record) → HasAtMost n s
    → HasAtMost (n + length rs) (after_all own s rs)
most_all own n s [] most = subst (λ (k : ℕ). HasAtMost k s) (omega arith) most
most_all own n s (r ∷ rs) most =
    subst (λ (k : ℕ). HasAtMost k (after_all own (after own s r) rs)) (omega arith)
    (most_all own (n + 1) _ rs (most_more n own s r most))

-- a journal that is short enough leaves room
pub room_left : (own : Station) (journal : List Record) → length journal < most_numbered
    → has_room (state_of own journal) ≡ true
unfolding state_of
room_left own journal few = room_in _ _ (omega (arith, few)) (most_all own 0 _ journal (blank_most own))

rules_fit : (own : Station) (before : List Record) (h : Heard) → AreWritten [] before
    → AreFitting own (after_all own (blank own) before)
    (react_on own (after_all own (blank own) before) h.tick h.input).records
    → AreFitting own (after_all own (blank own) before) (reaction own before h.tick h.input).records
unfolding state_of
rules_fit own before h written fits =
    subst (λ (r : Reaction). AreFitting own (after_all own (blank own) before) r.records)
    (react_is own before written h.tick h.input) fits

-- What is added fits with its numbers and without.

one_lacking : (own : Station) (s : State) (r : Record) → Fits own s r → Fits own s (unnumbered r)
one_lacking own s (records.PollOpened number au nonce inner tick limits kind) fits = fits
one_lacking own s (records.Joined poll au tick low repairs) fits = fits
one_lacking own s r fits = fits

module _ (own : Station) (js : List Record) (s : State) where
  opening_lacking : (tick au : ℕ) → AreFitting own s (on_open own js tick au).records
      → AreFitting own s (map unnumbered (on_open own js tick au).records)
  unfolding on_open
  opening_lacking tick au = by_test (may_open own js tick au)
    where
      by_test : (b : Bool)
          → AreFitting own s (cond b (opens_poll own js tick au (openings js + 1)) no_effect).records
          → AreFitting own s
          (map unnumbered (cond b (opens_poll own js tick au (openings js + 1)) no_effect).records)
      by_test true fits = fits
      by_test false fits = tt

  voters_lacking : (rs : List Record) → VoterAdds js rs → AreFitting own s rs → AreFitting own s (map unnumbered rs)
  voters_lacking [] may fits = tt
  voters_lacking (r ∷ []) may fits = (one_lacking own s r fits.0, tt)
  voters_lacking (r ∷ q ∷ rs) may fits = absurd may

  all_lacking : (tick : ℕ) (i : Input) → AreFitting own s (reaction own js tick i).records
      → AreFitting own s (map unnumbered (reaction own js tick i).records)
  unfolding reaction
  all_lacking tick i fits = elim (half own js tick i) [
    | inl (au, opens)
        ↦ subst (λ (x : Input). AreFitting own s (map unnumbered (reaction own js tick x).records)) (sym opens)
        (opening_lacking tick au
        (subst (λ (x : Input). AreFitting own s (reaction own js tick x).records) opens fits))
    | inr (inl other) ↦ subst (AreFitting own s) (sym (other_same own js tick i other)) fits
    | inr (inr may) ↦ voters_lacking _ may fits
  ]

  added_fits : (h : Heard) (added : List Record) → AddsFor own js h added
      → AreFitting own s (reaction own js h.tick h.input).records → AreFitting own s added
  added_fits h added (inl is) fits = subst (AreFitting own s) (sym is) fits
  added_fits h added (inr lacks) fits = subst (AreFitting own s) (sym lacks.1) (all_lacking h.tick h.input fits)

-- Every journal.

goes_fitting : (own : Station) (aus : List AuPlan) (copies : List Holding) (heard : List Heard) (js : List Record)
    → own.rules.inner ≤ MOST_CIRCLE → IsSound (blank own) → AreFitting own (blank own) (deposits aus copies)
    → length js < most_numbered → GoesBy own (deposits aus copies) heard js → AreFitting own (blank own) js
goes_fitting own aus copies [] js few sound begun short is = subst (AreFitting own _) (sym is) begun
goes_fitting own aus copies (h ∷ hs) js few sound begun short (before, added, goes, heard, adds, is) =
    let count : length js ≡ length before + length added = ap length is ∙ length-append before added in
    let low : length before < most_numbered = omega (arith, count, short) in
    let fits : AreFitting own _ before = goes_fitting own aus copies hs before few sound begun low goes in
    let state = after_all own _ before in
    let fine : IsFine _ state = fine_all own 0 _ before fits
    (record { sound = sound; most = blank_most own }) in
    let room : has_room state ≡ true = room_in _ state (omega (arith, low)) fine.most in
    let by_rules = rules_fit own before h (written_by own aus copies hs before goes)
    (reaction_fits own state few room fine.sound h.tick h.input heard) in
    subst (AreFitting own _) (sym is)
    (fit_more own _ before added fits (added_fits own before state h added adds by_rules))

-- Every good plan.

fourth : (a b c d e f g h i j : Bool) → (a && b && c && d && e && f && g && h && i && j) ≡ true → d ≡ true
fourth true true true true e f g h i j all = refl
fourth true true true false e f g h i j all = all
fourth true true false d e f g h i j all = absurd cc
fourth true false c d e f g h i j all = absurd cc
fourth false b c d e f g h i j all = absurd cc

few_repairs : (plan : Plan) → plan_fault plan ≡ None → plan.rules.repairs ≤ MOST_REPAIRS
unfolding plan_fault are_bounded
few_repairs plan good =
    let r = plan.rules in
    leb-true r.repairs MOST_REPAIRS
    (fourth _ (nat_le 1 r.quorum) (nat_le r.outer MOST_CIRCLE)
    _ (nat_le r.pace MOST_TICKS)
    (nat_le r.refractory MOST_TICKS) _ (nat_le r.unknown_pct 100)
    (nat_le r.debt_pct 100) _
    (stands _ _ (no_first _ _ good)))

-- what a peer begins with
pub sound_blank : (plan : Plan) (p : PeerPlan) → plan_fault plan ≡ None → IsSound (blank (station_of plan p))
sound_blank plan p good =
    let rules = good_rules plan good in
    record {
      counted = All-nil _;
      small = All-nil _;
      asks = All-nil _;
      held = All-nil _;
      pinned = All-nil _;
      cast = All-nil _;
      legal = (rules.1, rules.2, lt-ltb _ plan.rules.quorum rules.3);
      repairs = few_repairs plan good;
    }

module _ (own : Station) where
  held_fits : (au : AuPlan) (copies : List Holding) (rest : List Record) (s : State) → s.polls ≡ []
      → All IsSoundCopy copies
      → ((t : State) → t.polls ≡ [] → AreFitting own t rest)
      → AreFitting own s (filter_map (deposit_for au) copies ++ rest)
  unfolding after
  held_fits au [] rest s none sound later = later s none
  held_fits au (c ∷ cs) rest s none sound later =
      by_test (eqb c.au au.id) (All-head IsSoundCopy c cs sound)
      (λ t still. held_fits au cs rest t still (All-tail IsSoundCopy c cs sound) later)
    where
      by_test : (b : Bool) → IsSoundCopy c
          → ((t : State) → t.polls ≡ [] → AreFitting own t (filter_map (deposit_for au) cs ++ rest))
          → AreFitting own s
          (cons_option (cond b (Some (records.Deposit au.id c.blocks)) None) (filter_map (deposit_for au) cs)
          ++ rest)
      by_test true is more = (((is.0, is.1), none, is.2), more (after own s (records.Deposit au.id c.blocks)) none)
      by_test false is more = more s none

  deposits_fit : (aus : List AuPlan) (copies : List Holding) (s : State) → s.polls ≡ [] → All IsSoundCopy copies
      → AreFitting own s (deposits aus copies)
  unfolding deposits
  deposits_fit [] copies s none sound = tt
  deposits_fit (au ∷ aus) copies s none sound =
      held_fits au copies _ s none sound (λ t still. deposits_fit aus copies t still sound)

find_at : {X : Type 0} (test : X → Bool) (xs : List X) (x : X) → find test xs ≡ Some x
    → (i : ℕ) × (slice_get xs i ≡ Some x)
find_at test [] x e = absurd cc
find_at {X = X} test (y ∷ ys) x e = by_test (test y) e (find_at test ys x)
  where
    by_test : (b : Bool) → cond b (Some y) (find test ys) ≡ Some x
        → (find test ys ≡ Some x → (i : ℕ) × (slice_get ys i ≡ Some x)) → (i : ℕ) × (slice_get (y ∷ ys) i ≡ Some x)
    by_test true e rest = (0, e)
    by_test false e rest = let r = rest e in (suc r.0, r.1)

pub journal_fits : (plan : Plan) (id : ℕ) (p : PeerPlan) → plan_fault plan ≡ None → honest_peer id plan ≡ Some p
    → (tick : ℕ) (journal : List Record) → length journal < most_numbered
    → IsJournalOf (station_of plan p) (deposits plan.aus p.copies) tick journal
    → AreFitting (station_of plan p) (blank (station_of plan p)) journal
journal_fits plan id p good found tick journal short is =
    let own = station_of plan p in
    let at = find_at _ plan.peers p found in
    goes_fitting own plan.aus p.copies is.heard journal (good_rules plan good).0 (sound_blank plan p good)
    (deposits_fit own plan.aus p.copies _ refl (sound_copy plan good at.0 p at.1)) short is.made
