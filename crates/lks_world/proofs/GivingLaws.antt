-- What is given out is due, and what a result is taken for is ready.
use Rattle.std.proofs.Common.{◌≡◌, ◌≢◌, ◌<◌, ◌+◌, ◌⊎◌, inl, inr, ◌∙◌, ap, sym, subst, ℕ, zero, suc, Bool, true, false}
use Rattle.std.proofs.Common.{cond, eqb, List, [], ◌∷◌, ◌++◌, length, drop, get_or, refl}
use Rattle.std.specs.Prelude.{Option, Some, None, Result, Ok, Err, IfOk, All, find, is_some, map, not, slice_get, ◌&&◌}
use Rattle.std.specs.List.{filter_map, flat_map}
use Rattle.std.proofs.lemmas.Bool.{and_from, eq-eqb, eqb-true}
use Rattle.std.proofs.lemmas.List.{map-append}
use Rattle.std.proofs.lemmas.Option.{get_or_from_slice_get}
use Rattle.std.proofs.lemmas.List.Elements.{All-map}
use Rattle.lks_audit.specs.Tallying.{may_tally, tag_of, tag_ready}
use Rattle.lks_base.specs.declared.events.Due.{Due}
use Rattle.lks_base.specs.declared.events.Due.TheVariants.{Delivery, Own}
use Rattle.lks_base.specs.declared.events.Event.{Event}
use Rattle.lks_base.specs.declared.events.PeerStep.{PeerStep}
use Rattle.lks_base.specs.declared.events.PeerStep.TheVariants as steps
use Rattle.lks_base.specs.declared.memory.OutOfMemory.{OutOfMemory}
use Rattle.lks_base.specs.declared.names.PollName.{PollName}
use Rattle.lks_base.specs.declared.plans.Plan.{Plan}
use Rattle.lks_disk.specs.Face.{Face}
use Rattle.lks_host.specs.declared.hosts.Host.{Host}
use Rattle.lks_law.proofs.Dues.{first_of_dues, turn_is_no_work}
use Rattle.lks_law.proofs.Journals.{polls_keep}
use Rattle.lks_law.proofs.Keyed.{is_itself, same_poll}
use Rattle.lks_law.proofs.Linking.{at_own, found_at}
use Rattle.lks_law.proofs.Turning.{poll_there, ready_is}
use Rattle.lks_law.proofs.Writing.{written_in}
use Rattle.lks_law.specs.Due.{dues, first_due, first_own, is_work_event, next_to_finish, or_else, pending, ready}
use Rattle.lks_law.specs.Due.{ready_at, turns, turns_at, IsEventOf}
use Rattle.lks_law.specs.Polls.{Station}
use Rattle.lks_law.specs.State.{Poll, State as InState, poll_at, state_of}
use Rattle.lks_law.specs.Taking.{Pinned, is_pinned_of, pinned_at}
use Rattle.lks_law.specs.Turning.{ready_in, ready_on, tallies_on, works_on}
use Rattle.lks_law.specs.World.{World, Standing, peer_at, world}
use Rattle.lks_law.specs.Written.{AreWritten}
use Rattle.lks_peer.proofs.Listing.{left_behind, left_front, works_ready}
use Rattle.lks_peer.specs.Accepting.{is_poll_ready, is_ready_for, tag_for, tally_in, works_in, IsJobOf}
use Rattle.lks_sessions.specs.Working.{tag_waiting}
use Rattle.lks_versions.specs.declared.places.Place.{Place}
use Rattle.lks_versions.specs.declared.versions.PinTag.{PinTag}
use Rattle.lks_work.specs.Names.{is_left, name_done, name_of, step_named}
use Rattle.lks_work.specs.declared.jobs.Job.{Job}
use Rattle.lks_work.specs.declared.jobs.JobName.{JobName}
use Rattle.lks_work.specs.declared.jobs.JobName.TheVariants as names
use Rattle.lks_work.specs.declared.results.JobDone.{JobDone}
use Rattle.lks_work.specs.declared.results.JobDone.TheVariants as results
use Rattle.lks_world.proofs.Keeping.{peer_there}
use Rattle.lks_world.proofs.Places.{in_back, in_filter_map, in_flat, in_front, in_map, is_found, none_found, of_both}
use Rattle.lks_world.proofs.Places.{of_filter_map, of_find, of_map, IsGiven}
use Rattle.lks_world.proofs.NextLaws.{delivers_first}
use Rattle.lks_world.proofs.ReadyLaws.{front, part_is, state_is}
use Rattle.lks_world.specs.Giving.{peer_named, site_works, tag_by, IsExpected, IsJobIn, IsOut, TakesTurn}
use Rattle.lks_world.specs.Worlds.{Seen}
use Rattle.lks_world.specs.Handing.{Expects, IsBesideWork, IsExpectedAt, IsJobAt, IsNext, IsReadyAt}
use Rattle.lks_world.specs.Hosts.{peer_in, peers_of}
use Rattle.lks_world.specs.Sites.{hosts_of, StandsAt}
use Rattle.lks_world.specs.States.{events_in, site_steps, IsStateOf}
use Rattle.lks_world.specs.declared.sites.Site.{Site}
use Rattle.lks_world.specs.declared.sites.Site.TheVariants as site
use Rattle.lks_world.specs.declared.giving.NextDue.TheVariants as next
use Rattle.lks_world.specs.declared.settling.Course.TheVariants.{Finishing}
use Rattle.lks_world.specs.declared.settling.OwnSteps.TheVariants.{Ready, Turns}
use Rattle.lks_world.specs.declared.states.State.{State}

-- Ready work is due.

due_first : (ds others : List Due) (k : ℕ) (d : Due) → slice_get ds k ≡ Some d
    → slice_get (or_else ds others) k ≡ Some d
due_first [] others k d at = absurd cc
due_first (x ∷ ds) others k d at = at

pub work_due : (plan : Plan) (history : List Event) (k : ℕ) (s : PeerStep)
    → slice_get (ready (world plan history)) k ≡ Some s
    → (place : ℕ) × (slice_get (dues plan history) place ≡ Some (Own s))
unfolding dues
work_due plan history k s at =
    let behind = in_back (map Delivery (pending plan history)) (map Own (ready (world plan history))) k (Own s)
    (in_map Own (ready (world plan history)) k s at) in (
      behind.0,
      due_first (map Delivery (pending plan history) ++ map Own (ready (world plan history)))
          (map Own (turns (world plan history))) behind.0 (Own s) behind.1,
    )

-- where no envelope waits and work is ready, this is all that is due

else_first : (works others : List PeerStep) → works ≢ [] → or_else (map Own works) (map Own others) ≡ map Own works
else_first [] others some = absurd (some refl)
else_first (s ∷ ss) others some = refl

pub works_alone : (plan : Plan) (history : List Event) → pending plan history ≡ [] → ready (world plan history) ≢ []
    → dues plan history ≡ map Own (ready (world plan history))
unfolding dues
works_alone plan history none some =
    ap
    (λ waiting. or_else (map Delivery waiting ++ map Own (ready (world plan history)))
    (map Own (turns (world plan history)))) none
    ∙ else_first (ready (world plan history)) (turns (world plan history)) some

map_some : (ss : List PeerStep) → ss ≢ [] → map Own ss ≢ []
map_some [] some none = some refl
map_some (s ∷ ss) some none = absurd cc

pub all_out : (plan : Plan) (history : List Event) (out : List JobName) → pending plan history ≡ []
    → ready (world plan history) ≢ [] → All (λ s. IsOut out (Own s)) (ready (world plan history))
    → (dues plan history ≢ []) × All (IsOut out) (dues plan history)
all_out plan history out none some each =
    let are = works_alone plan history none some in (
      λ empty. map_some (ready (world plan history)) some (sym are ∙ empty),
      subst (All (IsOut out)) (sym are) (All-map (IsOut out) Own (ready (world plan history)) each),
    )

-- an event beside work is none
pub no_work : (d : Due) (e : Event) → IsBesideWork d → IsEventOf d e → is_work_event e ≡ false
no_work (Delivery i) e beside made = ap is_work_event made.1
no_work (Own s) e beside made = ap is_work_event made ∙ beside

-- a turn for what is beside work
pub turn_of : {D J B : Type 0} (d : Due) (old new : Seen D J B) → IsBesideWork d → TakesTurn (IsEventOf d) old new
    → TakesTurn (λ e. is_work_event e ≡ false) old new
turn_of d old new beside t =
    record {
      event = t.event;
      is = no_work d t.event beside t.is;
      more = t.more;
      due = t.due;
      left = t.left;
      used = t.used;
    }

-- What comes first beside work.

first_of_own : (ss : List PeerStep) (d : Due) → Some d ≡ first_own ss
    → (s : PeerStep) × (d ≡ Own s) × (first_own ss ≡ Some (Own s))
first_of_own [] d is = absurd cc
first_of_own (s ∷ ss) d is = (s, cc, refl)

pub turn_beside : (w : World) (d : Due) → Some d ≡ first_own (turns w) → IsBesideWork d
turn_beside w d is =
    let first = first_of_own (turns w) d is in
    subst IsBesideWork (sym first.1) (turn_is_no_work w first.0 first.2)

pub none_first : (ss : List PeerStep) → None ≡ first_own ss → ss ≡ []
none_first [] is = refl
none_first (s ∷ ss) is = absurd cc

pub some_first : (ss : List PeerStep) → is_some (first_own ss) ≡ true → ss ≢ []
some_first [] is none = absurd cc
some_first (s ∷ ss) is none = absurd cc

-- A peer is ready for each of its works.

vote_named : (own : Station) (st : InState) (name : JobName) (k : ℕ)
    → slice_get (map (λ (p : Pinned). names.Vote own.id p.committed.joined.poll) st.voter.pinned) k ≡ Some name
    → is_ready_for own st name ≡ true
vote_named own st name k at =
    let found = of_map (λ (p : Pinned). names.Vote own.id p.committed.joined.poll) st.voter.pinned k name at in
    let p = found.0 in
    subst (λ n. is_ready_for own st n ≡ true) found.2
    (and_from (eqb own.id own.id) (is_some (pinned_at p.committed.joined.poll st.voter.pinned))
    (eq-eqb own.id own.id refl)
    (is_found (is_pinned_of p.committed.joined.poll) st.voter.pinned k p found.1 (is_itself p.committed.joined.poll)))

abbrev AreFound : InState → Type 0
AreFound st = (k : ℕ) (p : Poll) → slice_get st.polls k ≡ Some p → poll_at p.number st.polls ≡ Some p

tally_named : (own : Station) (st : InState) (name : JobName) (k : ℕ) → AreFound st
    → slice_get (filter_map (tally_in own.id) st.polls) k ≡ Some name → is_ready_for own st name ≡ true
tally_named own st name k are at = by_ready (p.shut && not (is_some p.request)) refl given.gives
  where
    given : IsGiven (tally_in own.id) st.polls name
    given = of_filter_map (tally_in own.id) st.polls k name at

    p : Poll
    p = given.item

    by_ready : (b : Bool) → (p.shut && not (is_some p.request)) ≡ b
        → cond b (Some (names.Tally own.id p.number)) None ≡ Some name → is_ready_for own st name ≡ true
    by_ready false waits gives = absurd cc
    by_ready true waits gives =
        let same : names.Tally own.id p.number ≡ name = cc in
        subst (λ n. is_ready_for own st n ≡ true) same
        (and_from (eqb own.id own.id) (is_poll_ready (poll_at p.number st.polls)) (eq-eqb own.id own.id refl)
        (ap is_poll_ready (are given.place p given.there) ∙ waits))

work_named : (own : Station) (st : InState) (name : JobName) (k : ℕ) → AreFound st
    → slice_get (works_in own st) k ≡ Some name → is_ready_for own st name ≡ true
work_named own st name k are at =
    by_part
    (of_both (map (λ (p : Pinned). names.Vote own.id p.committed.joined.poll) st.voter.pinned)
    (filter_map (tally_in own.id) st.polls) k name at)
  where
    by_part : ((j : ℕ)
        × (slice_get (map (λ (p : Pinned). names.Vote own.id p.committed.joined.poll) st.voter.pinned) j
        ≡ Some name)) ⊎ ((j : ℕ) × (slice_get (filter_map (tally_in own.id) st.polls) j ≡ Some name))
        → is_ready_for own st name ≡ true
    by_part (inl vote) = vote_named own st name vote.0 vote.1
    by_part (inr tally) = tally_named own st name tally.0 are tally.1

-- Whoever expects a version is ready for the work.

vote_due : (own : Station) (st : InState) (places : List Place) (q : PollName) (t : PinTag)
    → tag_waiting places (pinned_at q st.voter.pinned) ≡ Some t
    → (k : ℕ) × (slice_get (ready_on own st) k ≡ Some (steps.Work own.id q))
unfolding works_on
vote_due own st places q t is = by_pinned (pinned_at q st.voter.pinned) refl is
  where
    by_pinned : (o : Option Pinned) → pinned_at q st.voter.pinned ≡ o → tag_waiting places o ≡ Some t
        → (k : ℕ) × (slice_get (ready_on own st) k ≡ Some (steps.Work own.id q))
    by_pinned None there is = absurd cc
    by_pinned (Some p) there is =
        let found = of_find (is_pinned_of q) st.voter.pinned p there in (
          found.0,
          in_front (works_on own st.voter) (tallies_on own st) found.0 (steps.Work own.id q)
              (in_map (λ (x : Pinned). steps.Work own.id x.committed.joined.poll) st.voter.pinned found.0 p found.1
              ∙ ap (λ n. Some (steps.Work own.id n)) (same_poll p.committed.joined.poll q found.2)),
        )

tally_due : (own : Station) (st : InState) (places : List Place) (n : ℕ) (t : PinTag)
    → tag_ready places st.copies (poll_at n st.polls) ≡ Some t
    → (k : ℕ) × (slice_get (ready_on own st) k ≡ Some (steps.Tally own.id n))
unfolding tallies_on
tally_due own st places n t is = by_poll (poll_at n st.polls) refl is
  where
    gives : (p : Poll) → p.number ≡ n → may_tally p ≡ true → ready_in own.id p ≡ Some (steps.Tally own.id n)
    gives p numbered ready =
        ap (λ b. cond b (Some (steps.Tally own.id p.number)) None) ready
        ∙ ap (λ m. Some (steps.Tally own.id m)) numbered

    by_ready : (p : Poll) → poll_at n st.polls ≡ Some p → (b : Bool) → may_tally p ≡ b
        → cond b (Some (tag_of places st.copies p)) None ≡ Some t
        → (k : ℕ) × (slice_get (ready_on own st) k ≡ Some (steps.Tally own.id n))
    by_ready p there false waits is = absurd cc
    by_ready p there true waits is =
        let found = of_find (λ (x : Poll). eqb x.number n) st.polls p there in
        let at = in_filter_map (ready_in own.id) st.polls found.0 p (steps.Tally own.id n) found.1
        (gives p (eqb-true p.number n found.2) waits) in
        in_back (works_on own st.voter) (tallies_on own st) at.0 (steps.Tally own.id n) at.1

    by_poll : (o : Option Poll) → poll_at n st.polls ≡ o → tag_ready places st.copies o ≡ Some t
        → (k : ℕ) × (slice_get (ready_on own st) k ≡ Some (steps.Tally own.id n))
    by_poll None there is = absurd cc
    by_poll (Some p) there is = by_ready p there (may_tally p) refl is

result_due : (own : Station) (st : InState) (places : List Place) (d : JobDone) (t : PinTag)
    → own.id ≡ peer_named (name_done d) → tag_for st places d ≡ Some t
    → (k : ℕ) × (slice_get (ready_on own st) k ≡ Some (step_named (name_done d)))
result_due own st places (results.Vote done) t whose is =
    let due = vote_due own st places done.job.poll t is in
    (due.0, due.1 ∙ ap (λ id. Some (steps.Work id done.job.poll)) whose)
result_due own st places (results.Tally done) t whose is =
    let due = tally_due own st places done.job.number t is in
    (due.0, due.1 ∙ ap (λ id. Some (steps.Tally id done.job.number)) whose)

module _ (plan : Plan) (history : List Event) where
  peer_ready : (k : ℕ) (x : Standing) → slice_get (world plan history).peers k ≡ Some x
      → ready_on x.own (state_of x.own x.journal) ≡ ready_at x
  peer_ready k x at =
      ready_is x.own x.journal (written_in plan history k x at) (polls_keep plan history k x at).numbered

  ready_of : (k : ℕ) (x : Standing) (j : ℕ) (p : PeerStep) → slice_get (world plan history).peers k ≡ Some x
      → slice_get (ready_at x) j ≡ Some p → (i : ℕ) × (slice_get (ready (world plan history)) i ≡ Some p)
  unfolding ready
  ready_of k x j p there at = in_flat ready_at (world plan history).peers k x j p there at

  -- a result that is expected is of work that is due
  pub expected_due : (d : JobDone) (t : PinTag) → IsExpected (world plan history) d (Some t)
      → (place : ℕ) × (slice_get (dues plan history) place ≡ Some (Own (step_named (name_done d))))
  expected_due d t told = by_peer (peer_at (peer_named (name_done d)) (world plan history).peers) refl (sym told.is)
    where
      by_peer : (o : Option Standing) → peer_at (peer_named (name_done d)) (world plan history).peers ≡ o
          → tag_by told.places d o ≡ Some t
          → (place : ℕ) × (slice_get (dues plan history) place ≡ Some (Own (step_named (name_done d))))
      by_peer None there is = absurd cc
      by_peer (Some x) there is =
          let at = found_at (peer_named (name_done d)) (world plan history).peers x there in
          let own = result_due x.own (state_of x.own x.journal) told.places d t
          (at_own (peer_named (name_done d)) (world plan history).peers x there) is in
          let here = ready_of at.0 x own.0 (step_named (name_done d)) at.1
          (ap (λ ss. slice_get ss own.0) (sym (peer_ready at.0 x at.1)) ∙ own.1) in
          work_due plan history here.0 (step_named (name_done d)) here.1

pub turn_due : (plan : Plan) (history : List Event) (d : Due) → pending plan history ≡ []
    → ready (world plan history) ≡ [] → first_own (turns (world plan history)) ≡ Some d
    → slice_get (dues plan history) 0 ≡ Some d
unfolding next_to_finish
turn_due plan history d none idle first =
    sym (first_of_dues plan history) ∙ (λ i. first_due (none i) (idle i ++ turns (world plan history))) ∙ first

pub nothing_due : (plan : Plan) (history : List Event) → pending plan history ≡ [] → ready (world plan history) ≡ []
    → turns (world plan history) ≡ [] → dues plan history ≡ []
unfolding dues
nothing_due plan history none idle rest = λ i. or_else (map Delivery (none i) ++ map Own (idle i)) (map Own (rest i))

none_waits : (waiting : List ℕ) → slice_get waiting 0 ≡ None → waiting ≡ []
none_waits [] is = refl
none_waits (i ∷ is) some = absurd cc

-- The work of sites is the ready work of their world.

module _ {D : Type 0} (out : List JobName) where
  pub left_here : (sites : List (Site D)) (i : ℕ) (x : Site D) (o : Option JobName) (name : JobName)
      → i < length sites → x ≡ get_or sites i x → o ≡ find (is_left out) (site_works x) → o ≡ Some name
      → Some name ≡ find (is_left out) (flat_map site_works (drop i sites))
  left_here sites i x o name within is left some =
      left_front (is_left out) (site_works x) (flat_map site_works (drop (i + 1) sites)) o name left some
      ∙ sym (ap (λ ss. find (is_left out) (flat_map site_works ss)) (front sites i x within is))

  pub left_later : (sites : List (Site D)) (i : ℕ) (x : Site D) (o : Option JobName) → i < length sites
      → x ≡ get_or sites i x → o ≡ find (is_left out) (site_works x) → o ≡ None
      → find (is_left out) (flat_map site_works (drop (i + 1) sites))
      ≡ find (is_left out) (flat_map site_works (drop i sites))
  left_later sites i x o within is left none =
      left_behind (is_left out) (site_works x) (flat_map site_works (drop (i + 1) sites)) o left none
      ∙ sym (ap (λ ss. find (is_left out) (flat_map site_works ss)) (front sites i x within is))

module _ {D : Type 0} where
  works_siteed : (ss : List (Site D)) → map step_named (flat_map site_works ss) ≡ flat_map (site_steps Ready) ss
  works_siteed [] = refl
  works_siteed (site.Host h ∷ ss) =
      map-append step_named (works_in h.peer.own h.peer.state) (flat_map site_works ss)
      ∙ (λ i. works_ready h.peer.own h.peer.state i ++ works_siteed ss i)
  works_siteed (site.Idle d ∷ ss) = works_siteed ss

  pub host_ranked : (ss : List (Site D)) (place : ℕ) (h : Host D) → slice_get ss place ≡ Some (site.Host h)
      → (rank : ℕ) × (slice_get (hosts_of ss) rank ≡ Some h)
  host_ranked [] place h at = absurd cc
  host_ranked (site.Host k ∷ ss) zero h at = let same : k ≡ h = cc in (0, ap Some same)
  host_ranked (site.Host k ∷ ss) (suc place) h at = let later = host_ranked ss place h at in (suc later.0, later.1)
  host_ranked (site.Idle d ∷ ss) zero h at = absurd cc
  host_ranked (site.Idle d ∷ ss) (suc place) h at = host_ranked ss place h at

module _ {D : Type 0} (f : Face D) (plan : Plan) (s : State D) (is : IsStateOf f plan s) where
  ready_there : flat_map ready_at (peers_of f (hosts_of s.sites.items)) ≡ ready (world plan (events_in s))
  unfolding ready
  ready_there = ap (λ (w : World). flat_map ready_at w.peers) is.world

  turns_there : flat_map turns_at (peers_of f (hosts_of s.sites.items)) ≡ turns (world plan (events_in s))
  unfolding turns
  turns_there = ap (λ (w : World). flat_map turns_at w.peers) is.world

  -- what comes next beside work

  pub next_delivers : (i : ℕ) → slice_get s.pending.items 0 ≡ Some i → IsNext plan (events_in s) (next.Due (Delivery i))
  next_delivers i first =
      (tt, sym (first_of_dues plan (events_in s)) ∙ sym (delivers_first f plan s is Finishing i first))

  pub next_works : slice_get s.pending.items 0 ≡ None
      → is_some (first_own (flat_map (site_steps Ready) s.sites.items)) ≡ true → IsNext plan (events_in s) next.Work
  next_works none some = (
    sym is.pending
        ∙ none_waits s.pending.items none,
    some_first (ready (world plan (events_in s)))
        (ap (λ ss. is_some (first_own ss)) (sym (part_is f plan s is Ready ∙ ready_there)) ∙ some),
  )

  module _ (none : slice_get s.pending.items 0 ≡ None)
      (idle : first_own (flat_map (site_steps Ready) s.sites.items) ≡ None) where
    no_work_there : ready (world plan (events_in s)) ≡ []
    no_work_there =
        none_first (ready (world plan (events_in s)))
        (sym idle ∙ ap first_own (part_is f plan s is Ready ∙ ready_there))

    pub next_turns : (d : Due) → Some d ≡ first_own (flat_map (site_steps Turns) s.sites.items)
        → IsNext plan (events_in s) (next.Due d)
    next_turns d first =
        let there = first ∙ ap first_own (part_is f plan s is Turns ∙ turns_there) in (
          turn_beside (world plan (events_in s)) d there,
          turn_due plan (events_in s) d (sym is.pending ∙ none_waits s.pending.items none) no_work_there
              (sym there),
        )

    pub next_none : None ≡ first_own (flat_map (site_steps Turns) s.sites.items)
        → IsNext plan (events_in s) next.Nothing
    next_none first =
        nothing_due plan (events_in s) (sym is.pending ∙ none_waits s.pending.items none) no_work_there
        (none_first (turns (world plan (events_in s))) (first ∙ ap first_own (part_is f plan s is Turns ∙ turns_there)))

  pub works_are : map step_named (flat_map site_works s.sites.items) ≡ ready (world plan (events_in s))
  works_are = works_siteed s.sites.items ∙ part_is f plan s is Ready ∙ ready_there

  pub left_ready : (out : List JobName) (name : JobName)
      → find (is_left out) (flat_map site_works s.sites.items) ≡ Some name
      → (k : ℕ) × (slice_get (ready (world plan (events_in s))) k ≡ Some (step_named name)) × (is_left out name ≡ true)
  left_ready out name is =
      let found = of_find (is_left out) (flat_map site_works s.sites.items) name is in (
        found.0,
        ap (λ ss. slice_get ss found.0) (sym works_are)
            ∙ in_map step_named (flat_map site_works s.sites.items) found.0 name found.1,
        found.2,
      )

  pub none_left : (out : List JobName) → find (is_left out) (flat_map site_works s.sites.items) ≡ None
      → All (λ p. IsOut out (Own p)) (ready (world plan (events_in s)))
  none_left out none =
      subst (All (λ p. IsOut out (Own p))) works_are
      (All-map (λ p. IsOut out (Own p)) step_named (flat_map site_works s.sites.items)
      (none_found (is_left out) (λ name. IsOut out (Own (step_named name))) (flat_map site_works s.sites.items)
      (λ name gone. record { name = name; work = refl; out = gone }) none))

  -- a peer is ready for its work

  written_there : (rank : ℕ) (h : Host D) → slice_get (hosts_of s.sites.items) rank ≡ Some h
      → AreWritten [] (peer_in f h).journal
  written_there rank h at = written_in plan (events_in s) rank (peer_in f h) (peer_there f plan s is rank h at)

  found_there : (rank : ℕ) (h : Host D) → slice_get (hosts_of s.sites.items) rank ≡ Some h → AreFound h.peer.state
  found_there rank h at =
      subst AreFound (sym (state_is f plan s is rank h at))
      (λ k p there. poll_there h.peer.own (peer_in f h).journal (written_there rank h at) k p there)

  pub ready_site : (out : List JobName) (name : JobName) (place : ℕ) (x : Site D)
      → slice_get s.sites.items place ≡ Some x → find (is_left out) (site_works x) ≡ Some name → IsReadyAt name x
  ready_site out name place (site.Host h) there is =
      let found = of_find (is_left out) (works_in h.peer.own h.peer.state) name is in
      let ranked = host_ranked s.sites.items place h there in
      work_named h.peer.own h.peer.state name found.0 (found_there ranked.0 h ranked.1) found.1
  ready_site out name place (site.Idle d) there is = absurd cc

  -- the job that is made at a site is that of its peer in the world
  pub job_there : (name : JobName) (place : ℕ) (x : Site D) (j : Job) → slice_get s.sites.items place ≡ Some x
      → name_of j ≡ name → IsJobAt name x j → IsJobIn (world plan (events_in s)) j
  job_there name place (site.Host h) j there named made =
      let ranked = host_ranked s.sites.items place h there in
      let states = state_is f plan s is ranked.0 h ranked.1 in
      record {
        place = ranked.0;
        standing = peer_in f h;
        there = peer_there f plan s is ranked.0 h ranked.1;
        kept = h.peer.kept;
        places = made.0;
        is =
            subst (λ n. IsJobOf h.peer.own (state_of h.peer.own (peer_in f h).journal) h.peer.kept made.0 n j)
            (sym named) (subst (λ st. IsJobOf h.peer.own st h.peer.kept made.0 name j) states made.1);
      }
  job_there name place (site.Idle d) j there named made = absurd made

  -- what is expected at the sites is expected in the world
  pub expected_there : (d : JobDone) (expected : Option PinTag) → Expects f d s.sites.items expected
      → IsExpected (world plan (events_in s)) d expected
  expected_there d expected (inl none) =
      record {
        places = [];
        is = none.1
            ∙ ap (tag_by [] d)
            (sym none.0 ∙ ap (λ (w : World). peer_at (peer_named (name_done d)) w.peers) is.world);
      }
  expected_there d expected (inr told) =
      record {
        places = told.places;
        is =
            told.is ∙ ap (λ st. tag_for st told.places d) (state_is f plan s is told.rank told.host told.ranked)
            ∙ ap (tag_by told.places d)
            (sym told.found ∙ ap (λ (w : World). peer_at (peer_named (name_done d)) w.peers) is.world);
      }

-- what is expected of whoever sits there is expected at the sites
pub expects_at : {D : Type 0} (f : Face D) (d : JobDone) (sites : List (Site D)) (place : ℕ) (x : Site D)
    (r : Result (Option PinTag) OutOfMemory)
    → StandsAt f (peer_named (name_done d)) sites place → x ≡ get_or sites place x
    → IfOk r (IsExpectedAt d x) → IfOk r (Expects f d sites)
expects_at f d sites place x (Err e) at is told = tt
expects_at f d sites place x (Ok expected) at is told =
    let there = subst (λ y. IsExpectedAt d y expected)
    (is ∙ get_or_from_slice_get sites place (site.Host at.host) x at.there) told in
    inr
    (record {
      host = at.host;
      rank = at.rank;
      ranked = at.ranked;
      found = at.found;
      places = there.0;
      is = there.1;
    })
