-- Sessions of others, by the names of their polls.
use Rattle.std.proofs.Common.{◌≡◌, ◌<◌, ◌≤◌, ◌∙◌, arith, ap, sym, subst, refl, ℕ, zero, Bool, List, [], ◌∷◌, ◌++◌}
use Rattle.std.proofs.Common.{take, drop, suc, get_or, length, append-nil}
use Rattle.std.specs.Prelude.{Option, Some, None, map, find, option_map, slice_get, slice_set, All}
use Rattle.std.specs.List.{position, remove}
use Rattle.std.proofs.lemmas.List.{length-map, map_push}
use Rattle.std.proofs.lemmas.List.Quantifiers.{position-Some}
use Rattle.std.proofs.lemmas.List.Elements.{All-append, All-take, All-drop}
use Rattle.lks_audit.proofs.Changing as changing
use Rattle.lks_base.specs.declared.events.PeerStep.TheVariants as step
use Rattle.lks_base.specs.declared.names.PollName.{PollName}
use Rattle.lks_blocks.specs.Block.{Block, AllOf, bytes_of}
use Rattle.lks_law.specs.Fitting.{Where, MayHave}
use Rattle.lks_law.specs.Firsts.{changed_first, without_first}
use Rattle.lks_law.specs.Sessions.{Commitment, is_poll}
use Rattle.lks_law.specs.Taking.{Session, Pinned, is_session_of, is_pinned_of, is_cast_of, session_at, pinned_at}
use Rattle.lks_law.specs.Taking.{cast_at, pinned_to, cast_as, pins_of, casts_of, serving_block}
use Rattle.lks_sessions.specs.Kept.{session_of, pinned_of, cast_of, IsPinnedOf}
use Rattle.lks_sessions.specs.Sendable.{PinsBlocks, MayServe}
use Rattle.lks_sessions.specs.declared.stages.JoinedSession.{JoinedSession}
use Rattle.lks_sessions.specs.declared.stages.PinnedSession.{PinnedSession}
use Rattle.lks_sessions.specs.declared.stages.CastSession.{CastSession}
use Rattle.lks_voter.specs.States.{Committing}
use Rattle.lks_voter.specs.Voting.{Vote, vote_of}

-- What is found.

pub session_seen : (q : PollName) (ss : List JoinedSession) (found : Option JoinedSession)
    → found ≡ find (λ (s : JoinedSession). is_poll s.joined.poll q) ss
    → session_at q (map session_of ss) ≡ option_map session_of found
session_seen q ss found is = changing.found_seen session_of (is_session_of q) ss ∙ ap (option_map session_of) (sym is)

pub pinned_seen : (q : PollName) (ps : List PinnedSession) (found : Option PinnedSession)
    → found ≡ find (λ (p : PinnedSession). is_poll p.committed.joined.poll q) ps
    → pinned_at q (map pinned_of ps) ≡ option_map pinned_of found
pinned_seen q ps found is = changing.found_seen pinned_of (is_pinned_of q) ps ∙ ap (option_map pinned_of) (sym is)

pub cast_seen : (q : PollName) (cs : List CastSession) (found : Option CastSession)
    → found ≡ find (λ (c : CastSession). is_poll c.voted.committed.joined.poll q) cs
    → cast_at q (map cast_of cs) ≡ option_map cast_of found
cast_seen q cs found is = changing.found_seen cast_of (is_cast_of q) cs ∙ ap (option_map cast_of) (sym is)

-- What goes.

pub session_gone : (q : PollName) (ss : List JoinedSession) (i : ℕ)
    → position (λ (s : JoinedSession). is_poll s.joined.poll q) ss ≡ Some i
    → map session_of (remove ss i) ≡ without_first (is_session_of q) (map session_of ss)
session_gone q = changing.gone_first session_of (is_session_of q)

pub session_stays : (q : PollName) (ss : List JoinedSession)
    → position (λ (s : JoinedSession). is_poll s.joined.poll q) ss ≡ None
    → map session_of ss ≡ without_first (is_session_of q) (map session_of ss)
session_stays q = changing.gone_none session_of (is_session_of q)

pub pinned_gone : (q : PollName) (ps : List PinnedSession) (i : ℕ)
    → position (λ (p : PinnedSession). is_poll p.committed.joined.poll q) ps ≡ Some i
    → map pinned_of (remove ps i) ≡ without_first (is_pinned_of q) (map pinned_of ps)
pinned_gone q = changing.gone_first pinned_of (is_pinned_of q)

pub pinned_stays : (q : PollName) (ps : List PinnedSession)
    → position (λ (p : PinnedSession). is_poll p.committed.joined.poll q) ps ≡ None
    → map pinned_of ps ≡ without_first (is_pinned_of q) (map pinned_of ps)
pinned_stays q = changing.gone_none pinned_of (is_pinned_of q)

pub cast_gone : (q : PollName) (cs : List CastSession) (i : ℕ)
    → position (λ (c : CastSession). is_poll c.voted.committed.joined.poll q) cs ≡ Some i
    → map cast_of (remove cs i) ≡ without_first (is_cast_of q) (map cast_of cs)
cast_gone q = changing.gone_first cast_of (is_cast_of q)

pub cast_stays : (q : PollName) (cs : List CastSession)
    → position (λ (c : CastSession). is_poll c.voted.committed.joined.poll q) cs ≡ None
    → map cast_of cs ≡ without_first (is_cast_of q) (map cast_of cs)
cast_stays q = changing.gone_none cast_of (is_cast_of q)

pub all_but : {X : Type 0} (P : X → Type 0) (xs : List X) (i : ℕ) → All P xs → All P (remove xs i)
all_but P xs i all = All-append P (take i xs) (drop (suc i) xs) (All-take P i xs all) (All-drop P (suc i) xs all)

-- the one at a place is of the pool
pub of_place : (pool : List ℕ) (q : PollName) (ps : List PinnedSession) (i : ℕ) (p : PinnedSession)
    → position (λ (p : PinnedSession). is_poll p.committed.joined.poll q) ps ≡ Some i
    → p ≡ get_or ps i p → All (IsPinnedOf pool) ps → AllOf pool p.refs
of_place pool q ps i p at here all =
    subst (IsPinnedOf pool) (sym here)
    (all i p (position-Some (λ (p : PinnedSession). is_poll p.committed.joined.poll q) ps i p at).0)

-- What moves on.

-- the session at the place is pinned with the blocks of its AU
pub session_pins : (blocks : ℕ → List (List ℕ)) (q : PollName) (ss : List JoinedSession) (i : ℕ) (s : JoinedSession)
    (ps : List PinnedSession)
    (committed : Committing) (refs : List Block)
    → position (λ (s : JoinedSession). is_poll s.joined.poll q) ss ≡ Some i → s ≡ get_or ss i s
    → committed.joined ≡ s.joined → PinsBlocks blocks q (bytes_of refs) (map session_of ss)
    → map pinned_of (ps ++ record { committed = committed; repairs = s.repairs; refs = refs } ∷ [])
    ≡ map pinned_of ps ++ pins_of blocks committed.commitment (session_at q (map session_of ss))
session_pins blocks q ss i s ps committed refs at here joined pins =
    map_push pinned_of ps p
    ∙ ap (λ xs. map pinned_of ps ++ xs) (one ∙ ap (pins_of blocks committed.commitment) (sym found))
  where
    p : PinnedSession
    p = record { committed = committed; repairs = s.repairs; refs = refs }

    found : session_at q (map session_of ss) ≡ Some (session_of s)
    found = changing.found_at session_of (is_session_of q) ss i s at ∙ ap (λ x. Some (session_of x)) (sym here)

    same : bytes_of refs ≡ blocks s.joined.au
    same = subst (λ o. Where o (λ (s : Session). bytes_of refs ≡ blocks s.joined.au)) found pins

    one : pinned_of p ∷ [] ≡ pinned_to committed.commitment (blocks s.joined.au) (session_of s) ∷ []
    one =
        λ j.
        record {
          committed = record { joined = joined j; commitment = committed.commitment };
          repairs = s.repairs;
          blocks = same j;
        }
        ∷ []

pub nothing_pins : (blocks : ℕ → List (List ℕ)) (q : PollName) (c : Commitment) (ss : List JoinedSession)
    (ps : List PinnedSession)
    → position (λ (s : JoinedSession). is_poll s.joined.poll q) ss ≡ None
    → map pinned_of ps ≡ map pinned_of ps ++ pins_of blocks c (session_at q (map session_of ss))
nothing_pins blocks q c ss ps none =
    sym
    (ap (λ o. map pinned_of ps ++ pins_of blocks c o) (changing.found_none session_of (is_session_of q) ss none)
    ∙ append-nil (map pinned_of ps))

-- the session at the place is cast
pub pinned_casts : (q : PollName) (hashes : List (List ℕ)) (ps : List PinnedSession) (i : ℕ) (p : PinnedSession)
    (cs : List CastSession) (voted : Vote)
    → position (λ (p : PinnedSession). is_poll p.committed.joined.poll q) ps ≡ Some i → p ≡ get_or ps i p
    → voted ≡ vote_of p.committed hashes
    → map cast_of (cs ++ record { voted = voted; repairs = p.repairs; refs = p.refs } ∷ [])
    ≡ map cast_of cs ++ casts_of hashes (pinned_at q (map pinned_of ps))
pinned_casts q hashes ps i p cs voted at here is =
    map_push cast_of cs c ∙ ap (λ xs. map cast_of cs ++ xs) (one ∙ ap (casts_of hashes) (sym found))
  where
    c : CastSession
    c = record { voted = voted; repairs = p.repairs; refs = p.refs }

    found : pinned_at q (map pinned_of ps) ≡ Some (pinned_of p)
    found = changing.found_at pinned_of (is_pinned_of q) ps i p at ∙ ap (λ x. Some (pinned_of x)) (sym here)

    one : cast_of c ∷ [] ≡ cast_as hashes [] (pinned_of p) ∷ []
    one = λ j. record { voted = is j; repairs = p.repairs; blocks = bytes_of p.refs } ∷ []

pub nothing_casts : (q : PollName) (hashes : List (List ℕ)) (ps : List PinnedSession) (cs : List CastSession)
    → position (λ (p : PinnedSession). is_poll p.committed.joined.poll q) ps ≡ None
    → map cast_of cs ≡ map cast_of cs ++ casts_of hashes (pinned_at q (map pinned_of ps))
nothing_casts q hashes ps cs none =
    sym
    (ap (λ o. map cast_of cs ++ casts_of hashes o) (changing.found_none pinned_of (is_pinned_of q) ps none)
    ∙ append-nil (map cast_of cs))

-- What serves.

pub cast_serves : (q : PollName) (block : ℕ) (cs : List CastSession) (i : ℕ) (old new : CastSession)
    → position (λ (c : CastSession). is_poll c.voted.committed.joined.poll q) cs ≡ Some i
    → old ≡ get_or cs i old → cast_of new ≡ serving_block block (cast_of old)
    → map cast_of (slice_set cs i new) ≡ changed_first (is_cast_of q) (serving_block block) (map cast_of cs)
cast_serves q block = changing.put_first cast_of (is_cast_of q) (serving_block block)

pub nothing_serves : (q : PollName) (block : ℕ) (cs : List CastSession)
    → position (λ (c : CastSession). is_poll c.voted.committed.joined.poll q) cs ≡ None
    → map cast_of cs ≡ changed_first (is_cast_of q) (serving_block block) (map cast_of cs)
nothing_serves q block = changing.put_none cast_of (is_cast_of q) (serving_block block)

-- what is asked of the session of the poll is so of the one at the place
pub may_at : (q : PollName) (block : ℕ) (cs : List CastSession) (i : ℕ) (d : CastSession)
    → position (λ (c : CastSession). is_poll c.voted.committed.joined.poll q) cs ≡ Some i
    → MayServe q block (map cast_of cs) → MayHave block (cast_of (get_or cs i d))
unfolding MayServe
may_at q block cs i d at may =
    subst (λ o. Where o (MayHave block)) (changing.found_at cast_of (is_cast_of q) cs i d at) may

-- How many there are.

pub session_count : (ss : List JoinedSession) → length (map session_of ss) ≡ length ss
session_count ss = length-map ss session_of

pub pinned_count : (ps : List PinnedSession) → length (map pinned_of ps) ≡ length ps
pinned_count ps = length-map ps pinned_of

pub cast_count : (cs : List CastSession) → length (map cast_of cs) ≡ length cs
cast_count cs = length-map cs cast_of

-- What is ready.

pub work_within : (id : ℕ) (ps : List PinnedSession) (k : ℕ) (p : PinnedSession) → k < length ps → p ≡ get_or ps k p
    → slice_get (map (λ (p : Pinned). step.Work id p.committed.joined.poll) (map pinned_of ps)) k
    ≡ Some (step.Work id p.committed.joined.poll)
work_within id [] k p within here = absurd (omega (arith, within))
work_within id (x ∷ ps) zero p within here =
    ap (λ (p : PinnedSession). Some (step.Work id p.committed.joined.poll)) (sym here)
work_within id (x ∷ ps) (suc k) p within here = work_within id ps k p (omega (arith, within)) here

pub work_past : (id : ℕ) (ps : List PinnedSession) (k : ℕ) → length ps ≤ k
    → slice_get (map (λ (p : Pinned). step.Work id p.committed.joined.poll) (map pinned_of ps)) k ≡ None
work_past id [] k past = refl
work_past id (x ∷ ps) zero past = absurd (omega (arith, past))
work_past id (x ∷ ps) (suc k) past = work_past id ps k (omega (arith, past))

-- A place in a list that is another's copy.

pub place_in : {X : Type 0} (t : X → Bool) (xs ys : List X) (result o : Option ℕ) → ys ≡ xs → result ≡ position t ys
    → result ≡ o → position t xs ≡ o
place_in t xs ys result o same is here = ap (position t) (sym same) ∙ (sym is ∙ here)
