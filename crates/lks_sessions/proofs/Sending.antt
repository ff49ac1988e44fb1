-- What a peer sends as a voter.
use Rattle.std.proofs.Common.{◌≡◌, ◌≤◌, ◌∙◌, ap, sym, subst, ℕ, zero, suc, Bool, true, false, cond, List, [], ◌∷◌}
use Rattle.std.proofs.Common.{length, arith}
use Rattle.std.specs.Prelude.{Some, find, map, slice_get, All}
use Rattle.std.proofs.lemmas.List.Elements.{All-head, All-tail}
use Rattle.lks_base.specs.Kinds.{is_second}
use Rattle.lks_base.specs.declared.limits.TheConstants.{MOST_BLOCKS, MOST_BLOCK_BYTES}
use Rattle.lks_base.specs.declared.names.PollName.{PollName}
use Rattle.lks_blocks.proofs.Bytes.{bytes_count}
use Rattle.lks_blocks.specs.Block.{AllOf, bytes_of}
use Rattle.lks_hash.proofs.RunningLaws.{hashes_length}
use Rattle.lks_hash.specs.Hashes.{key_of}
use Rattle.lks_hash.specs.Running.{hashes_of}
use Rattle.lks_law.specs.Answering.{hashes_for}
use Rattle.lks_law.specs.Fitting.{AreSmall, IsPinnedWell, IsCastWell}
use Rattle.lks_law.specs.Polls.{Station}
use Rattle.lks_law.specs.Sessions.{is_poll}
use Rattle.lks_law.specs.Voting.{vote_hashes}
use Rattle.lks_sessions.specs.Kept.{Kept, pinned_of, cast_of, voter_of, IsPinnedOf, IsCastOf, IsOf}
use Rattle.lks_sessions.specs.Sendable.{IsSendable}
use Rattle.lks_sessions.specs.declared.stages.PinnedSession.{PinnedSession}
use Rattle.lks_sessions.specs.declared.stages.CastSession.{CastSession}
use Rattle.lks_sessions.specs.Working.{IsJobOf}
use Rattle.lks_work.specs.Asked.{vote_of}
use Rattle.lks_work.specs.declared.jobs.VoteJob.{VoteJob}

-- What is true of each session is true of one that is found.

module _ {E X : Type 0} (seen : E → X) (P : X → Type 0) (t : E → Bool) where
  found_is : (es : List E) (e : E) → Some e ≡ find t es → All P (map seen es) → P (seen e)
  found_is [] e is all = absurd cc
  found_is (x ∷ es) e is all = here (t x) is (λ rest. found_is es e rest (All-tail P (seen x) (map seen es) all))
    where
      here : (b : Bool) → Some e ≡ cond b (Some x) (find t es) → (Some e ≡ find t es → P (seen e)) → P (seen e)
      here true is rest = let same : x ≡ e = cc in subst (λ y. P (seen y)) same (All-head P (seen x) (map seen es) all)
      here false is rest = rest is

module _ {E : Type 0} (P : E → Type 0) (t : E → Bool) where
  found_so : (es : List E) (e : E) → Some e ≡ find t es → All P es → P e
  found_so [] e is all = absurd cc
  found_so (x ∷ es) e is all = here (t x) is (λ rest. found_so es e rest (All-tail P x es all))
    where
      here : (b : Bool) → Some e ≡ cond b (Some x) (find t es) → (Some e ≡ find t es → P e) → P e
      here true is rest = let same : x ≡ e = cc in subst P same (All-head P x es all)
      here false is rest = rest is

pub can_vote : (q : PollName) (k : Kept) (p : PinnedSession)
    → Some p ≡ find (λ (p : PinnedSession). is_poll p.committed.joined.poll q) k.pinned → IsSendable (voter_of k)
    → IsPinnedWell (pinned_of p)
can_vote q k p is all =
    found_is pinned_of IsPinnedWell (λ (p : PinnedSession). is_poll p.committed.joined.poll q) k.pinned p is
    all.pinned

pub can_send : (q : PollName) (k : Kept) (c : CastSession)
    → Some c ≡ find (λ (c : CastSession). is_poll c.voted.committed.joined.poll q) k.cast → IsSendable (voter_of k)
    → IsCastWell (cast_of c)
can_send q k c is all =
    found_is cast_of IsCastWell (λ (c : CastSession). is_poll c.voted.committed.joined.poll q) k.cast c is all.cast

pub pinned_from : (pool : List ℕ) (q : PollName) (k : Kept) (p : PinnedSession)
    → Some p ≡ find (λ (p : PinnedSession). is_poll p.committed.joined.poll q) k.pinned → IsOf pool k
    → AllOf pool p.refs
pinned_from pool q k p is of =
    found_so (IsPinnedOf pool) (λ (p : PinnedSession). is_poll p.committed.joined.poll q) k.pinned p is of.pinned

pub cast_from : (pool : List ℕ) (q : PollName) (k : Kept) (c : CastSession)
    → Some c ≡ find (λ (c : CastSession). is_poll c.voted.committed.joined.poll q) k.cast → IsOf pool k
    → AllOf pool c.refs
cast_from pool q k c is of =
    found_so (IsCastOf pool) (λ (c : CastSession). is_poll c.voted.committed.joined.poll q) k.cast c is of.cast

-- The vote.

-- a vote that is of the session, over its blocks
pub vote_seen : (own : Station) (p : PinnedSession) (j : VoteJob) (hashes : List (List ℕ)) → IsJobOf own p p.refs j
    → hashes ≡ vote_of j → hashes ≡ hashes_for own (pinned_of p)
unfolding hashes_for vote_hashes
vote_seen own p j hashes job is =
    is
    ∙ (λ i. hashes_of (is_second (job.kind i))
    (key_of (is_second (job.kind i)) (job.poll i).poller (job.poll i).number (job.nonce i) (job.peer i)
    (job.au i) (length (job.refs i))) (bytes_of (job.refs i)))
    ∙ ap
    (λ n. hashes_of (is_second p.committed.commitment.kind)
    (key_of (is_second p.committed.commitment.kind) p.committed.joined.poll.poller
    p.committed.joined.poll.number p.committed.commitment.nonce own.id p.committed.joined.au n)
    (bytes_of p.refs))
    (sym (bytes_count p.refs))

-- has a hash for each of them
pub vote_count : (own : Station) (p : PinnedSession) (hashes : List (List ℕ))
    → hashes ≡ hashes_for own (pinned_of p) → IsPinnedWell (pinned_of p) → length hashes ≤ MOST_BLOCKS
unfolding hashes_for vote_hashes
vote_count own p hashes is well =
    let same : length hashes
    ≡ length (bytes_of p.refs) = ap length is
    ∙ hashes_length (is_second p.committed.commitment.kind) _ (bytes_of p.refs) in
    let counted = well.0 in
    let few = counted.1 in
    omega (arith, same, few)

-- A repair.

pub short_at : (bs : List (List ℕ)) (b : ℕ) (bytes : List ℕ) → slice_get bs b ≡ Some bytes → AreSmall bs
    → length bytes ≤ MOST_BLOCK_BYTES
short_at [] b bytes is all = absurd cc
short_at (x ∷ bs) zero bytes is all =
    let same : x ≡ bytes = cc in
    subst (λ b. length b ≤ MOST_BLOCK_BYTES) same (All-head (λ b. length b ≤ MOST_BLOCK_BYTES) x bs all)
short_at (x ∷ bs) (suc b) bytes is all = short_at bs b bytes is (All-tail (λ b. length b ≤ MOST_BLOCK_BYTES) x bs all)
