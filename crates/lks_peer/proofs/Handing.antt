-- What a peer hands out as a job.
use Rattle.std.proofs.Common.{◌≡◌, ◌∙◌, ap, sym, ℕ, Bool, true, false, cond, List, [], ◌∷◌, length, refl, arith}
use Rattle.std.specs.Prelude.{◌==◌, ◌&&◌, Option, Some, None, is_some, find}
use Rattle.std.proofs.lemmas.Bool.{eqb-true}
use Rattle.lks_audit.specs.Tallying.{IsTallyIn}
use Rattle.lks_versions.specs.declared.places.Place.{Place}
use Rattle.lks_base.specs.declared.names.PollName.{PollName}
use Rattle.lks_law.proofs.Keyed.{same_poll}
use Rattle.lks_law.specs.Facts.{IsHeard}
use Rattle.lks_law.specs.Polls.{Station}
use Rattle.lks_law.specs.State.{Copy, Poll, poll_at}
use Rattle.lks_law.specs.Taking.{Pinned, is_pinned_of, pinned_at}
use Rattle.lks_peer.specs.Accepting.{input_of, is_poll_ready, StaysTold}
use Rattle.lks_sessions.specs.Working.{IsVoteIn}
use Rattle.lks_work.specs.declared.jobs.JobName.TheVariants as names
use Rattle.lks_work.specs.declared.jobs.TallyJob.{TallyJob}
use Rattle.lks_work.specs.declared.jobs.VoteJob.{VoteJob}
use Rattle.lks_work.specs.declared.results.JobDone.{JobDone}
use Rattle.lks_work.specs.declared.results.JobDone.TheVariants as results

-- places stay where none were told, and where nothing changes
pub told_first : (old new : List Place) → length old ≡ 0 → StaysTold old new
unfolding StaysTold
told_first [] new none = λ some. absurd (some refl)
told_first (p ∷ ps) new none = absurd (omega (arith, none))

pub told_same : (old new : List Place) → new ≡ old → StaysTold old new
unfolding StaysTold
told_same old new same = λ some. same

-- what is found passes the test
passes : {X : Type 0} (test : X → Bool) (xs : List X) (x : X) → find test xs ≡ Some x → test x ≡ true
passes test [] x found = absurd cc
passes test (y ∷ ys) x found = by_test (test y) refl found (passes test ys x)
  where
    by_test : (b : Bool) → test y ≡ b → cond b (Some y) (find test ys) ≡ Some x
        → (find test ys ≡ Some x → test x ≡ true) → test x ≡ true
    by_test true is here rest = let same : y ≡ x = cc in sym (ap test same) ∙ is
    by_test false is here rest = rest here

-- work is a step of the peer's own
pub heard_done : (done : JobDone) → IsHeard (input_of done)
heard_done (results.Vote done) = tt
heard_done (results.Tally done) = tt

module _ (own : Station) (places : List Place) (peer : ℕ) (mine : peer ≡ own.id) where
  this : (peer == own.id) ≡ true
  this = grind (arith, mine)

  -- a vote
  pub vote_there : (o : Option Pinned) (job : Option VoteJob) → IsVoteIn own places o job
      → is_some job ≡ ((peer == own.id) && is_some o)
  vote_there o job is = by_case o job is ∙ sym (ap (λ b. b && is_some o) this)
    where
      by_case : (o : Option Pinned) (job : Option VoteJob) → IsVoteIn own places o job → is_some job ≡ is_some o
      by_case None None is = refl
      by_case None (Some j) is = absurd is
      by_case (Some p) None is = absurd is
      by_case (Some p) (Some j) is = refl

  pub vote_named : (q : PollName) (ps : List Pinned) (j : VoteJob) → IsVoteIn own places (pinned_at q ps) (Some j)
      → names.Vote j.peer j.poll ≡ names.Vote peer q
  vote_named q ps j = by_found (pinned_at q ps) refl
    where
      by_found : (o : Option Pinned) → pinned_at q ps ≡ o → IsVoteIn own places o (Some j)
          → names.Vote j.peer j.poll ≡ names.Vote peer q
      by_found None found is = absurd is
      by_found (Some p) found is =
          let poll : j.poll ≡ q = is.poll ∙ same_poll p.committed.joined.poll q (passes (is_pinned_of q) ps p found) in
          λ i. names.Vote ((is.peer ∙ sym mine) i) (poll i)

  -- a tally
  pub tally_there : (copies : List Copy) (o : Option Poll) (job : Option TallyJob)
      → IsTallyIn own places copies o job → is_some job ≡ ((peer == own.id) && is_poll_ready o)
  tally_there copies o job is = by_case o job is ∙ sym (ap (λ b. b && is_poll_ready o) this)
    where
      by_case : (o : Option Poll) (job : Option TallyJob) → IsTallyIn own places copies o job
          → is_some job ≡ is_poll_ready o
      by_case None None is = refl
      by_case None (Some j) is = absurd is
      by_case (Some p) None is = sym is
      by_case (Some p) (Some j) is = sym is.0

  pub tally_named : (copies : List Copy) (n : ℕ) (ps : List Poll) (j : TallyJob)
      → IsTallyIn own places copies (poll_at n ps) (Some j) → names.Tally j.peer j.number ≡ names.Tally peer n
  tally_named copies n ps j = by_found (poll_at n ps) refl
    where
      by_found : (o : Option Poll) → poll_at n ps ≡ o → IsTallyIn own places copies o (Some j)
          → names.Tally j.peer j.number ≡ names.Tally peer n
      by_found None found is = absurd is
      by_found (Some p) found is =
          let number : j.number
          ≡ n = is.1.number ∙ eqb-true p.number n (passes (λ (p : Poll). p.number == n) ps p found) in
          λ i. names.Tally ((is.1.peer ∙ sym mine) i) (number i)
