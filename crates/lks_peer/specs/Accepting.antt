-- Work that leaves a peer as a job, and comes back.
use Rattle.std.specs.Prelude.{◌≡◌, ◌≢◌, ◌==◌, ◌&&◌, ◌++◌, ℕ, Bool, false, not, if◌then◌else◌, Option, Some, None}
use Rattle.std.specs.Prelude.{is_some, List, [], map}
use Rattle.std.specs.List.{filter_map}
use Rattle.lks_audit.specs.Kept.{Kept, kept_at}
use Rattle.lks_audit.specs.Tallying.{IsTallyIn, tag_ready}
use Rattle.lks_tally.specs.Running.{may_tally}
use Rattle.lks_versions.specs.declared.places.Place.{Place}
use Rattle.lks_audit.specs.declared.copies.Held.{Held}
use Rattle.lks_base.specs.declared.reactions.Input.{Input}
use Rattle.lks_base.specs.declared.reactions.Input.TheVariants as input
use Rattle.lks_law.specs.Polls.{Station}
use Rattle.lks_law.specs.State.{Poll, State, poll_at}
use Rattle.lks_law.specs.Taking.{Pinned, pinned_at}
use Rattle.lks_peer.specs.declared.faults.AcceptFault.{AcceptFault}
use Rattle.lks_peer.specs.declared.faults.AcceptFault.TheVariants.{Stale, Memory}
use Rattle.lks_sessions.specs.Working.{IsVoteIn, tag_waiting}
use Rattle.lks_versions.specs.Shelf.{first_index, version_of}
use Rattle.lks_versions.specs.declared.versions.PinTag.{PinTag}
use Rattle.lks_work.specs.declared.jobs.Job.{Job}
use Rattle.lks_work.specs.declared.jobs.Job.TheVariants as jobs
use Rattle.lks_work.specs.declared.jobs.JobName.{JobName}
use Rattle.lks_work.specs.declared.jobs.JobName.TheVariants as names
use Rattle.lks_work.specs.declared.results.JobDone.{JobDone}
use Rattle.lks_work.specs.declared.results.JobDone.TheVariants as results

-- Places.

-- where the deposit of a copy stands in the pool
abbrev pub place_of : Held → Place
place_of h = record { au = h.au; first = first_index (version_of h.versions 0) }

-- where all deposits stand
abbrev pub places_of : List Held → List Place
places_of held = map place_of held

-- places that were told stay
unfoldable pub StaysTold : List Place → List Place → Type 0
StaysTold old new = old ≢ [] → new ≡ old

-- Jobs.

-- whether the votes of a poll may be counted, if it runs
abbrev pub is_poll_ready : Option Poll → Bool
is_poll_ready None = false
is_poll_ready (Some p) = may_tally p

-- whether this peer is ready for the work of this name
abbrev pub is_ready_for : Station → State → JobName → Bool
is_ready_for own s (names.Vote peer poll) = (peer == own.id) && is_some (pinned_at poll s.voter.pinned)
is_ready_for own s (names.Tally peer number) = (peer == own.id) && is_poll_ready (poll_at number s.polls)

-- the tally of a running poll that is shut and waits for nothing
abbrev pub tally_in : ℕ → Poll → Option JobName
tally_in id p = if p.shut && not (is_some p.request) then Some (names.Tally id p.number) else None

-- all work for which the peer is ready: the votes in order of its commitments, and then the tallies in order of its
-- running polls
abbrev pub works_in : Station → State → List JobName
works_in own s =
    map (λ (p : Pinned). names.Vote own.id p.committed.joined.poll) s.voter.pinned
    ++ filter_map (tally_in own.id) s.polls

-- It is the vote of the session, or the tally of the poll with as many hashes as are kept, where deposits stand at
-- these places.
abbrev pub IsJobOf : Station → State → List Kept → List Place → JobName → Job → Type 0
IsJobOf own s kept places (names.Vote peer poll) (jobs.Vote job) =
    IsVoteIn own places (pinned_at poll s.voter.pinned) (Some job)
IsJobOf own s kept places (names.Vote peer poll) (jobs.Tally job) = ⊥
IsJobOf own s kept places (names.Tally peer number) (jobs.Vote job) = ⊥
IsJobOf own s kept places (names.Tally peer number) (jobs.Tally job) =
    IsTallyIn own places s.copies (poll_at number s.polls) (Some job) × (Some job.tally.kept ≡ kept_at number kept)

-- Results.

-- the step that was worked for
abbrev pub input_of : JobDone → Input
input_of (results.Vote done) = input.Work done.job.poll
input_of (results.Tally done) = input.Tally done.job.number

-- the name of the version for which the peer is ready for such work, if it is ready
abbrev pub tag_for : State → List Place → JobDone → Option PinTag
tag_for s places (results.Vote done) = tag_waiting places (pinned_at done.job.poll s.voter.pinned)
tag_for s places (results.Tally done) = tag_ready places s.copies (poll_at done.job.number s.polls)

-- a result isn't taken where another version is expected, or none
abbrev pub IsRefused : Option PinTag → PinTag → AcceptFault → Type 0
IsRefused expected found (Stale e f) = (e ≡ expected) × (f ≡ found) × (expected ≢ Some found)
IsRefused expected found Memory = Unit {0}

-- and then this is so
abbrev pub WhereStale : AcceptFault → Type 0 → Type 0
WhereStale (Stale e f) P = P
WhereStale Memory P = Unit {0}
