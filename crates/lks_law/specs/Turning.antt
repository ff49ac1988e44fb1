-- What a peer in a state has ready, whose turns come, and who is in its circles. Each says of the state what the word
-- of that name says of the journal.
use Rattle.std.specs.Prelude.{ℕ, Bool, false, not, ◌&&◌, if◌then◌else◌, Option, Some, None, is_some, List, ◌++◌, map}
use Rattle.std.specs.List.{filter_map}
use Rattle.lks_base.specs.Checking.{has_member}
use Rattle.lks_base.specs.declared.events.PeerStep.{PeerStep}
use Rattle.lks_base.specs.declared.events.PeerStep.TheVariants.{Tally, Work}
use Rattle.lks_law.specs.Due.{turn_at}
use Rattle.lks_law.specs.Polls.{Station}
use Rattle.lks_law.specs.State.{Poll, State, poll_at}
use Rattle.lks_law.specs.Taking.{Pinned, Voter}

-- the votes for which the peer is ready, in order of its commitments
unfoldable pub works_on : Station → Voter → List PeerStep
works_on own v = map (λ (p : Pinned). Work own.id p.committed.joined.poll) v.pinned

-- the tally of a running poll that is shut and waits for nothing
abbrev pub ready_in : ℕ → Poll → Option PeerStep
ready_in id p = if p.shut && not (is_some p.request) then Some (Tally id p.number) else None

-- the tallies for which it is ready, in order of its running polls
unfoldable pub tallies_on : Station → State → List PeerStep
tallies_on own s = filter_map (ready_in own.id) s.polls

-- the votes and then the tallies
abbrev pub ready_on : Station → State → List PeerStep
ready_on own s = works_on own s.voter ++ tallies_on own s

-- what the peer does about a running poll when nothing else is due
abbrev pub turn_in : ℕ → Poll → Option PeerStep
turn_in id p = turn_at id p.number (is_some p.request) (not p.shut) (is_some p.outer)

-- such steps, in order of its running polls
unfoldable pub turns_on : Station → State → List PeerStep
turns_on own s = filter_map (turn_in own.id) s.polls

-- whether the poll has this voter in its inner circle, if it runs
abbrev pub has_inner_of : Option Poll → ℕ → Bool
has_inner_of None voter = false
has_inner_of (Some p) voter = has_member p.opening.inner voter

-- whether the running poll n has this voter in its inner circle
unfoldable pub has_inner_in : State → ℕ → ℕ → Bool
has_inner_in s n voter = has_inner_of (poll_at n s.polls) voter
