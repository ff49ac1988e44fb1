-- What a peer in a state adds and sends as a voter. Each says of the state what the word of that name says of the
-- journal.
use Rattle.std.specs.Prelude.{ℕ, Bool, true, false, not, ◌&&◌, ◌||◌, ◌+◌, nat_lt, if◌then◌else◌, Option, Some, None}
use Rattle.std.specs.Prelude.{is_some, List, length, slice_get}
use Rattle.std.specs.List.{list_any}
use Rattle.lks_base.specs.Checking.{has_member}
use Rattle.lks_base.specs.declared.names.HashKind.{HashKind}
use Rattle.lks_base.specs.declared.names.Judged.{Judged}
use Rattle.lks_base.specs.declared.names.PollName.{PollName}
use Rattle.lks_base.specs.declared.reactions.Reaction.{Reaction}
use Rattle.lks_base.specs.declared.records.Record.TheVariants as records
use Rattle.lks_draw.specs.Words.{drawn_from}
use Rattle.lks_choice.specs.Grading.{grade_from, is_low, is_admitted}
use Rattle.lks_choice.specs.declared.grades.Grade.{Grade}
use Rattle.lks_law.specs.Polls.{Station}
use Rattle.lks_law.specs.Reaction.{no_effect}
use Rattle.lks_law.specs.Sessions.{is_poll}
use Rattle.lks_law.specs.State.{Copy, copy_at}
use Rattle.lks_law.specs.Taking.{Session, Pinned, Cast, Voter, session_at, pinned_at, cast_at, mark_at}
use Rattle.lks_law.specs.Voting.{answers, adds, adds_only, draw_number, challenge, commits, commits_again}
use Rattle.lks_law.specs.Voting.{vote_hashes, votes_with, serves}

-- whether a session is open
unfoldable pub is_open : PollName → Voter → Bool
is_open q v = is_some (session_at q v.sessions) || is_some (pinned_at q v.pinned) || is_some (cast_at q v.cast)

-- the number of those
unfoldable pub open_sessions : Voter → ℕ
open_sessions v = length v.sessions + length v.pinned + length v.cast

-- whether it is over
unfoldable pub was_ended : PollName → Voter → Bool
was_ended q v = list_any (λ p. is_poll p q) v.ended

-- An invitation.

unfoldable pub grade_in : Station → Voter → ℕ → Grade
grade_in own v f = let m = mark_at f v.marks in grade_from m.received m.given (has_member own.friends f)

unfoldable pub is_admitted_in : Station → Voter → ℕ → PollName → Bool
is_admitted_in own v tick q =
    is_admitted (grade_in own v q.poller) own.rules v.last_low tick (drawn_from own.seed 3 (draw_number q))

unfoldable pub may_join_in : Station → Voter → List Copy → ℕ → PollName → ℕ → Bool
may_join_in own v copies tick q au =
    not (was_ended q v) && is_some (copy_at au copies) && nat_lt (open_sessions v) 16 && is_admitted_in own v tick q

-- it may give so many blocks
abbrev pub joined_now : Station → Voter → ℕ → ℕ → PollName → ℕ → Reaction
joined_now own v repairs tick q au =
    adds (records.Joined q au tick (is_low (grade_in own v q.poller)) (Some repairs)) (challenge q true)

unfoldable pub invitation_in : Station → Voter → List Copy → ℕ → ℕ → PollName → ℕ → Reaction
invitation_in own v copies repairs tick q au =
    if is_open q v then answers (challenge q true)
    else if may_join_in own v copies tick q au then joined_now own v repairs tick q au
    else answers (challenge q false)

-- A proof of the poller's effort.

abbrev pub version_in : Option Copy → ℕ
version_in None = 0
version_in (Some c) = c.version

-- the number of the newest version of an AU
abbrev pub version_at : ℕ → List Copy → ℕ
version_at au copies = version_in (copy_at au copies)

-- in whichever state the session is
abbrev pub proof_at : Station → List Copy → List ℕ → PollName → List ℕ → HashKind → Judged → Option Session
    → Option Pinned → Option Cast → Reaction
proof_at own copies refs q nonce kind judged (Some s) p c =
    commits own refs q (version_at s.joined.au copies) nonce kind judged
proof_at own copies refs q nonce kind judged None (Some p) c =
    commits_again own refs q p.committed.commitment nonce kind None
proof_at own copies refs q nonce kind judged None None (Some c) =
    commits_again own refs q c.voted.committed.commitment nonce kind (Some c.voted.hashes)
proof_at own copies refs q nonce kind judged None None None = no_effect

unfoldable pub proof_in : Station → Voter → List Copy → List ℕ → PollName → List ℕ → HashKind → Judged → Reaction
proof_in own v copies refs q nonce kind judged =
    proof_at own copies refs q nonce kind judged (session_at q v.sessions) (pinned_at q v.pinned) (cast_at q v.cast)

-- The vote.

-- the hashes of the vote in a committed session
unfoldable pub hashes_for : Station → Pinned → List (List ℕ)
hashes_for own p = vote_hashes own.id p.committed.joined.poll p.committed.joined.au p.committed.commitment p.blocks

abbrev pub work_at : Station → PollName → Option Pinned → Reaction
work_at own q None = no_effect
work_at own q (Some p) = votes_with own q (hashes_for own p)

unfoldable pub work_in : Station → Voter → PollName → Reaction
work_in own v q = work_at own q (pinned_at q v.pinned)

-- A request for a repair.

abbrev pub request_at : PollName → ℕ → Option Cast → Reaction
request_at q b None = no_effect
request_at q b (Some c) = serves q b c.repairs c.voted.served (slice_get c.blocks b)

unfoldable pub request_in : Voter → PollName → ℕ → Reaction
request_in v q b = request_at q b (cast_at q v.cast)

-- The end.

unfoldable pub end_in : Voter → PollName → Reaction
end_in v q = if is_open q v then adds_only (records.Ended q) else no_effect
