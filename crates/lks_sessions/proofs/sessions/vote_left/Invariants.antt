use Rattle.std.proofs.Common.{◌≡◌, drop}
use Rattle.std.specs.Prelude.{find, map}
use Rattle.lks_law.specs.Taking.{Pinned}
use Rattle.lks_sessions.specs.Kept.{pinned_of}
use Rattle.lks_work.specs.Names.{is_left}
use Rattle.lks_work.specs.declared.jobs.JobName.TheVariants as names
use Rattle.lks_sessions.proofs.sessions.vote_left.Given as goal

abbrev pub invariant-loop-session : goal.invariant-loop-session
invariant-loop-session l =
    find (is_left l.out)
    (map (λ (p : Pinned). names.Vote l.id p.committed.joined.poll)
    (map pinned_of (drop l.session-index l.pinned)))
    ≡ find (is_left l.out) (map (λ (p : Pinned). names.Vote l.id p.committed.joined.poll) (map pinned_of l.pinned))
