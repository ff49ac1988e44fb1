use Rattle.std.proofs.Common.{◌≡◌, drop}
use Rattle.std.specs.Prelude.{find}
use Rattle.std.specs.List.{filter_map}
use Rattle.lks_audit.specs.Seen.{poll_of}
use Rattle.lks_peer.specs.Accepting.{tally_in}
use Rattle.lks_work.specs.Names.{is_left}
use Rattle.lks_peer.proofs.jobs.tally_left.Given as goal

abbrev pub invariant-loop-poll : goal.invariant-loop-poll
invariant-loop-poll l =
    find (is_left l.out) (filter_map (λ s. tally_in l.id (poll_of s)) (drop l.poll-index l.polls))
    ≡ find (is_left l.out) (filter_map (λ s. tally_in l.id (poll_of s)) l.polls)
