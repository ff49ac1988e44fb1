use Rattle.std.proofs.Common.{◌≡◌, drop}
use Rattle.std.specs.Prelude.{slice_get}
use Rattle.std.specs.List.{filter_map}
use Rattle.lks_audit.specs.Seen.{poll_of}
use Rattle.lks_law.specs.Turning.{ready_in}
use Rattle.lks_peer.proofs.peers.find_tally.Given as goal

abbrev pub invariant-loop-poll : goal.invariant-loop-poll
invariant-loop-poll l =
    slice_get (filter_map (λ s. ready_in l.id (poll_of s)) (drop l.poll-index l.polls)) l.left
    ≡ slice_get (filter_map (λ s. ready_in l.id (poll_of s)) l.polls) l.k
