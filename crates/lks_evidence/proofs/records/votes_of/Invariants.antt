use Rattle.std.proofs.Common.{◌≡◌, ◌++◌, drop}
use Rattle.std.specs.List.{filter_map}
use Rattle.lks_law.specs.Journal.{vote_in}
use Rattle.lks_evidence.proofs.records.votes_of.Given as goal

abbrev pub invariant-loop-r : goal.invariant-loop-r
invariant-loop-r l =
    l.votes.items ++ filter_map (vote_in l.n) (drop l.r-index l.journal) ≡ filter_map (vote_in l.n) l.journal
