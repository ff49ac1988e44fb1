use Rattle.std.proofs.Common.{◌≡◌, ◌++◌, drop}
use Rattle.lks_peer.specs.Accepting.{places_of}
use Rattle.lks_peer.proofs.jobs.places_of.Given as goal

abbrev pub invariant-loop-held : goal.invariant-loop-held
invariant-loop-held l = l.places.items ++ places_of (drop l.held-index l.copies) ≡ places_of l.copies
