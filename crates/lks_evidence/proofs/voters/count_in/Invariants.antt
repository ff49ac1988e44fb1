use Rattle.std.proofs.Common.{◌≡◌, drop}
use Rattle.lks_evidence.specs.Rules.{count_in}
use Rattle.lks_evidence.proofs.voters.count_in.Given as goal

abbrev pub invariant-loop-planned : goal.invariant-loop-planned
invariant-loop-planned l = count_in (drop l.planned-index l.aus) l.au ≡ count_in l.aus l.au
