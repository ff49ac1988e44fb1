use Rattle.std.proofs.Common.{◌≡◌, drop}
use Rattle.std.specs.Prelude.{Option, None, option_map}
use Rattle.lks_law.specs.Behind.{asked_from}
use Rattle.lks_law.specs.Journal.{Request}
use Rattle.lks_host.proofs.naming.last_voter.Given as goal

abbrev pub invariant-loop-r : goal.invariant-loop-r
invariant-loop-r l =
    (asked : Option Request) × (l.found ≡ option_map (λ (r : Request). r.voter) asked)
    × (asked_from l.number asked (drop l.r-index l.list) ≡ asked_from l.number None l.list)
