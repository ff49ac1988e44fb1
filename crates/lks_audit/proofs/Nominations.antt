-- What is seen of a poll.
use Rattle.std.proofs.Common.{◌≡◌, ap, List, [], ◌∷◌, refl}
use Rattle.std.specs.Prelude.{map}
use Rattle.lks_law.specs.State.{Nomination}
use Rattle.lks_audit.specs.Seen.{nomination_of}
use Rattle.lks_poller.specs.declared.stages.Nomination.{Nomination as Nominated}

pub nominees_seen : (ns : List Nominated)
    → map (λ (n : Nomination). n.nominees) (map nomination_of ns) ≡ map (λ (n : Nominated). n.nominees) ns
nominees_seen [] = refl
nominees_seen (n ∷ ns) = ap (λ list. n.nominees ∷ list) (nominees_seen ns)
