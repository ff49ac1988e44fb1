use Rattle.std.proofs.Common.{refl, rules}
use Rattle.lks_poller.proofs.Soundness.{sound_begun}
use Rattle.lks_poller.proofs.sessions.PollSession.new.Goals as goal

pub invariant_of-result : goal.invariant_of-result
invariant_of-result c =
    sound_begun _ c.requires.few (search rules) (search rules) (search rules) (search rules) (search rules) refl
    (search rules)
