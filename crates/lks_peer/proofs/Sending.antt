-- What is sent of sessions is within its limits.
use Rattle.lks_law.specs.Fitting.{IsSound}
use Rattle.lks_law.specs.State.{State}
use Rattle.lks_sessions.specs.Sendable.{IsSendable}

pub sendable : (s : State) → IsSound s → IsSendable s.voter
sendable s sound = record { pinned = sound.pinned; cast = sound.cast }
