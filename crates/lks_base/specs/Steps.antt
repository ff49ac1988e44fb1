-- What a step is, whatever a peer does in it.
use Rattle.std.specs.Prelude.{ℕ}
use Rattle.lks_base.specs.declared.events.PeerStep.{PeerStep}
use Rattle.lks_base.specs.declared.events.PeerStep.TheVariants.{OpenPoll, Widen, Shut, Tally, Nudge, GiveUp, Work}
use Rattle.lks_base.specs.declared.events.PeerStep.TheVariants.{Expire, Check, Tune, Deliver}
use Rattle.lks_base.specs.declared.names.Judged.{Judged}

-- a peer takes it by itself, or an envelope is delivered
pub data Act : Type 0 where
  Own : (peer : ℕ) → Act
  Delivery : (envelope : ℕ) → (judged : Judged) → Act

abbrev pub act_of : PeerStep → Act
act_of (OpenPoll peer au) = Act.Own peer
act_of (Widen peer number) = Act.Own peer
act_of (Shut peer number) = Act.Own peer
act_of (Tally peer number) = Act.Own peer
act_of (Nudge peer number) = Act.Own peer
act_of (GiveUp peer number) = Act.Own peer
act_of (Work peer poll) = Act.Own peer
act_of (Expire peer poll) = Act.Own peer
act_of (Check peer) = Act.Own peer
act_of (Tune peer quorum minority repairs) = Act.Own peer
act_of (Deliver envelope judged) = Act.Delivery envelope judged
