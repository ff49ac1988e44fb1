use Rattle.std.proofs.Common.{◌≡◌, take}
use Rattle.std.specs.Prelude.{map}
use Rattle.lks_base.specs.declared.messages.Message.TheVariants as message
use Rattle.lks_law.specs.Reaction.{letter}
use Rattle.lks_audit.proofs.letters.invite.Given as goal

abbrev pub invariant-loop-peer : goal.invariant-loop-peer
invariant-loop-peer l = l.sends.items ≡ map (letter (message.Poll l.number l.au)) (take l.peer-index l.to)
