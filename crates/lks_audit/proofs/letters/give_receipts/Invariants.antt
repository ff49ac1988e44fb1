use Rattle.std.proofs.Common.{◌≡◌, take}
use Rattle.std.specs.Prelude.{map}
use Rattle.lks_base.specs.declared.messages.Message.TheVariants as message
use Rattle.lks_law.specs.Reaction.{letter}
use Rattle.lks_audit.proofs.letters.give_receipts.Given as goal

abbrev pub invariant-loop-voter : goal.invariant-loop-voter
invariant-loop-voter l = l.sends.items ≡ map (letter (message.Receipt l.number)) (take l.voter-index l.voters)
