use Rattle.std.proofs.Common.{◌<◌, length, Some, ap, sym, ◌∙◌, arith}
use Rattle.std.proofs.lemmas.List.{append-nil}
use Rattle.lks_base.specs.declared.reactions.Reaction.{Reaction}
use Rattle.lks_node.specs.Replies.{reply}
use Rattle.lks_node.proofs.nodes.tell.Goals as goal

-- no reply is empty
some_bytes : (r : Reaction) → 0 < length (reply r)
unfolding reply
some_bytes r = omega arith

pub returns-in-Err-clause-part : goal.returns-in-Err-clause-part
returns-in-Err-clause-part g c =
    λ bytes told.
    record { count = 0; within = some_bytes c.args.reaction.now; taken = told ∙ ap Some (sym (append-nil bytes)) }
