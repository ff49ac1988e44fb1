use Rattle.std.proofs.Common.{ap, subst, ◌∙◌, arith}
use Rattle.lks_message.specs.Reading.{Gives, decode_of}
use Rattle.lks_message.proofs.Laws.{is_found, spelling_read}
use Rattle.lks_message.proofs.decoding.decode.Goals as goal

pub returns-clause-found : goal.returns-clause-found
returns-clause-found c =
    is_found c.args.bytes.now c.whole.result (λ i. omega (arith, c.type_inv.bytes i)) c.whole.ensures

pub returns-clause-only : goal.returns-clause-only
returns-clause-only c =
    λ m fits e. subst (λ read. Gives c.whole.result read) (ap decode_of e ∙ spelling_read m fits) c.whole.ensures
