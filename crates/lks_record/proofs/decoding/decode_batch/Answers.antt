use Rattle.std.proofs.Common.{ap, subst, ◌∙◌, arith}
use Rattle.lks_record.specs.Reading.{Gives, decode_of}
use Rattle.lks_record.proofs.Laws.{is_found, spelling_read}
use Rattle.lks_record.proofs.decoding.decode_batch.Goals as goal

pub returns-clause-found : goal.returns-clause-found
returns-clause-found c =
    is_found (λ v. v.items) c.args.bytes.now c.whole.result (λ i. omega (arith, c.type_inv.bytes i)) c.whole.ensures

pub returns-clause-only : goal.returns-clause-only
returns-clause-only c =
    λ list fits e. subst (λ read. Gives (λ v. v.items) c.whole.result read)
    (ap decode_of e ∙ spelling_read list fits) c.whole.ensures
