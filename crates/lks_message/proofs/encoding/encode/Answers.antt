use Rattle.std.proofs.Common.{◌≤◌, ◌++◌, List, ℕ, length, ap, sym, subst, ◌∙◌}
use Rattle.lks_message.specs.Spelling.{spelling}
use Rattle.lks_message.specs.Reading.{decode_of}
use Rattle.lks_base.specs.declared.limits.TheConstants.{MOST_FORGED_BYTES}
use Rattle.lks_message.proofs.Laws.{spelling_read}
use Rattle.lks_message.proofs.Lengths.{short_spelling}
use Rattle.lks_message.proofs.encoding.encode.Goals as goal

pub returns-in-Ok-clause-read : goal.returns-in-Ok-clause-read
returns-in-Ok-clause-read c =
    ap decode_of
    (c.in-Ok.ensures.spelled
    ∙ ap (λ (front : List ℕ). front ++ spelling c.args.m.now) c.new-out.ensures.items)
    ∙ spelling_read c.args.m.now (c.requires, c.put_message.ensures.sized)

pub returns-in-Ok-clause-short : goal.returns-in-Ok-clause-short
returns-in-Ok-clause-short c =
    let is = c.in-Ok.ensures.spelled
    ∙ ap (λ (front : List ℕ). front ++ spelling c.args.m.now) c.new-out.ensures.items in
    subst (λ (bytes : List ℕ). length bytes ≤ MOST_FORGED_BYTES) (sym is)
    (short_spelling c.args.m.now (c.requires, c.put_message.ensures.sized))
