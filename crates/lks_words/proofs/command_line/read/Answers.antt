use Rattle.std.proofs.Common.{◌∙◌, ap₂, refl}
use Rattle.clap.specs.Words.{matches_of}
use Rattle.lks_words.proofs.Operands.{is_simple_line, takes_operands}
use Rattle.lks_words.proofs.command_line.read.Goals as goal

pub unreachable-requires : goal.unreachable-requires
unreachable-requires c =
    c.in_default.not-OutOfMemory
    (c.kind.ensures ∙ c.in-Err.ensures.passes (takes_operands _ _ c.in_ok-new_line.ensures c.requires))

pub returns-in-Ok : goal.returns-in-Ok
returns-in-Ok c =
    let is_line = c.in_ok-new_line.ensures in
    (c.in-Ok.ensures.matches (is_simple_line _ is_line)).0 ∙ ap₂ matches_of is_line refl
