-- The command line as a command and a number.
use Rattle.std.specs.Prelude.{ℕ, ◌==◌, ◌&&◌, Bool, true, false, not, List, [], ◌∷◌, Some, codes}
use Rattle.clap.specs.Words.{App, Rule, new_app, new_rule, with_rule}
use Rattle.clap.specs.declared.builder.ArgAction.TheVariants.{Set}

-- the word has no leading hyphen
abbrev pub is_operand : List ℕ → Bool
is_operand [] = true
is_operand (byte ∷ bytes) = not (byte == 45)

-- there are one or two words, none with a leading hyphen
unfoldable pub are_operands : List (List ℕ) → Bool
are_operands [] = false
are_operands (word ∷ []) = is_operand word
are_operands (word ∷ number ∷ []) = is_operand word && is_operand number
are_operands (word ∷ number ∷ more ∷ others) = false

abbrev pub command_rule : Rule
command_rule = record (new_rule (codes "command")) { required = true; action = Some Set }

abbrev pub number_rule : Rule
number_rule = record (new_rule (codes "number")) { action = Some Set }

abbrev pub empty_line : App
empty_line =
    let app = new_app (codes "lockss") in
    record app { top = record app.top { no_binary_name = true; disable_help_flag = true } }

-- the words are a command, which has to be there, and a number
unfoldable pub line : App
line = with_rule (with_rule empty_line command_rule) number_rule
