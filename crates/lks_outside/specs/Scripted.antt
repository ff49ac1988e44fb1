-- What a judge with a list of verdicts is.
use Rattle.std.specs.Prelude.{Bool, List}
use Rattle.lks_outside.specs.declared.questions.Question.{Question}

-- the questions that it heard, in order, and its verdicts
pub record Scripted : Type 0 where
  pub heard : List Question
  pub verdicts : List Bool
