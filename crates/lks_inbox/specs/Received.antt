-- What was sent, what it asks, and what an input is to the peer that gets it.
use Rattle.std.specs.Prelude.{ℕ, Option, Some, None, List}
use Rattle.std.specs.Option.{option_map}
use Rattle.lks_base.specs.declared.events.Envelope.{Envelope}
use Rattle.lks_base.specs.declared.names.Judged.{Judged}
use Rattle.lks_base.specs.declared.names.Judged.TheVariants.{NotAsked}
use Rattle.lks_base.specs.declared.reactions.Input.{Input}
use Rattle.lks_base.specs.declared.reactions.Input.TheVariants as input
use Rattle.lks_outside.specs.declared.questions.Question.{Question}
use Rattle.lks_law.specs.Questions.{Verdicts, judgement_on, question_in}
use Rattle.lks_law.specs.World.{Deed, message_in}

-- these bytes on their way
abbrev pub envelope_of : ℕ → ℕ → List ℕ → Envelope
envelope_of from to bytes = record { from = from; to = to; bytes = bytes }

-- the question of what an honest peer receives, if its bytes spell a message that puts one
abbrev pub asked_by : Envelope → Option Question
asked_by e = question_in e (message_in e.bytes)

-- what a judge says of it that heard these before
abbrev pub judged_by : Verdicts → List Question → Envelope → Judged
judged_by verdict before e = judgement_on verdict before (asked_by e)

-- what the input makes the peer do
abbrev pub deed_by : ℕ → Option Input → Option Deed
deed_by to i = option_map (λ i. record { peer = to; input = i }) i

-- the verdict that comes with an input; nobody is asked where no message is heard
abbrev pub verdict_with : Option Input → Judged
verdict_with None = NotAsked
verdict_with (Some (input.OpenPoll au)) = NotAsked
verdict_with (Some (input.Widen number)) = NotAsked
verdict_with (Some (input.Shut number)) = NotAsked
verdict_with (Some (input.Tally number)) = NotAsked
verdict_with (Some (input.Nudge number)) = NotAsked
verdict_with (Some (input.GiveUp number)) = NotAsked
verdict_with (Some (input.Work poll)) = NotAsked
verdict_with (Some (input.Expire poll)) = NotAsked
verdict_with (Some input.Check) = NotAsked
verdict_with (Some (input.Tune quorum minority repairs)) = NotAsked
verdict_with (Some (input.Got from message judged)) = judged
