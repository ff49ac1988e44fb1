-- What the judge of proofs of effort is asked in a history, and how it judges what is delivered.
use Rattle.std.specs.Prelude.{◌≡◌, ℕ, Bool, if◌then◌else◌, Option, Some, None, List, [], ◌∷◌, ◌++◌, slice_get}
use Rattle.std.specs.Option.{option_to_list}
use Rattle.lks_base.specs.Steps.{Act, act_of}
use Rattle.lks_base.specs.declared.events.Due.{Due}
use Rattle.lks_base.specs.declared.events.Due.TheVariants.{Delivery, Own}
use Rattle.lks_base.specs.declared.events.Envelope.{Envelope}
use Rattle.lks_base.specs.declared.events.Event.{Event}
use Rattle.lks_base.specs.declared.events.Event.TheVariants.{Step, Cut, Tick, Lose, Forge, Crash}
use Rattle.lks_base.specs.declared.events.PeerStep.{PeerStep}
use Rattle.lks_base.specs.declared.events.PeerStep.TheVariants.{Deliver}
use Rattle.lks_base.specs.declared.messages.Message.{Message}
use Rattle.lks_base.specs.declared.messages.Message.TheVariants as message
use Rattle.lks_base.specs.declared.names.Judged.{Judged}
use Rattle.lks_base.specs.declared.names.Judged.TheVariants.{NotAsked, Accepted, Refused}
use Rattle.lks_base.specs.declared.plans.Plan.{Plan}
use Rattle.lks_outside.specs.declared.questions.Question.{Question}
use Rattle.lks_law.specs.World.{World, Standing, start, happens, peer_at, message_in, world}

-- A poller shows effort with its proof, and a voter with its vote.
abbrev pub question_by : Envelope → Message → Option Question
question_by e (message.Poll n au) = None
question_by e (message.PollChallenge n agrees) = None
question_by e (message.PollProof n nonce kind proof) =
    Some (record { from = e.from; poller = e.from; number = n; proof = proof })
question_by e (message.Nominate n nominees) = None
question_by e (message.Vote n hashes proof) = Some (record { from = e.from; poller = e.to; number = n; proof = proof })
question_by e (message.RepairRequest n b) = None
question_by e (message.Repair n b bytes) = None
question_by e (message.Receipt n) = None

abbrev pub question_in : Envelope → Option Message → Option Question
question_in e None = None
question_in e (Some m) = question_by e m

-- a question is put where an honest peer receives such a message

abbrev pub question_to : Option Standing → Envelope → Option Question
question_to None e = None
question_to (Some s) e = question_in e (message_in e.bytes)

abbrev pub question_of : List Standing → Option Envelope → Option Question
question_of peers None = None
question_of peers (Some e) = question_to (peer_at e.to peers) e

-- the question of a delivery of envelope i
unfoldable pub question_at : World → ℕ → Option Question
question_at w i = question_of w.peers (slice_get w.bag i)

-- The verdicts of a judge: what it says to a question after those that it heard.
abbrev pub Verdicts : Type 0
Verdicts = List Question → Question → Bool

abbrev pub judgement_on : Verdicts → List Question → Option Question → Judged
judgement_on verdict before None = NotAsked
judgement_on verdict before (Some q) = if verdict before q then Accepted else Refused

-- the question of a step, if it puts one
abbrev pub question_on : World → PeerStep → Option Question
question_on w s = put_by (act_of s) where
  put_by : Act → Option Question
  put_by (Act.Own peer) = None
  put_by (Act.Delivery envelope judged) = question_at w envelope

-- the questions of an event: one at most, and the same where the step is cut
abbrev pub asked_by : World → Event → List Question
asked_by w (Step s) = option_to_list (question_on w s)
asked_by w (Cut s kept) = option_to_list (question_on w s)
asked_by w (Tick by) = []
asked_by w (Lose envelope) = []
asked_by w (Forge from to bytes) = []
asked_by w (Crash peer) = []

abbrev pub questions_from : World → List Event → List Question
questions_from w [] = []
questions_from w (e ∷ es) = asked_by w e ++ questions_from (happens w e) es

-- the questions of a history, in order
unfoldable pub questions : Plan → List Event → List Question
questions plan history = questions_from (start plan) history

-- the event of the delivery of envelope i, and of what is due: the verdict is asked once it is chosen

abbrev pub delivery_of : Verdicts → Plan → List Event → ℕ → Event
delivery_of verdict plan history i =
    Step (Deliver i (judgement_on verdict (questions plan history) (question_at (world plan history) i)))

abbrev pub event_of : Verdicts → Plan → List Event → Due → Event
event_of verdict plan history (Delivery i) = delivery_of verdict plan history i
event_of verdict plan history (Own s) = Step s

-- a step that a peer takes of its own asks nothing
abbrev pub OwnAsksNothing : World → Due → Type 0
OwnAsksNothing w (Delivery i) = Unit {0}
OwnAsksNothing w (Own s) = question_on w s ≡ None

-- Which events carry what a judge says: a delivery has the verdict on the question that it puts, after these questions.

abbrev pub IsJudgedStep : Verdicts → List Question → World → PeerStep → Type 0
IsJudgedStep verdict before w s = Says (act_of s) where
  Says : Act → Type 0
  Says (Act.Own peer) = Unit {0}
  Says (Act.Delivery envelope says) = says ≡ judgement_on verdict before (question_at w envelope)

abbrev pub IsJudged : Verdicts → List Question → World → Event → Type 0
IsJudged verdict before w (Step s) = IsJudgedStep verdict before w s
IsJudged verdict before w (Cut s kept) = IsJudgedStep verdict before w s
IsJudged verdict before w (Tick by) = Unit {0}
IsJudged verdict before w (Lose envelope) = Unit {0}
IsJudged verdict before w (Forge from to bytes) = Unit {0}
IsJudged verdict before w (Crash peer) = Unit {0}

abbrev pub AreJudgedFrom : Verdicts → List Question → World → List Event → Type 0
AreJudgedFrom verdict before w [] = Unit {0}
AreJudgedFrom verdict before w (e ∷ es) =
    IsJudged verdict before w e × AreJudgedFrom verdict (before ++ asked_by w e) (happens w e) es

-- each delivery of a history has the verdict on its question after the questions before
unfoldable pub AreJudged : Verdicts → Plan → List Event → Type 0
AreJudged verdict plan history = AreJudgedFrom verdict [] (start plan) history
