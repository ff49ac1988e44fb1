-- How a step is printed: the word that names it, and those behind it.
use Rattle.std.specs.Prelude.{ℕ, ◌==◌, if◌then◌else◌, List, [], ◌∷◌, ◌++◌, map, codes}
use Rattle.std.specs.Fmt.{decimal}
use Rattle.lks_script.specs.declared.steps.CutStep.{CutStep}
use Rattle.lks_script.specs.declared.steps.CutStep.TheVariants as cut
use Rattle.lks_script.specs.declared.steps.Step.{Step}
use Rattle.lks_script.specs.declared.steps.Step.TheVariants.{Peer, Tick, Next, Lose, Again, Settle, Finish, Forge}
use Rattle.lks_script.specs.declared.steps.Step.TheVariants.{SayPoll, SayProof, SayRequest, SayReceipt, SayChallenge}
use Rattle.lks_script.specs.declared.steps.Step.TheVariants.{SayNominate, SayVote, SayRepair, Crash, Cut}
use Rattle.lks_words.specs.Printing.{hex_or_hyphen, blocks_text, answer_text}
use Rattle.lks_words.specs.Steps.{spaced, own_key, own_more}

-- a line of these words, with its line feed
unfoldable pub line_of : List ℕ → List (List ℕ) → List ℕ
line_of key more = key ++ spaced more ++ 10 ∷ []

-- what the power cuts off
unfoldable pub cut_key : CutStep → List ℕ
cut_key cut.Next = codes "next"
cut_key (cut.Again envelope) = codes "again"
cut_key (cut.Peer step) = own_key step

unfoldable pub cut_more : CutStep → List (List ℕ)
cut_more cut.Next = []
cut_more (cut.Again envelope) = decimal envelope ∷ []
cut_more (cut.Peer step) = own_more step

-- nothing for once
unfoldable pub times_words : ℕ → List (List ℕ)
times_words times = if times == 1 then [] else decimal times ∷ []

-- F WHAT T N, and what is said
abbrev pub said_words : ℕ → List ℕ → ℕ → ℕ → List (List ℕ) → List (List ℕ)
said_words from what to number more = decimal from ∷ what ∷ decimal to ∷ decimal number ∷ more

-- the word that names a step
unfoldable pub key_of : Step → List ℕ
key_of (Peer step) = own_key step
key_of (Tick by) = codes "tick"
key_of (Next times) = codes "next"
key_of Lose = codes "lose"
key_of (Again envelope) = codes "again"
key_of Settle = codes "settle"
key_of Finish = codes "finish"
key_of (Forge from to bytes) = codes "forge"
key_of (SayPoll from to number au) = codes "say"
key_of (SayProof from to number) = codes "say"
key_of (SayRequest from to number block) = codes "say"
key_of (SayReceipt from to number) = codes "say"
key_of (SayChallenge from to number agrees) = codes "say"
key_of (SayNominate from to number nominees) = codes "say"
key_of (SayVote from to number au blocks) = codes "say"
key_of (SayRepair from to number block bytes) = codes "say"
key_of (Crash peer) = codes "crash"
key_of (Cut calls choice step) = codes "cut"

-- the words behind it
unfoldable pub more_of : Step → List (List ℕ)
more_of (Peer step) = own_more step
more_of (Tick by) = decimal by ∷ []
more_of (Next times) = times_words times
more_of Lose = []
more_of (Again envelope) = decimal envelope ∷ []
more_of Settle = []
more_of Finish = []
more_of (Forge from to bytes) = decimal from ∷ decimal to ∷ hex_or_hyphen bytes ∷ []
more_of (SayPoll from to number au) = said_words from (codes "poll") to number (decimal au ∷ [])
more_of (SayProof from to number) = said_words from (codes "proof") to number []
more_of (SayRequest from to number block) = said_words from (codes "request") to number (decimal block ∷ [])
more_of (SayReceipt from to number) = said_words from (codes "receipt") to number []
more_of (SayChallenge from to number agrees) = said_words from (codes "challenge") to number (answer_text agrees ∷ [])
more_of (SayNominate from to number nominees) = said_words from (codes "nominate") to number (map decimal nominees)
more_of (SayVote from to number au blocks) =
    said_words from (codes "vote") to number (decimal au ∷ codes "of" ∷ blocks_text blocks ∷ [])
more_of (SayRepair from to number block bytes) =
    said_words from (codes "repair") to number (decimal block ∷ hex_or_hyphen bytes ∷ [])
more_of (Crash peer) = decimal peer ∷ []
more_of (Cut calls choice step) = decimal calls ∷ decimal choice ∷ cut_key step ∷ cut_more step

-- a step's line
unfoldable pub step_line : Step → List ℕ
step_line step = line_of (key_of step) (more_of step)
