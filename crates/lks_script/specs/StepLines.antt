-- Lines that say a step.
use Rattle.std.specs.Prelude.{ℕ, ◌&&◌, if◌then◌else◌, List, [], ◌∷◌, ◌++◌, codes, Option, Some, None}
use Rattle.std.specs.Str.{bytes_eq}
use Rattle.lks_base.specs.declared.events.PeerStep.{PeerStep}
use Rattle.lks_base.specs.declared.events.PeerStep.TheVariants as peers
use Rattle.lks_base.specs.declared.names.PollName.{PollName}
use Rattle.lks_base.specs.declared.plans.Plan.{Plan}
use Rattle.lks_script.specs.declared.steps.CutStep.{CutStep}
use Rattle.lks_script.specs.declared.steps.CutStep.TheVariants as cut
use Rattle.lks_script.specs.declared.steps.Step.{Step}
use Rattle.lks_script.specs.declared.steps.Step.TheVariants.{Peer, Tick, Next, Lose, Again, Settle, Finish, Forge}
use Rattle.lks_script.specs.declared.steps.Step.TheVariants.{SayPoll, SayProof, SayRequest, SayReceipt, SayChallenge}
use Rattle.lks_script.specs.declared.steps.Step.TheVariants.{SayNominate, SayVote, SayRepair, Crash, Cut}
use Rattle.lks_words.specs.Numbers.{◌>>=◌, number_in}
use Rattle.lks_words.specs.Words.{each_in, id_in, poll_in, index_in, answer_in, block_in, blocks_in, bytes_in}
use Rattle.lks_script.specs.StepRules.{is_step_of, has_power_for}

-- open P A
unfoldable pub open_in : List (List ℕ) → Option PeerStep
open_in (peer ∷ au ∷ []) = do
  p ← id_in peer
  a ← id_in au
  Some (peers.OpenPoll p a)
open_in _ = None

-- P N: a peer, and the number of a poll of its own
unfoldable pub own_poll_in : List (List ℕ) → Option (ℕ × ℕ)
own_poll_in (peer ∷ number ∷ []) = do
  p ← id_in peer
  n ← poll_in number
  Some (p, n)
own_poll_in _ = None

-- a step in it, by the word that names it
unfoldable pub poll_step_in : List ℕ → ℕ → ℕ → Option PeerStep
poll_step_in key p n =
    if bytes_eq key (codes "outer") then Some (peers.Widen p n)
    else if bytes_eq key (codes "shut") then Some (peers.Shut p n)
    else if bytes_eq key (codes "tally") then Some (peers.Tally p n)
    else if bytes_eq key (codes "nudge") then Some (peers.Nudge p n)
    else if bytes_eq key (codes "give-up") then Some (peers.GiveUp p n)
    else None

-- check P
unfoldable pub check_in : List (List ℕ) → Option PeerStep
check_in (peer ∷ []) = do
  p ← id_in peer
  Some (peers.Check p)
check_in _ = None

-- V Q N: a peer, and a poll by its poller and its number
unfoldable pub session_in : List (List ℕ) → Option (ℕ × PollName)
session_in (voter ∷ poller ∷ number ∷ []) = do
  v ← id_in voter
  q ← id_in poller
  n ← poll_in number
  Some (v, record { poller = q; number = n })
session_in _ = None

-- work V Q N
unfoldable pub work_in : List (List ℕ) → Option PeerStep
work_in words = do
  named ← session_in words
  Some (peers.Work named.0 named.1)

-- expire V Q N
unfoldable pub expire_in : List (List ℕ) → Option PeerStep
expire_in words = do
  named ← session_in words
  Some (peers.Expire named.0 named.1)

-- tune P Q D R
unfoldable pub tune_in : List (List ℕ) → Option PeerStep
tune_in (peer ∷ quorum ∷ minority ∷ repairs ∷ []) = do
  p ← id_in peer
  q ← number_in 65535 quorum
  d ← number_in 65535 minority
  r ← number_in 65535 repairs
  Some (peers.Tune p q d r)
tune_in _ = None

-- outer P N, shut P N, tally P N, nudge P N, give-up P N
unfoldable pub in_own_poll : List ℕ → List (List ℕ) → Option PeerStep
in_own_poll key more = do
  named ← own_poll_in more
  poll_step_in key named.0 named.1

-- a step of a peer's own
unfoldable pub own_step_in : List ℕ → List (List ℕ) → Option PeerStep
own_step_in key more =
    if bytes_eq key (codes "open") then open_in more
    else if bytes_eq key (codes "check") then check_in more
    else if bytes_eq key (codes "work") then work_in more
    else if bytes_eq key (codes "expire") then expire_in more
    else if bytes_eq key (codes "tune") then tune_in more
    else in_own_poll key more

-- the same as a step of the script
unfoldable pub peer_step_in : List ℕ → List (List ℕ) → Option Step
peer_step_in key more = do
  step ← own_step_in key more
  Some (Peer step)

-- tick N
unfoldable pub tick_in : List (List ℕ) → Option Step
tick_in (ticks ∷ []) = do
  by ← number_in 4294967295 ticks
  Some (Tick by)
tick_in _ = None

-- next, next K
unfoldable pub next_in : List (List ℕ) → Option Step
next_in [] = Some (Next 1)
next_in (count ∷ []) = do
  times ← number_in 65535 count
  Some (Next times)
next_in _ = None

-- lose
unfoldable pub lose_in : List (List ℕ) → Option Step
lose_in [] = Some Lose
lose_in _ = None

-- again I
unfoldable pub again_in : List (List ℕ) → Option Step
again_in (envelope ∷ []) = do
  i ← number_in 4294967295 envelope
  Some (Again i)
again_in _ = None

-- settle
unfoldable pub settle_in : List (List ℕ) → Option Step
settle_in [] = Some Settle
settle_in _ = None

-- finish
unfoldable pub finish_in : List (List ℕ) → Option Step
finish_in [] = Some Finish
finish_in _ = None

-- crash P
unfoldable pub crash_in : List (List ℕ) → Option Step
crash_in (peer ∷ []) = do
  p ← id_in peer
  Some (Crash p)
crash_in _ = None

-- What a line cuts off, by the word that names it and those behind it.

-- next
unfoldable pub cut_next_in : List (List ℕ) → Option CutStep
cut_next_in [] = Some cut.Next
cut_next_in _ = None

-- again I
unfoldable pub cut_again_in : List (List ℕ) → Option CutStep
cut_again_in (envelope ∷ []) = do
  i ← number_in 4294967295 envelope
  Some (cut.Again i)
cut_again_in _ = None

-- a step of a peer's own
unfoldable pub cut_own_in : List ℕ → List (List ℕ) → Option CutStep
cut_own_in key more = do
  step ← own_step_in key more
  Some (cut.Peer step)

unfoldable pub cut_step_in : List ℕ → List (List ℕ) → Option CutStep
cut_step_in key more =
    if bytes_eq key (codes "next") then cut_next_in more
    else if bytes_eq key (codes "again") then cut_again_in more
    else cut_own_in key more

-- cut K C STEP
unfoldable pub cut_in : List (List ℕ) → Option Step
cut_in (calls ∷ choice ∷ key ∷ more) = do
  k ← number_in 255 calls
  c ← number_in 255 choice
  step ← cut_step_in key more
  Some (Cut k c step)
cut_in _ = None

-- forge F T HEX
unfoldable pub forge_in : List (List ℕ) → Option Step
forge_in (from ∷ to ∷ bytes ∷ []) = do
  f ← id_in from
  t ← id_in to
  bs ← bytes_in bytes
  Some (Forge f t bs)
forge_in _ = None

-- What F says to T of the poll N: F's own poll where it says a poll, a proof, a request or a receipt, and else T's.

-- say F poll T N A
unfoldable pub invitation_said : ℕ → ℕ → ℕ → List (List ℕ) → Option Step
invitation_said f t n (au ∷ []) = do
  a ← id_in au
  Some (SayPoll f t n a)
invitation_said f t n _ = None

-- say F proof T N
unfoldable pub proof_said : ℕ → ℕ → ℕ → List (List ℕ) → Option Step
proof_said f t n [] = Some (SayProof f t n)
proof_said f t n _ = None

-- say F request T N B
unfoldable pub request_said : ℕ → ℕ → ℕ → List (List ℕ) → Option Step
request_said f t n (block ∷ []) = do
  b ← index_in block
  Some (SayRequest f t n b)
request_said f t n _ = None

-- say F receipt T N
unfoldable pub receipt_said : ℕ → ℕ → ℕ → List (List ℕ) → Option Step
receipt_said f t n [] = Some (SayReceipt f t n)
receipt_said f t n _ = None

-- say F challenge T N yes, say F challenge T N no
unfoldable pub challenge_said : ℕ → ℕ → ℕ → List (List ℕ) → Option Step
challenge_said f t n (answer ∷ []) = do
  agrees ← answer_in answer
  Some (SayChallenge f t n agrees)
challenge_said f t n _ = None

-- say F nominate T N Q ...
unfoldable pub nominees_said : ℕ → ℕ → ℕ → List (List ℕ) → Option Step
nominees_said f t n words = do
  nominees ← each_in id_in words
  Some (SayNominate f t n nominees)

-- say F vote T N A of BLOCKS
unfoldable pub vote_said : ℕ → ℕ → ℕ → List (List ℕ) → Option Step
vote_said f t n (au ∷ of ∷ blocks ∷ []) = do
  a ← id_in au
  content ← blocks_in blocks
  if bytes_eq of (codes "of") then Some (SayVote f t n a content) else None
vote_said f t n _ = None

-- say F repair T N B BLOCK
unfoldable pub repair_said : ℕ → ℕ → ℕ → List (List ℕ) → Option Step
repair_said f t n (block ∷ bytes ∷ []) = do
  b ← index_in block
  content ← block_in bytes
  Some (SayRepair f t n b content)
repair_said f t n _ = None

-- what is said, by the word that names it and those behind the poll's number
unfoldable pub said_in : List ℕ → ℕ → ℕ → ℕ → List (List ℕ) → Option Step
said_in what f t n more =
    if bytes_eq what (codes "poll") then invitation_said f t n more
    else if bytes_eq what (codes "proof") then proof_said f t n more
    else if bytes_eq what (codes "request") then request_said f t n more
    else if bytes_eq what (codes "receipt") then receipt_said f t n more
    else if bytes_eq what (codes "challenge") then challenge_said f t n more
    else if bytes_eq what (codes "nominate") then nominees_said f t n more
    else if bytes_eq what (codes "vote") then vote_said f t n more
    else if bytes_eq what (codes "repair") then repair_said f t n more
    else None

-- say F WHAT T N ...
unfoldable pub say_in : List (List ℕ) → Option Step
say_in (from ∷ what ∷ to ∷ number ∷ more) = do
  f ← id_in from
  t ← id_in to
  n ← poll_in number
  said_in what f t n more
say_in _ = None

-- the step that a word and those behind it say
unfoldable pub step_in : List ℕ → List (List ℕ) → Option Step
step_in key more =
    if bytes_eq key (codes "tick") then tick_in more
    else if bytes_eq key (codes "next") then next_in more
    else if bytes_eq key (codes "lose") then lose_in more
    else if bytes_eq key (codes "again") then again_in more
    else if bytes_eq key (codes "settle") then settle_in more
    else if bytes_eq key (codes "finish") then finish_in more
    else if bytes_eq key (codes "forge") then forge_in more
    else if bytes_eq key (codes "say") then say_in more
    else if bytes_eq key (codes "crash") then crash_in more
    else if bytes_eq key (codes "cut") then cut_in more
    else peer_step_in key more

-- the steps with one more
unfoldable pub steps_with : Plan → List Step → List ℕ → List (List ℕ) → Option (List Step)
steps_with plan steps key more = do
  step ← step_in key more
  if is_step_of plan step && has_power_for steps step then Some (steps ++ step ∷ []) else None

-- the step that the words of a line say by themselves under the plan
unfoldable pub step_under : Plan → List (List ℕ) → Option Step
step_under plan (key ∷ more) = do
  step ← step_in key more
  if is_step_of plan step then Some step else None
step_under plan _ = None
