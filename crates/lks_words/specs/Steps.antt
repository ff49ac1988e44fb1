-- The words of a peer's own step, as scripts and reports have them.
use Rattle.std.specs.Prelude.{ℕ, List, [], ◌∷◌, ◌++◌, codes}
use Rattle.std.specs.Fmt.{decimal}
use Rattle.lks_base.specs.declared.events.PeerStep.{PeerStep}
use Rattle.lks_base.specs.declared.events.PeerStep.TheVariants.{OpenPoll, Widen, Shut, Tally, Nudge, GiveUp, Work}
use Rattle.lks_base.specs.declared.events.PeerStep.TheVariants.{Expire, Check, Tune, Deliver}
use Rattle.lks_words.specs.Printing.{behind}

-- words behind a space each
abbrev pub spaced : List (List ℕ) → List ℕ
spaced words = behind 32 (λ w. w) words

-- the word that names the step
unfoldable pub own_key : PeerStep → List ℕ
own_key (OpenPoll peer au) = codes "open"
own_key (Widen peer number) = codes "outer"
own_key (Shut peer number) = codes "shut"
own_key (Tally peer number) = codes "tally"
own_key (Nudge peer number) = codes "nudge"
own_key (GiveUp peer number) = codes "give-up"
own_key (Work peer poll) = codes "work"
own_key (Expire peer poll) = codes "expire"
own_key (Check peer) = codes "check"
own_key (Tune peer quorum minority repairs) = codes "tune"
own_key (Deliver envelope judged) = codes "deliver"

-- the words behind it; no script says a delivery, and a report says more of it
unfoldable pub own_more : PeerStep → List (List ℕ)
own_more (OpenPoll peer au) = decimal peer ∷ decimal au ∷ []
own_more (Widen peer number) = decimal peer ∷ decimal number ∷ []
own_more (Shut peer number) = decimal peer ∷ decimal number ∷ []
own_more (Tally peer number) = decimal peer ∷ decimal number ∷ []
own_more (Nudge peer number) = decimal peer ∷ decimal number ∷ []
own_more (GiveUp peer number) = decimal peer ∷ decimal number ∷ []
own_more (Work peer poll) = decimal peer ∷ decimal poll.poller ∷ decimal poll.number ∷ []
own_more (Expire peer poll) = decimal peer ∷ decimal poll.poller ∷ decimal poll.number ∷ []
own_more (Check peer) = decimal peer ∷ []
own_more (Tune peer quorum minority repairs) = decimal peer ∷ decimal quorum ∷ decimal minority ∷ decimal repairs ∷ []
own_more (Deliver envelope judged) = decimal envelope ∷ []

-- all of them
unfoldable pub own_words : PeerStep → List ℕ
own_words step = own_key step ++ spaced (own_more step)
