-- A step that was read is printed so that it reads as the same.
use Rattle.std.proofs.Common.{◌≡◌, ℕ, ◌≤◌, ◌<◌, ◌^◌, Bool, true, false, cond, eqb, leb, List, [], ◌∷◌, ◌++◌, length}
use Rattle.std.proofs.Common.{map, Option, Some, None, refl, sym, ap, subst, ◌∙◌, arith}
use Rattle.std.specs.Prelude.{codes}
use Rattle.std.specs.Fmt.{decimal}
use Rattle.std.specs.List.{All, list_all}
use Rattle.std.specs.Str.{bytes_eq}
use Rattle.std.proofs.lemmas.Bool.{and_parts, and_from, eqb-true}
use Rattle.std.proofs.lemmas.List.Elements.{All-head, All-tail}
use Rattle.lks_base.specs.declared.limits.TheConstants.{LAST_BLOCK}
use Rattle.lks_base.specs.declared.events.PeerStep.{PeerStep}
use Rattle.lks_base.specs.declared.events.PeerStep.TheVariants as peers
use Rattle.lks_base.specs.declared.names.PollName.{PollName}
use Rattle.lks_script.specs.declared.steps.CutStep.{CutStep}
use Rattle.lks_script.specs.declared.steps.CutStep.TheVariants as cut
use Rattle.lks_script.specs.declared.steps.Step.{Step}
use Rattle.lks_script.specs.declared.steps.Step.TheVariants.{Peer, Tick, Next, Lose, Again, Settle, Finish, Forge}
use Rattle.lks_script.specs.declared.steps.Step.TheVariants.{SayPoll, SayProof, SayRequest, SayReceipt, SayChallenge}
use Rattle.lks_script.specs.declared.steps.Step.TheVariants.{SayNominate, SayVote, SayRepair, Crash, Cut}
use Rattle.lks_lines.specs.declared.plan_lines.PlanDraft.{PlanDraft}
use Rattle.lks_script.specs.Grammar.{step_line, later_line}
use Rattle.lks_script.specs.StepLines.{open_in, own_poll_in, poll_step_in, check_in, session_in, work_in, expire_in}
use Rattle.lks_script.specs.StepLines.{tune_in, in_own_poll, own_step_in, peer_step_in, tick_in, next_in, lose_in}
use Rattle.lks_script.specs.StepLines.{again_in, settle_in, finish_in, crash_in, cut_next_in, cut_again_in}
use Rattle.lks_script.specs.StepLines.{cut_own_in, cut_step_in, cut_in, forge_in, invitation_said, proof_said}
use Rattle.lks_script.specs.StepLines.{request_said, receipt_said, challenge_said, nominees_said, vote_said}
use Rattle.lks_script.specs.StepLines.{repair_said, said_in, say_in, step_in}
use Rattle.lks_words.specs.Numbers.{◌>>=◌, number_in}
use Rattle.lks_words.specs.Words.{parts, each_in, id_in, poll_in, index_in, bytes_in, block_in, blocks_in, answer_in}
use Rattle.lks_words.specs.Printing.{hex_or_hyphen, blocks_text, answer_text}
use Rattle.lks_words.specs.Texts.{are_above}
use Rattle.lks_words.proofs.Decimals.{number_kept, number_most, number_again}
use Rattle.lks_words.proofs.Splits.{weaker, words_part}
use Rattle.lks_words.proofs.Kept.{decimal_above, text_above, bytes_fit, bytes_again, block_fits, block_again}
use Rattle.lks_words.proofs.Kept.{blocks_fit, blocks_again, blocks_above, ids_fit, ids_again, answer_again}
use Rattle.lks_words.proofs.Kept.{answer_above}
use Rattle.lks_words.proofs.Steps.{bind_some, if_some, if_else, same_some}
use Rattle.lks_print.specs.Said.{are_plain, IsSaidStep}
use Rattle.lks_print.specs.Steps.{cut_key, cut_more, times_words, key_of, more_of}
use Rattle.lks_words.specs.Steps.{spaced, own_key, own_more}

-- ---- words that read as what they say, and have no spaces and line feeds

record IsWord {X : Type 0} (said : List ℕ → Option X) (text : X → List ℕ) (x : X) : Type 0 where
  again : said (text x) ≡ Some x
  plain : are_above 43 (text x) ≡ true

pub plain_number : (most n : ℕ) → most < 2 ^ 64 → n ≤ most → are_above 43 (decimal n) ≡ true
plain_number most n lt le = weaker 43 44 (decimal n) (omega arith) (decimal_above n (omega (arith, lt, le)))

-- a number of two bytes
pub small_plain : (n : ℕ) → n ≤ 65535 → are_above 43 (decimal n) ≡ true
small_plain n le = plain_number 65535 n (omega arith) le

pub small_again : (n : ℕ) → n ≤ 65535 → id_in (decimal n) ≡ Some n
small_again n le = number_again 65535 n (decimal n) (omega arith) le refl

number_word : (most : ℕ) (word : List ℕ) (n : ℕ) → most < 2 ^ 64 → number_in most word ≡ Some n
    → IsWord (number_in most) decimal n
number_word most word n lt e =
    record { again = number_kept most n word lt e; plain = plain_number most n lt (number_most most word n e) }

id_word : (word : List ℕ) (n : ℕ) → id_in word ≡ Some n → IsWord id_in decimal n
id_word word n e = number_word 65535 word n (omega arith) e

small_word : (word : List ℕ) (n : ℕ) → number_in 65535 word ≡ Some n → IsWord (number_in 65535) decimal n
small_word word n e = number_word 65535 word n (omega arith) e

byte_word : (word : List ℕ) (n : ℕ) → number_in 255 word ≡ Some n → IsWord (number_in 255) decimal n
byte_word word n e = number_word 255 word n (omega arith) e

large_word : (word : List ℕ) (n : ℕ) → number_in 4294967295 word ≡ Some n → IsWord (number_in 4294967295) decimal n
large_word word n e = number_word 4294967295 word n (omega arith) e

poll_word : (word : List ℕ) (n : ℕ) → poll_in word ≡ Some n → IsWord poll_in decimal n
poll_word word n e = number_word 4294967295 word n (omega arith) e

index_word : (word : List ℕ) (n : ℕ) → index_in word ≡ Some n → IsWord index_in decimal n
index_word word n e = number_word LAST_BLOCK word n (omega arith) e

answer_word : (word : List ℕ) (b : Bool) → answer_in word ≡ Some b → IsWord answer_in answer_text b
answer_word word b e =
    record { again = answer_again b; plain = weaker 43 44 (answer_text b) (omega arith) (answer_above b) }

bytes_word : (word found : List ℕ) → bytes_in word ≡ Some found → IsWord bytes_in hex_or_hyphen found
bytes_word word found e =
    let fit = bytes_fit word found e in
    record {
      again = bytes_again found fit;
      plain = weaker 43 44 (hex_or_hyphen found) (omega arith) (text_above found fit.bytes);
    }

block_word : (word found : List ℕ) → block_in word ≡ Some found → IsWord block_in hex_or_hyphen found
block_word word found e =
    let fit = block_fits word found e in
    record {
      again = block_again found fit;
      plain = weaker 43 44 (hex_or_hyphen found) (omega arith) (text_above found fit.bytes);
    }

blocks_word : (word : List ℕ) (found : List (List ℕ)) → blocks_in word ≡ Some found → IsWord blocks_in blocks_text found
blocks_word word found e =
    let fit = blocks_fit word found e in
    record { again = blocks_again found fit.0 fit.1; plain = blocks_above found fit.1 }

pub ids_plain : (ids : List ℕ) → All (λ n. n ≤ 65535) ids → are_plain (map decimal ids) ≡ true
ids_plain [] h = refl
ids_plain (i ∷ ids) h =
    and_from (are_above 43 (decimal i)) _ (small_plain i (All-head (λ (n : ℕ). n ≤ 65535) i ids h))
    (ids_plain ids (All-tail (λ (n : ℕ). n ≤ 65535) i ids h))

-- ---- the words that name steps

-- no line but that of a step begins with the word
pub record NamesStep (key : List ℕ) : Type 0 where
  pub named : leb 1 (length key) ≡ true
  pub no_peer : bytes_eq key (codes "peer") ≡ false
  pub behind : (plan : PlanDraft) (more : List (List ℕ)) → later_line plan key more ≡ step_line plan.plan [] key more

-- nor does one but that of a step of a peer's own, be it cut off or not
record NamesOwn (key : List ℕ) : Type 0 where
  names : NamesStep key
  own : (more : List (List ℕ)) → step_in key more ≡ peer_step_in key more
  cut : (more : List (List ℕ)) → cut_step_in key more ≡ cut_own_in key more

own_names : (step : PeerStep) → NamesOwn (own_key step)
unfolding own_key later_line step_in cut_step_in
own_names (peers.OpenPoll peer au) =
    record {
      names = record { named = refl; no_peer = refl; behind = λ plan more. refl };
      own = λ more. refl;
      cut = λ more. refl;
    }
own_names (peers.Widen peer number) =
    record {
      names = record { named = refl; no_peer = refl; behind = λ plan more. refl };
      own = λ more. refl;
      cut = λ more. refl;
    }
own_names (peers.Shut peer number) =
    record {
      names = record { named = refl; no_peer = refl; behind = λ plan more. refl };
      own = λ more. refl;
      cut = λ more. refl;
    }
own_names (peers.Tally peer number) =
    record {
      names = record { named = refl; no_peer = refl; behind = λ plan more. refl };
      own = λ more. refl;
      cut = λ more. refl;
    }
own_names (peers.Nudge peer number) =
    record {
      names = record { named = refl; no_peer = refl; behind = λ plan more. refl };
      own = λ more. refl;
      cut = λ more. refl;
    }
own_names (peers.GiveUp peer number) =
    record {
      names = record { named = refl; no_peer = refl; behind = λ plan more. refl };
      own = λ more. refl;
      cut = λ more. refl;
    }
own_names (peers.Work peer poll) =
    record {
      names = record { named = refl; no_peer = refl; behind = λ plan more. refl };
      own = λ more. refl;
      cut = λ more. refl;
    }
own_names (peers.Expire peer poll) =
    record {
      names = record { named = refl; no_peer = refl; behind = λ plan more. refl };
      own = λ more. refl;
      cut = λ more. refl;
    }
own_names (peers.Check peer) =
    record {
      names = record { named = refl; no_peer = refl; behind = λ plan more. refl };
      own = λ more. refl;
      cut = λ more. refl;
    }
own_names (peers.Tune peer quorum minority repairs) =
    record {
      names = record { named = refl; no_peer = refl; behind = λ plan more. refl };
      own = λ more. refl;
      cut = λ more. refl;
    }
own_names (peers.Deliver envelope judged) =
    record {
      names = record { named = refl; no_peer = refl; behind = λ plan more. refl };
      own = λ more. refl;
      cut = λ more. refl;
    }

pub step_names : (step : Step) → NamesStep (key_of step)
unfolding key_of later_line
step_names (Peer step) = (own_names step).names
step_names (Tick by) = record { named = refl; no_peer = refl; behind = λ plan more. refl }
step_names (Next times) = record { named = refl; no_peer = refl; behind = λ plan more. refl }
step_names Lose = record { named = refl; no_peer = refl; behind = λ plan more. refl }
step_names (Again envelope) = record { named = refl; no_peer = refl; behind = λ plan more. refl }
step_names Settle = record { named = refl; no_peer = refl; behind = λ plan more. refl }
step_names Finish = record { named = refl; no_peer = refl; behind = λ plan more. refl }
step_names (Forge from to bytes) = record { named = refl; no_peer = refl; behind = λ plan more. refl }
step_names (SayPoll from to number au) = record { named = refl; no_peer = refl; behind = λ plan more. refl }
step_names (SayProof from to number) = record { named = refl; no_peer = refl; behind = λ plan more. refl }
step_names (SayRequest from to number block) = record { named = refl; no_peer = refl; behind = λ plan more. refl }
step_names (SayReceipt from to number) = record { named = refl; no_peer = refl; behind = λ plan more. refl }
step_names (SayChallenge from to number agrees) = record { named = refl; no_peer = refl; behind = λ plan more. refl }
step_names (SayNominate from to number nominees) = record { named = refl; no_peer = refl; behind = λ plan more. refl }
step_names (SayVote from to number au blocks) = record { named = refl; no_peer = refl; behind = λ plan more. refl }
step_names (SayRepair from to number block bytes) = record { named = refl; no_peer = refl; behind = λ plan more. refl }
step_names (Crash peer) = record { named = refl; no_peer = refl; behind = λ plan more. refl }
step_names (Cut calls choice step) = record { named = refl; no_peer = refl; behind = λ plan more. refl }

-- ---- steps of a peer's own

pub record IsOwnKept (s : PeerStep) : Type 0 where
  pub again : own_step_in (own_key s) (own_more s) ≡ Some s
  pub plain : are_plain (own_key s ∷ own_more s) ≡ true

open_kept : (more : List (List ℕ)) (s : PeerStep) → open_in more ≡ Some s → IsOwnKept s
unfolding open_in own_step_in own_key own_more
open_kept (w0 ∷ w1 ∷ []) s e =
    let a0 = bind_some (id_in w0) (λ x0. id_in w1 >>= λ x1. Some (peers.OpenPoll x0 x1)) s e in
    let a1 = bind_some (id_in w1) (λ x1. Some (peers.OpenPoll a0.0 x1)) s a0.2 in
    let k0 = id_word w0 a0.0 a0.1 in
    let k1 = id_word w1 a1.0 a1.1 in
    subst IsOwnKept (same_some (peers.OpenPoll a0.0 a1.0) s a1.2)
    (record { again = rw (k0.again, k1.again) refl; plain = rw (k0.plain, k1.plain) refl })
open_kept _ s e = absurd cc

check_kept : (more : List (List ℕ)) (s : PeerStep) → check_in more ≡ Some s → IsOwnKept s
unfolding check_in own_step_in own_key own_more
check_kept (w0 ∷ []) s e =
    let a0 = bind_some (id_in w0) (λ x0. Some (peers.Check x0)) s e in
    let k0 = id_word w0 a0.0 a0.1 in
    subst IsOwnKept (same_some (peers.Check a0.0) s a0.2)
    (record { again = rw (k0.again) refl; plain = rw (k0.plain) refl })
check_kept _ s e = absurd cc

tune_kept : (more : List (List ℕ)) (s : PeerStep) → tune_in more ≡ Some s → IsOwnKept s
unfolding tune_in own_step_in own_key own_more
tune_kept (w0 ∷ w1 ∷ w2 ∷ w3 ∷ []) s e =
    let a0 = bind_some (id_in w0)
    (λ x0. number_in 65535 w1 >>= λ x1. number_in 65535 w2 >>= λ x2. number_in 65535 w3 >>= λ x3. Some
    (peers.Tune x0 x1 x2 x3)) s e in
    let a1 = bind_some (number_in 65535 w1)
    (λ x1. number_in 65535 w2 >>= λ x2. number_in 65535 w3 >>= λ x3. Some (peers.Tune a0.0 x1 x2 x3)) s a0.2 in
    let a2 = bind_some (number_in 65535 w2) (λ x2. number_in 65535 w3 >>= λ x3. Some (peers.Tune a0.0 a1.0 x2 x3)) s
    a1.2 in
    let a3 = bind_some (number_in 65535 w3) (λ x3. Some (peers.Tune a0.0 a1.0 a2.0 x3)) s a2.2 in
    let k0 = id_word w0 a0.0 a0.1 in
    let k1 = small_word w1 a1.0 a1.1 in
    let k2 = small_word w2 a2.0 a2.1 in
    let k3 = small_word w3 a3.0 a3.1 in
    subst IsOwnKept (same_some (peers.Tune a0.0 a1.0 a2.0 a3.0) s a3.2)
    (record {
      again = rw (k0.again, k1.again, k2.again, k3.again) refl;
      plain = rw (k0.plain, k1.plain, k2.plain, k3.plain) refl;
    })
tune_kept _ s e = absurd cc

record IsSession (x : ℕ × PollName) : Type 0 where
  voter : IsWord id_in decimal x.0
  poller : IsWord id_in decimal x.1.poller
  number : IsWord poll_in decimal x.1.number

session_found : (more : List (List ℕ)) (s : ℕ × PollName) → session_in more ≡ Some s → IsSession s
unfolding session_in
session_found (w0 ∷ w1 ∷ w2 ∷ []) s e =
    let a0 = bind_some (id_in w0)
    (λ v. id_in w1 >>= λ q. poll_in w2 >>= λ n. Some (v, record { poller = q; number = n })) s e in
    let a1 = bind_some (id_in w1) (λ q. poll_in w2 >>= λ n. Some (a0.0, record { poller = q; number = n })) s a0.2 in
    let a2 = bind_some (poll_in w2) (λ n. Some (a0.0, record { poller = a1.0; number = n })) s a1.2 in
    subst IsSession (same_some (a0.0, record { poller = a1.0; number = a2.0 }) s a2.2)
    (record { voter = id_word w0 a0.0 a0.1; poller = id_word w1 a1.0 a1.1; number = poll_word w2 a2.0 a2.1 })
session_found _ s e = absurd cc

work_kept : (more : List (List ℕ)) (s : PeerStep) → work_in more ≡ Some s → IsOwnKept s
unfolding work_in session_in own_step_in own_key own_more
work_kept more s e =
    let a = bind_some (session_in more) (λ x. Some (peers.Work x.0 x.1)) s e in
    let k = session_found more a.0 a.1 in
    subst IsOwnKept (same_some (peers.Work a.0.0 a.0.1) s a.2)
    (record {
      again = rw (k.voter.again, k.poller.again, k.number.again) refl;
      plain = rw (k.voter.plain, k.poller.plain, k.number.plain) refl;
    })

expire_kept : (more : List (List ℕ)) (s : PeerStep) → expire_in more ≡ Some s → IsOwnKept s
unfolding expire_in session_in own_step_in own_key own_more
expire_kept more s e =
    let a = bind_some (session_in more) (λ x. Some (peers.Expire x.0 x.1)) s e in
    let k = session_found more a.0 a.1 in
    subst IsOwnKept (same_some (peers.Expire a.0.0 a.0.1) s a.2)
    (record {
      again = rw (k.voter.again, k.poller.again, k.number.again) refl;
      plain = rw (k.voter.plain, k.poller.plain, k.number.plain) refl;
    })

record IsOwnPoll (x : ℕ × ℕ) : Type 0 where
  peer : IsWord id_in decimal x.0
  number : IsWord poll_in decimal x.1

own_poll_found : (more : List (List ℕ)) (s : ℕ × ℕ) → own_poll_in more ≡ Some s → IsOwnPoll s
unfolding own_poll_in
own_poll_found (w0 ∷ w1 ∷ []) s e =
    let a0 = bind_some (id_in w0) (λ p. poll_in w1 >>= λ n. Some (p, n)) s e in
    let a1 = bind_some (poll_in w1) (λ n. Some (a0.0, n)) s a0.2 in
    subst IsOwnPoll (same_some (a0.0, a1.0) s a1.2)
    (record { peer = id_word w0 a0.0 a0.1; number = poll_word w1 a1.0 a1.1 })
own_poll_found _ s e = absurd cc

in_own_poll_kept : (key : List ℕ) (x : ℕ × ℕ) (s : PeerStep) → IsOwnPoll x → poll_step_in key x.0 x.1 ≡ Some s
    → IsOwnKept s
unfolding own_poll_in poll_step_in in_own_poll own_step_in own_key own_more
in_own_poll_kept key x s k e =
    if_else (bytes_eq key (codes "outer")) (Some (peers.Widen x.0 x.1)) _ s
    (λ h. subst IsOwnKept (same_some (peers.Widen x.0 x.1) s h)
    (record {
      again = rw (k.peer.again, k.number.again) refl;
      plain = rw (k.peer.plain, k.number.plain) refl;
    })) (
    if_else (bytes_eq key (codes "shut")) (Some (peers.Shut x.0 x.1)) _ s
    (λ h. subst IsOwnKept (same_some (peers.Shut x.0 x.1) s h)
    (record {
      again = rw (k.peer.again, k.number.again) refl;
      plain = rw (k.peer.plain, k.number.plain) refl;
    })) (
    if_else (bytes_eq key (codes "tally")) (Some (peers.Tally x.0 x.1)) _ s
    (λ h. subst IsOwnKept (same_some (peers.Tally x.0 x.1) s h)
    (record {
      again = rw (k.peer.again, k.number.again) refl;
      plain = rw (k.peer.plain, k.number.plain) refl;
    })) (
    if_else (bytes_eq key (codes "nudge")) (Some (peers.Nudge x.0 x.1)) _ s
    (λ h. subst IsOwnKept (same_some (peers.Nudge x.0 x.1) s h)
    (record {
      again = rw (k.peer.again, k.number.again) refl;
      plain = rw (k.peer.plain, k.number.plain) refl;
    })) (
    if_else (bytes_eq key (codes "give-up")) (Some (peers.GiveUp x.0 x.1)) None s
    (λ h. subst IsOwnKept (same_some (peers.GiveUp x.0 x.1) s h)
    (record {
      again = rw (k.peer.again, k.number.again) refl;
      plain = rw (k.peer.plain, k.number.plain) refl;
    })) (λ h. absurd cc))))) e

own_kept : (key : List ℕ) (more : List (List ℕ)) (s : PeerStep) → own_step_in key more ≡ Some s → IsOwnKept s
unfolding own_step_in in_own_poll
own_kept key more s e =
    if_else (bytes_eq key (codes "open")) (open_in more) _ s (open_kept more s) (
    if_else (bytes_eq key (codes "check")) (check_in more) _ s (check_kept more s) (
    if_else (bytes_eq key (codes "work")) (work_in more) _ s (work_kept more s) (
    if_else (bytes_eq key (codes "expire")) (expire_in more) _ s (expire_kept more s) (
    if_else (bytes_eq key (codes "tune")) (tune_in more) _ s (tune_kept more s) (
    λ h. let a =
    bind_some (own_poll_in more) (λ x. poll_step_in key x.0 x.1) s h in
    in_own_poll_kept key a.0 s (own_poll_found more a.0 a.1) a.2))))) e

-- ---- steps of a script

tick_kept : (more : List (List ℕ)) (s : Step) → tick_in more ≡ Some s → IsSaidStep s
unfolding tick_in step_in key_of more_of
tick_kept (w0 ∷ []) s e =
    let a0 = bind_some (number_in 4294967295 w0) (λ x0. Some (Tick x0)) s e in
    let k0 = large_word w0 a0.0 a0.1 in
    subst IsSaidStep (same_some (Tick a0.0) s a0.2) (record { again = rw (k0.again) refl; plain = rw (k0.plain) refl })
tick_kept _ s e = absurd cc

again_kept : (more : List (List ℕ)) (s : Step) → again_in more ≡ Some s → IsSaidStep s
unfolding again_in step_in key_of more_of
again_kept (w0 ∷ []) s e =
    let a0 = bind_some (number_in 4294967295 w0) (λ x0. Some (Again x0)) s e in
    let k0 = large_word w0 a0.0 a0.1 in
    subst IsSaidStep (same_some (Again a0.0) s a0.2) (record { again = rw (k0.again) refl; plain = rw (k0.plain) refl })
again_kept _ s e = absurd cc

crash_kept : (more : List (List ℕ)) (s : Step) → crash_in more ≡ Some s → IsSaidStep s
unfolding crash_in step_in key_of more_of
crash_kept (w0 ∷ []) s e =
    let a0 = bind_some (id_in w0) (λ x0. Some (Crash x0)) s e in
    let k0 = id_word w0 a0.0 a0.1 in
    subst IsSaidStep (same_some (Crash a0.0) s a0.2) (record { again = rw (k0.again) refl; plain = rw (k0.plain) refl })
crash_kept _ s e = absurd cc

forge_kept : (more : List (List ℕ)) (s : Step) → forge_in more ≡ Some s → IsSaidStep s
unfolding forge_in step_in key_of more_of
forge_kept (w0 ∷ w1 ∷ w2 ∷ []) s e =
    let a0 = bind_some (id_in w0) (λ x0. id_in w1 >>= λ x1. bytes_in w2 >>= λ x2. Some (Forge x0 x1 x2)) s e in
    let a1 = bind_some (id_in w1) (λ x1. bytes_in w2 >>= λ x2. Some (Forge a0.0 x1 x2)) s a0.2 in
    let a2 = bind_some (bytes_in w2) (λ x2. Some (Forge a0.0 a1.0 x2)) s a1.2 in
    let k0 = id_word w0 a0.0 a0.1 in
    let k1 = id_word w1 a1.0 a1.1 in
    let k2 = bytes_word w2 a2.0 a2.1 in
    subst IsSaidStep (same_some (Forge a0.0 a1.0 a2.0) s a2.2)
    (record { again = rw (k0.again, k1.again, k2.again) refl; plain = rw (k0.plain, k1.plain, k2.plain) refl })
forge_kept _ s e = absurd cc

lose_kept : (more : List (List ℕ)) (s : Step) → lose_in more ≡ Some s → IsSaidStep s
unfolding lose_in step_in key_of more_of
lose_kept [] s e = subst IsSaidStep (same_some Lose s e) (record { again = refl; plain = refl })
lose_kept _ s e = absurd cc

settle_kept : (more : List (List ℕ)) (s : Step) → settle_in more ≡ Some s → IsSaidStep s
unfolding settle_in step_in key_of more_of
settle_kept [] s e = subst IsSaidStep (same_some Settle s e) (record { again = refl; plain = refl })
settle_kept _ s e = absurd cc

finish_kept : (more : List (List ℕ)) (s : Step) → finish_in more ≡ Some s → IsSaidStep s
unfolding finish_in step_in key_of more_of
finish_kept [] s e = subst IsSaidStep (same_some Finish s e) (record { again = refl; plain = refl })
finish_kept _ s e = absurd cc

invitation_kept : (f t n : ℕ) → IsWord id_in decimal f → IsWord id_in decimal t → IsWord poll_in decimal n
    → (more : List (List ℕ)) (s : Step) → invitation_said f t n more ≡ Some s → IsSaidStep s
unfolding invitation_said say_in said_in step_in key_of more_of
invitation_kept f t n kf kt kn (w0 ∷ []) s e =
    let a0 = bind_some (id_in w0) (λ x0. Some (SayPoll f t n x0)) s e in
    let k0 = id_word w0 a0.0 a0.1 in
    subst IsSaidStep (same_some (SayPoll f t n a0.0) s a0.2)
    (record {
      again = rw (kf.again, kt.again, kn.again, k0.again) refl;
      plain = rw (kf.plain, kt.plain, kn.plain, k0.plain) refl;
    })
invitation_kept f t n kf kt kn _ s e = absurd cc

proof_kept : (f t n : ℕ) → IsWord id_in decimal f → IsWord id_in decimal t → IsWord poll_in decimal n
    → (more : List (List ℕ)) (s : Step) → proof_said f t n more ≡ Some s → IsSaidStep s
unfolding proof_said say_in said_in step_in key_of more_of
proof_kept f t n kf kt kn [] s e =
    subst IsSaidStep (same_some (SayProof f t n) s e)
    (record { again = rw (kf.again, kt.again, kn.again) refl; plain = rw (kf.plain, kt.plain, kn.plain) refl })
proof_kept f t n kf kt kn _ s e = absurd cc

request_kept : (f t n : ℕ) → IsWord id_in decimal f → IsWord id_in decimal t → IsWord poll_in decimal n
    → (more : List (List ℕ)) (s : Step) → request_said f t n more ≡ Some s → IsSaidStep s
unfolding request_said say_in said_in step_in key_of more_of
request_kept f t n kf kt kn (w0 ∷ []) s e =
    let a0 = bind_some (index_in w0) (λ x0. Some (SayRequest f t n x0)) s e in
    let k0 = index_word w0 a0.0 a0.1 in
    subst IsSaidStep (same_some (SayRequest f t n a0.0) s a0.2)
    (record {
      again = rw (kf.again, kt.again, kn.again, k0.again) refl;
      plain = rw (kf.plain, kt.plain, kn.plain, k0.plain) refl;
    })
request_kept f t n kf kt kn _ s e = absurd cc

receipt_kept : (f t n : ℕ) → IsWord id_in decimal f → IsWord id_in decimal t → IsWord poll_in decimal n
    → (more : List (List ℕ)) (s : Step) → receipt_said f t n more ≡ Some s → IsSaidStep s
unfolding receipt_said say_in said_in step_in key_of more_of
receipt_kept f t n kf kt kn [] s e =
    subst IsSaidStep (same_some (SayReceipt f t n) s e)
    (record { again = rw (kf.again, kt.again, kn.again) refl; plain = rw (kf.plain, kt.plain, kn.plain) refl })
receipt_kept f t n kf kt kn _ s e = absurd cc

challenge_kept : (f t n : ℕ) → IsWord id_in decimal f → IsWord id_in decimal t → IsWord poll_in decimal n
    → (more : List (List ℕ)) (s : Step) → challenge_said f t n more ≡ Some s → IsSaidStep s
unfolding challenge_said say_in said_in step_in key_of more_of
challenge_kept f t n kf kt kn (w0 ∷ []) s e =
    let a0 = bind_some (answer_in w0) (λ x0. Some (SayChallenge f t n x0)) s e in
    let k0 = answer_word w0 a0.0 a0.1 in
    subst IsSaidStep (same_some (SayChallenge f t n a0.0) s a0.2)
    (record {
      again = rw (kf.again, kt.again, kn.again, k0.again) refl;
      plain = rw (kf.plain, kt.plain, kn.plain, k0.plain) refl;
    })
challenge_kept f t n kf kt kn _ s e = absurd cc

repair_kept : (f t n : ℕ) → IsWord id_in decimal f → IsWord id_in decimal t → IsWord poll_in decimal n
    → (more : List (List ℕ)) (s : Step) → repair_said f t n more ≡ Some s → IsSaidStep s
unfolding repair_said say_in said_in step_in key_of more_of
repair_kept f t n kf kt kn (w0 ∷ w1 ∷ []) s e =
    let a0 = bind_some (index_in w0) (λ x0. block_in w1 >>= λ x1. Some (SayRepair f t n x0 x1)) s e in
    let a1 = bind_some (block_in w1) (λ x1. Some (SayRepair f t n a0.0 x1)) s a0.2 in
    let k0 = index_word w0 a0.0 a0.1 in
    let k1 = block_word w1 a1.0 a1.1 in
    subst IsSaidStep (same_some (SayRepair f t n a0.0 a1.0) s a1.2)
    (record {
      again = rw (kf.again, kt.again, kn.again, k0.again, k1.again) refl;
      plain = rw (kf.plain, kt.plain, kn.plain, k0.plain, k1.plain) refl;
    })
repair_kept f t n kf kt kn _ s e = absurd cc

nominees_kept : (f t n : ℕ) → IsWord id_in decimal f → IsWord id_in decimal t → IsWord poll_in decimal n
    → (more : List (List ℕ)) (s : Step) → nominees_said f t n more ≡ Some s → IsSaidStep s
unfolding nominees_said say_in said_in step_in key_of more_of
nominees_kept f t n kf kt kn more s e =
    let a = bind_some (each_in id_in more) (λ ids. Some (SayNominate f t n ids)) s e in
    let fit = ids_fit more a.0 a.1 in
    subst IsSaidStep (same_some (SayNominate f t n a.0) s a.2)
    (record {
      again = rw (kf.again, kt.again, kn.again, ids_again a.0 fit) refl;
      plain = rw (kf.plain, kt.plain, kn.plain, ids_plain a.0 fit) refl;
    })

vote_kept : (f t n : ℕ) → IsWord id_in decimal f → IsWord id_in decimal t → IsWord poll_in decimal n
    → (more : List (List ℕ)) (s : Step) → vote_said f t n more ≡ Some s → IsSaidStep s
unfolding vote_said say_in said_in step_in key_of more_of
vote_kept f t n kf kt kn (w0 ∷ of ∷ w1 ∷ []) s e =
    let a0 = bind_some (id_in w0)
    (λ a. blocks_in w1 >>= λ bs. cond (bytes_eq of (codes "of")) (Some (SayVote f t n a bs)) None) s e in
    let a1 = bind_some (blocks_in w1) (λ bs. cond (bytes_eq of (codes "of")) (Some (SayVote f t n a0.0 bs)) None) s
    a0.2 in
    let a2 = if_some (bytes_eq of (codes "of")) (Some (SayVote f t n a0.0 a1.0)) s a1.2 in
    let k0 = id_word w0 a0.0 a0.1 in
    let k1 = blocks_word w1 a1.0 a1.1 in
    subst IsSaidStep (same_some (SayVote f t n a0.0 a1.0) s a2.1)
    (record {
      again = rw (kf.again, kt.again, kn.again, k0.again, k1.again) refl;
      plain = rw (kf.plain, kt.plain, kn.plain, k0.plain, k1.plain) refl;
    })
vote_kept f t n kf kt kn _ s e = absurd cc

said_kept : (what : List ℕ) (f t n : ℕ) → IsWord id_in decimal f → IsWord id_in decimal t → IsWord poll_in decimal n
    → (more : List (List ℕ)) (s : Step) → said_in what f t n more ≡ Some s → IsSaidStep s
unfolding said_in
said_kept what f t n kf kt kn more s e =
    if_else (bytes_eq what (codes "poll")) (invitation_said f t n more) _ s (invitation_kept f t n kf kt kn more s) (
    if_else (bytes_eq what (codes "proof")) (proof_said f t n more) _ s (proof_kept f t n kf kt kn more s) (
    if_else (bytes_eq what (codes "request")) (request_said f t n more) _ s (request_kept f t n kf kt kn more s) (
    if_else (bytes_eq what (codes "receipt")) (receipt_said f t n more) _ s (receipt_kept f t n kf kt kn more s) (
    if_else (bytes_eq what (codes "challenge")) (challenge_said f t n more) _ s (challenge_kept f t n kf kt kn more s) (
    if_else (bytes_eq what (codes "nominate")) (nominees_said f t n more) _ s (nominees_kept f t n kf kt kn more s) (
    if_else (bytes_eq what (codes "vote")) (vote_said f t n more) _ s (vote_kept f t n kf kt kn more s) (
    if_else (bytes_eq what (codes "repair")) (repair_said f t n more) None s (repair_kept f t n kf kt kn more s)
    (λ h. absurd cc)))))))) e

say_kept : (more : List (List ℕ)) (s : Step) → say_in more ≡ Some s → IsSaidStep s
unfolding say_in
say_kept (from ∷ what ∷ to ∷ number ∷ more) s e =
    let f = bind_some (id_in from) (λ f. id_in to >>= λ t. poll_in number >>= λ n. said_in what f t n more) s e in
    let t = bind_some (id_in to) (λ t. poll_in number >>= λ n. said_in what f.0 t n more) s f.2 in
    let n = bind_some (poll_in number) (λ n. said_in what f.0 t.0 n more) s t.2 in
    said_kept what f.0 t.0 n.0 (id_word from f.0 f.1) (id_word to t.0 t.1) (poll_word number n.0 n.1) more s n.2
say_kept _ s e = absurd cc

-- once without a count, and else with it
times_kept : (n : ℕ) (once : Bool) → eqb n 1 ≡ once → IsWord (number_in 65535) decimal n → IsSaidStep (Next n)
unfolding next_in step_in key_of more_of times_words
times_kept n true is w =
    record { again = rw is (ap (λ (k : ℕ). Some (Next k)) (sym (eqb-true n 1 is))); plain = rw is refl }
times_kept n false is w = record { again = rw (is, w.again) refl; plain = rw (is, w.plain) refl }

next_kept : (more : List (List ℕ)) (s : Step) → next_in more ≡ Some s → IsSaidStep s
unfolding next_in step_in key_of more_of times_words
next_kept [] s e = subst IsSaidStep (same_some (Next 1) s e) (record { again = refl; plain = refl })
next_kept (w0 ∷ []) s e =
    let a = bind_some (number_in 65535 w0) (λ n. Some (Next n)) s e in
    subst IsSaidStep (same_some (Next a.0) s a.2) (times_kept a.0 (eqb a.0 1) refl (small_word w0 a.0 a.1))
next_kept _ s e = absurd cc

-- ---- what is cut off

record IsCutKept (s : CutStep) : Type 0 where
  again : cut_step_in (cut_key s) (cut_more s) ≡ Some s
  plain : are_plain (cut_key s ∷ cut_more s) ≡ true

cut_own_kept : (key : List ℕ) (more : List (List ℕ)) (s : CutStep) → cut_own_in key more ≡ Some s → IsCutKept s
unfolding cut_own_in cut_key cut_more
cut_own_kept key more s e =
    let a = bind_some (own_step_in key more) (λ x. Some (cut.Peer x)) s e in
    let k = own_kept key more a.0 a.1 in
    subst IsCutKept (same_some (cut.Peer a.0) s a.2)
    (record {
      again = (own_names a.0).cut (own_more a.0)
          ∙ ap (λ (o : Option PeerStep). o >>= λ x. Some (cut.Peer x)) k.again;
      plain = k.plain;
    })

cut_next_kept : (more : List (List ℕ)) (s : CutStep) → cut_next_in more ≡ Some s → IsCutKept s
unfolding cut_next_in cut_step_in cut_key cut_more
cut_next_kept [] s e = subst IsCutKept (same_some cut.Next s e) (record { again = refl; plain = refl })
cut_next_kept _ s e = absurd cc

cut_again_kept : (more : List (List ℕ)) (s : CutStep) → cut_again_in more ≡ Some s → IsCutKept s
unfolding cut_again_in cut_step_in cut_key cut_more
cut_again_kept (w0 ∷ []) s e =
    let a0 = bind_some (number_in 4294967295 w0) (λ i. Some (cut.Again i)) s e in
    let k0 = large_word w0 a0.0 a0.1 in
    subst IsCutKept (same_some (cut.Again a0.0) s a0.2) (record { again = rw k0.again refl; plain = rw k0.plain refl })
cut_again_kept _ s e = absurd cc

cut_step_kept : (key : List ℕ) (more : List (List ℕ)) (s : CutStep) → cut_step_in key more ≡ Some s → IsCutKept s
unfolding cut_step_in
cut_step_kept key more s e =
    if_else (bytes_eq key (codes "next")) (cut_next_in more) _ s (cut_next_kept more s) (
    if_else (bytes_eq key (codes "again")) (cut_again_in more) _ s (cut_again_kept more s) (cut_own_kept key more s)) e

cut_kept : (more : List (List ℕ)) (s : Step) → cut_in more ≡ Some s → IsSaidStep s
unfolding cut_in step_in key_of more_of
cut_kept (w0 ∷ w1 ∷ key ∷ more) s e =
    let a0 = bind_some (number_in 255 w0)
    (λ k. number_in 255 w1 >>= λ c. cut_step_in key more >>= λ x. Some (Cut k c x)) s e in
    let a1 = bind_some (number_in 255 w1) (λ c. cut_step_in key more >>= λ x. Some (Cut a0.0 c x)) s a0.2 in
    let a2 = bind_some (cut_step_in key more) (λ x. Some (Cut a0.0 a1.0 x)) s a1.2 in
    let k0 = byte_word w0 a0.0 a0.1 in
    let k1 = byte_word w1 a1.0 a1.1 in
    let k2 = cut_step_kept key more a2.0 a2.1 in
    subst IsSaidStep (same_some (Cut a0.0 a1.0 a2.0) s a2.2)
    (record { again = rw (k0.again, k1.again, k2.again) refl; plain = rw (k0.plain, k1.plain, k2.plain) refl })
cut_kept _ s e = absurd cc

-- ---- a peer's own step as a step of the script

peer_kept : (key : List ℕ) (more : List (List ℕ)) (s : Step) → peer_step_in key more ≡ Some s → IsSaidStep s
unfolding peer_step_in key_of more_of
peer_kept key more s e =
    let a = bind_some (own_step_in key more) (λ x. Some (Peer x)) s e in
    let k = own_kept key more a.0 a.1 in
    subst IsSaidStep (same_some (Peer a.0) s a.2)
    (record {
      again = (own_names a.0).own (own_more a.0)
          ∙ ap (λ (o : Option PeerStep). o >>= λ x. Some (Peer x)) k.again;
      plain = k.plain;
    })

-- ---- all forms

pub step_kept : (key : List ℕ) (more : List (List ℕ)) (s : Step) → step_in key more ≡ Some s → IsSaidStep s
unfolding step_in
step_kept key more s e =
    if_else (bytes_eq key (codes "tick")) (tick_in more) _ s (tick_kept more s) (
    if_else (bytes_eq key (codes "next")) (next_in more) _ s (next_kept more s) (
    if_else (bytes_eq key (codes "lose")) (lose_in more) _ s (lose_kept more s) (
    if_else (bytes_eq key (codes "again")) (again_in more) _ s (again_kept more s) (
    if_else (bytes_eq key (codes "settle")) (settle_in more) _ s (settle_kept more s) (
    if_else (bytes_eq key (codes "finish")) (finish_in more) _ s (finish_kept more s) (
    if_else (bytes_eq key (codes "forge")) (forge_in more) _ s (forge_kept more s) (
    if_else (bytes_eq key (codes "say")) (say_in more) _ s (say_kept more s) (
    if_else (bytes_eq key (codes "crash")) (crash_in more) _ s (crash_kept more s) (
    if_else (bytes_eq key (codes "cut")) (cut_in more) _ s (cut_kept more s) (peer_kept key more s)))))))))) e

weaker_each : (words : List (List ℕ)) → are_plain words ≡ true → list_all (are_above 32) words ≡ true
weaker_each [] h = refl
weaker_each (w ∷ words) h =
    let p = and_parts (are_above 43 w) (are_plain words) h in
    and_from (are_above 32 w) _ (weaker 32 43 w (omega arith) p.0) (weaker_each words p.1)

-- its line is split into its words
pub step_parts : (s : Step) → IsSaidStep s → parts 32 (key_of s ++ spaced (more_of s)) ≡ key_of s ∷ more_of s
step_parts s kept =
    let p = and_parts (are_above 43 (key_of s)) (are_plain (more_of s)) kept.plain in
    words_part (key_of s) (more_of s) (weaker 32 43 (key_of s) (omega arith) p.0) (weaker_each (more_of s) p.1)
