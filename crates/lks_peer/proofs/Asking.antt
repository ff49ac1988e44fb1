-- The block for which a poll waits is one that an AU may have.
use Rattle.std.proofs.Common.{◌≡◌, ◌<◌, ◌≤◌, ℕ, length, subst, arith}
use Rattle.std.specs.Prelude.{Option, Some, None, IfSome, option_map}
use Rattle.lks_base.specs.declared.limits.TheConstants.{LAST_BLOCK}
use Rattle.lks_audit.proofs.Holdings.{few_on}
use Rattle.lks_audit.specs.Seen.{request_of, poll_of}
use Rattle.lks_law.proofs.Fitting.{poll_where}
use Rattle.lks_law.specs.Fitting.{Where, AsksWithin, IsSound}
use Rattle.lks_law.specs.Journal.{Request}
use Rattle.lks_law.specs.State.{Poll, State, poll_at, blocks_at}
use Rattle.lks_peer.specs.Knows.{AsksSmall}
use Rattle.lks_poller.specs.Polling.{Polled}
use Rattle.lks_choice.specs.Asking.{awaited_request}

-- as the poll keeps it
pub small_request : (s : Polled) (o : Option Poll) → o ≡ Some (poll_of s) → AsksSmall o
    → IfSome (awaited_request s.suppliers) (λ r. r.0 ≤ LAST_BLOCK)
unfolding AsksSmall
small_request s None is small = absurd cc
small_request s (Some p) is small =
    let same : p ≡ poll_of s = cc in
    by_request (awaited_request s.suppliers)
    (subst (λ (x : Poll). Where x.request (λ r. r.block ≤ LAST_BLOCK)) same small)
  where
    by_request : (o : Option (ℕ × ℕ)) → Where (option_map request_of o) (λ r. r.block ≤ LAST_BLOCK)
        → IfSome o (λ r. r.0 ≤ LAST_BLOCK)
    by_request None within = tt
    by_request (Some r) within = within

-- whichever poll runs
pub asks_small : (s : State) (n : ℕ) → IsSound s → AsksSmall (poll_at n s.polls)
unfolding AsksSmall
asks_small s n sound = each (poll_at n s.polls) (poll_where (AsksWithin s.copies) n s.polls sound.asks)
  where
    one : (au : ℕ) (o : Option Request) → Where o (λ r. r.block < length (blocks_at au s.copies))
        → Where o (λ r. r.block ≤ LAST_BLOCK)
    one au None within = tt
    one au (Some r) within = omega (arith, within, few_on au s.copies sound.counted)

    each : (o : Option Poll) → Where o (AsksWithin s.copies)
        → Where o (λ p. Where p.request (λ r. r.block ≤ LAST_BLOCK))
    each None all = tt
    each (Some p) all = one p.opening.au p.request all
