-- What a session keeps, as its running poll has it.
use Rattle.std.proofs.Common.{◌≡◌, ap, sym, ℕ, List, [], ◌∷◌, refl}
use Rattle.std.specs.Prelude.{◌==◌, ◌&&◌, ◌||◌, not, find, map}
use Rattle.std.specs.List.{list_any}
use Rattle.lks_choice.specs.Asking.{next_at, was_asked}
use Rattle.lks_tally.specs.Running.{Nomination, Request, first_unasked, was_asked_of}
use Rattle.lks_poller.specs.Polling.{Polled}
use Rattle.lks_poller.specs.Running.{nomination_of, poll_of, request_of}
use Rattle.lks_poller.specs.declared.stages.Nomination.{Nomination as Nominated}

pub nominated_seen : (ns : List Nominated) (v : ℕ)
    → list_any (λ (n : Nomination). n.voter == v) (map nomination_of ns)
    ≡ list_any (λ (n : Nominated). n.voter == v) ns
nominated_seen [] v = refl
nominated_seen (n ∷ ns) v = ap (λ b. n.voter == v || b) (nominated_seen ns v)

asked_seen : (asked : List (ℕ × ℕ)) (b v : ℕ)
    → list_any (λ (r : Request). r.block == b && r.voter == v) (map request_of asked) ≡ was_asked asked b v
asked_seen [] b v = refl
asked_seen (a ∷ asked) b v = ap (λ rest. (a.0 == b && a.1 == v) || rest) (asked_seen asked b v)

pub supplier_seen : (s : Polled) (b : ℕ) (against : List ℕ)
    → next_at s.suppliers.asked b against ≡ first_unasked (poll_of s) b against
unfolding was_asked_of
supplier_seen s b against = λ i. find (λ v. not (sym (asked_seen s.suppliers.asked b v) i)) against
