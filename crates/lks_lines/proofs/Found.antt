-- What is done at the place of the first element that passes.
use Rattle.std.proofs.Common.{◌≡◌, ℕ, ◌==◌, Bool, List, length, get_or, set, Option, Some, refl, sym, ap}
use Rattle.std.specs.List.{find, position}
use Rattle.std.specs.Prelude.{slice_get}
use Rattle.std.proofs.lemmas.List.Quantifiers.{position-Some}
use Rattle.std.proofs.lemmas.Option.{slice_get_read}
use Rattle.lks_base.specs.declared.plans.AuPlan.{AuPlan}
use Rattle.lks_base.specs.declared.plans.Holding.{Holding}
use Rattle.lks_base.specs.declared.plans.PeerPlan.{PeerPlan}
use Rattle.lks_words.specs.Numbers.{◌>>=◌}
use Rattle.lks_lines.specs.CopyLines.{may_hold, with_copies, copy_at, copies_with, holding, block_put, copy_damaged}
use Rattle.lks_lines.specs.CopyLines.{peers_with_damage}

module _ {X Y : Type 0} (test : X → Bool) (xs : List X) (body : ℕ → X → Option Y) where
  at_place : (at : ℕ) (x : X) → position test xs ≡ Some at → x ≡ get_or xs at x
      → (position test xs >>= λ at. slice_get xs at >>= λ x. body at x) ≡ body at x
  at_place at x found is =
      let within = (position-Some test xs at x found).0 in
      rw (found, slice_get_read xs (length xs) at x refl within is) refl

pub holding_at : (aus : List AuPlan) (bytes id : ℕ) (copy : Holding) (peers : List PeerPlan) (at : ℕ)
    (peer : PeerPlan)
    → position (may_hold id) peers ≡ Some at → peer ≡ get_or peers at peer
    → holding aus bytes id copy peers
    ≡ (copies_with aus bytes copy peer.copies >>= λ kept. Some (set peers at (with_copies peer kept.0), kept.1))
unfolding holding
holding_at aus bytes id copy peers =
    at_place (may_hold id) peers
    (λ at peer. copies_with aus bytes copy peer.copies >>= λ kept. Some
    (set peers at (with_copies peer kept.0), kept.1))

pub copy_damaged_at : (bytes au b : ℕ) (block : List ℕ) (copies : List Holding) (at : ℕ) (copy : Holding)
    → position (λ c. c.au == au) copies ≡ Some at → copy ≡ get_or copies at copy
    → copy_damaged bytes au b block copies
    ≡ (block_put bytes b block copy.blocks >>= λ put. Some
    (set copies at (record { au = copy.au; blocks = put.0 }), put.1))
unfolding copy_damaged
copy_damaged_at bytes au b block copies =
    at_place (λ c. c.au == au) copies
    (λ at copy. block_put bytes b block copy.blocks >>= λ put. Some
    (set copies at (record { au = copy.au; blocks = put.0 }), put.1))

pub damaged_at : (bytes id au b : ℕ) (block : List ℕ) (peers : List PeerPlan) (at : ℕ) (peer : PeerPlan)
    → position (may_hold id) peers ≡ Some at → peer ≡ get_or peers at peer
    → peers_with_damage bytes id au b block peers
    ≡ (copy_damaged bytes au b block peer.copies >>= λ kept. Some
    (set peers at (with_copies peer kept.0), kept.1))
unfolding peers_with_damage
damaged_at bytes id au b block peers =
    at_place (may_hold id) peers
    (λ at peer. copy_damaged bytes au b block peer.copies >>= λ kept. Some
    (set peers at (with_copies peer kept.0), kept.1))

pub copied_from : (peers : List PeerPlan) (id au : ℕ) (peer : PeerPlan) (copies : List Holding) (copy : Holding)
    (blocks : List (List ℕ))
    → find (λ p. p.id == id) peers ≡ Some peer → copies ≡ peer.copies
    → find (λ c. c.au == au) copies ≡ Some copy → blocks ≡ copy.blocks → copy_at peers id au ≡ Some blocks
unfolding copy_at
copied_from peers id au peer copies copy blocks found same there is =
    rw found (rw (rw same at there) (ap Some (sym is)))
