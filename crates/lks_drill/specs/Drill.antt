-- The scenario of a drill, as its seed gives it: which plan, and which steps.
use Rattle.std.specs.Prelude.{ℕ, zero, suc, ◌+◌, ◌-◌, ◌*◌, Bool, false, not, ◌==◌, if◌then◌else◌, List, [], ◌∷◌, ◌++◌}
use Rattle.std.specs.Prelude.{map, replicate, slice_set, filter}
use Rattle.std.specs.Int.{w16, w64, to_be_bytes}
use Rattle.std.specs.List.{range_with_len, flat_map}
use Rattle.lks_base.specs.declared.events.PeerStep.TheVariants.{OpenPoll}
use Rattle.lks_base.specs.declared.names.HashKind.TheVariants.{Sha256}
use Rattle.lks_base.specs.declared.plans.AuPlan.{AuPlan}
use Rattle.lks_base.specs.declared.plans.Holding.{Holding}
use Rattle.lks_base.specs.declared.plans.PeerPlan.{PeerPlan}
use Rattle.lks_base.specs.declared.plans.Plan.{Plan}
use Rattle.lks_base.specs.declared.plans.Rules.{Rules}
use Rattle.lks_draw.specs.Words.{Drawn, drawn_from, next_of, draw_after}
use Rattle.lks_script.specs.declared.steps.Script.{Script}
use Rattle.lks_script.specs.declared.steps.Step.{Step}
use Rattle.lks_script.specs.declared.steps.Step.TheVariants.{Peer, Finish}

-- the peers 1 to 12, and the AUs 1 and 2
abbrev pub peer_numbers : List ℕ
peer_numbers = range_with_len 1 12

abbrev pub au_numbers : List ℕ
au_numbers = range_with_len 1 2

-- ---- copies

-- a block that is the same byte, 512 times
unfoldable pub block_of : ℕ → List ℕ
block_of byte = replicate 512 byte

-- a copy that isn't damaged: its 128 blocks are the bytes 0, 1 and so on
unfoldable pub whole_copy : List (List ℕ)
whole_copy = map block_of (range_with_len 0 128)

-- whether a copy is damaged, by the next word of the draw: one in eight is
unfoldable pub is_damaged : Drawn → Bool
is_damaged d = next_of d 8 == 0

-- the blocks of a peer's copy: the second word says which block of a damaged one is the byte 200 + peer
unfoldable pub blocks_of : ℕ → Drawn → List (List ℕ)
blocks_of peer d =
    if is_damaged d then slice_set whole_copy (next_of (draw_after d 1) 128) (block_of (200 + peer)) else whole_copy

-- a damaged copy takes two words of the draw, and another takes one
unfoldable pub after_copy : Drawn → Drawn
after_copy d = if is_damaged d then draw_after d 2 else draw_after d 1

-- the draw before the copy of this number, where copies are numbered from 0
unfoldable pub draw_before : Drawn → ℕ → Drawn
draw_before d zero = d
draw_before d (suc n) = after_copy (draw_before d n)

abbrev pub holding_of : ℕ → ℕ → Drawn → Holding
holding_of peer au d = record { au = au; blocks = blocks_of peer d }

-- the draw that damages the copies, of label 6 and number 0
unfoldable pub draw_of : ℕ → Drawn
draw_of seed = drawn_from (to_be_bytes w64 seed ++ replicate 24 0) 6 0

-- the copies of a peer. Copies are numbered peer by peer, and AU by AU of the two that each has
unfoldable pub copies_of : ℕ → ℕ → List Holding
copies_of seed peer = map (λ au. holding_of peer au (draw_before (draw_of seed) (2 * (peer - 1) + (au - 1)))) au_numbers

-- ---- peers

-- the seed of a peer: that of the drill, and its number
unfoldable pub peer_seed : ℕ → ℕ → List ℕ
peer_seed seed peer = to_be_bytes w64 seed ++ to_be_bytes w16 peer ++ replicate 22 0

-- all other peers, rising
unfoldable pub others_than : ℕ → List ℕ
others_than peer = filter (λ id. not (id == peer)) peer_numbers

-- the next peer alone, and peer 1 for peer 12
unfoldable pub friends_of : ℕ → List ℕ
friends_of peer = (if peer == 12 then 1 else peer + 1) ∷ []

-- an honest peer with these copies
unfoldable pub peer_with : ℕ → ℕ → List Holding → PeerPlan
peer_with seed peer copies = record {
  id = peer;
  corrupt = false;
  seed = peer_seed seed peer;
  proof = 1 ∷ [];
  refs = others_than peer;
  friends = friends_of peer;
  copies = copies;
  hash = Sha256;
}

abbrev pub peer_of : ℕ → ℕ → PeerPlan
peer_of seed peer = peer_with seed peer (copies_of seed peer)

unfoldable pub peers_of : ℕ → List PeerPlan
peers_of seed = map (peer_of seed) peer_numbers

-- ---- the plan and the steps

abbrev pub drill_rules : Rules
drill_rules = record {
  inner = 8;
  quorum = 5;
  minority = 2;
  outer = 2;
  repairs = 4;
  pace = 0;
  refractory = 0;
  overdue = 1000;
  unknown_pct = 100;
  debt_pct = 100;
  churn = 1;
}

-- each AU has 128 blocks
abbrev pub au_of_drill : ℕ → AuPlan
au_of_drill au = record { id = au; count = 128 }

unfoldable pub aus_of_drill : List AuPlan
aus_of_drill = map au_of_drill au_numbers

unfoldable pub plan_of : ℕ → Plan
plan_of seed = record { rules = drill_rules; turns = 4096; aus = aus_of_drill; peers = peers_of seed }

-- a peer opens a poll on an AU, and the poll is finished
abbrev pub audit_of : ℕ → ℕ → List Step
audit_of peer au = Peer (OpenPoll peer au) ∷ Finish ∷ []

unfoldable pub audits_of : ℕ → List Step
audits_of peer = flat_map (audit_of peer) au_numbers

unfoldable pub steps_of_drill : List Step
steps_of_drill = flat_map audits_of peer_numbers

unfoldable pub drill_of : ℕ → Script
drill_of seed = record { plan = plan_of seed; steps = steps_of_drill }
