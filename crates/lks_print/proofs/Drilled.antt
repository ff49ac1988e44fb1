-- The script of a drill is said: its values are in their limits, and each of its steps can stand behind those before
-- it.
use Rattle.std.proofs.Common.{◌≡◌, ℕ, zero, suc, ◌+◌, ◌-◌, ◌*◌, ◌/◌, ◌≤◌, ◌<◌, ◌^◌, true, false, List, [], ◌∷◌, ◌++◌}
use Rattle.std.proofs.Common.{length, refl, arith}
use Rattle.std.specs.Prelude.{replicate}
use Rattle.std.specs.Int.{w16, w64, byte_at, bytes_high_first, to_be_bytes}
use Rattle.std.specs.List.{All, flat_map, range_with_len}
use Rattle.std.proofs.Math.Nat.{mod-lt}
use Rattle.std.proofs.lemmas.Bool.{and_parts, and_from}
use Rattle.std.proofs.lemmas.List.{length-replicate}
use Rattle.std.proofs.lemmas.List.Elements.{All-nil, All-cons, All-head, All-tail, All-map, All-set}
use Rattle.hex.specs.Hex.{IsBytes}
use Rattle.lks_base.specs.declared.events.PeerStep.TheVariants.{OpenPoll}
use Rattle.lks_base.specs.declared.limits.TheConstants.{MOST_BLOCK_BYTES, MOST_PROOF_BYTES}
use Rattle.lks_base.specs.declared.plans.Holding.{Holding}
use Rattle.lks_base.specs.declared.plans.Plan.{Plan}
use Rattle.lks_script.specs.declared.steps.Step.{Step}
use Rattle.lks_script.specs.declared.steps.Step.TheVariants.{Peer, Finish}
use Rattle.lks_script.specs.StepLines.{open_in, own_step_in, peer_step_in, finish_in, step_in}
use Rattle.lks_script.specs.StepRules.{is_step_of, fails_power, has_power_for, are_steps_of}
use Rattle.lks_words.specs.Texts.{AreFew}
use Rattle.lks_words.proofs.Kept.{bytes_append, bytes_replicate}
use Rattle.lks_drill.specs.Drill.{peer_numbers, au_numbers, block_of, whole_copy, is_damaged, blocks_of, draw_before}
use Rattle.lks_drill.specs.Drill.{draw_of, holding_of, copies_of, peer_seed, peer_with, peer_of, peers_of, plan_of}
use Rattle.lks_drill.specs.Drill.{audit_of, audits_of, steps_of_drill, drill_of}
use Rattle.lks_drill.proofs.Good.{good_plan, steps_stand}
use Rattle.lks_drill.proofs.Sizes.{either}
use Rattle.lks_print.proofs.Kept.{small_plain, small_again}
use Rattle.lks_print.specs.Steps.{key_of, more_of}
use Rattle.lks_words.specs.Steps.{own_key, own_more}
use Rattle.lks_print.specs.Said.{IsSaidStep, IsSaidPeer, StepsFollow, IsSaid}

-- ---- what holds of each element

-- of each number from a on that is below a bound
all_range : (P : ℕ → Type 0) (end a n : ℕ) → a + n ≤ end → ((k : ℕ) → k < end → P k) → All P (range_with_len a n)
all_range P end a zero le h = All-nil P
all_range P end a (suc n) le h =
    All-cons P a (range_with_len (a + 1) n) (h a (omega (arith, le)))
    (all_range P end (a + 1) n (omega (arith, le)) h)

-- ---- bytes

byte_fits : (i n : ℕ) → byte_at i n < 256
byte_fits zero n = mod-lt n (omega arith)
byte_fits (suc i) n = mod-lt (n / 256 ^ suc i) (omega arith)

-- a number of any size: only its lowest bytes are written
bytes_of_number : (k n : ℕ) → IsBytes (bytes_high_first k n)
bytes_of_number zero n i = omega arith
bytes_of_number (suc k) n zero = byte_fits k n
bytes_of_number (suc k) n (suc i) = bytes_of_number k n i

-- ---- copies

block_few : (byte : ℕ) → byte < 256 → AreFew MOST_BLOCK_BYTES (block_of byte)
unfolding block_of
block_few byte lt =
    let long = length-replicate 512 byte in
    record { bytes = bytes_replicate 512 byte lt; few = omega (arith, long) }

whole_few : All (AreFew MOST_BLOCK_BYTES) whole_copy
unfolding whole_copy
whole_few =
    All-map (AreFew MOST_BLOCK_BYTES) block_of (range_with_len 0 128)
    (all_range (λ byte. AreFew MOST_BLOCK_BYTES (block_of byte)) 128 0 128 (omega arith)
    (λ byte lt. block_few byte (omega (arith, lt))))

-- damaged or not; the draw's type is of a crate that this one doesn't name
copy_few : (peer : ℕ) (d : _) → peer < 13 → All (AreFew MOST_BLOCK_BYTES) (blocks_of peer d)
unfolding blocks_of
copy_few peer d lt =
    either (All (AreFew MOST_BLOCK_BYTES)) (is_damaged d) _ _
    (All-set (AreFew MOST_BLOCK_BYTES) whole_copy _ _ (block_few (200 + peer) (omega (arith, lt))) whole_few)
    whole_few

abbrev AreShort : Holding → Type 0
AreShort c = All (AreFew MOST_BLOCK_BYTES) c.blocks

-- a peer's copy of an AU
abbrev copy_of : ℕ → ℕ → ℕ → Holding
copy_of seed peer au = holding_of peer au (draw_before (draw_of seed) (2 * (peer - 1) + (au - 1)))

copies_few : (seed peer : ℕ) → peer < 13 → All AreShort (copies_of seed peer)
unfolding copies_of
copies_few seed peer lt =
    All-map AreShort (copy_of seed peer) au_numbers
    (all_range (λ au. AreShort (copy_of seed peer au)) 3 1 2 (omega arith) (λ au few. copy_few peer _ lt))

-- ---- peers

seed_bytes : (seed peer : ℕ) → IsBytes (peer_seed seed peer)
unfolding peer_seed
seed_bytes seed peer =
    bytes_append (to_be_bytes w64 seed ++ to_be_bytes w16 peer) (replicate 22 0)
    (bytes_append (to_be_bytes w64 seed) (to_be_bytes w16 peer) (bytes_of_number 8 seed) (bytes_of_number 2 peer))
    (bytes_replicate 22 0 (omega arith))

seed_long : (seed peer : ℕ) → length (peer_seed seed peer) ≡ 32
unfolding peer_seed
seed_long seed peer = refl

one_byte : AreFew MOST_PROOF_BYTES (1 ∷ [])
one_byte = record { bytes = bytes_replicate 1 1 (omega arith); few = omega arith }

peer_said : (seed peer : ℕ) → peer < 13 → IsSaidPeer (peer_of seed peer)
unfolding peer_with
peer_said seed peer lt =
    record {
      id = omega (arith, lt);
      seed = seed_bytes seed peer;
      long = seed_long seed peer;
      proof = one_byte;
      copies = copies_few seed peer lt;
    }

peers_said : (seed : ℕ) → All IsSaidPeer (peers_of seed)
unfolding peers_of
peers_said seed =
    All-map IsSaidPeer (peer_of seed) peer_numbers
    (all_range (λ peer. IsSaidPeer (peer_of seed peer)) 13 1 12 (omega arith) (λ peer lt. peer_said seed peer lt))

-- ---- steps

-- a step that reads back, and in which no power fails
record IsPlainStep (step : Step) : Type 0 where
  kept : IsSaidStep step
  powered : fails_power step ≡ false

open_plain : (peer au : ℕ) → peer ≤ 65535 → au ≤ 65535 → IsPlainStep (Peer (OpenPoll peer au))
unfolding open_in own_step_in peer_step_in step_in own_key own_more key_of more_of fails_power
open_plain peer au p a =
    record {
      kept = record {
        again = rw (small_again peer p, small_again au a) refl;
        plain = rw (small_plain peer p, small_plain au a) refl;
      };
      powered = refl;
    }

finish_plain : IsPlainStep Finish
unfolding finish_in step_in key_of more_of fails_power
finish_plain = record { kept = record { again = refl; plain = refl }; powered = refl }

has_power : (before : List Step) (step : Step) → fails_power step ≡ false → has_power_for before step ≡ true
unfolding has_power_for
has_power before step never = rw never refl

-- steps of the plan follow one another where none takes power from those behind it
steps_follow : (plan : Plan) (before steps : List Step) → All IsPlainStep steps → are_steps_of plan steps ≡ true
    → StepsFollow plan before steps
steps_follow plan before [] plain stand = tt
steps_follow plan before (step ∷ steps) plain stand =
    let parts = and_parts (is_step_of plan step) (are_steps_of plan steps) stand in
    let one = All-head IsPlainStep step steps plain in (
      record {
        said = one.kept;
        stands = and_from (is_step_of plan step) _ parts.0 (has_power before step one.powered);
      },
      steps_follow plan (before ++ step ∷ []) steps (All-tail IsPlainStep step steps plain) parts.1,
    )

audit_before : (peer au : ℕ) → peer ≤ 65535 → au ≤ 65535 → (steps : List Step) → All IsPlainStep steps
    → All IsPlainStep (audit_of peer au ++ steps)
audit_before peer au p a steps more =
    All-cons IsPlainStep (Peer (OpenPoll peer au)) (Finish ∷ steps) (open_plain peer au p a)
    (All-cons IsPlainStep Finish steps finish_plain more)

audits_before : (peer : ℕ) → peer ≤ 65535 → (steps : List Step) → All IsPlainStep steps
    → All IsPlainStep (audits_of peer ++ steps)
unfolding audits_of
audits_before peer le steps more =
    audit_before peer 1 le (omega arith) (audit_of peer 2 ++ steps) (audit_before peer 2 le (omega arith) steps more)

audits_plain : (a n : ℕ) → a + n ≤ 65535 → All IsPlainStep (flat_map audits_of (range_with_len a n))
audits_plain a zero le = All-nil IsPlainStep
audits_plain a (suc n) le = audits_before a (omega (arith, le)) _ (audits_plain (a + 1) n (omega (arith, le)))

steps_plain : All IsPlainStep steps_of_drill
unfolding steps_of_drill
steps_plain = audits_plain 1 12 (omega arith)

-- ---- the script

pub drill_said : (seed : ℕ) → IsSaid (drill_of seed)
unfolding drill_of plan_of
drill_said seed =
    record {
      good = good_plan seed;
      peers = peers_said seed;
      steps = steps_follow (plan_of seed) [] steps_of_drill steps_plain (steps_stand seed);
    }
