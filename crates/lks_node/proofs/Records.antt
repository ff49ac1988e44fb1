-- A list has fewer records than the bodies of its batches have bytes.
use Rattle.std.proofs.Common.{◌≤◌, ◌*◌, ap, ℕ, List, [], ◌∷◌, length, arith}
use Rattle.std.proofs.lemmas.List.{length-append}
use Rattle.std.proofs.lemmas.List.Concat.{flat_map-cons}
use Rattle.std.proofs.lemmas.List.Sums.{sum_by-cons}
use Rattle.std.specs.Int.{w16, to_be_bytes}
use Rattle.std.specs.List.{flat_map}
use Rattle.std.specs.Prelude.{sum_by}
use Rattle.lks_base.specs.declared.records.Record.{Record}
use Rattle.lks_base.specs.declared.records.Record.TheVariants.{Deposit, PollOpened, Nominated, OuterOpened, VoteIn}
use Rattle.lks_base.specs.declared.records.Record.TheVariants.{Shut, Asked, RepairBad, Replaced, Closed, Overdue}
use Rattle.lks_base.specs.declared.records.Record.TheVariants.{Joined, Committed, Voted, Served, Ended, Tuned}
use Rattle.lks_host.specs.Bodies.{bodies_of}
use Rattle.lks_law.specs.Batches.{together}
use Rattle.lks_record.specs.Spelling.{batch_spelling, poll_bytes, spelling}
use Rattle.lks_host.specs.Owners.{Spell}

some_bytes : (r : Record) → 3 ≤ length (spelling r)
unfolding spelling poll_bytes
some_bytes (Deposit au blocks) = omega arith
some_bytes (PollOpened number au nonce inner tick limits kind) = omega arith
some_bytes (Nominated number voter nominees) = omega arith
some_bytes (OuterOpened number outer) = omega arith
some_bytes (VoteIn number voter hashes) = omega arith
some_bytes (Shut number) = omega arith
some_bytes (Asked number block voter) = omega arith
some_bytes (RepairBad number block voter) = omega arith
some_bytes (Replaced number au block bytes) = omega arith
some_bytes (Closed number outcome tick) = omega arith
some_bytes (Overdue au tick) = omega arith
some_bytes (Joined poll au tick low repairs) = omega arith
some_bytes (Committed poll nonce version kind) = omega arith
some_bytes (Voted poll hashes) = omega arith
some_bytes (Served poll block) = omega arith
some_bytes (Ended poll) = omega arith
some_bytes (Tuned quorum minority repairs) = omega arith

three_each : (list : List Record) → 3 * length list ≤ length (flat_map spelling list)
three_each [] = omega arith
three_each (r ∷ rs) =
    let all = ap length (flat_map-cons spelling r rs) in
    let both = length-append (spelling r) (flat_map spelling rs) in
    let one = some_bytes r in
    let rest = three_each rs in
    omega (arith, all, both, one, rest)

all_batches : (batches : List (List Record)) → 3 * length (together batches) ≤ sum_by length (bodies_of batches)
all_batches [] = omega arith
all_batches (b ∷ bs) =
    let records = length-append b (together bs) in
    let bytes = sum_by-cons length (batch_spelling b) (bodies_of bs) in
    let count = length-append (to_be_bytes w16 (length b)) (flat_map spelling b) in
    let one = three_each b in
    let rest = all_batches bs in
    omega (arith, records, bytes, count, one, rest)

pub records_few : (bodies : List (List ℕ)) (list : List Record) → Spell bodies list
    → sum_by length bodies ≤ 2147483647 → length list ≤ 1000000000
records_few bodies list spell few =
    let each = all_batches spell.batches in
    let same = ap (sum_by length) spell.spelled in
    let all = ap length spell.all in
    omega (arith, each, same, all, few)
