-- How long a message's spelling is.
use Rattle.std.proofs.Common.{◌≡◌, ℕ, ◌+◌, ◌*◌, ◌≤◌, List, [], ◌∷◌, length, refl, ap, ◌∙◌, arith}
use Rattle.std.specs.Prelude.{All}
use Rattle.std.specs.Int.{w16, to_be_bytes}
use Rattle.std.specs.List.{flat_map, AllByRecursion}
use Rattle.std.proofs.lemmas.List.{length-append}
use Rattle.std.proofs.lemmas.List.Concat.{flat_map-cons}
use Rattle.std.proofs.lemmas.List.Elements.{recursion_from_All}
use Rattle.lks_base.specs.declared.limits.TheConstants.{MOST_FORGED_BYTES}
use Rattle.lks_base.specs.declared.messages.Message.{Message}
use Rattle.lks_base.specs.declared.messages.Message.TheVariants.{Poll, PollChallenge, PollProof, Nominate, Vote}
use Rattle.lks_base.specs.declared.messages.Message.TheVariants.{RepairRequest, Repair, Receipt}
use Rattle.lks_base.specs.Kinds.{is_second}
use Rattle.lks_field.proofs.KindFields.{kind_length}
use Rattle.lks_message.specs.Spelling.{spelling, IsInLimits}

joined_length : (hashes : List (List ℕ)) → AllByRecursion (λ h. length h ≡ 32) hashes
    → length (flat_map (λ h. h) hashes) ≡ 32 * length hashes
joined_length [] h = refl
joined_length (x ∷ xs) h =
    ap length (flat_map-cons (λ (y : List ℕ). y) x xs)
    ∙ omega (arith, length-append x (flat_map (λ (y : List ℕ). y) xs), h.0, joined_length xs h.1)

pub length-spelling_vote : (number : ℕ) (hashes : List (List ℕ)) (proof : List ℕ) → All (λ h. length h ≡ 32) hashes
    → length (spelling (Vote number hashes proof)) ≡ 9 + 32 * length hashes + length proof
unfolding spelling
length-spelling_vote number hashes proof all =
    let joined : length (flat_map (λ (h : List ℕ). h) hashes)
    ≡ 32 * length hashes = joined_length hashes (recursion_from_All (λ h. length h ≡ 32) hashes all) in
    simp length-append (omega (arith, joined))

pub length-spelling_repair : (number block : ℕ) (bytes : List ℕ)
    → length (spelling (Repair number block bytes)) ≡ 10 + length bytes
unfolding spelling
length-spelling_repair number block bytes = simp length-append (omega arith)

nominee_length : (nominees : List ℕ) → length (flat_map (to_be_bytes w16) nominees) ≡ 2 * length nominees
nominee_length [] = refl
nominee_length (x ∷ xs) =
    ap length (flat_map-cons (to_be_bytes w16) x xs) ∙ simp length-append (omega (arith, nominee_length xs))

-- a message in its limits is no longer than a forged one may be
pub short_spelling : (m : Message) → IsInLimits m → length (spelling m) ≤ MOST_FORGED_BYTES
unfolding spelling
short_spelling (Poll number au) h = omega arith
short_spelling (PollChallenge number joins) h = omega arith
short_spelling (PollProof number nonce kind proof) h =
    let k = kind_length (is_second kind) in
    let few = h.0 in
    let size = h.1.1 in
    simp length-append (omega (arith, k, few, size))
short_spelling (Nominate number nominees) h =
    let few = h.0 in
    let size = nominee_length nominees in
    simp length-append (omega (arith, few, size))
short_spelling (Vote number hashes proof) h =
    let few = h.0.0 in
    let short = h.0.1 in
    let joined : length (flat_map (λ (h : List ℕ). h) hashes)
    ≡ 32 * length hashes = joined_length hashes (recursion_from_All (λ h. length h ≡ 32) hashes h.1.1) in
    simp length-append (omega (arith, few, short, joined))
short_spelling (RepairRequest number block) h = omega arith
short_spelling (Repair number block bytes) h =
    let short = h.0.1 in
    simp length-append (omega (arith, short))
short_spelling (Receipt number) h = omega arith
