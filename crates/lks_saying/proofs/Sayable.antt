-- What a corrupt peer says is bytes, and not too many.
use Rattle.std.proofs.Common.{◌≡◌, ◌≤◌, ◌<◌, ◌*◌, ◌==◌, ◌∙◌, ap, sym, subst, ℕ, Bool, true, false, cond, List, []}
use Rattle.std.proofs.Common.{◌∷◌, ◌++◌, length, refl, arith}
use Rattle.std.specs.Prelude.{Option, Some, None, IfSome, All, find, nat_le, ◌&&◌, codes}
use Rattle.std.specs.Int.{w16, w32, to_be_bytes}
use Rattle.std.specs.List.{flat_map, AllByRecursion}
use Rattle.std.proofs.lemmas.Bool.{and_parts, leb-true}
use Rattle.std.proofs.lemmas.List.{length-append}
use Rattle.std.proofs.lemmas.List.Concat.{flat_map-cons}
use Rattle.std.proofs.lemmas.List.Elements.{All-from_recursion, recursion_from_All}
use Rattle.lks_base.proofs.PlanLaws.{short_proof}
use Rattle.lks_base.specs.Checking.{has_au, is_within, are_short, plan_fault}
use Rattle.lks_base.specs.Kinds.{is_second}
use Rattle.lks_base.specs.declared.limits.TheConstants.{LAST_BLOCK, MOST_BLOCKS, MOST_BLOCK_BYTES, MOST_FORGED_BYTES}
use Rattle.lks_base.specs.declared.limits.TheConstants.{MOST_NOMINEES, MOST_PROOF_BYTES}
use Rattle.lks_base.specs.declared.messages.Message.{Message}
use Rattle.lks_base.specs.declared.messages.Message.TheVariants as message
use Rattle.lks_base.specs.declared.names.HashKind.{HashKind}
use Rattle.lks_base.specs.declared.names.HashKind.TheVariants.{Sha256, Sha512_256}
use Rattle.lks_base.specs.declared.plans.PeerPlan.{PeerPlan}
use Rattle.lks_base.specs.declared.plans.Plan.{Plan}
use Rattle.lks_hash.specs.Hashes.{key_of, nonce_from}
use Rattle.lks_hash.specs.Running.{linked, hashes_of}
use Rattle.lks_hash.proofs.RunningLaws.{hashes_length}
use Rattle.lks_message.specs.Spelling.{start, flag, version_of, kind_bytes, proof_bytes, nominee_bytes, hash_bytes}
use Rattle.lks_message.specs.Spelling.{content_bytes, spelling}
use Rattle.lks_message.proofs.Lengths.{short_spelling, length-spelling_vote, length-spelling_repair}
use Rattle.lks_script.specs.StepRules.{is_said, is_said_vote, is_repair, is_nomination, is_step_of}
use Rattle.lks_script.specs.declared.steps.Step.{Step}
use Rattle.lks_script.specs.declared.steps.Step.TheVariants as step
use Rattle.lks_saying.proofs.Hashed.{no_bytes, cons_bytes, append_bytes, joined_bytes, number_bytes, IsHash, is_hash}
use Rattle.lks_saying.specs.Bytes.{AreBytes, GivesBytes}
use Rattle.lks_saying.specs.Sayings.{planned_peer, proof_by, count_for, vote_by, said_by}

-- ---- messages

ids_bytes : (ids : List ℕ) → AreBytes (flat_map (to_be_bytes w16) ids)
ids_bytes [] = no_bytes
ids_bytes (x ∷ xs) =
    subst AreBytes (sym (flat_map-cons (to_be_bytes w16) x xs))
    (append_bytes (to_be_bytes w16 x) (flat_map (to_be_bytes w16) xs) (number_bytes w16 x) (ids_bytes xs))

ids_length : (ids : List ℕ) → length (flat_map (to_be_bytes w16) ids) ≡ 2 * length ids
ids_length [] = refl
ids_length (x ∷ xs) =
    ap length (flat_map-cons (to_be_bytes w16) x xs) ∙ simp length-append (omega (arith, ids_length xs))

start_bytes : (version tag number : ℕ) → version < 256 → tag < 256 → AreBytes (start version tag number)
start_bytes version tag number v t =
    cons_bytes version (tag ∷ to_be_bytes w32 number) v
    (cons_bytes tag (to_be_bytes w32 number) t (number_bytes w32 number))

single_bytes : (b : ℕ) → b < 256 → AreBytes (b ∷ [])
single_bytes b small = cons_bytes b [] small no_bytes

flag_small : (b : Bool) → flag b < 256
flag_small true = omega arith
flag_small false = omega arith

version_small : (kind : HashKind) → version_of kind < 256
version_small Sha256 = omega arith
version_small Sha512_256 = omega arith

kind_are : (kind : HashKind) → AreBytes (kind_bytes (is_second kind))
kind_are Sha256 = no_bytes
kind_are Sha512_256 = single_bytes 2 (omega arith)

-- a message whose spelling a corrupt peer may forge
pub record IsSayable (m : Message) : Type 0 where
  pub few : length (spelling m) ≤ MOST_FORGED_BYTES
  pub are : AreBytes (spelling m)

invitation_sayable : (number au : ℕ) → IsSayable (message.Poll number au)
unfolding spelling
invitation_sayable number au = record {
  few = omega arith;
  are =
      append_bytes (start 1 1 number) (to_be_bytes w16 au) (start_bytes 1 1 number (omega arith) (omega arith))
      (number_bytes w16 au);
}

proof_sayable : (number : ℕ) (nonce : List ℕ) (kind : HashKind) (proof : List ℕ) → IsHash nonce
    → length proof ≤ MOST_PROOF_BYTES → AreBytes proof → IsSayable (message.PollProof number nonce kind proof)
unfolding spelling
proof_sayable number nonce kind proof hash short are = record {
  few = short_spelling (message.PollProof 0 nonce kind proof) (short, (omega arith, hash.size));
  are =
      append_bytes (start (version_of kind) 3 number ++ nonce ++ kind_bytes (is_second kind)) (proof_bytes proof)
      (append_bytes (start (version_of kind) 3 number ++ nonce) (kind_bytes (is_second kind))
      (append_bytes (start (version_of kind) 3 number) nonce
      (start_bytes (version_of kind) 3 number (version_small kind) (omega arith)) hash.are)
      (kind_are kind))
      (cons_bytes (length proof) proof (omega (arith, short)) are);
}

request_sayable : (number block : ℕ) → IsSayable (message.RepairRequest number block)
unfolding spelling
request_sayable number block = record {
  few = omega arith;
  are =
      append_bytes (start 1 6 number) (to_be_bytes w16 block) (start_bytes 1 6 number (omega arith) (omega arith))
      (number_bytes w16 block);
}

receipt_sayable : (number : ℕ) → IsSayable (message.Receipt number)
unfolding spelling
receipt_sayable number = record { few = omega arith; are = start_bytes 1 8 number (omega arith) (omega arith) }

challenge_sayable : (number : ℕ) (joins : Bool) → IsSayable (message.PollChallenge number joins)
unfolding spelling
challenge_sayable number joins = record {
  few = omega arith;
  are =
      append_bytes (start 1 2 number) (flag joins ∷ []) (start_bytes 1 2 number (omega arith) (omega arith))
      (single_bytes (flag joins) (flag_small joins));
}

nominate_sayable : (number : ℕ) (nominees : List ℕ) → length nominees ≤ MOST_NOMINEES
    → IsSayable (message.Nominate number nominees)
unfolding spelling
nominate_sayable number nominees few = record {
  few = let size = ids_length nominees in simp length-append (omega (arith, few, size));
  are =
      append_bytes (start 1 4 number) (nominee_bytes nominees) (start_bytes 1 4 number (omega arith) (omega arith))
      (cons_bytes (length nominees) (flat_map (to_be_bytes w16) nominees) (omega (arith, few)) (ids_bytes nominees));
}

repair_sayable : (number block : ℕ) (bytes : List ℕ) → length bytes ≤ MOST_BLOCK_BYTES → AreBytes bytes
    → IsSayable (message.Repair number block bytes)
unfolding spelling
repair_sayable number block bytes short are = record {
  few = omega (arith, short, length-spelling_repair number block bytes);
  are =
      append_bytes (start 1 7 number ++ to_be_bytes w16 block) (content_bytes bytes)
      (append_bytes (start 1 7 number) (to_be_bytes w16 block) (start_bytes 1 7 number (omega arith) (omega arith))
      (number_bytes w16 block))
      (append_bytes (to_be_bytes w16 (length bytes)) bytes (number_bytes w16 (length bytes)) are);
}

vote_sayable : (number : ℕ) (hashes : List (List ℕ)) (proof : List ℕ) → length hashes ≤ MOST_BLOCKS
    → AllByRecursion IsHash hashes → length proof ≤ MOST_PROOF_BYTES → AreBytes proof
    → IsSayable (message.Vote number hashes proof)
unfolding spelling
vote_sayable number hashes proof few are_hashes short are = record {
  few =
      omega (
        arith,
        few,
        short,
        length-spelling_vote number hashes proof
            (All-from_recursion (λ h. length h ≡ 32) hashes (sizes hashes are_hashes)),
      );
  are =
      append_bytes (start 1 5 number ++ hash_bytes hashes) (proof_bytes proof)
      (append_bytes (start 1 5 number) (hash_bytes hashes) (start_bytes 1 5 number (omega arith) (omega arith))
      (append_bytes (to_be_bytes w16 (length hashes)) (flat_map (λ h. h) hashes) (number_bytes w16 (length hashes))
      (joined_bytes hashes (all_bytes hashes are_hashes))))
      (cons_bytes (length proof) proof (omega (arith, short)) are);
}
  where
    sizes : (hs : List (List ℕ)) → AllByRecursion IsHash hs → AllByRecursion (λ h. length h ≡ 32) hs
    sizes [] all = tt
    sizes (h ∷ hs) all = (all.0.size, sizes hs all.1)

    all_bytes : (hs : List (List ℕ)) → AllByRecursion IsHash hs → AllByRecursion AreBytes hs
    all_bytes [] all = tt
    all_bytes (h ∷ hs) all = (all.0.are, all_bytes hs all.1)

-- ---- what is said in a step

-- what holds of all holds of the one that is found
found_has : (P : PeerPlan → Type 0) (q : PeerPlan → Bool) (ps : List PeerPlan) (p : PeerPlan) → AllByRecursion P ps
    → find q ps ≡ Some p → P p
found_has P q [] p all found = absurd cc
found_has P q (x ∷ xs) p all found = by_test (q x) found (found_has P q xs p all.1)
  where
    by_test : (b : Bool) → cond b (Some x) (find q xs) ≡ Some p → (find q xs ≡ Some p → P p) → P p
    by_test true here later = let same : x ≡ p = cc in subst P same all.0
    by_test false there later = later there

module _ (plan : Plan) (good : plan_fault plan ≡ None)
    (proofs : All (λ (p : PeerPlan). AreBytes p.proof) plan.peers) where
  nonce_is : (seed : List ℕ) (number : ℕ) → IsHash (nonce_from seed number)
  unfolding nonce_from
  nonce_is seed number = is_hash false (codes "nonce" ++ seed ++ to_be_bytes w32 number)

  hashes_are : (second : Bool) (key : List ℕ) (blocks : List (List ℕ))
      → AllByRecursion IsHash (hashes_of second key blocks)
  hashes_are second key [] = tt
  hashes_are second key (b ∷ blocks) = (is_hash second (key ++ b), hashes_are second (linked second key b) blocks)

  planned_proof : (id : ℕ) (p : PeerPlan) → planned_peer plan id ≡ Some p
      → (length p.proof ≤ MOST_PROOF_BYTES) × AreBytes p.proof
  planned_proof id p found = (
    short_proof plan (λ x. x.id == id) p good found,
    found_has (λ x. AreBytes x.proof) (λ x. x.id == id) plan.peers p
        (recursion_from_All (λ (x : PeerPlan). AreBytes x.proof) plan.peers proofs) found,
  )

  proof_says : (from to number : ℕ) (sender : Option PeerPlan) → planned_peer plan from ≡ sender
      → IfSome (proof_by from to number sender) (λ x. IsSayable x.message)
  proof_says from to number None is = tt
  proof_says from to number (Some p) is =
      let proof = planned_proof from p is in
      proof_sayable number (nonce_from p.seed number) p.hash p.proof (nonce_is p.seed number) proof.0 proof.1

  vote_says : (from to : ℕ) (voter poller : Option PeerPlan) (number au : ℕ) (blocks : List (List ℕ))
      → length blocks ≤ MOST_BLOCKS → planned_peer plan from ≡ voter
      → IfSome (vote_by plan from to voter poller number au blocks) (λ x. IsSayable x.message)
  vote_says from to None poller number au blocks few is = tt
  vote_says from to (Some v) None number au blocks few is = tt
  vote_says from to (Some v) (Some p) number au blocks few is =
      let proof = planned_proof from v is in
      let second = is_second p.hash in
      let key = key_of second p.id number (nonce_from p.seed number) v.id au (count_for plan au) in
      vote_sayable number (hashes_of second key blocks) v.proof
      (omega (arith, few, hashes_length second key blocks)) (hashes_are second key blocks) proof.0 proof.1

  pub says_bytes : (s : Step) → is_step_of plan s ≡ true → GivesBytes s
      → IfSome (said_by plan s) (λ x. IsSayable x.message)
  unfolding said_by is_step_of is_said_vote is_repair is_nomination
  says_bytes (step.Peer s) legal are = tt
  says_bytes (step.Tick by) legal are = tt
  says_bytes (step.Next times) legal are = tt
  says_bytes step.Lose legal are = tt
  says_bytes (step.Again envelope) legal are = tt
  says_bytes step.Settle legal are = tt
  says_bytes step.Finish legal are = tt
  says_bytes (step.Forge from to bytes) legal are = tt
  says_bytes (step.SayPoll from to number au) legal are = invitation_sayable number au
  says_bytes (step.SayProof from to number) legal are = proof_says from to number (planned_peer plan from) refl
  says_bytes (step.SayRequest from to number block) legal are = request_sayable number block
  says_bytes (step.SayReceipt from to number) legal are = receipt_sayable number
  says_bytes (step.SayChallenge from to number agrees) legal are = challenge_sayable number agrees
  says_bytes (step.SayNominate from to number nominees) legal are =
      nominate_sayable number nominees
      (leb-true (length nominees) MOST_NOMINEES
      (and_parts (is_said plan from to) (nat_le (length nominees) MOST_NOMINEES) legal).1)
  says_bytes (step.SayVote from to number au blocks) legal are =
      let all = and_parts (is_said plan from to && has_au plan.aus au && is_within 1 MOST_BLOCKS (length blocks))
      (are_short blocks) legal in
      let first = and_parts (is_said plan from to && has_au plan.aus au) (is_within 1 MOST_BLOCKS (length blocks))
      all.0 in
      let few = and_parts (nat_le 1 (length blocks)) (nat_le (length blocks) MOST_BLOCKS) first.1 in
      vote_says from to (planned_peer plan from) (planned_peer plan to) number au blocks
      (leb-true (length blocks) MOST_BLOCKS few.1) refl
  says_bytes (step.SayRepair from to number block bytes) legal are =
      let all = and_parts (is_said plan from to && nat_le block LAST_BLOCK) (nat_le (length bytes) MOST_BLOCK_BYTES)
      legal in
      repair_sayable number block bytes (leb-true (length bytes) MOST_BLOCK_BYTES all.1) are
  says_bytes (step.Crash peer) legal are = tt
  says_bytes (step.Cut calls choice s) legal are = tt
