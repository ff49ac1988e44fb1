-- Whatever is read is in its limits.
use Rattle.std.proofs.Common.{◌≡◌, ◌≤◌, if◌then◌else◌, ◌==◌, ap, subst, ℕ, zero, suc, List, [], ◌∷◌, length, take}
use Rattle.std.proofs.Common.{drop, ltb, Result, Ok, Err, refl, arith}
use Rattle.std.specs.Int.{w16, w32}
use Rattle.std.proofs.lemmas.Bool.{ltb-false}
use Rattle.std.proofs.lemmas.List.{length-take}
use Rattle.lks_base.specs.declared.limits.TheConstants.{LAST_BLOCK, MOST_BLOCKS, MOST_BLOCK_BYTES, MOST_NOMINEES}
use Rattle.lks_base.specs.declared.limits.TheConstants.{MOST_PROOF_BYTES}
use Rattle.lks_base.specs.declared.messages.Message.{Message}
use Rattle.lks_base.specs.declared.messages.Message.TheVariants as messages
use Rattle.lks_base.specs.Kinds.{is_second}
use Rattle.lks_base.specs.declared.names.HashKind.{HashKind}
use Rattle.lks_field.proofs.Takes.{bind_ok, guard_ok, ok_is, told_ok}
use Rattle.lks_field.specs.Reading.{◌>>=◌, byte_at, bytes_at, hash_at, kind_at, number_at, upto_at, many_at, sized_at}
use Rattle.lks_field.specs.Reading.{list_at, end_of}
use Rattle.lks_field.specs.declared.fault.FieldFault.{FieldFault}
use Rattle.lks_field.specs.declared.fault.FieldFault.TheVariants.{Short, Value}
use Rattle.lks_message.specs.Faults.{told_as, field}
use Rattle.lks_message.specs.Reading.{heading_at, message_at, proof_at, nominees_at, hashes_at, block_at, content_at}
use Rattle.lks_message.specs.Reading.{poll_at, challenge_at, poll_proof_at, nominate_at, vote_at, request_at}
use Rattle.lks_message.specs.Reading.{repair_at, decode_of}
use Rattle.lks_message.specs.Spelling.{IsWithin}
use Rattle.lks_message.specs.declared.fault.MsgFault.{MsgFault}
use Rattle.lks_message.specs.declared.heading.MessageHeading.{MessageHeading}
use Rattle.lks_message.specs.declared.heading.MessageHeading.TheVariants.{Poll, PollChallenge, PollProof, Nominate}
use Rattle.lks_message.specs.declared.heading.MessageHeading.TheVariants.{Vote, RepairRequest, Repair, Receipt}

-- what a reader gives has P
abbrev Tells : {X E : Type 0} → (List ℕ → Result (X × List ℕ) E) → (X → Type 0) → Type 0
Tells {X} reader P = (bytes : List ℕ) (x : X × List ℕ) → reader bytes ≡ Ok x → P x.0

upto_tells : (most : ℕ) (reader : List ℕ → Result (ℕ × List ℕ) FieldFault) → Tells (upto_at most reader) (λ n. n ≤ most)
unfolding upto_at
upto_tells most reader bytes x e =
    let a = bind_ok (reader bytes) (λ n. if ltb most n.0 then Err Value else Ok n) x e in
    let g = guard_ok (ltb most a.0.0) Value a.0 x a.2 in
    subst (λ (y : ℕ × List ℕ). y.0 ≤ most) g.1 (ltb-false _ _ g.0)

run_tells : (n : ℕ) → Tells (bytes_at n) (λ x. length x ≡ n)
run_tells n bytes x e =
    let g = guard_ok (ltb (length bytes) n) Short (take n bytes, drop n bytes) x e in
    let long = ltb-false _ _ g.0 in
    let len : length (take n bytes) ≡ n = omega (arith, length-take n bytes, long) in
    subst (λ (y : List ℕ × List ℕ). length y.0 ≡ n) g.1 len

many_tells : {X : Type 0} (reader : List ℕ → Result (X × List ℕ) FieldFault) (n : ℕ)
    → Tells (many_at reader n) (λ xs. length xs ≡ n)
unfolding many_at
many_tells {X} reader zero bytes x e =
    subst (λ (y : List X × List ℕ). length y.0 ≡ 0) (ok_is {E = FieldFault} ([], bytes) x e) refl
many_tells {X} reader (suc n) bytes x e =
    let a = bind_ok (reader bytes)
    (λ first. many_at reader n first.1 >>= λ others. Ok (first.0 ∷ others.0, others.1)) x e in
    let b = bind_ok (many_at reader n a.0.1) (λ others. Ok (a.0.0 ∷ others.0, others.1)) x a.2 in
    let made : List X × List ℕ = (a.0.0 ∷ b.0.0, b.0.1) in
    subst (λ (y : List X × List ℕ). length y.0 ≡ suc n) (ok_is {E = FieldFault} made x b.2)
    (ap suc (many_tells reader n a.0.1 b.0 b.1))

-- a count and as many items
counted_tells : {X : Type 0} (most : ℕ) (number : List ℕ → Result (ℕ × List ℕ) FieldFault)
    (items : ℕ → List ℕ → Result (List X × List ℕ) FieldFault)
    → ((n : ℕ) → Tells (items n) (λ xs. length xs ≡ n))
    → Tells (λ bytes. upto_at most number bytes >>= λ n. items n.0 n.1) (λ xs. length xs ≤ most)
counted_tells most number items sized bytes x e =
    let a = bind_ok (upto_at most number bytes) (λ n. items n.0 n.1) x e in
    let count = upto_tells most number bytes a.0 a.1 in
    let len = sized a.0.0 a.0.1 x a.2 in
    omega (arith, count, len)

sized_tells : (most : ℕ) (number : List ℕ → Result (ℕ × List ℕ) FieldFault)
    → Tells (λ bytes. field (sized_at (upto_at most number) bytes)) (λ x. length x ≤ most)
unfolding sized_at
sized_tells most number bytes x e =
    counted_tells most number bytes_at run_tells bytes x
    (told_ok told_as (sized_at (upto_at most number) bytes) x e)

list_tells : {X : Type 0} (most : ℕ) (number : List ℕ → Result (ℕ × List ℕ) FieldFault)
    (reader : List ℕ → Result (X × List ℕ) FieldFault)
    → Tells (λ bytes. field (list_at (upto_at most number) reader bytes)) (λ xs. length xs ≤ most)
unfolding list_at
list_tells most number reader bytes x e =
    counted_tells most number (many_at reader) (many_tells reader) bytes x
    (told_ok told_as (list_at (upto_at most number) reader bytes) x e)

proof_tells : Tells proof_at (λ x. length x ≤ MOST_PROOF_BYTES)
unfolding proof_at
proof_tells = sized_tells MOST_PROOF_BYTES byte_at

nominees_tell : Tells nominees_at (λ x. length x ≤ MOST_NOMINEES)
unfolding nominees_at
nominees_tell = list_tells MOST_NOMINEES byte_at (number_at w16)

hashes_tell : Tells hashes_at (λ x. length x ≤ MOST_BLOCKS)
unfolding hashes_at
hashes_tell = list_tells MOST_BLOCKS (number_at w16) hash_at

block_tells : Tells block_at (λ n. n ≤ LAST_BLOCK)
unfolding block_at
block_tells bytes x e =
    upto_tells LAST_BLOCK (number_at w16) bytes x (told_ok told_as (upto_at LAST_BLOCK (number_at w16) bytes) x e)

content_tells : Tells content_at (λ x. length x ≤ MOST_BLOCK_BYTES)
unfolding content_at
content_tells = sized_tells MOST_BLOCK_BYTES (number_at w16)

-- ---- messages

abbrev Said : Type 0
Said = Message × List ℕ

is_within : (made x : Said) → made ≡ x → IsWithin made.0 → IsWithin x.0
is_within made x same within = subst (λ (y : Said). IsWithin y.0) same within

abbrev ok : Said → Result Said MsgFault
ok x = Ok x

said_is : (made x : Said) → ok made ≡ ok x → made ≡ x
said_is made x e = ok_is {E = MsgFault} made x e

proof_within : (kind : HashKind) (number : ℕ) → Tells (poll_proof_at kind number) IsWithin
unfolding poll_proof_at
proof_within kind number bytes x e =
    let a = bind_ok (field (hash_at bytes))
    (λ nonce. field (kind_at (is_second kind) nonce.1) >>= λ known. proof_at known.1 >>= λ proof. Ok
    (messages.PollProof number nonce.0 kind proof.0, proof.1)) x e in
    let b = bind_ok (field (kind_at (is_second kind) a.0.1))
    (λ known. proof_at known.1 >>= λ proof. Ok (messages.PollProof number a.0.0 kind proof.0, proof.1)) x a.2 in
    let c = bind_ok (proof_at b.0.1) (λ proof. Ok (messages.PollProof number a.0.0 kind proof.0, proof.1)) x b.2 in
    let made : Said = (messages.PollProof number a.0.0 kind c.0.0, c.0.1) in
    is_within made x (said_is made x c.2) (proof_tells b.0.1 c.0 c.1)

nominate_within : (number : ℕ) → Tells (nominate_at number) IsWithin
unfolding nominate_at
nominate_within number bytes x e =
    let a = bind_ok (nominees_at bytes) (λ nominees. Ok (messages.Nominate number nominees.0, nominees.1)) x e in
    is_within (messages.Nominate number a.0.0, a.0.1) x (said_is _ x a.2) (nominees_tell bytes a.0 a.1)

vote_within : (number : ℕ) → Tells (vote_at number) IsWithin
unfolding vote_at
vote_within number bytes x e =
    let a = bind_ok (hashes_at bytes)
    (λ hashes. proof_at hashes.1 >>= λ proof. Ok (messages.Vote number hashes.0 proof.0, proof.1)) x e in
    let b = bind_ok (proof_at a.0.1) (λ proof. Ok (messages.Vote number a.0.0 proof.0, proof.1)) x a.2 in
    let made : Said = (messages.Vote number a.0.0 b.0.0, b.0.1) in
    is_within made x (said_is made x b.2) (hashes_tell bytes a.0 a.1, proof_tells a.0.1 b.0 b.1)

request_within : (number : ℕ) → Tells (request_at number) IsWithin
unfolding request_at
request_within number bytes x e =
    let a = bind_ok (block_at bytes) (λ block. Ok (messages.RepairRequest number block.0, block.1)) x e in
    is_within (messages.RepairRequest number a.0.0, a.0.1) x (said_is _ x a.2) (block_tells bytes a.0 a.1)

repair_within : (number : ℕ) → Tells (repair_at number) IsWithin
unfolding repair_at
repair_within number bytes x e =
    let a = bind_ok (block_at bytes)
    (λ block. content_at block.1 >>= λ content. Ok (messages.Repair number block.0 content.0, content.1)) x e in
    let b = bind_ok (content_at a.0.1) (λ content. Ok (messages.Repair number a.0.0 content.0, content.1)) x a.2 in
    is_within (messages.Repair number a.0.0 b.0.0, b.0.1) x (said_is _ x b.2)
    (block_tells bytes a.0 a.1, content_tells a.0.1 b.0 b.1)

poll_within : (number : ℕ) → Tells (poll_at number) IsWithin
unfolding poll_at
poll_within number bytes x e =
    let a = bind_ok (field (number_at w16 bytes)) (λ au. Ok (messages.Poll number au.0, au.1)) x e in
    is_within (messages.Poll number a.0.0, a.0.1) x (said_is _ x a.2) tt

challenge_within : (number : ℕ) → Tells (challenge_at number) IsWithin
unfolding challenge_at
challenge_within number bytes x e =
    let a = bind_ok (field (upto_at 1 byte_at bytes))
    (λ joins. Ok (messages.PollChallenge number (joins.0 == 1), joins.1)) x e in
    is_within (messages.PollChallenge number (a.0.0 == 1), a.0.1) x (said_is _ x a.2) tt

message_within : (h : MessageHeading) (number : ℕ) → Tells (message_at h number) IsWithin
message_within Poll number bytes x e = poll_within number bytes x e
message_within PollChallenge number bytes x e = challenge_within number bytes x e
message_within (PollProof kind) number bytes x e = proof_within kind number bytes x e
message_within Nominate number bytes x e = nominate_within number bytes x e
message_within Vote number bytes x e = vote_within number bytes x e
message_within RepairRequest number bytes x e = request_within number bytes x e
message_within Repair number bytes x e = repair_within number bytes x e
message_within Receipt number bytes x e = is_within (messages.Receipt number, bytes) x (said_is _ x e) tt

-- a message that is read has nothing above its limit, whatever the bytes
pub read_within : (bytes : List ℕ) (m : Message) → decode_of bytes ≡ Ok m → IsWithin m
unfolding decode_of
read_within bytes m e =
    let a = bind_ok (heading_at bytes)
    (λ heading. field (number_at w32 heading.1) >>= λ number. message_at heading.0 number.0 number.1 >>=
    λ message. field (end_of message.1) >>= λ end. Ok message.0) m e in
    let b = bind_ok (field (number_at w32 a.0.1))
    (λ number. message_at a.0.0 number.0 number.1 >>= λ message. field (end_of message.1) >>= λ end. Ok
    message.0) m a.2 in
    let d = bind_ok (message_at a.0.0 b.0.0 b.0.1) (λ message. field (end_of message.1) >>= λ end. Ok message.0) m
    b.2 in
    let f = bind_ok (field (end_of d.0.1)) (λ end. Ok d.0.0) m d.2 in
    subst IsWithin (ok_is {E = MsgFault} d.0.0 m f.2) (message_within a.0.0 b.0.0 b.0.1 d.0 d.1)
