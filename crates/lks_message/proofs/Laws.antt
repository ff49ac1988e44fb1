-- What is read is spelled so, and what is spelled so is read.
use Rattle.std.proofs.Common.{◌≡◌, ℕ, ◌^◌, ◌<◌, true, false, eqb, List, [], ◌∷◌, ◌++◌, Result, Ok, Err, refl, sym, ap}
use Rattle.std.proofs.Common.{◌∙◌, arith}
use Rattle.std.specs.Prelude.{IfOk}
use Rattle.std.specs.Int.{w32, to_be_bytes}
use Rattle.lks_base.specs.declared.messages.Message.{Message}
use Rattle.lks_base.specs.declared.messages.Message.TheVariants as messages
use Rattle.lks_base.specs.declared.names.HashKind.{HashKind}
use Rattle.lks_field.specs.Reading.{◌>>=◌, number_at, end_of}
use Rattle.lks_field.proofs.Takes.{IsBytes, Takes, IsField, bind_ok}
use Rattle.lks_field.proofs.Numbers.{flag_is}
use Rattle.lks_field.proofs.Steps.{Reader, IsTail, reads_then, reads_end, Goes, goes_then}
use Rattle.lks_field.proofs.Whole.{whole_takes, whole_again}
use Rattle.lks_message.specs.declared.fault.MsgFault.{MsgFault}
use Rattle.lks_message.specs.declared.heading.MessageHeading.{MessageHeading}
use Rattle.lks_message.specs.declared.heading.MessageHeading.TheVariants.{Poll, PollChallenge, PollProof, Nominate}
use Rattle.lks_message.specs.declared.heading.MessageHeading.TheVariants.{Vote, RepairRequest, Repair, Receipt}
use Rattle.lks_message.specs.Faults.{told_as, field}
use Rattle.lks_message.specs.Spelling.{spelling, IsInLimits}
use Rattle.lks_message.specs.Reading.{Gives, heading_at, poll_at, challenge_at, poll_proof_at, nominate_at, vote_at}
use Rattle.lks_message.specs.Reading.{request_at, repair_at, message_at, decode_of}
use Rattle.lks_message.proofs.Parts.{heading_bytes, heading_takes, heading_again, number_field, au_field, flag_field}
use Rattle.lks_message.proofs.Parts.{block_field, nonce_field, proof_field, content_field, nominees_field}
use Rattle.lks_message.proofs.Parts.{hashes_field, kind_field}

-- a message with its heading and its number
abbrev headed_at : Reader Message MsgFault
headed_at bytes =
    heading_at bytes >>= λ heading. field (number_at w32 heading.1) >>= λ number. message_at heading.0 number.0
    number.1

-- steps are grouped either way
grouped : {A B C E : Type 0} (r : Result A E) (f : A → Result B E) (g : B → Result C E)
    → (r >>= λ a. f a >>= g) ≡ ((r >>= f) >>= g)
grouped (Ok a) f g = refl
grouped (Err e) f g = refl

-- a message, and then no byte more
decode_is : (bytes : List ℕ)
    → decode_of bytes ≡ (headed_at bytes >>= λ message. field (end_of message.1) >>= λ end. Ok message.0)
unfolding decode_of
decode_is bytes =
    ap (λ (next : MessageHeading × List ℕ → Result Message MsgFault). heading_at bytes >>= next)
    (λ i heading. grouped (field (number_at w32 heading.1)) (λ number. message_at heading.0 number.0 number.1)
    (λ message. field (end_of message.1) >>= λ end. Ok message.0) i)
    ∙ grouped (heading_at bytes)
    (λ heading. field (number_at w32 heading.1) >>= λ number. message_at heading.0 number.0 number.1)
    (λ message. field (end_of message.1) >>= λ end. Ok message.0)

-- ---- what is read is spelled so

-- behind a heading and a number
abbrev ReadsAs : MessageHeading → ℕ → Reader Message MsgFault → Type 0
ReadsAs h number reader =
    IsTail spelling IsInLimits (heading_bytes h ++ to_be_bytes w32 number) (Unit {0} × (number < 2 ^ 32)) reader

poll_reads : (number : ℕ) → ReadsAs Poll number (poll_at number)
unfolding poll_at spelling
poll_reads number = reads_then _ au_field (λ au. reads_end (messages.Poll number au) (λ h. (refl, (tt, (h.0.1, h.1)))))

challenge_reads : (number : ℕ) → ReadsAs PollChallenge number (challenge_at number)
unfolding challenge_at spelling
challenge_reads number =
    reads_then _ flag_field
    (λ joins. reads_end (messages.PollChallenge number (eqb joins 1))
    (λ h. (
      ap (λ (b : ℕ). heading_bytes PollChallenge ++ to_be_bytes w32 number ++ b ∷ []) (flag_is joins h.1),
      (tt, h.0.1),
    )))

poll_proof_reads : (kind : HashKind) (number : ℕ) → ReadsAs (PollProof kind) number (poll_proof_at kind number)
unfolding poll_proof_at spelling
poll_proof_reads kind number =
    reads_then _ nonce_field
    (λ nonce. reads_then _ (kind_field kind)
    (λ known. reads_then _ proof_field
    (λ proof. reads_end (messages.PollProof number nonce kind proof)
    (λ h. (refl, (h.1, (h.0.0.0.1, h.0.0.1)))))))

nominate_reads : (number : ℕ) → ReadsAs Nominate number (nominate_at number)
unfolding nominate_at spelling
nominate_reads number =
    reads_then _ nominees_field
    (λ nominees. reads_end (messages.Nominate number nominees) (λ h. (refl, (h.1.0, (h.0.1, h.1.1)))))

vote_reads : (number : ℕ) → ReadsAs Vote number (vote_at number)
unfolding vote_at spelling
vote_reads number =
    reads_then _ hashes_field
    (λ hashes. reads_then _ proof_field
    (λ proof. reads_end (messages.Vote number hashes proof)
    (λ h. (refl, ((h.0.1.0, h.1), (h.0.0.1, h.0.1.1))))))

request_reads : (number : ℕ) → ReadsAs RepairRequest number (request_at number)
unfolding request_at spelling
request_reads number =
    reads_then _ block_field (λ block. reads_end (messages.RepairRequest number block) (λ h. (refl, (h.1, h.0.1))))

repair_reads : (number : ℕ) → ReadsAs Repair number (repair_at number)
unfolding repair_at spelling
repair_reads number =
    reads_then _ block_field
    (λ block. reads_then _ content_field
    (λ bytes. reads_end (messages.Repair number block bytes) (λ h. (refl, ((h.0.1, h.1), h.0.0.1)))))

receipt_reads : (number : ℕ) → ReadsAs Receipt number (message_at Receipt number)
unfolding spelling
receipt_reads number = reads_end (messages.Receipt number) (λ h. (refl, (tt, h.1)))

message_reads : (h : MessageHeading) (number : ℕ) → ReadsAs h number (message_at h number)
message_reads Poll number = poll_reads number
message_reads PollChallenge number = challenge_reads number
message_reads (PollProof kind) number = poll_proof_reads kind number
message_reads Nominate number = nominate_reads number
message_reads Vote number = vote_reads number
message_reads RepairRequest number = request_reads number
message_reads Repair number = repair_reads number
message_reads Receipt number = receipt_reads number

headed_takes : (bytes : List ℕ) (x : Message × List ℕ) → IsBytes bytes → headed_at bytes ≡ Ok x
    → Takes bytes (spelling x.0) x.1 × IsInLimits x.0
headed_takes bytes x fits e =
    let a = bind_ok (heading_at bytes)
    (λ heading. field (number_at w32 heading.1) >>= λ number. message_at heading.0 number.0 number.1) x e in
    let t = heading_takes bytes a.0 fits a.1 in
    let tail : IsTail spelling IsInLimits (heading_bytes a.0.0) (Unit {0})
    (λ rest. field (number_at w32 rest) >>= λ number. message_at a.0.0 number.0 number.1) = reads_then _
    number_field (message_reads a.0.0) in
    let s = tail.takes tt a.0.1 x t.rest_fits a.2 in
    (record { parts = t.parts ∙ s.0.parts; rest_fits = s.0.rest_fits }, s.1)

-- ---- what is spelled so is read

begins : (h : MessageHeading) (number : ℕ) → number < 2 ^ 32
    → Goes headed_at (heading_bytes h ++ to_be_bytes w32 number) (message_at h number)
begins h number lt = goes_then (λ n. message_at h n.0 n.1) headed number_field number lt
  where
    headed : Goes headed_at (heading_bytes h) (λ bytes. field (number_at w32 bytes) >>= λ n. message_at h n.0 n.1)
    headed =
        record {
          at = λ rest. ap
              (λ (r : Result (MessageHeading × List ℕ) MsgFault). r >>= λ heading. field (number_at w32 heading.1) >>=
              λ n. message_at heading.0 n.0 n.1) (heading_again h rest);
        }

headed_again : (m : Message) (rest : List ℕ) → IsInLimits m → headed_at (spelling m ++ rest) ≡ Ok (m, rest)
unfolding spelling poll_at challenge_at poll_proof_at nominate_at vote_at request_at repair_at
headed_again (messages.Poll number au) rest h = (goes_then _ (begins Poll number h.1.0) au_field au h.1.1).at rest
headed_again (messages.PollChallenge number true) rest h =
    (goes_then _ (begins PollChallenge number h.1) flag_field 1 (omega arith)).at rest
headed_again (messages.PollChallenge number false) rest h =
    (goes_then _ (begins PollChallenge number h.1) flag_field 0 (omega arith)).at rest
headed_again (messages.PollProof number nonce kind proof) rest h =
    (goes_then _
    (goes_then _ (goes_then _ (begins (PollProof kind) number h.1.0) nonce_field nonce h.1.1) (kind_field kind)
    tt tt) proof_field proof h.0).at rest
headed_again (messages.Nominate number nominees) rest h =
    (goes_then _ (begins Nominate number h.1.0) nominees_field nominees (h.0, h.1.1)).at rest
headed_again (messages.Vote number hashes proof) rest h =
    (goes_then _ (goes_then _ (begins Vote number h.1.0) hashes_field hashes (h.0.0, h.1.1)) proof_field proof
    h.0.1).at rest
headed_again (messages.RepairRequest number block) rest h =
    (goes_then _ (begins RepairRequest number h.1) block_field block h.0).at rest
headed_again (messages.Repair number block bytes) rest h =
    (goes_then _ (goes_then _ (begins Repair number h.1) block_field block h.0.0) content_field bytes h.0.1).at rest
headed_again (messages.Receipt number) rest h = (begins Receipt number h.1).at rest

headed_field : IsField headed_at spelling IsInLimits
headed_field = record { takes = headed_takes; again = headed_again }

-- ---- both, of all the bytes

pub read_spells : (bytes : List ℕ) (m : Message) → IsBytes bytes → decode_of bytes ≡ Ok m
    → IsInLimits m × (bytes ≡ spelling m)
read_spells bytes m fits e = whole_takes told_as headed_field bytes m fits (sym (decode_is bytes) ∙ e)

pub spelling_read : (m : Message) → IsInLimits m → decode_of (spelling m) ≡ Ok m
spelling_read m h = decode_is (spelling m) ∙ whole_again told_as headed_field m h

-- ---- at the call

pub is_found : (bytes : List ℕ) (result : Result Message MsgFault) → IsBytes bytes → Gives result (decode_of bytes)
    → IfOk result (λ m. IsInLimits m × (bytes ≡ spelling m))
is_found bytes (Ok m) fits given = read_spells bytes m fits given
is_found bytes (Err e) fits given = tt
