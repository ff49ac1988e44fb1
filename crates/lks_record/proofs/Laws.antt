-- What is read is spelled so, and what is spelled so is read.
use Rattle.std.proofs.Common.{◌≡◌, ℕ, ◌+◌, ◌<◌, Bool, Option, None, Some, is_some, List, ◌++◌, length, get_or, Result}
use Rattle.std.proofs.Common.{Ok, Err, refl, sym, ap, subst, ◌∙◌, arith, inl, inr}
use Rattle.std.specs.Prelude.{IfOk, IfSome, All}
use Rattle.std.proofs.lemmas.Bool.{cases_lt}
use Rattle.std.proofs.lemmas.List.{get_or_default}
use Rattle.lks_base.specs.declared.limits.TheConstants.{MOST_CIRCLE, MOST_NOMINEES}
use Rattle.lks_base.specs.declared.records.Record.{Record}
use Rattle.lks_base.specs.declared.records.Record.TheVariants as records
use Rattle.lks_base.specs.declared.names.HashKind.{HashKind}
use Rattle.lks_base.specs.declared.names.HashKind.TheVariants.{Sha256, Sha512_256}
use Rattle.lks_base.specs.declared.names.Limits.{Limits}
use Rattle.lks_field.specs.Reading.{◌>>=◌}
use Rattle.lks_field.proofs.Takes.{IsBytes, Takes, IsField, bind_ok}
use Rattle.lks_field.proofs.Steps.{Reader, IsTail, reads_then, reads_end, Goes, goes_then}
use Rattle.lks_field.proofs.Counted.{list_field}
use Rattle.lks_field.proofs.Whole.{whole_takes, whole_again}
use Rattle.lks_record.specs.declared.fault.RecFault.{RecFault}
use Rattle.lks_record.specs.declared.heading.OpeningForm.{OpeningForm}
use Rattle.lks_record.specs.declared.heading.OpeningForm.TheVariants.{Plain, Limited, OfKind}
use Rattle.lks_record.specs.declared.heading.RecordHeading.{RecordHeading}
use Rattle.lks_record.specs.declared.heading.RecordHeading.TheVariants.{Deposit, PollOpened, Nominated, OuterOpened}
use Rattle.lks_record.specs.declared.heading.RecordHeading.TheVariants.{VoteIn, Shut, Asked, RepairBad, Replaced}
use Rattle.lks_record.specs.declared.heading.RecordHeading.TheVariants.{Closed, Overdue, Joined, Committed, Voted}
use Rattle.lks_record.specs.declared.heading.RecordHeading.TheVariants.{Served, Ended, Tuned}
use Rattle.lks_record.specs.Faults.{told_as}
use Rattle.lks_record.specs.Spelling.{opening_form, joined_form, spelling, batch_spelling, AreLimits, HasLimits}
use Rattle.lks_record.specs.Spelling.{IsInLimits, IsBatch}
use Rattle.lks_record.specs.Reading.{Gives, is_limited, kind_in, heading_at, deposit_at, opened_at, nominated_at}
use Rattle.lks_record.specs.Reading.{outer_at, vote_in_at, shut_at, asked_at, repair_bad_at, replaced_at, closed_at}
use Rattle.lks_record.specs.Reading.{overdue_at, joined_at, committed_at, voted_at, served_at, ended_at, tuned_at}
use Rattle.lks_record.specs.Reading.{body_at, record_at, batch_at, decode_of}
use Rattle.lks_record.proofs.Headings.{opened_form, told_form, heading_bytes, heading_takes, heading_again}
use Rattle.lks_record.proofs.Parts.{id_field, long_field, nonce_field, flag_field, block_field, repairs_field}
use Rattle.lks_record.proofs.Parts.{from_one_field, kind_field, optional_field, content_field, peers_field}
use Rattle.lks_record.proofs.Parts.{hashes_field, blocks_field, poll_field, limits_field, outcome_field}

-- ---- openings

opening_is : (opening : OpeningForm) (limits : Option Limits) (kind : HashKind)
    → is_some limits ≡ is_limited opening → kind ≡ kind_in opening → opening_form limits kind ≡ opened_form opening
opening_is Plain None Sha256 e f = refl
opening_is Plain None Sha512_256 e f = absurd cc
opening_is Plain (Some limits) kind e f = absurd cc
opening_is Limited None kind e f = absurd cc
opening_is Limited (Some limits) Sha256 e f = refl
opening_is Limited (Some limits) Sha512_256 e f = absurd cc
opening_is OfKind limits Sha256 e f = absurd cc
opening_is OfKind limits Sha512_256 e f = refl

has_limits : (opening : OpeningForm) (limits : Option Limits) (kind : HashKind)
    → is_some limits ≡ is_limited opening → kind ≡ kind_in opening → IfSome limits AreLimits → HasLimits limits kind
has_limits Plain None Sha256 e f h = tt
has_limits Plain None Sha512_256 e f h = absurd cc
has_limits Limited None kind e f h = absurd cc
has_limits OfKind None kind e f h = absurd cc
has_limits opening (Some limits) kind e f h = h

-- the opening with these fields
abbrev opening_of : Option Limits → HashKind → OpeningForm
opening_of limits Sha512_256 = OfKind
opening_of None Sha256 = Plain
opening_of (Some limits) Sha256 = Limited

limits_told : (limits : Option Limits) (kind : HashKind) → HasLimits limits kind
    → (is_some limits ≡ is_limited (opening_of limits kind)) × IfSome limits AreLimits
limits_told None Sha256 h = (refl, tt)
limits_told None Sha512_256 h = absurd h
limits_told (Some limits) Sha256 h = (refl, h)
limits_told (Some limits) Sha512_256 h = (refl, h)

kind_told : (limits : Option Limits) (kind : HashKind) → kind ≡ kind_in (opening_of limits kind)
kind_told None Sha256 = refl
kind_told (Some limits) Sha256 = refl
kind_told limits Sha512_256 = refl

form_told : (limits : Option Limits) (kind : HashKind) → opening_form limits kind ≡ opened_form (opening_of limits kind)
form_told None Sha256 = refl
form_told (Some limits) Sha256 = refl
form_told limits Sha512_256 = refl

joined_is : (repairs : Option ℕ) → joined_form repairs ≡ told_form (is_some repairs)
joined_is None = refl
joined_is (Some repairs) = refl

-- ---- records: what is read is spelled so

abbrev ReadsAs : RecordHeading → Reader Record RecFault → Type 0
ReadsAs h reader = IsTail spelling IsInLimits (heading_bytes h) (Unit {0}) reader

deposit_reads : ReadsAs Deposit deposit_at
unfolding deposit_at spelling
deposit_reads =
    reads_then _ id_field
    (λ au. reads_then _ blocks_field
    (λ blocks. reads_end (records.Deposit au blocks) (λ h. (refl, ((h.1.0.0, h.1.0.1, h.1.1), h.0.1)))))

-- the form tells which fields are there
opened_reads : (opening : OpeningForm) → ReadsAs (PollOpened opening) (opened_at opening)
unfolding opened_at spelling
opened_reads opening =
    reads_then _ long_field
    (λ number. reads_then _ id_field
    (λ au. reads_then _ nonce_field
    (λ nonce. reads_then _ (peers_field MOST_CIRCLE (omega arith))
    (λ inner. reads_then _ long_field (λ tick.
    reads_then _ (optional_field limits_field (is_limited opening))
    (λ limits. reads_then _ (kind_field (kind_in opening))
    (λ kind. reads_end (records.PollOpened number au nonce inner tick limits kind)
    (λ h. (
      rw (opening_is opening limits kind h.0.1.0 h.1) refl,
      (
        (h.0.0.0.1.0, has_limits opening limits kind h.0.1.0 h.1 h.0.1.1),
        (h.0.0.0.0.0.0.1, h.0.0.0.0.0.1, h.0.0.0.0.1, h.0.0.0.1.1, h.0.0.1),
      ),
    )))))))))

nominated_reads : ReadsAs Nominated nominated_at
unfolding nominated_at spelling
nominated_reads =
    reads_then _ long_field
    (λ number. reads_then _ id_field
    (λ voter. reads_then _ (peers_field MOST_NOMINEES (omega arith))
    (λ nominees. reads_end (records.Nominated number voter nominees)
    (λ h. (refl, (h.1.0, (h.0.0.1, h.0.1, h.1.1)))))))

outer_reads : ReadsAs OuterOpened outer_at
unfolding outer_at spelling
outer_reads =
    reads_then _ long_field
    (λ number. reads_then _ (peers_field MOST_CIRCLE (omega arith))
    (λ outer. reads_end (records.OuterOpened number outer) (λ h. (refl, (h.1.0, (h.0.1, h.1.1))))))

vote_in_reads : ReadsAs VoteIn vote_in_at
unfolding vote_in_at spelling
vote_in_reads =
    reads_then _ long_field
    (λ number. reads_then _ id_field
    (λ voter. reads_then _ hashes_field
    (λ hashes. reads_end (records.VoteIn number voter hashes)
    (λ h. (refl, (h.1.0, (h.0.0.1, h.0.1, h.1.1)))))))

shut_reads : ReadsAs Shut shut_at
unfolding shut_at spelling
shut_reads = reads_then _ long_field (λ number. reads_end (records.Shut number) (λ h. (refl, (tt, h.1))))

asked_reads : ReadsAs Asked asked_at
unfolding asked_at spelling
asked_reads =
    reads_then _ long_field
    (λ number. reads_then _ block_field
    (λ block. reads_then _ id_field
    (λ voter. reads_end (records.Asked number block voter) (λ h. (refl, (h.0.1, (h.0.0.1, h.1)))))))

repair_bad_reads : ReadsAs RepairBad repair_bad_at
unfolding repair_bad_at spelling
repair_bad_reads =
    reads_then _ long_field
    (λ number. reads_then _ block_field
    (λ block. reads_then _ id_field
    (λ voter. reads_end (records.RepairBad number block voter) (λ h. (refl, (h.0.1, (h.0.0.1, h.1)))))))

replaced_reads : ReadsAs Replaced replaced_at
unfolding replaced_at spelling
replaced_reads =
    reads_then _ long_field
    (λ number. reads_then _ id_field
    (λ au. reads_then _ block_field
    (λ block. reads_then _ content_field
    (λ bytes. reads_end (records.Replaced number au block bytes)
    (λ h. (refl, ((h.0.1, h.1), (h.0.0.0.1, h.0.0.1))))))))

closed_reads : ReadsAs Closed closed_at
unfolding closed_at spelling
closed_reads =
    reads_then _ long_field
    (λ number. reads_then _ outcome_field
    (λ outcome. reads_then _ long_field
    (λ tick. reads_end (records.Closed number outcome tick) (λ h. (refl, (h.0.1, (h.0.0.1, h.1)))))))

overdue_reads : ReadsAs Overdue overdue_at
unfolding overdue_at spelling
overdue_reads =
    reads_then _ id_field
    (λ au. reads_then _ long_field
    (λ tick. reads_end (records.Overdue au tick) (λ h. (refl, (tt, (h.0.1, h.1))))))

joined_reads : (told : Bool) → ReadsAs (Joined told) (joined_at told)
unfolding joined_at spelling
joined_reads told =
    reads_then _ poll_field
    (λ poll. reads_then _ id_field
    (λ au. reads_then _ long_field
    (λ tick. reads_then _ flag_field (λ low. reads_then _ (optional_field repairs_field told) (λ repairs.
    reads_end (records.Joined poll au tick low repairs)
    (λ h. (rw (joined_is repairs, h.1.0) refl, (h.1.1, (h.0.0.0.0.1, h.0.0.0.1, h.0.0.1)))))))))

committed_reads : (as_kind : HashKind) → ReadsAs (Committed as_kind) (committed_at as_kind)
unfolding committed_at spelling
committed_reads as_kind =
    reads_then _ poll_field
    (λ poll. reads_then _ nonce_field
    (λ nonce. reads_then _ long_field
    (λ version. reads_then _ (kind_field as_kind)
    (λ kind. reads_end (records.Committed poll nonce version kind)
    (λ h. (rw h.1 refl, (tt, (h.0.0.0.1, h.0.0.1, h.0.1))))))))

voted_reads : ReadsAs Voted voted_at
unfolding voted_at spelling
voted_reads =
    reads_then _ poll_field
    (λ poll. reads_then _ hashes_field
    (λ hashes. reads_end (records.Voted poll hashes) (λ h. (refl, (h.1.0, (h.0.1, h.1.1))))))

served_reads : ReadsAs Served served_at
unfolding served_at spelling
served_reads =
    reads_then _ poll_field
    (λ poll. reads_then _ block_field
    (λ block. reads_end (records.Served poll block) (λ h. (refl, (h.1, h.0.1)))))

ended_reads : ReadsAs Ended ended_at
unfolding ended_at spelling
ended_reads = reads_then _ poll_field (λ poll. reads_end (records.Ended poll) (λ h. (refl, (tt, h.1))))

tuned_reads : ReadsAs Tuned tuned_at
unfolding tuned_at spelling
tuned_reads =
    reads_then _ limits_field
    (λ limits. reads_then _ repairs_field
    (λ repairs. reads_end (records.Tuned limits.quorum limits.minority repairs)
    (λ h. (refl, ((h.0.1, h.1), tt)))))

body_reads : (h : RecordHeading) → ReadsAs h (body_at h)
body_reads Deposit = deposit_reads
body_reads (PollOpened opening) = opened_reads opening
body_reads Nominated = nominated_reads
body_reads OuterOpened = outer_reads
body_reads VoteIn = vote_in_reads
body_reads Shut = shut_reads
body_reads Asked = asked_reads
body_reads RepairBad = repair_bad_reads
body_reads Replaced = replaced_reads
body_reads Closed = closed_reads
body_reads Overdue = overdue_reads
body_reads (Joined told) = joined_reads told
body_reads (Committed kind) = committed_reads kind
body_reads Voted = voted_reads
body_reads Served = served_reads
body_reads Ended = ended_reads
body_reads Tuned = tuned_reads

record_takes : (bytes : List ℕ) (x : Record × List ℕ) → IsBytes bytes → record_at bytes ≡ Ok x
    → Takes bytes (spelling x.0) x.1 × IsInLimits x.0
unfolding record_at
record_takes bytes x fits e =
    let a = bind_ok (heading_at bytes) (λ heading. body_at heading.0 heading.1) x e in
    let t = heading_takes bytes a.0 fits a.1 in
    let b = (body_reads a.0.0).takes tt a.0.1 x t.rest_fits a.2 in
    (record { parts = t.parts ∙ b.0.parts; rest_fits = b.0.rest_fits }, b.1)

-- ---- records: what is spelled so is read

begins : (h : RecordHeading) → Goes record_at (heading_bytes h) (body_at h)
unfolding record_at
begins h =
    record {
      at = λ rest. ap
          (λ (r : Result (RecordHeading × List ℕ) RecFault). r >>= λ heading. body_at heading.0 heading.1)
          (heading_again h rest);
    }

record_again : (r : Record) (rest : List ℕ) → IsInLimits r → record_at (spelling r ++ rest) ≡ Ok (r, rest)
unfolding spelling deposit_at opened_at nominated_at outer_at vote_in_at shut_at asked_at repair_bad_at replaced_at
    closed_at overdue_at joined_at committed_at voted_at served_at ended_at tuned_at
record_again (records.Deposit au blocks) rest h =
    (goes_then _ (goes_then _ (begins Deposit) id_field au h.1) blocks_field blocks ((h.0.0, h.0.1), h.0.2)).at rest
record_again (records.PollOpened number au nonce inner tick limits kind) rest h =
    let opening = opening_of limits kind in
    rw (form_told limits kind)
    ((goes_then _
    (goes_then _
    (goes_then _
    (goes_then _
    (goes_then _
    (goes_then _ (goes_then _ (begins (PollOpened opening)) long_field number h.1.0) id_field au
    h.1.1) nonce_field nonce h.1.2) (peers_field MOST_CIRCLE (omega arith)) inner (h.0.0, h.1.3))
    long_field tick h.1.4)
    (optional_field limits_field (is_limited opening)) limits (limits_told limits kind h.0.1)) (kind_field
    (kind_in opening)) kind (kind_told limits kind)).at rest)
record_again (records.Nominated number voter nominees) rest h =
    (goes_then _ (goes_then _ (goes_then _ (begins Nominated) long_field number h.1.0) id_field voter h.1.1)
    (peers_field MOST_NOMINEES (omega arith)) nominees (h.0, h.1.2)).at rest
record_again (records.OuterOpened number outer) rest h =
    (goes_then _ (goes_then _ (begins OuterOpened) long_field number h.1.0) (peers_field MOST_CIRCLE (omega arith))
    outer (h.0, h.1.1)).at rest
record_again (records.VoteIn number voter hashes) rest h =
    (goes_then _ (goes_then _ (goes_then _ (begins VoteIn) long_field number h.1.0) id_field voter h.1.1)
    hashes_field hashes (h.0, h.1.2)).at rest
record_again (records.Shut number) rest h = (goes_then _ (begins Shut) long_field number h.1).at rest
record_again (records.Asked number block voter) rest h =
    (goes_then _ (goes_then _ (goes_then _ (begins Asked) long_field number h.1.0) block_field block h.0) id_field
    voter h.1.1).at rest
record_again (records.RepairBad number block voter) rest h =
    (goes_then _ (goes_then _ (goes_then _ (begins RepairBad) long_field number h.1.0) block_field block h.0)
    id_field voter h.1.1).at rest
record_again (records.Replaced number au block bytes) rest h =
    (goes_then _
    (goes_then _ (goes_then _ (goes_then _ (begins Replaced) long_field number h.1.0) id_field au h.1.1)
    block_field block h.0.0) content_field bytes h.0.1).at rest
record_again (records.Closed number outcome tick) rest h =
    (goes_then _ (goes_then _ (goes_then _ (begins Closed) long_field number h.1.0) outcome_field outcome h.0)
    long_field tick h.1.1).at rest
record_again (records.Overdue au tick) rest h =
    (goes_then _ (goes_then _ (begins Overdue) id_field au h.1.0) long_field tick h.1.1).at rest
record_again (records.Joined poll au tick low repairs) rest h =
    rw (joined_is repairs)
    ((goes_then _
    (goes_then _
    (goes_then _
    (goes_then _ (goes_then _ (begins (Joined (is_some repairs))) poll_field poll h.1.0) id_field au
    h.1.1) long_field tick h.1.2) flag_field low tt)
    (optional_field repairs_field (is_some repairs)) repairs (refl, h.0)).at rest)
record_again (records.Committed poll nonce version kind) rest h =
    (goes_then _
    (goes_then _
    (goes_then _ (goes_then _ (begins (Committed kind)) poll_field poll h.1.0) nonce_field nonce h.1.1)
    long_field version h.1.2) (kind_field kind) kind refl).at rest
record_again (records.Voted poll hashes) rest h =
    (goes_then _ (goes_then _ (begins Voted) poll_field poll h.1.0) hashes_field hashes (h.0, h.1.1)).at rest
record_again (records.Served poll block) rest h =
    (goes_then _ (goes_then _ (begins Served) poll_field poll h.1) block_field block h.0).at rest
record_again (records.Ended poll) rest h = (goes_then _ (begins Ended) poll_field poll h.1).at rest
record_again (records.Tuned quorum minority repairs) rest h =
    (goes_then _ (goes_then _ (begins Tuned) limits_field (record { quorum = quorum; minority = minority }) h.0.0)
    repairs_field repairs h.0.1).at rest

record_field : IsField record_at spelling IsInLimits
record_field = record { takes = record_takes; again = record_again }

-- ---- batches

batch_field : IsField batch_at batch_spelling IsBatch
unfolding batch_at
batch_field = list_field (from_one_field 65535 (omega arith)) record_field

-- what is read is spelled so
pub read_spells : (bytes : List ℕ) (list : List Record) → IsBytes bytes → decode_of bytes ≡ Ok list
    → IsBatch list × (bytes ≡ batch_spelling list)
unfolding decode_of
read_spells bytes list fits e = whole_takes told_as batch_field bytes list fits e

-- what is spelled so is read
pub spelling_read : (list : List Record) → IsBatch list → decode_of (batch_spelling list) ≡ Ok list
unfolding decode_of
spelling_read list h = whole_again told_as batch_field list h

-- ---- at the call

pub is_found : {X : Type 0} (view : X → List Record) (bytes : List ℕ) (result : Result X RecFault) → IsBytes bytes
    → Gives view result (decode_of bytes) → IfOk result (λ x. IsBatch (view x) × (bytes ≡ batch_spelling (view x)))
is_found view bytes (Ok x) fits given = read_spells bytes (view x) fits given
is_found view bytes (Err e) fits given = tt

-- each is within its limits and has the sizes of its type
pub both : (within sized : Record → Type 0) (list : List Record) → All within list → All sized list
    → All (λ r. within r × sized r) list
both within sized list p q = λ k d lt. (p k d lt, q k d lt)

-- one more of a list
pub one_more : (P : Record → Type 0) (list : List Record) (i : ℕ) (item : Record) → i < length list
    → item ≡ get_or list i item → P item → ((k : ℕ) (d : Record) → k < i → P (get_or list k d))
    → (k : ℕ) (d : Record) → k < i + 1 → P (get_or list k d)
one_more P list i item lt is p before k d less =
    elim (cases_lt k i) [
      | inl small ↦ before k d small
      | inr le ↦
          let same : k ≡ i = omega (arith, less, le) in
          let read : get_or list k d
          ≡ item = ap (λ (n : ℕ). get_or list n d) same ∙ get_or_default list i d item lt ∙ sym is in
          subst P (sym read) p
    ]
