-- What a journal, the list of a peer's records, says of its AUs and polls.
use Rattle.std.specs.Prelude.{◌≡◌, ℕ, Bool, true, false, ◌==◌, ◌-◌, ◌&&◌, nat_lt, not, if◌then◌else◌, Option, Some}
use Rattle.std.specs.Prelude.{None, is_some, unwrap_or, option_map, option_and_then, List, [], ◌∷◌, ◌++◌, slice_get}
use Rattle.std.specs.Prelude.{slice_set, take, count_by}
use Rattle.std.specs.List.{list_any, filter_map}
use Rattle.std.specs.Option.{option_map_or}
use Rattle.lks_base.specs.declared.names.Numbers.{Numbers}
use Rattle.lks_base.specs.declared.names.Outcome.{Outcome}
use Rattle.lks_base.specs.declared.names.Outcome.TheVariants.{Agreed, Inquorate, Split, NoSupplier}
use Rattle.lks_base.specs.declared.records.Record.{Record}
use Rattle.lks_base.specs.declared.records.Record.TheVariants.{Deposit, PollOpened, Nominated, OuterOpened, VoteIn}
use Rattle.lks_base.specs.declared.records.Record.TheVariants.{Shut, Asked, RepairBad, Replaced, Closed, Overdue}
use Rattle.lks_base.specs.declared.records.Record.TheVariants.{Joined, Committed, Voted, Served, Ended, Tuned}
pub use Rattle.lks_tally.specs.Running.{Opening, Request}
use Rattle.lks_tally.specs.declared.ballots.Vote.{Vote}

-- a block's number and its new bytes
pub record Replacement : Type 0 where
  pub block : ℕ
  pub bytes : List ℕ

-- a block of an AU that a poll replaced
pub record Repair : Type 0 where
  pub number : ℕ
  pub au : ℕ
  pub block : ℕ
  pub bytes : List ℕ

-- a voter and whom it nominates
pub record Named : Type 0 where
  pub voter : ℕ
  pub nominees : List ℕ

-- a poll that a record opens
pub record Opened : Type 0 where
  pub number : ℕ
  pub tick : ℕ
  pub opening : Opening

-- how a poll ended, and when
pub record Closing : Type 0 where
  pub outcome : Outcome
  pub tick : ℕ

-- what a record says of a poll, or of an AU
pub record Told (X : Type 0) : Type 0 where
  pub number : ℕ
  pub fact : X

-- what is told of poll or AU n
abbrev pub told_of : {X : Type 0} → ℕ → Option (Told X) → Option X
told_of n None = None
told_of n (Some told) = if told.number == n then Some told.fact else None

-- whether it is told of poll n
abbrev pub is_of_poll : {X : Type 0} → ℕ → Option (Told X) → Bool
is_of_poll n None = false
is_of_poll n (Some told) = told.number == n

-- whether this is told of poll n
abbrev pub tells_of : {X : Type 0} → ℕ → (X → Bool) → Option (Told X) → Bool
tells_of n test None = false
tells_of n test (Some told) = told.number == n && test told.fact

-- the later of two ticks
abbrev pub later : Option ℕ → ℕ → Option ℕ
later None tick = Some tick
later (Some before) tick = Some (if nat_lt before tick then tick else before)

-- what a record says of the peer's copies, of its own polls, and of the numbers in force
pub record Said : Type 0 where
  pub deposit : Option (Told (List (List ℕ)))  -- the blocks of an AU
  pub replaced : Option Repair
  pub overdue : Option ℕ  -- the AU
  pub opened : Option Opened
  pub nominated : Option (Told Named)
  pub widened : Option (Told (List ℕ))  -- the outer circle
  pub voted : Option (Told Vote)
  pub shut : Option ℕ  -- the poll
  pub asked : Option (Told Request)
  pub answered : Option ℕ  -- the poll whose request it answers
  pub closed : Option (Told Closing)
  pub tuned : Option Numbers

abbrev pub silence : Said
silence =
    record {
      deposit = None;
      replaced = None;
      overdue = None;
      opened = None;
      nominated = None;
      widened = None;
      voted = None;
      shut = None;
      asked = None;
      answered = None;
      closed = None;
      tuned = None;
    }

abbrev pub said_by : Record → Said
said_by (Deposit au blocks) = record silence { deposit = Some (record { number = au; fact = blocks }) }
said_by (PollOpened number au nonce inner tick limits kind) =
    record silence {
      opened = Some
          (record {
            number = number;
            tick = tick;
            opening = record { au = au; nonce = nonce; inner = inner; limits = limits; kind = kind };
          });
    }
said_by (Nominated number voter nominees) =
    record silence {
      nominated = Some
          (record { number = number; fact = record { voter = voter; nominees = nominees } });
    }
said_by (OuterOpened number outer) = record silence { widened = Some (record { number = number; fact = outer }) }
said_by (VoteIn number voter hashes) =
    record silence { voted = Some (record { number = number; fact = record { voter = voter; hashes = hashes } }) }
said_by (Shut number) = record silence { shut = Some number }
said_by (Asked number block voter) =
    record silence { asked = Some (record { number = number; fact = record { block = block; voter = voter } }) }
said_by (RepairBad number block voter) = record silence { answered = Some number }
said_by (Replaced number au block bytes) =
    record silence {
      answered = Some number;
      replaced = Some (record { number = number; au = au; block = block; bytes = bytes });
    }
said_by (Closed number outcome tick) =
    record silence { closed = Some (record { number = number; fact = record { outcome = outcome; tick = tick } }) }
said_by (Overdue au tick) = record silence { overdue = Some au }
said_by (Joined poll au tick low repairs) = silence
said_by (Committed poll nonce version kind) = silence
said_by (Voted poll hashes) = silence
said_by (Served poll block) = silence
said_by (Ended poll) = silence
said_by (Tuned quorum minority repairs) =
    record silence { tuned = Some (record { quorum = quorum; minority = minority; repairs = repairs }) }

abbrev pub deposit_in : ℕ → Record → Option (List (List ℕ))
deposit_in au r = told_of au (said_by r).deposit

abbrev pub replacement_if : ℕ → Option Repair → Option Replacement
replacement_if au None = None
replacement_if au (Some repair) =
    if repair.au == au then Some (record { block = repair.block; bytes = repair.bytes }) else None

abbrev pub replacement_in : ℕ → Record → Option Replacement
replacement_in au r = replacement_if au (said_by r).replaced

-- What a record says of a poll.

abbrev pub opening_if : ℕ → Option Opened → Option Opening
opening_if n None = None
opening_if n (Some opened) = if opened.number == n then Some opened.opening else None

abbrev pub opening_in : ℕ → Record → Option Opening
opening_in n r = opening_if n (said_by r).opened

abbrev pub is_opening : Record → Bool
is_opening r = is_some (said_by r).opened

-- the number of the poll that the record opens
abbrev pub opened_in : Record → Option ℕ
opened_in r = option_map (λ o. o.number) (said_by r).opened

abbrev pub outer_in : ℕ → Record → Option (List ℕ)
outer_in n r = told_of n (said_by r).widened

abbrev pub widens : ℕ → Record → Bool
widens n r = is_of_poll n (said_by r).widened

abbrev pub is_nominated_by : ℕ → ℕ → Record → Bool
is_nominated_by n v r = tells_of n (λ t. t.voter == v) (said_by r).nominated

abbrev pub nominees_if : ℕ → Option (Told Named) → Option (List ℕ)
nominees_if n None = None
nominees_if n (Some told) = if told.number == n then Some told.fact.nominees else None

abbrev pub nominees_in : ℕ → Record → Option (List ℕ)
nominees_in n r = nominees_if n (said_by r).nominated

abbrev pub vote_in : ℕ → Record → Option Vote
vote_in n r = told_of n (said_by r).voted

abbrev pub is_vote_of : ℕ → ℕ → Record → Bool
is_vote_of n v r = tells_of n (λ t. t.voter == v) (said_by r).voted

-- whether there is a number, and it is n
abbrev pub is_number : Option ℕ → ℕ → Bool
is_number None n = false
is_number (Some number) n = number == n

abbrev pub shuts : ℕ → Record → Bool
shuts n r = is_number (said_by r).shut n

abbrev pub closes : ℕ → Record → Bool
closes n r = is_of_poll n (said_by r).closed

abbrev pub agreed_as : ℕ → Outcome → Option ℕ
agreed_as n Agreed = Some n
agreed_as n Inquorate = None
agreed_as n (Split block) = None
agreed_as n (NoSupplier block) = None

-- the number of the poll that the record closes as agreed
abbrev pub agreed_in : Record → Option ℕ
agreed_in r = option_and_then (λ t. agreed_as t.number t.fact.outcome) (said_by r).closed

abbrev pub asks : ℕ → ℕ → ℕ → Record → Bool
asks n b v r = tells_of n (λ t. t.block == b && t.voter == v) (said_by r).asked

abbrev pub asks_any : ℕ → Record → Bool
asks_any n r = is_of_poll n (said_by r).asked

-- the requests of poll n that are unanswered after one more, and after an answer

abbrev pub waiting_with : ℕ → List Request → Option (Told Request) → List Request
waiting_with n before None = before
waiting_with n before (Some told) = if told.number == n then before ++ told.fact ∷ [] else before

abbrev pub waiting_without : ℕ → List Request → Option ℕ → List Request
waiting_without n before None = before
waiting_without n before (Some number) = if number == n then [] else before

-- those after a record, given those before it
abbrev pub waiting_after : ℕ → List Request → Record → List Request
waiting_after n before r = waiting_with n (waiting_without n before (said_by r).answered) (said_by r).asked

-- the request of poll n that is unanswered after one more, and after an answer

abbrev pub unanswered_with : ℕ → Option Request → Option (Told Request) → Option Request
unanswered_with n before None = before
unanswered_with n before (Some told) = if told.number == n then Some told.fact else before

abbrev pub unanswered_without : ℕ → Option Request → Option ℕ → Option Request
unanswered_without n before None = before
unanswered_without n before (Some number) = if number == n then None else before

-- that after a record, given the one before it
abbrev pub unanswered_after : ℕ → Option Request → Record → Option Request
unanswered_after n before r = unanswered_with n (unanswered_without n before (said_by r).answered) (said_by r).asked

-- the numbers in force after a record, given those before it
abbrev pub numbers_after : Numbers → Record → Numbers
numbers_after before r = unwrap_or (said_by r).tuned before

abbrev pub is_tuning : Record → Bool
is_tuning r = is_some (said_by r).tuned

-- AUs and their contents.

-- the blocks with which the peer began
unfoldable pub deposit_of : ℕ → List Record → Option (List (List ℕ))
deposit_of au [] = None
deposit_of au (r ∷ rs) = if is_some (deposit_in au r) then deposit_in au r else deposit_of au rs

abbrev pub replacements : ℕ → List Record → List Replacement
replacements au journal = filter_map (replacement_in au) journal

abbrev pub replaced_by : List (List ℕ) → List Replacement → List (List ℕ)
replaced_by blocks [] = blocks
replaced_by blocks (r ∷ rs) = replaced_by (slice_set blocks r.block r.bytes) rs

-- the contents of an AU at a version: its deposit with so many replacements made, in order
unfoldable pub contents_at : ℕ → ℕ → List Record → List (List ℕ)
contents_at au version journal =
    replaced_by (unwrap_or (deposit_of au journal) []) (take version (replacements au journal))

-- its contents with all replacements made
unfoldable pub contents_of : ℕ → List Record → List (List ℕ)
contents_of au journal = replaced_by (unwrap_or (deposit_of au journal) []) (replacements au journal)

-- of each block that a record of the journal replaces, and of the journal before it, this is true
abbrev pub EachRepair : (List Record → Repair → Type 0) → List Record → Type 0
EachRepair Is journal =
    (i : ℕ) (r : Record) (repair : Repair) → slice_get journal i ≡ Some r → (said_by r).replaced ≡ Some repair
    → Is (take i journal) repair

-- the copy with the block replaced
abbrev pub with_repair : List Record → Repair → List (List ℕ)
with_repair journal r = slice_set (contents_of r.au journal) r.block r.bytes

-- Polls.

-- the peer's own poll n as it was opened
unfoldable pub opening_of : ℕ → List Record → Option Opening
opening_of n [] = None
opening_of n (r ∷ rs) = if is_some (opening_in n r) then opening_in n r else opening_of n rs

unfoldable pub openings : List Record → ℕ
openings journal = count_by is_opening journal

unfoldable pub is_shut : ℕ → List Record → Bool
is_shut n journal = list_any (shuts n) journal

unfoldable pub is_closed : ℕ → List Record → Bool
is_closed n journal = list_any (closes n) journal

unfoldable pub is_running : ℕ → List Record → Bool
is_running n journal = is_some (opening_of n journal) && not (is_closed n journal)

unfoldable pub is_voting : ℕ → List Record → Bool
is_voting n journal = is_running n journal && not (is_shut n journal)

-- the outer circle
unfoldable pub outer_of : ℕ → List Record → List ℕ
outer_of n [] = []
outer_of n (r ∷ rs) = if is_some (outer_in n r) then unwrap_or (outer_in n r) [] else outer_of n rs

-- whether an outer circle was invited, which may be empty
unfoldable pub is_widened : ℕ → List Record → Bool
is_widened n journal = list_any (widens n) journal

unfoldable pub has_nominated : ℕ → ℕ → List Record → Bool
has_nominated n v journal = list_any (is_nominated_by n v) journal

unfoldable pub has_voted : ℕ → ℕ → List Record → Bool
has_voted n v journal = list_any (is_vote_of n v) journal

unfoldable pub was_asked : ℕ → ℕ → ℕ → List Record → Bool
was_asked n b v journal = list_any (asks n b v) journal

-- whether poll n asked for a repair
unfoldable pub has_asked : ℕ → List Record → Bool
has_asked n journal = list_any (asks_any n) journal

abbrev pub waiting_from : ℕ → List Request → List Record → List Request
waiting_from n before [] = before
waiting_from n before (r ∷ rs) = waiting_from n (waiting_after n before r) rs

-- the requests of poll n that no record answers
unfoldable pub waiting_requests : ℕ → List Record → List Request
waiting_requests n journal = waiting_from n [] journal

abbrev pub unanswered_from : ℕ → Option Request → List Record → Option Request
unanswered_from n before [] = before
unanswered_from n before (r ∷ rs) = unanswered_from n (unanswered_after n before r) rs

-- the request for a repair that poll n waits for
unfoldable pub unanswered_request : ℕ → List Record → Option Request
unanswered_request n journal = unanswered_from n None journal

abbrev pub numbers_from : Numbers → List Record → Numbers
numbers_from before [] = before
numbers_from before (r ∷ rs) = numbers_from (numbers_after before r) rs

unfoldable pub was_tuned : List Record → Bool
was_tuned journal = list_any is_tuning journal

-- the numbers of the polls, in the order in which they were opened
unfoldable pub opened_numbers : List Record → List ℕ
opened_numbers journal = filter_map opened_in journal

-- the nominations of poll n, in order
unfoldable pub nominations : ℕ → List Record → List (List ℕ)
nominations n journal = filter_map (nominees_in n) journal

-- Audits of AUs.

-- when an AU was last agreed, or 0, and whether it was noted as overdue since then
pub record Audit : Type 0 where
  pub tick : ℕ
  pub noted : Bool

unfoldable pub is_of_au : ℕ → Option Opening → Bool
is_of_au au None = false
is_of_au au (Some o) = o.au == au

-- that after the end of a poll on the AU, and after it was noted as overdue

abbrev pub audit_ended : ℕ → ℕ → ℕ → List Record → Audit → Outcome → Audit
audit_ended au number tick journal before Agreed =
    if is_of_au au (opening_of number journal) then record { tick = tick; noted = false } else before
audit_ended au number tick journal before Inquorate = before
audit_ended au number tick journal before (Split block) = before
audit_ended au number tick journal before (NoSupplier block) = before

abbrev pub audit_closed : ℕ → List Record → Audit → Option (Told Closing) → Audit
audit_closed au journal before None = before
audit_closed au journal before (Some told) = audit_ended au told.number told.fact.tick journal before told.fact.outcome

abbrev pub audit_noted : ℕ → Audit → Option ℕ → Audit
audit_noted au before None = before
audit_noted au before (Some a) = if a == au then record { tick = before.tick; noted = true } else before

-- that after a record of the journal, given the one before it
unfoldable pub audit_after : ℕ → List Record → Audit → Record → Audit
audit_after au journal before r = audit_noted au (audit_closed au journal before (said_by r).closed) (said_by r).overdue

abbrev pub audit_from : ℕ → List Record → Audit → List Record → Audit
audit_from au journal before [] = before
audit_from au journal before (r ∷ rs) = audit_from au journal (audit_after au journal before r) rs

unfoldable pub audit_of : ℕ → List Record → Audit
audit_of au journal = audit_from au journal (record { tick = 0; noted = false }) journal

-- whether the AU wasn't agreed for more than so many ticks, which wasn't noted yet
unfoldable pub is_overdue : ℕ → ℕ → ℕ → List Record → Bool
is_overdue au now overdue journal = nat_lt overdue (now - (audit_of au journal).tick) && not (audit_of au journal).noted

-- whether the record opens a poll on the AU that isn't closed
unfoldable pub opens_running : ℕ → List Record → Record → Bool
opens_running au journal r =
    option_map_or (λ o. o.opening.au == au && not (is_closed o.number journal)) (said_by r).opened false

-- whether the record opens a poll that isn't closed
unfoldable pub opens_open : List Record → Record → Bool
opens_open journal r = option_map_or (λ o. not (is_closed o.number journal)) (said_by r).opened false

-- whether the record opens a poll on the AU less than `pace` ticks ago
unfoldable pub opens_lately : ℕ → ℕ → ℕ → Record → Bool
opens_lately au now pace r =
    option_map_or (λ o. o.opening.au == au && nat_lt (now - o.tick) pace) (said_by r).opened false
