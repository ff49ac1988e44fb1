-- Form and tag, there and back.
use Rattle.std.proofs.Common.{◌≡◌, ℕ, Bool, true, false, cond, eqb, List, ◌++◌, Ok, Err, refl}
use Rattle.lks_base.specs.declared.names.HashKind.TheVariants.{Sha256, Sha512_256}
use Rattle.lks_field.specs.Reading.{byte_at, tagged}
use Rattle.lks_field.proofs.Takes.{IsBytes, Takes, bind_ok, told_field, byte_field}
use Rattle.lks_field.proofs.Headings.{AreTags, tag_row, form_row}
use Rattle.lks_record.specs.declared.fault.RecFault.TheVariants.{Form}
use Rattle.lks_record.specs.declared.heading.OpeningForm.{OpeningForm}
use Rattle.lks_record.specs.declared.heading.OpeningForm.TheVariants.{Plain, Limited, OfKind}
use Rattle.lks_record.specs.declared.heading.RecordHeading.{RecordHeading}
use Rattle.lks_record.specs.declared.heading.RecordHeading.TheVariants.{Deposit, PollOpened, Nominated, OuterOpened}
use Rattle.lks_record.specs.declared.heading.RecordHeading.TheVariants.{VoteIn, Shut, Asked, RepairBad, Replaced}
use Rattle.lks_record.specs.declared.heading.RecordHeading.TheVariants.{Closed, Overdue, Joined, Committed, Voted}
use Rattle.lks_record.specs.declared.heading.RecordHeading.TheVariants.{Served, Ended, Tuned}
use Rattle.lks_record.specs.Faults.{told_as, field}
use Rattle.lks_record.specs.Spelling.{start, committed_form}
use Rattle.lks_record.specs.Reading.{first_heading, second_heading, third_heading, heading_at}

abbrev pub opened_form : OpeningForm → ℕ
opened_form Plain = 1
opened_form Limited = 2
opened_form OfKind = 3

abbrev pub told_form : Bool → ℕ
told_form false = 1
told_form true = 2

abbrev pub heading_bytes : RecordHeading → List ℕ
heading_bytes Deposit = start 1 1
heading_bytes (PollOpened opening) = start (opened_form opening) 2
heading_bytes Nominated = start 1 3
heading_bytes OuterOpened = start 1 4
heading_bytes VoteIn = start 1 5
heading_bytes Shut = start 1 6
heading_bytes Asked = start 1 7
heading_bytes RepairBad = start 1 8
heading_bytes Replaced = start 1 9
heading_bytes Closed = start 1 10
heading_bytes Overdue = start 1 11
heading_bytes (Joined told) = start (told_form told) 12
heading_bytes (Committed kind) = start (committed_form kind) 13
heading_bytes Voted = start 1 14
heading_bytes Served = start 1 15
heading_bytes Ended = start 1 16
heading_bytes Tuned = start 2 17

first_is : AreTags heading_bytes 1 first_heading
unfolding first_heading
first_is tag h =
    tag_row heading_bytes 1 tag 1 Deposit h _ refl
    (tag_row heading_bytes 1 tag 2 (PollOpened Plain) h _ refl
    (tag_row heading_bytes 1 tag 3 Nominated h _ refl (tag_row heading_bytes 1 tag 4 OuterOpened h _ refl
    (tag_row heading_bytes 1 tag 5 VoteIn h _ refl
    (tag_row heading_bytes 1 tag 6 Shut h _ refl
    (tag_row heading_bytes 1 tag 7 Asked h _ refl (tag_row heading_bytes 1 tag 8 RepairBad h _ refl
    (tag_row heading_bytes 1 tag 9 Replaced h _ refl
    (tag_row heading_bytes 1 tag 10 Closed h _ refl
    (tag_row heading_bytes 1 tag 11 Overdue h _ refl (tag_row heading_bytes 1 tag 12 (Joined false) h _ refl
    (tag_row heading_bytes 1 tag 13 (Committed Sha256) h _ refl
    (tag_row heading_bytes 1 tag 14 Voted h _ refl
    (tag_row heading_bytes 1 tag 15 Served h _ refl
    (tag_row heading_bytes 1 tag 16 Ended h _ refl (λ e. absurd cc))))))))))))))))

second_is : AreTags heading_bytes 2 second_heading
unfolding second_heading
second_is tag h =
    tag_row heading_bytes 2 tag 2 (PollOpened Limited) h _ refl
    (tag_row heading_bytes 2 tag 12 (Joined true) h _ refl
    (tag_row heading_bytes 2 tag 13 (Committed Sha512_256) h _ refl
    (tag_row heading_bytes 2 tag 17 Tuned h _ refl (λ e. absurd cc))))

third_is : AreTags heading_bytes 3 third_heading
unfolding third_heading
third_is tag h = tag_row heading_bytes 3 tag 2 (PollOpened OfKind) h _ refl (λ e. absurd cc)

pub heading_takes : (bytes : List ℕ) (x : RecordHeading × List ℕ) → IsBytes bytes → heading_at bytes ≡ Ok x
    → Takes bytes (heading_bytes x.0) x.1
unfolding heading_at
heading_takes bytes x fits e =
    let a = bind_ok (field (byte_at bytes))
    (λ form. cond (eqb form.0 1) (tagged told_as first_heading form.1)
    (cond (eqb form.0 2) (tagged told_as second_heading form.1)
    (cond (eqb form.0 3) (tagged told_as third_heading form.1) (Err Form)))) x e in
    let t = (told_field told_as byte_field).takes bytes a.0 fits a.1 in
    rw t.0.parts
    (form_row heading_bytes told_as a.0.0 1 first_heading _ a.0.1 x t.0.rest_fits first_is
    (form_row heading_bytes told_as a.0.0 2 second_heading _ a.0.1 x t.0.rest_fits second_is
    (form_row heading_bytes told_as a.0.0 3 third_heading _ a.0.1 x t.0.rest_fits third_is (λ none. absurd cc))) a.2)

pub heading_again : (h : RecordHeading) (rest : List ℕ) → heading_at (heading_bytes h ++ rest) ≡ Ok (h, rest)
unfolding heading_at first_heading second_heading third_heading
heading_again Deposit rest = refl
heading_again (PollOpened Plain) rest = refl
heading_again (PollOpened Limited) rest = refl
heading_again (PollOpened OfKind) rest = refl
heading_again Nominated rest = refl
heading_again OuterOpened rest = refl
heading_again VoteIn rest = refl
heading_again Shut rest = refl
heading_again Asked rest = refl
heading_again RepairBad rest = refl
heading_again Replaced rest = refl
heading_again Closed rest = refl
heading_again Overdue rest = refl
heading_again (Joined false) rest = refl
heading_again (Joined true) rest = refl
heading_again (Committed Sha256) rest = refl
heading_again (Committed Sha512_256) rest = refl
heading_again Voted rest = refl
heading_again Served rest = refl
heading_again Ended rest = refl
heading_again Tuned rest = refl
