-- A fuse, and what the calls of a disk in memory answer by it.
use Rattle.std.specs.Prelude.{◌≡◌, ℕ, List, zero, suc, Bool, true, false, if◌then◌else◌, Result, Ok, Err, IsOk}
use Rattle.lks_disk.specs.Counts.{raised, next_fails}
use Rattle.lks_disk.specs.Device.{FuseTold}
use Rattle.lks_disk.specs.declared.disks.DiskFail.{DiskFail}
use Rattle.lks_disk.specs.declared.disks.DiskFail.TheVariants.{Failed, Cut, Memory}
use Rattle.lks_disk.specs.declared.controls.Fuse.{Fuse}
use Rattle.lks_disk.specs.declared.controls.Fuse.TheVariants.{Unset, Set, Burned}
use Rattle.lks_disk.specs.declared.controls.Fate.{Fate}
use Rattle.lks_disk.specs.declared.controls.Fate.TheVariants.{Passes, Fails, Burns, Ends}
use Rattle.lks_disk.specs.declared.controls.Control.{Control}
use Rattle.lks_disk.specs.declared.controls.Setting.{Setting}

abbrev pub is_set : Fuse → Bool
is_set (Unset last) = false
is_set (Set left setting) = true
is_set (Burned setting) = true

abbrev pub is_burned : Fuse → Bool
is_burned (Unset last) = false
is_burned (Set left setting) = false
is_burned (Burned setting) = true

-- how many calls it still lets pass
abbrev pub lets : Fuse → ℕ
lets (Unset last) = 0
lets (Set left setting) = left
lets (Burned setting) = 0

-- as the fuse was set, or without one that of the last power cut
abbrev pub last_setting : Fuse → Setting
last_setting (Unset last) = last
last_setting (Set left setting) = setting
last_setting (Burned setting) = setting

abbrev pub last_calls : Fuse → ℕ
last_calls fuse = (last_setting fuse).calls

abbrev pub last_choice : Fuse → ℕ
last_choice fuse = (last_setting fuse).choice

-- what is left at a power cut; without a fuse it is choice 0
abbrev pub choice_of : Fuse → ℕ
choice_of fuse = if is_set fuse then last_choice fuse else 0

-- the fuse that a power cut ends, as it was set
abbrev pub setting_of : Fuse → Setting
setting_of fuse = record { calls = if is_set fuse then last_calls fuse else 0; choice = choice_of fuse }

-- what is told of it
abbrev pub tells_of : Control → FuseTold
tells_of c =
    record {
      set = is_set c.fuse;
      burned = is_burned c.fuse;
      left = lets c.fuse;
      calls = last_calls c.fuse;
      choice = last_choice c.fuse;
      burns = c.burns;
      cuts = c.cuts;
    }

-- the fuse after a write or a sync
abbrev pub fuse_after : Fuse → Fuse
fuse_after (Unset last) = Unset last
fuse_after (Set zero setting) = Burned setting
fuse_after (Set (suc left) setting) = Set left setting
fuse_after (Burned setting) = Burned setting

-- what becomes of a write or a sync, by the fuse before it and by whether the call is named to fail
abbrev pub fate_by : Fuse → Bool → Fate
fate_by (Unset last) named = if named then Fails else Passes
fate_by (Set zero setting) named = Burns
fate_by (Set (suc left) setting) named = if named then Fails else Passes
fate_by (Burned setting) named = Ends

abbrev pub fate_of : Control → Fate
fate_of c = fate_by c.fuse (next_fails c.fail.items c.calls)

abbrev pub answer_of : Fate → Result (Unit {0}) DiskFail
answer_of Passes = Ok tt
answer_of Fails = Err Failed
answer_of Burns = Err Cut
answer_of Ends = Err Cut

-- the state after a write or a sync with this fate
abbrev pub settled : Fate → Control → Control
settled Passes c = record c { calls = raised c.calls; fuse = fuse_after c.fuse }
settled Fails c = record c { calls = raised c.calls; fuse = fuse_after c.fuse; faults = raised c.faults }
settled Burns c = record c { calls = raised c.calls; fuse = fuse_after c.fuse; burns = raised c.burns }
settled Ends c = record c { calls = raised c.calls; fuse = fuse_after c.fuse }

-- the answer to a read or a question for the length, by whether the call is named to fail
abbrev pub read_answer : Fuse → Bool → Result (Unit {0}) DiskFail
read_answer (Burned setting) named = Err Cut
read_answer fuse named = if named then Err Failed else Ok tt

-- the state after it
abbrev pub after_read : {T : Type 0} → Control → Result T DiskFail → Control
after_read c (Ok _) = record c { reads = raised c.reads }
after_read c (Err Failed) = record c { reads = raised c.reads; faults = raised c.faults }
after_read c (Err Cut) = record c { reads = raised c.reads }
after_read c (Err Memory) = c

-- nothing was called yet, and these numbers name the calls that fail
pub record Starts (fail fail_reads : List ℕ) (c : Control) : Type 0 where
  pub named : c.fail.items ≡ fail
  pub named_reads : c.fail_reads.items ≡ fail_reads
  pub calls : c.calls ≡ 0
  pub reads : c.reads ≡ 0
  pub faults : c.faults ≡ 0
  pub burns : c.burns ≡ 0
  pub cuts : c.cuts ≡ 0
  pub fuse : c.fuse ≡ Unset (record { calls = 0; choice = 0 })

-- how a call that may want memory is answered by its fate
abbrev pub AnswersBy : Fate → Result (Unit {0}) DiskFail → Type 0
AnswersBy fate (Err Memory) = Unit {0}
AnswersBy fate result = result ≡ answer_of fate

-- the counts and the fuse after it
abbrev pub CountsBy : Fate → Control → Control → Result (Unit {0}) DiskFail → Type 0
CountsBy fate old new (Err Memory) = new ≡ old
CountsBy fate old new result = new ≡ settled fate old

-- a read or a question for the length is refused by the fuse and the number of the call
abbrev pub RefusedBy : {T : Type 0} → Result (Unit {0}) DiskFail → Result T DiskFail → Type 0
RefusedBy (Ok _) result = IsOk result
RefusedBy (Err e) result = result ≡ Err e
