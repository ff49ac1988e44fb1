-- What contracts say of a disk in memory.
use Rattle.std.specs.Prelude.{ℕ, List, [], ◌∷◌, refl}
use Rattle.std.proofs.Common.{inl}
use Rattle.lks_disk.specs.Crash.{may_leave, moment, left_since}
use Rattle.lks_disk.specs.Face.{Face}
use Rattle.lks_disk.specs.Fuse.{is_set, is_burned, lets, last_calls, last_choice}
use Rattle.lks_disk.specs.declared.calls.Call.{Call}
use Rattle.lks_disk.specs.declared.calls.Call.TheVariants.{Written, Synced}
use Rattle.lks_disk.specs.declared.memory.MemDisk.{MemDisk}

abbrev pub mem_face : Face MemDisk
mem_face = record {
  told = λ _. Unit {0};
  seen = λ m. m.content.bytes;
  may_leave = λ m. may_leave m.content;
  moment = λ m. moment m.content;
  left_since = λ m. left_since m.content;
  faults = λ m. m.control.faults;
  burns = λ m. m.control.burns;
  cuts = λ m. m.control.cuts;
  fused = λ m. is_set m.control.fuse;
  burned = λ m. is_burned m.control.fuse;
  left = λ m. lets m.control.fuse;
  calls = λ m. last_calls m.control.fuse;
  choice = λ m. last_choice m.control.fuse;
}

is_image : (calls : List Call) (x : List ℕ) → may_leave (record { bytes = x; calls = calls }) x
is_image [] x = refl
is_image (Synced ∷ calls) x = refl
is_image (Written at n over ∷ calls) x = inl refl

pub seen_is_left : (m : MemDisk) → may_leave m.content m.content.bytes
seen_is_left m = is_image m.content.calls m.content.bytes
