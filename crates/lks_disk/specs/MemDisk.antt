-- A fuse that has burned is set, and lets no call pass.
use Rattle.std.specs.Prelude.{◌≡◌, true, refl}
use Rattle.lks_disk.specs.Fuse.{is_set, is_burned, lets}
use Rattle.lks_disk.specs.declared.controls.Fuse.{Fuse}
use Rattle.lks_disk.specs.declared.controls.Fuse.TheVariants.{Unset, Set, Burned}

pub set_is_burned_out : (fuse : Fuse) → is_burned fuse ≡ true → (is_set fuse ≡ true) × (lets fuse ≡ 0)
set_is_burned_out (Unset last) burned = absurd cc
set_is_burned_out (Set left setting) burned = absurd cc
set_is_burned_out (Burned setting) burned = (refl, refl)
