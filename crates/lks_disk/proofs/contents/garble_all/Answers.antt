use Rattle.std.proofs.Common.{refl}
use Rattle.lks_disk.proofs.Images.{AllWithin-AllFit}
use Rattle.lks_disk.proofs.contents.garble_all.Goals as goal

pub back-init : goal.back-init
back-init c = (AllWithin-AllFit _ _ c.requires, refl)
