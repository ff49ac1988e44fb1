use Rattle.std.proofs.Common.{◌≡◌, drop}
use Rattle.lks_versions.specs.Pins.{pin_of}
use Rattle.lks_versions.proofs.versions.pin_among.Given as goal

abbrev pub invariant-loop-p : goal.invariant-loop-p
invariant-loop-p l = pin_of l.poll (drop l.p-index l.pins) ≡ pin_of l.poll l.pins
