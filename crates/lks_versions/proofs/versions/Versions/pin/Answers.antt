use Rattle.std.proofs.Common.{◌≡◌, rules}
use Rattle.lks_versions.specs.Pins.{pins_with}
use Rattle.lks_versions.specs.Shelf.{current_of}
use Rattle.lks_versions.proofs.PinLaws.{pin_of-made, pin_of-with_other}
use Rattle.lks_versions.proofs.versions.Versions.pin.Goals as goal

pub returns-clause-mine : goal.returns-clause-mine
returns-clause-mine c =
    let more : c.push.new.self.items
    ≡ pins_with c.args.poll (current_of c.args.self.now) c.args.self.now.pins = search rules in
    pin_of-made c.args.poll _ c.args.self.now.pins _ more c.requires

pub returns-clause-others : goal.returns-clause-others
returns-clause-others c =
    let more : c.push.new.self.items
    ≡ pins_with c.args.poll (current_of c.args.self.now) c.args.self.now.pins = search rules in
    rw more (λ other differ. pin_of-with_other c.args.poll other _ c.args.self.now.pins differ)
