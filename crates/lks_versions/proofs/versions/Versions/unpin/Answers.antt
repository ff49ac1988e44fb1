use Rattle.std.proofs.Common.{◌≡◌, rules, refl}
use Rattle.std.proofs.lemmas.Fn.{filter_same}
use Rattle.lks_versions.specs.Pins.{pins_without}
use Rattle.lks_versions.proofs.PinLaws.{pin_of-ended, pin_of-without_other}
use Rattle.lks_versions.proofs.Wholes.{whole_unpinned}
use Rattle.lks_versions.proofs.versions.Versions.unpin.Goals as goal

pub invariant_of-self : goal.invariant_of-self
invariant_of-self c =
    whole_unpinned _ _ _ c.args.poll (filter_same _ _ _ (λ x b f' k. search rules) _ _ c.retain.ensures.filtered)
    c.self.invariant

pub returns-clause-pins : goal.returns-clause-pins
returns-clause-pins c =
    let left : c.retain.new.self.items
    ≡ pins_without c.args.poll c.self.inside.pins.items = filter_same _ _ _ (λ x b f' k. search rules) _ _
    c.retain.ensures.filtered in
    rw (left, ← c.self.view_is) refl

pub returns-clause-gone : goal.returns-clause-gone
returns-clause-gone c =
    let left : c.retain.new.self.items
    ≡ pins_without c.args.poll c.self.inside.pins.items = filter_same _ _ _ (λ x b f' k. search rules) _ _
    c.retain.ensures.filtered in
    pin_of-ended c.args.poll c.self.inside.pins.items _ left

pub returns-clause-others : goal.returns-clause-others
returns-clause-others c =
    let left : c.retain.new.self.items
    ≡ pins_without c.args.poll c.self.inside.pins.items = filter_same _ _ _ (λ x b f' k. search rules) _ _
    c.retain.ensures.filtered in
    rw (left, ← c.self.view_is) (λ other differ. pin_of-without_other c.args.poll other c.self.inside.pins.items differ)
