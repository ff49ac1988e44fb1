use Rattle.std.proofs.Common.{◌<◌, ◌∷◌, ◌∙◌, ap, subst, sym, rules, arith}
use Rattle.lks_versions.specs.Shelf.{Shelf, current_of}
use Rattle.lks_versions.proofs.Kept.{count_set}
use Rattle.lks_versions.proofs.Wholes.{whole_replaced}
use Rattle.lks_versions.proofs.versions.Versions.replace.Goals as goal

pub invariant_of-self-2 : goal.invariant_of-self-2
invariant_of-self-2 c =
    let room = subst (λ (s : Shelf). current_of s < 4294967295) (sym c.self.view_is) c.requires.room in
    let current = c.current-current.ensures ∙ ap current_of (sym c.self.view_is) in
    let lists = c.self.inside.deposit ∷ c.self.inside.later.items in
    whole_replaced c.self.inside.deposit c.self.inside.later.items _ _ c.set.new.self (search rules)
    (count_set lists _ c.current-current.result c.in-Ok.list _ _ _ c.self.invariant (omega (arith, current))
    (search rules) c.set.ensures)
    (omega (arith, room)) c.self.invariant
