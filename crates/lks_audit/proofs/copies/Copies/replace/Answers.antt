use Rattle.std.proofs.Common.{◌≡◌, ◌∙◌, ◌<◌, rules, subst, sym, get_or, length}
use Rattle.lks_law.specs.Fitting.{most_numbered}
use Rattle.lks_audit.proofs.Holdings.{block_at, room_at}
use Rattle.lks_audit.specs.declared.copies.Held.{Held}
use Rattle.lks_versions.specs.Shelf.{newest_of, current_of}
use Rattle.lks_audit.proofs.copies.Copies.replace.Goals as goal

pub replace-requires-clause-block : goal.replace-requires-clause-block
replace-requires-clause-block g c =
    let found : get_or c.args.self.now c.in-Some.i c.index_mut.result.now ≡ c.index_mut.result.now = search rules in
    subst (λ (h : Held). c.args.b < length (newest_of h.versions)) found
    (block_at c.args.au c.args.b c.args.self.now c.in-Some.i c.index_mut.result.now
    (sym c.place.ensures ∙ c.in-Some.is) c.requires)

pub replace-requires-clause-room : goal.replace-requires-clause-room
replace-requires-clause-room g c =
    let found : get_or c.args.self.now c.in-Some.i c.index_mut.result.now ≡ c.index_mut.result.now = search rules in
    subst (λ (h : Held). current_of h.versions < most_numbered) found
    (room_at c.args.au c.args.b c.args.self.now c.in-Some.i c.index_mut.result.now
    (sym c.place.ensures ∙ c.in-Some.is) c.requires)
