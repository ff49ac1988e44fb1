use Rattle.std.proofs.Common.{◌≡◌, ℕ, ◌*◌, ◌<◌, List, length, take, drop, IfOk, sym, ap, subst, ◌∙◌}
use Rattle.lks_tally.specs.Counting.{voters_against}
use Rattle.lks_tally.specs.Heads.{others}
use Rattle.lks_tally.specs.Keeping.{Tallied, IsCacheOf}
use Rattle.lks_tally.proofs.RowLaws.{against_is}
use Rattle.lks_tally.proofs.tallies.Tally.against.Goals as goal

pub returns : goal.returns
returns c =
    let b = c.args.b in
    let votes = c.self.inside.votes.items in
    let hashes = c.self.inside.rows.hashes.items in
    let Says : Tallied → Type 0 = λ t. b < t.kept → (blocks : List (List ℕ)) → IsCacheOf t blocks
    → IfOk c.voters_of_others.result (λ ids. ids ≡ voters_against t.ballot t.votes blocks b) in
    let width : c.len.result
    ≡ length votes = c.len.ensures ∙ sym c.deref-2.ensures.len ∙ ap length c.deref-2.ensures.value in
    let found_is : c.row-heads.result.now ≡ take (length votes) (drop (b * length votes) hashes) =
    c.row-heads.ensures ∙ (λ i. take (width i) (drop (b * width i) (c.deref.ensures.value i))) in
    subst Says c.self.view_is (λ within blocks cache.
    let voters = ap (λ vs. others b vs c.row-heads.result.now) c.deref-2.ensures.value
    ∙ against_is c.self.inside.ballot blocks votes hashes c.row-heads.result.now c.self.inside.rows.count b cache
    within found_is in
    subst (λ ids. IfOk c.voters_of_others.result (λ found. found ≡ ids)) voters c.voters_of_others.ensures)
    c.requires
