use Rattle.std.proofs.Common.{◌≡◌, eqb, sym, ap, ◌∙◌}
use Rattle.std.specs.Cmp.Lexicographic.{pointwise, pointwise_decides, bytes_decides}
use Rattle.lks_tally.proofs.counts.same_vote.Goals as goal

pub returns-then-a-b : goal.returns-then-a-b
returns-then-a-b c =
    let a = c.args.a.now.hashes in
    let b = c.args.b.now.hashes in
    let decides = pointwise_decides {E = pointwise eqb} bytes_decides a b in
    let answer : c.eq.result ≡ pointwise (pointwise eqb) a b =
    c.eq.ensures ∙ (λ i. pointwise (pointwise eqb) (c.as_slice.ensures i) (c.as_slice-then-a-b.ensures i)) in (
      λ yes. let hashes : a ≡ b = decides.0 (sym answer ∙ yes) in
          λ i. record { voter = c.if-a-b.true i; hashes = hashes i },
      λ same. answer ∙ decides.1 (ap (λ v. v.hashes) same),
    )
