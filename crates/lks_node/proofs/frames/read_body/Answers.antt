use Rattle.std.proofs.Common.{◌≡◌, ◌≤◌, ℕ, List, length, take, drop, true, refl, rules, ap, ◌∙◌}
use Rattle.std.specs.Prelude.{nat_le, min}
use Rattle.std.proofs.lemmas.List.{length-take}
use Rattle.lks_node.specs.Framing.{sized_frame, Whole}
use Rattle.lks_node.proofs.frames.read_body.Goals as goal

-- a body that is all there
whole_is : (most size : ℕ) (rest body : List ℕ) → size ≤ most → size ≤ length body → body ≡ take size rest
    → sized_frame most size rest ≡ Whole body (drop size rest)
whole_is most size rest body fits whole is =
    let there : length body ≡ min size (length rest) = ap length is ∙ length-take size rest in
    let one : nat_le size most ≡ true = search rules in
    let two : nat_le size (length rest) ≡ true = search (rules, there) in
    rw (one, two, is) refl

pub returns-clause-found : goal.returns-clause-found
returns-clause-found g c = λ rest told.
    let got = c.in_ok-body.ensures.gave rest told in
    let fits : c.args.size ≤ c.args.most = search rules in
    let whole : c.args.size ≤ length c.in_ok-body.body.items = search rules in
    (drop c.args.size rest, whole_is c.args.most c.args.size rest _ fits whole got.0, got.1)
