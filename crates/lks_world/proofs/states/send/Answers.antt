use Rattle.std.proofs.Common.{◌≡◌, ◌∙◌, sym, ap, arith, ◌++◌, ◌∷◌, [], ◌+◌, length, append_assoc, length-append}
use Rattle.std.specs.Prelude.{map}
use Rattle.std.specs.List.{range_with_len}
use Rattle.std.proofs.lemmas.List.{length-map}
use Rattle.lks_law.specs.World.{sent_by}
use Rattle.lks_world.proofs.states.send.Goals as goal

pub put-requires : goal.put-requires
put-requires c =
    let send = sent_by c.args.from in
    let bag = c.loop-outgoing.bag.items in
    let rest = c.loop-outgoing.outgoing-iterator.rest.items in
    let same = ap length c.loop-outgoing.invariant.2.bag in
    let some = ap length c.in-Some.ensures.steps.0 in
    omega (
      arith,
      same,
      some,
      length-append bag (map send rest),
      length-map rest send,
      length-append c.args.bag.now.items (map send c.args.sends),
      length-map c.args.sends send,
      c.requires,
    )

pub loop-outgoing-preserved : goal.loop-outgoing-preserved
loop-outgoing-preserved c =
    let send = sent_by c.args.from in
    let bag = c.loop-outgoing.bag.items in
    let pending = c.loop-outgoing.pending.items in
    let rest = c.next.new.self.rest.items in
    let left = c.in-Some.ensures.steps.0 in
    let put = c.in_ok-put.ensures in
    let one : length c.put.new.bag.items
    ≡ length bag + 1 = omega (arith, ap length put.bag, length-append bag (send c.in-Some.outgoing ∷ [])) in (
      tt,
      tt,
      record {
        bag =
            ap (λ es. es ++ map send rest) put.bag ∙ append_assoc bag (send c.in-Some.outgoing ∷ []) (map send rest)
            ∙ ap (λ os. bag ++ map send os) (sym left) ∙ c.loop-outgoing.invariant.2.bag;
        pending =
            (λ i. put.pending i ++ range_with_len (one i) (length rest))
            ∙ append_assoc pending (length bag ∷ []) (range_with_len (length bag + 1) (length rest))
            ∙ ap (λ os. pending ++ range_with_len (length bag) (length os)) (sym left)
            ∙ c.loop-outgoing.invariant.2.pending;
      },
    )
