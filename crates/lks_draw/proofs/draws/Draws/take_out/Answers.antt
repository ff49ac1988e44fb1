use Rattle.std.proofs.Common.{◌≡◌, length, ap, ◌∙◌, arith, rules}
use Rattle.lks_draw.specs.Words.{draw_after, scaled_word}
use Rattle.lks_draw.proofs.Places.{moved_on}
use Rattle.lks_draw.proofs.Picking.{picked_one}
use Rattle.lks_draw.proofs.draws.Draws.take_out.Goals as goal

pub loop-i-preserved : goal.loop-i-preserved
loop-i-preserved c =
    let inv = c.loop-i.invariant in
    let len_is : c.len.result ≡ length c.loop-i.rest.items = search rules in
    record {
      place = c.next_place-at.ensures.moved ∙ ap (λ d. draw_after d 1) inv.place
          ∙ moved_on c.args.self.now c.loop-i._i 1;
      rest = omega (arith, c.remove.ensures.len, inv.rest);
      room = omega (arith, inv.room, c.put.ensures.len, c.put.ensures.room);
      members =
          picked_one c.args.self.now c.loop-i.self c.loop-i._i c.args.n c.next_place-at.result c.remove.result
          c.loop-i.members.items c.loop-i.rest.items _ _ _
          inv.place c.loop-i-test.true (c.next_place-at.ensures.word ∙ ap (scaled_word _) len_is) c.remove.ensures.value
          (omega (arith, c.next_place-at.ensures.below, len_is)) c.put.ensures.items c.remove.ensures.items
          inv.members;
    }
