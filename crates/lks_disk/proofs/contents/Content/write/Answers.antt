use Rattle.std.proofs.Common.{◌≡◌, ◌≤◌, length, take, drop, sym, ◌∙◌, ap, subst, arith}
use Rattle.lks_disk.specs.Crash.{Kept}
use Rattle.lks_disk.proofs.Images.{sound_written}
use Rattle.lks_disk.proofs.contents.Content.write.Goals as goal

pub invariant_of-self-2 : goal.invariant_of-self-2
invariant_of-self-2 c =
    let within : c.args.at
    ≤ length c.self.inside.bytes.items = subst (λ (k : Kept). c.args.at ≤ length k.bytes) (sym c.self.view_is)
    c.requires in
    let over_is : c.in_ok-over.over ≡ take (length c.args.piece.now) (drop c.args.at c.self.inside.bytes.items) =
    c.in_ok-over.ensures ∙ ap (λ l. take (length c.args.piece.now) (drop c.args.at l)) c.deref.ensures.value in
    sound_written c.args.at c.self.inside.bytes.items c.args.piece.now c.put.new.bytes.items c.in_ok-over.over
    c.self.inside.calls.items c.make_room.new.calls.items c.note.new.calls.items _ _
    within over_is c.in_ok-put.ensures.ok c.self.invariant.fit c.make_room.ensures.items c.note.ensures.items
    (omega (arith, c.note.ensures.len, c.note.ensures.more, c.in_ok-make_room.ensures.room))
