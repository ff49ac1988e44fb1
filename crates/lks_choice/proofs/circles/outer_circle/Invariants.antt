use Rattle.std.proofs.Common.{◌≡◌, take}
use Rattle.lks_draw.specs.Words.{draw_after}
use Rattle.lks_choice.specs.Circles.{filled_by}
use Rattle.lks_choice.proofs.circles.outer_circle.Given as goal

abbrev pub invariant-loop-nominees : goal.invariant-loop-nominees
invariant-loop-nominees l = record {
  peers : l.peers.items
      ≡ (filled_by l.initial.draws l.own l.inner l.size l.share (take l.nominees-index l.nominated)).peers;
  draws : l.draws
      ≡ draw_after l.initial.draws
      (filled_by l.initial.draws l.own l.inner l.size l.share (take l.nominees-index l.nominated)).words;
}
