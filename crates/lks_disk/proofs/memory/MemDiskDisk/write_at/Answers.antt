use Rattle.std.proofs.Common.{length, sym, ap, subst}
use Rattle.lks_disk.specs.Device.{Torn, Follows, Elapses}
use Rattle.lks_disk.specs.Crash.{Kept, may_leave, moment, left_since}
use Rattle.lks_disk.proofs.Images.{follows_written, follows_same, elapses_written, elapses_still}
use Rattle.lks_disk.proofs.memory.MemDiskDisk.write_at.Goals as goal
use Rattle.lks_disk.proofs.memory.MemDiskDisk.write_at.Goals.{then-matches+in_ok-write, else-matches}

pub returns-clause-crash : goal.returns-clause-crash
returns-clause-crash c told =
    let old = c.args.self.now.content in
    let P : Kept → Type 0 = λ k. Follows (Torn c.args.at (length c.args.piece.now)) (may_leave old) (may_leave k) in
    elim c.if-matches.branch [
      | then-matches+in_ok-write w
          ↦ subst P (sym (ap (λ m. m.content) w.self-is))
          (follows_written old w.write.new.self c.args.at c.args.piece.now (c.requires.within tt)
          w.in_ok-write.ensures.ok)
      | else-matches w
          ↦ subst P (sym (ap (λ m. m.content) w.self-is)) (follows_same old c.args.at (length c.args.piece.now))
    ]

pub returns-clause-time : goal.returns-clause-time
returns-clause-time c told =
    let old = c.args.self.now.content in
    let P : Kept → Type 0 = λ k. Elapses (moment old) (moment k) (left_since old) (left_since k) (may_leave k) in
    elim c.if-matches.branch [
      | then-matches+in_ok-write w
          ↦ subst P (sym (ap (λ m. m.content) w.self-is))
          (elapses_written old w.write.new.self c.args.at c.args.piece.now (c.requires.within tt)
          w.in_ok-write.ensures.ok)
      | else-matches w ↦ subst P (sym (ap (λ m. m.content) w.self-is)) (elapses_still old)
    ]
