use Rattle.std.proofs.Common.{sym, ap, subst}
use Rattle.lks_disk.specs.Device.{Elapses}
use Rattle.lks_disk.specs.Crash.{Kept, may_leave, moment, left_since}
use Rattle.lks_disk.proofs.Images.{elapses_synced, elapses_still}
use Rattle.lks_disk.proofs.memory.MemDiskDisk.sync.Goals as goal
use Rattle.lks_disk.proofs.memory.MemDiskDisk.sync.Goals.{then-matches, else-matches}

pub returns-clause-time : goal.returns-clause-time
returns-clause-time c told =
    let old = c.args.self.now.content in
    let P : Kept → Type 0 = λ k. Elapses (moment old) (moment k) (left_since old) (left_since k) (may_leave k) in
    elim c.if-matches.branch [
      | then-matches w
          ↦ subst P (sym (ap (λ m. m.content) w.self-is))
          (elapses_synced old w.sync.new.self w.sync.ensures.bytes w.sync.ensures.calls)
      | else-matches w ↦ subst P (sym (ap (λ m. m.content) w.self-is)) (elapses_still old)
    ]
