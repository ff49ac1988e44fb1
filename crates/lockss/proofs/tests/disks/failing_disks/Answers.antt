use Rattle.std.proofs.Common.{◌≡◌, ◌∷◌, List, zero, suc, subst, sym, rules}
use Rattle.lks_disk.specs.MemFace.{mem_face}
use Rattle.lks_disk.specs.declared.memory.MemDisk.{MemDisk}
use Rattle.lks_world.specs.Held.{AreFresh, IsFresh}
use Rattle.lockss.proofs.tests.disks.failing_disks.Goals as goal

fresh_first : (disk : MemDisk) (disks : List MemDisk) → IsFresh mem_face disk → AreFresh mem_face disks
    → AreFresh mem_face (disk ∷ disks)
fresh_first disk disks first rest zero x at = let same : disk ≡ x = cc in subst (IsFresh mem_face) same first
fresh_first disk disks first rest (suc place) x at = rest place x at

pub returns-clause-fresh : goal.returns-clause-fresh
returns-clause-fresh c =
    let items : c.append.new.self.items ≡ c.faulty_disk.result ∷ c.in_ok-others.others.items = search rules in
    subst (AreFresh mem_face) (sym items)
    (fresh_first c.faulty_disk.result c.in_ok-others.others.items c.faulty_disk.ensures
    c.in_ok-others.ensures.fresh)
