use Rattle.std.proofs.Common.{◌≡◌, ◌∙◌, ◌++◌, ◌+◌, ◌∷◌, [], length, refl, sym, subst, arith, rules}
use Rattle.std.specs.Prelude.{Result, OnOk}
use Rattle.lks_disk.specs.Counts.{raised}
use Rattle.lks_journal.proofs.Adds.{adds_first, adds_second, adds_both}
use Rattle.lks_journal.proofs.Appends.{Appending, second_framed}
use Rattle.lks_journal.specs.Adding.{KeepsOrAdds}
use Rattle.lks_journal.specs.declared.faults.JournalFault.{JournalFault}
use Rattle.lks_journal.specs.declared.journals.Journal.{Journal}
use Rattle.lks_journal.proofs.journals.Journal.append.Goals as goal

pub returns-in_err-put-clause-adds : goal.returns-in_err-put-clause-adds
returns-in_err-put-clause-adds g c told bodies s =
    let a : Appending bodies c.args.body.now c.deref.result.now (g.D.Disk.face.seen c.args.self.now.disk)
    c.args.self.now.end =
    record {
      holds = s.holds;
      end_is = s.end;
      fits = omega (arith, c.if-body-room.false, c.if-room-lt5.false, c.room-room.ensures);
      piece_is = c.deref.ensures.value ∙ c.in_ok-piece.ensures;
    } in
    let new : Journal
    g.row.D.Denot = record {
      alloc = c.args.self.now.alloc;
      disk = c.put.new.disk;
      end = c.args.self.now.end;
      count = c.args.self.now.count;
    } in
    let same : c.from_residual-in_err-put.result ≡ c.put.result = search rules in
    let never : OnOk c.put.result ⊥ = search rules in
    subst
    (λ (r : Result (Unit {0}) JournalFault). KeepsOrAdds g.D.Disk.face c.args.self.now new bodies
    (bodies ++ c.args.body.now ∷ []) r) (sym same)
    (adds_first g.D.Disk.face c.args.self.now new c.put.new.disk bodies c.args.body.now c.deref.result.now s a
    c.put.result never refl refl (c.put.ensures.puts told) (c.put.ensures.any_moment told))

pub returns-in_err-put-2-clause-adds : goal.returns-in_err-put-2-clause-adds
returns-in_err-put-2-clause-adds g c told bodies s =
    let a : Appending bodies c.args.body.now c.deref.result.now (g.D.Disk.face.seen c.args.self.now.disk)
    c.args.self.now.end =
    record {
      holds = s.holds;
      end_is = s.end;
      fits = omega (arith, c.if-body-room.false, c.if-room-lt5.false, c.room-room.ensures);
      piece_is = c.deref.ensures.value ∙ c.in_ok-piece.ensures;
    } in
    let new : Journal
    g.row.D.Denot = record {
      alloc = c.args.self.now.alloc;
      disk = c.put-2.new.disk;
      end = c.args.self.now.end;
      count = c.args.self.now.count;
    } in
    let same : c.from_residual-in_err-put-2.result ≡ c.put-2.result = search rules in
    let never : OnOk c.put-2.result ⊥ = search rules in
    subst
    (λ (r : Result (Unit {0}) JournalFault). KeepsOrAdds g.D.Disk.face c.args.self.now new bodies
    (bodies ++ c.args.body.now ∷ []) r) (sym same)
    (adds_second g.D.Disk.face c.args.self.now new c.put.new.disk bodies c.args.body.now c.deref.result.now s a
    (c.in_ok-put.ensures.puts told) c.put-2.result
    (c.put-2.ensures.puts (c.in_ok-put.ensures.called.told.0 told)) (c.in_ok-put.ensures.any_moment told)
    (c.put-2.ensures.any_moment (c.in_ok-put.ensures.called.told.0 told)) refl refl
    c.in_ok-put.ensures.called c.put-2.ensures.called never)

pub returns-clause-adds : goal.returns-clause-adds
returns-clause-adds g c told bodies s =
    let a : Appending bodies c.args.body.now c.deref.result.now (g.D.Disk.face.seen c.args.self.now.disk)
    c.args.self.now.end =
    record {
      holds = s.holds;
      end_is = s.end;
      fits = omega (arith, c.if-body-room.false, c.if-room-lt5.false, c.room-room.ensures);
      piece_is = c.deref.ensures.value ∙ c.in_ok-piece.ensures;
    } in
    let new : Journal
    g.row.D.Denot = record {
      alloc = c.args.self.now.alloc;
      disk = c.put-2.new.disk;
      end = c.args.self.now.end + (5 + length c.args.body.now);
      count = c.saturating_add-self.result;
    } in
    let count : c.saturating_add-self.result ≡ raised c.args.self.now.count = search rules in
    adds_both g.D.Disk.face c.args.self.now new c.put.new.disk bodies c.args.body.now c.deref.result.now s a
    (c.in_ok-put.ensures.puts told) (c.in_ok-put-2.ensures.puts (c.in_ok-put.ensures.called.told.0 told))
    (c.in_ok-put.ensures.any_moment told) (c.put-2.ensures.any_moment (c.in_ok-put.ensures.called.told.0 told))
    refl count
    (omega (arith, c.if-room-lt5.false, c.room-room.ensures))

pub returns-clause-bytes : goal.returns-clause-bytes
returns-clause-bytes g c told =
    let s = (c.requires.settled told).1 in
    let a : Appending (c.requires.settled told).0 c.args.body.now c.deref.result.now
    (g.D.Disk.face.seen c.args.self.now.disk) c.args.self.now.end =
    record {
      holds = s.holds;
      end_is = s.end;
      fits = omega (arith, c.if-body-room.false, c.if-room-lt5.false, c.room-room.ensures);
      piece_is = c.deref.ensures.value ∙ c.in_ok-piece.ensures;
    } in
    second_framed a (g.D.Disk.face.seen c.put.new.disk) (c.in_ok-put.ensures.puts told).holds
    (g.D.Disk.face.seen c.put-2.new.disk)
    (c.in_ok-put-2.ensures.puts (c.in_ok-put.ensures.called.told.0 told)).holds
