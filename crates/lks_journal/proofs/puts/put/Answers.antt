use Rattle.std.proofs.Common.{ℕ, List, length}
use Rattle.lks_disk.proofs.Runs.{started, goes_on}
use Rattle.lks_disk.specs.Face.{AlwaysLeaves}
use Rattle.lks_journal.specs.Tearing.{CanLeaveTorn}
use Rattle.lks_journal.proofs.Bodies.{untouched}
use Rattle.lks_journal.proofs.puts.put.Goals as goal

pub returns-in_err-write_at-clause-any_moment : goal.returns-in_err-write_at-clause-any_moment
returns-in_err-write_at-clause-any_moment g c told =
    let P : List ℕ
    → Type 0 = CanLeaveTorn (g.D.Disk.face.may_leave c.args.disk.now) c.args.at (length c.args.piece.now) in
    let written : (d : List ℕ) → g.D.Disk.face.may_leave c.write_at.new.self d
    → P d = λ d left. let from = c.write_at.ensures.crash told d left in
    record { from = from.0; left = from.1; torn = from.2 } in
    goes_on g.D.Disk.face.moment g.D.Disk.face.left_since c.args.disk.now c.args.disk.now c.write_at.new.self P
    (g.D.Disk.face.may_leave c.write_at.new.self)
    (started g.D.Disk.face.moment g.D.Disk.face.left_since c.args.disk.now P
    (λ d left. untouched (g.D.Disk.face.may_leave c.args.disk.now) c.args.at (length c.args.piece.now) d
    (g.met.D.Disk.only_now c.args.disk.now d told left)))
    (c.write_at.ensures.time told) written

pub returns-in_err-sync-clause-any_moment : goal.returns-in_err-sync-clause-any_moment
returns-in_err-sync-clause-any_moment g c told =
    let told_mid = c.in_ok-write_at.ensures.told.0 told in
    let P : List ℕ
    → Type 0 = CanLeaveTorn (g.D.Disk.face.may_leave c.args.disk.now) c.args.at (length c.args.piece.now) in
    let written : (d : List ℕ) → g.D.Disk.face.may_leave c.write_at.new.self d
    → P d = λ d left. let from = c.in_ok-write_at.ensures.crash told d left in
    record { from = from.0; left = from.1; torn = from.2 } in
    let first : AlwaysLeaves g.D.Disk.face c.args.disk.now c.write_at.new.self P =
    goes_on g.D.Disk.face.moment g.D.Disk.face.left_since c.args.disk.now c.args.disk.now c.write_at.new.self P
    (g.D.Disk.face.may_leave c.write_at.new.self)
    (started g.D.Disk.face.moment g.D.Disk.face.left_since c.args.disk.now P
    (λ d left. untouched (g.D.Disk.face.may_leave c.args.disk.now) c.args.at (length c.args.piece.now) d
    (g.met.D.Disk.only_now c.args.disk.now d told left)))
    (c.in_ok-write_at.ensures.time told) written in
    goes_on g.D.Disk.face.moment g.D.Disk.face.left_since c.args.disk.now c.write_at.new.self c.sync.new.self P
    (g.D.Disk.face.may_leave c.sync.new.self) first (c.sync.ensures.time told_mid)
    (λ d left. written d (c.sync.ensures.crash told_mid d left))

pub returns-clause-any_moment : goal.returns-clause-any_moment
returns-clause-any_moment g c told =
    let told_mid = c.in_ok-write_at.ensures.told.0 told in
    let P : List ℕ
    → Type 0 = CanLeaveTorn (g.D.Disk.face.may_leave c.args.disk.now) c.args.at (length c.args.piece.now) in
    let written : (d : List ℕ) → g.D.Disk.face.may_leave c.write_at.new.self d
    → P d = λ d left. let from = c.in_ok-write_at.ensures.crash told d left in
    record { from = from.0; left = from.1; torn = from.2 } in
    let first : AlwaysLeaves g.D.Disk.face c.args.disk.now c.write_at.new.self P =
    goes_on g.D.Disk.face.moment g.D.Disk.face.left_since c.args.disk.now c.args.disk.now c.write_at.new.self P
    (g.D.Disk.face.may_leave c.write_at.new.self)
    (started g.D.Disk.face.moment g.D.Disk.face.left_since c.args.disk.now P
    (λ d left. untouched (g.D.Disk.face.may_leave c.args.disk.now) c.args.at (length c.args.piece.now) d
    (g.met.D.Disk.only_now c.args.disk.now d told left)))
    (c.in_ok-write_at.ensures.time told) written in
    goes_on g.D.Disk.face.moment g.D.Disk.face.left_since c.args.disk.now c.write_at.new.self c.sync.new.self P
    (g.D.Disk.face.may_leave c.sync.new.self) first (c.sync.ensures.time told_mid)
    (λ d left. written d (c.sync.ensures.crash told_mid d left))
