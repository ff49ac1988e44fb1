use Rattle.std.proofs.Common.{◌∙◌, sym, refl}
use Rattle.lks_world.proofs.HostLaws.{ok_then}
use Rattle.lks_world.proofs.Keeping.{extends_same}
use Rattle.lks_world.proofs.NextLaws.{first_sent, is_lost, nothing_lost}
use Rattle.lks_world.proofs.doing.lose_first.Goals as goal

pub returns-in-Some-clause-becomes : goal.returns-in-Some-clause-becomes
returns-in-Some-clause-becomes g c = λ plan is.
    let first = sym c.first_waiting.ensures ∙ c.in-Some.is in
    ok_then c.add_loss.result
    (is_lost g.D.Disk.face plan c.args.state.now is c.add_loss.new.state c.in-Some.envelope first)
    (c.add_loss.ensures.becomes plan is (first_sent g.D.Disk.face plan c.args.state.now is c.in-Some.envelope first))

pub returns-in-Some-clause-extends : goal.returns-in-Some-clause-extends
returns-in-Some-clause-extends g c = λ plan is.
    c.add_loss.ensures.extends plan is
    (first_sent g.D.Disk.face plan c.args.state.now is c.in-Some.envelope
    (sym c.first_waiting.ensures ∙ c.in-Some.is))

pub returns-in-None-clause-extends : goal.returns-in-None-clause-extends
returns-in-None-clause-extends g c =
    λ plan is. extends_same g.D.Disk.face plan c.args.state.now c.args.state.now.history.items is refl

pub returns-in-None-clause-becomes : goal.returns-in-None-clause-becomes
returns-in-None-clause-becomes g c = λ plan is.
    nothing_lost g.D.Disk.face plan c.args.state.now is (sym c.first_waiting.ensures ∙ c.in-None.is)
