use Rattle.std.proofs.Common.{◌∙◌, sym, ap}
use Rattle.lks_law.specs.Due.{first_own}
use Rattle.lks_world.proofs.NextLaws.{delivers_first, own_first}
use Rattle.lks_world.proofs.ReadyLaws.{steps_are}
use Rattle.lks_world.specs.States.{steps_there}
use Rattle.lks_world.proofs.settling.next.Goals as goal

pub returns-in-Some : goal.returns-in-Some
returns-in-Some g c =
    λ plan is. delivers_first g.D.Disk.face plan c.args.state.now is c.args.course c.in-Some.envelope
    (sym c.first_waiting.ensures ∙ c.in-Some.is)

pub returns-in-None : goal.returns-in-None
returns-in-None g c = λ plan is.
    c.first_own.ensures ∙ ap (λ ss. first_own (steps_there c.args.course ss)) c.deref.ensures.value
    ∙ ap first_own (steps_are g.D.Disk.face plan c.args.state.now is c.args.course)
    ∙ own_first g.D.Disk.face plan c.args.state.now is c.args.course (sym c.first_waiting.ensures ∙ c.in-None.is)
