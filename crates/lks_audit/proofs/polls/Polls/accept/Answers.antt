use Rattle.std.proofs.Common.{sym, subst}
use Rattle.std.specs.Prelude.{All}
use Rattle.lks_audit.proofs.Running.{on_set}
use Rattle.lks_audit.specs.Copied.{copies_of}
use Rattle.lks_audit.specs.Seen.{IsOn}
use Rattle.lks_audit.proofs.polls.Polls.accept.Goals as goal

pub returns-in-Some-clause-on : goal.returns-in-Some-clause-on
returns-in-Some-clause-on c =
    let id = c.args.own.now.id in
    let copies = copies_of c.args.copies.now in
    on_set id copies c.self.inside.list.items c.in-Some.i c.tally_done.new.poll c.tally_done.ensures.on
    (subst (All (IsOn id copies)) (sym c.self.view_is) c.requires.on)
