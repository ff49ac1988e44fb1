use Rattle.std.proofs.Common.{◌≡◌, subst, sym}
use Rattle.std.proofs.lemmas.Option.{slice_get_past}
use Rattle.std.specs.Prelude.{None, slice_get}
use Rattle.std.specs.Option.{option_to_list}
use Rattle.lks_law.specs.Questions.{question_of}
use Rattle.lks_watch.proofs.Going.{asks_nothing}
use Rattle.lks_watch.specs.Watching.{Asks, ears, seen_by}
use Rattle.lks_world.specs.Hosts.{peers_of}
use Rattle.lks_world.specs.Sites.{hosts_of}
use Rattle.lks_world.proofs.settling.open_at.Goals as goal

pub returns-in-None-clause-asks : goal.returns-in-None-clause-asks
returns-in-None-clause-asks g c =
    let x = seen_by (ears g.J.EffortJudge.heard g.J.EffortJudge.verdict g.B.Bell.rung g.B.Bell.limit)
    c.args.watch.now in
    let none : None
    ≡ slice_get c.args.bag.now c.args.envelope = sym
    (slice_get_past c.args.bag.now c.args.envelope c.in-None.ensures.lookup.3) in
    subst (λ o. Asks (option_to_list (question_of (peers_of g.D.Disk.face (hosts_of c.args.sites.now)) o)) x x) none
    (asks_nothing x)
