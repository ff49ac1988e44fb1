use Rattle.std.proofs.Common.{◌≡◌, ℕ, Some, refl, rules, subst, sym}
use Rattle.std.specs.Prelude.{map, string_bytes}
use Rattle.lks_node.specs.Words.{asked_in}
use Rattle.lks_node.specs.declared.ends.NodeEnd.TheVariants.{Unopened}
use Rattle.lks_node.proofs.Completing.{completes_over, same_id}
use Rattle.lks_node.specs.Complete.{Completes}
use Rattle.lks_node.specs.Promise.{ComesOver, Told}
use Rattle.lks_outside.specs.Counts.{Rose}
use Rattle.lks_node.proofs.runs.node.Goals as goal

pub returns-in-Err-clause-promise : goal.returns-in-Err-clause-promise
returns-in-Err-clause-promise g c =
    let named : asked_in (map string_bytes c.args.words.now) ≡ Some (c.in-Some.id, c.in-Some.path.now) = search rules in
    record {
      end = Unopened c.in-Err.stop;
      answered = c.status-in-Err.ensures;
      came = (c.in-Some.id, c.in-Some.path.now, named, refl);
    }

pub returns-in-Ok-clause-complete : goal.returns-in-Ok-clause-complete
returns-in-Ok-clause-complete g c = λ work tells no_read no_write no_open no_disk.
    let face = g.O.Store.Disk.face in
    let told : Told = record {
      tells = g.O.Opener.tells c.args.opener.now;
      content = g.O.Opener.content c.args.opener.now;
      faults = g.O.Opener.store_faults c.args.opener.now;
    } in
    let words = map string_bytes c.args.words.now in
    let named : asked_in words ≡ Some (c.in-Some.id, c.in-Some.path.now) = search rules in
    let same = same_id (asked_in words) c.in-Some.id work.id c.in-Some.path.now work.path named work.named in
    let opened = c.in-Ok.ensures.opened in
    let came = subst
    (λ n. ComesOver face (g.J.EffortJudge.verdict c.args.judge.now) n (g.S.Source.left c.args.source.now)
    (g.K.Sink.taken c.args.sink.now) (g.K.Sink.taken c.run_on-end.new.sink)
    (g.J.EffortJudge.heard c.run_on-end.new.judge) c.in-Ok.store c.run_on-end.result.1
    c.run_on-end.result.0) same c.run_on-end.ensures.comes in
    let no_disk_then = λ (rose : Rose (face.faults c.in-Ok.store) (face.faults c.run_on-end.result.1)). no_disk
    (subst (λ (n : ℕ). Rose n (face.faults c.run_on-end.result.1)) opened.faults rose) in
    let done = completes_over face (g.J.EffortJudge.verdict c.args.judge.now) told words
    (g.S.Source.left c.args.source.now) (g.K.Sink.taken c.args.sink.now) (g.K.Sink.taken c.run_on-end.new.sink)
    (g.J.EffortJudge.heard c.run_on-end.new.judge) c.in-Ok.store c.run_on-end.result.1 work opened tells _ _ _ _
    no_read no_write no_disk_then c.run_on-end.result.0 came c.run_on-end.ensures.cause in
    subst Completes (sym c.status-in-Ok.ensures) done
