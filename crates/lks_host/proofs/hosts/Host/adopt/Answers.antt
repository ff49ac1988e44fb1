use Rattle.std.proofs.Common.{◌≡◌, ◌∙◌, sym, subst, drop, List, length}
use Rattle.std.specs.Prelude.{map}
use Rattle.std.proofs.lemmas.Result.{on_err_weaker}
use Rattle.lks_base.specs.declared.records.Record.{Record}
use Rattle.lks_host.proofs.Adopting.{adopted, found_at, low_where_missing, settled_batches}
use Rattle.lks_host.proofs.Fronts.{front_still}
use Rattle.lks_host.specs.Adopting.{LeavesFront}
use Rattle.lks_host.specs.Hosted.{disk_hosted}
use Rattle.lks_law.specs.Batches.{alone}
use Rattle.lks_law.specs.World.{deposits, honest_peer, standing_of}
use Rattle.lks_host.proofs.FirstBatches.{option_at}
use Rattle.lks_host.specs.Owners.{missing_of}
use Rattle.lks_host.proofs.hosts.Host.adopt.Goals as goal

pub over-requires-clause-low : goal.over-requires-clause-low
over-requires-clause-low g c =
    let plan = c.args.plan.now in
    let at = found_at (honest_peer c.args.id plan) c.requires.honest in
    let are : c.deref.result.now ≡ missing_of (deposits plan.aus at.0.copies) c.args.list.now =
    c.deref.ensures.value
    ∙ option_at (λ q. drop (length c.args.list.now) (standing_of plan q).journal) (honest_peer c.args.id plan)
    at.0 c.in-Ok.missing.items at.1 c.in-Ok.ensures.list in
    low_where_missing g.D.Disk.face c.args.journal plan c.args.id at.0 c.args.list.now c.deref.result.now
    c.requires.owned.0 c.args.peer c.requires.good at.1 (c.requires.owned.2 at.0 at.1) c.requires.owned.1 are

pub over-requires-clause-settled : goal.over-requires-clause-settled
over-requires-clause-settled g c =
    let at = found_at (honest_peer c.args.id c.args.plan.now) c.requires.honest in
    settled_batches g.D.Disk.face c.args.journal c.args.list.now c.requires.owned.0 c.requires.owned.1
    (c.requires.owned.2 at.0 at.1).spell

pub returns-in-Ok-clause-adopts : goal.returns-in-Ok-clause-adopts
returns-in-Ok-clause-adopts g c = λ p there.
    let f = g.D.Disk.face in
    let plan = c.args.plan.now in
    let owns = c.requires.owned.2 p there in
    let are : c.deref.result.now ≡ missing_of (deposits plan.aus p.copies) c.args.list.now =
    c.deref.ensures.value
    ∙ option_at (λ q. drop (length c.args.list.now) (standing_of plan q).journal) (honest_peer c.args.id plan) p
    c.in-Ok.missing.items there c.in-Ok.ensures.list in
    record {
      stands = λ told batches filed.
          adopted f c.args.journal plan c.args.id p c.args.list.now batches c.args.peer c.requires.good there
          c.requires.few owns.own owns.owner filed c.deref.result.now c.over.result are c.over.ensures.peer
          (c.over.ensures.holds told batches filed.settled);
      front = λ told batches filed.
          on_err_weaker c.over.result
          (λ front. subst
          (λ (rs : List Record). LeavesFront f batches (map alone rs) (disk_hosted c.over.result)) are front)
          (c.over.ensures.front told batches filed.settled);
      idle = λ none. c.over.ensures.idle (are ∙ none);
    }

pub returns-in-Err-clause-adopts : goal.returns-in-Err-clause-adopts
returns-in-Err-clause-adopts g c = λ p there.
    let f = g.D.Disk.face in
    let more = map alone (missing_of (deposits c.args.plan.now.aus p.copies) c.args.list.now) in
    record {
      stands = λ told batches filed. tt;
      front =
          λ told batches filed. subst (LeavesFront f batches more) (sym c.into_disk.ensures)
          (front_still f c.args.journal batches more filed.settled);
      idle = λ none. tt;
    }
