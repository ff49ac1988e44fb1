use Rattle.std.proofs.Common.{◌∙◌, subst, sym}
use Rattle.lks_host.specs.Hosted.{IsMadeBy, LiesOn}
use Rattle.lks_law.specs.Polls.{Station}
use Rattle.lks_disk.specs.MemFace.{mem_face}
use Rattle.lks_run_trials.proofs.host.hosts.recover.Goals as goal

pub returns-clause-can : goal.returns-clause-can
returns-clause-can g c =
    let can = c.requires.can in
    let did = c.recover.ensures in
    record {
      pooled = can.pooled ∙ sym did.pool;
      unfused = did.behaves.fused ∙ can.unfused;
      lies = (
        can.lies.0,
        subst (λ (own : Station). LiesOn mem_face own c.recover.new.self.journal.disk can.lies.0) (sym did.own)
            (did.recovers can.lies.0 can.lies.1).lies,
      );
    }

pub returns-clause-made : goal.returns-clause-made
returns-clause-made g c = subst (IsMadeBy c.args.plan.now) (sym c.recover.ensures.own) c.requires.made
