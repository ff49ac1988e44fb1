use Rattle.std.proofs.Common.{◌∙◌, ap, refl}
use Rattle.std.specs.Prelude.{map}
use Rattle.lks_base.specs.declared.plans.Plan.{Plan}
use Rattle.lks_words.specs.declared.commands.Play.{Play}
use Rattle.lks_print.specs.Scripts.{plan_text}
use Rattle.lks_report.proofs.Told.{all_told}
use Rattle.lks_report.specs.Alarms.{is_alarmed}
use Rattle.lks_world.specs.Sites.{id_for}
use Rattle.lockss.specs.Deeds.{deed_of}
use Rattle.lockss.proofs.playing.tell_first.Goals as goal

pub returns-in-Ok-clause-tells : goal.returns-in-Ok-clause-tells
returns-in-Ok-clause-tells g c = (
  ap (λ (p : Play). (deed_of p).reads_back) c.in-Journals.is,
  record {
    text = c.in-Ok.ensures.text ∙ ap plan_text c.plan.ensures;
    owners = c.in-Ok.ensures.owners ∙ ap (λ (p : Plan). map id_for p.peers) c.plan.ensures;
    alarmed =
        c.in-Ok.ensures.alarmed ∙ ap is_alarmed c.history.ensures.entries
        ∙ all_told c.args.world.now.plan c.args.world.now.history;
  },
  refl,
)
