use Rattle.lks_report.proofs.Begun.{length-text_of, nothing_added}
use Rattle.lks_report.proofs.text.report.Goals as goal

pub returns-in_default-clause-part : goal.returns-in_default-clause-part
returns-in_default-clause-part g c bytes told =
    nothing_added bytes _ _ (length-text_of c.args.plan.now c.args.history.now) told
