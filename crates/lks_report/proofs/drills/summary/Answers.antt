use Rattle.lks_report.proofs.Begun.{length-summary_text, nothing_added}
use Rattle.lks_report.proofs.drills.summary.Goals as goal

pub returns-in_default-clause-part : goal.returns-in_default-clause-part
returns-in_default-clause-part g c bytes told =
    nothing_added bytes _ _ (length-summary_text c.args.seed c.args.history.now) told
