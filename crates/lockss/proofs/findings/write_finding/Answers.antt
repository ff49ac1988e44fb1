use Rattle.lockss.proofs.Begun.{length-finding_text, nothing_added}
use Rattle.lockss.proofs.findings.write_finding.Goals as goal

pub returns-in_default-clause-part : goal.returns-in_default-clause-part
returns-in_default-clause-part g c bytes told = nothing_added bytes _ _ (length-finding_text c.args.finding) told
