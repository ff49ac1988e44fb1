use Rattle.std.proofs.Common.{append_assoc}
use Rattle.lockss.specs.Findings.{finding_words}
use Rattle.lockss.proofs.findings.put_doubt.Goals as goal

pub returns : goal.returns
unfolding finding_words
returns c = simp (c.in_ok-write.ensures.bytes, append_assoc) at c.put_why.ensures
