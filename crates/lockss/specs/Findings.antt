-- The line on what journals are found to be. Its words are parted by single spaces, and numbers are decimal.
use Rattle.std.specs.Prelude.{ℕ, Bool, true, false, List, [], ◌∷◌, codes, decimal}
use Rattle.lks_evidence.specs.declared.findings.Finding.{Finding}
use Rattle.lks_evidence.specs.declared.findings.Finding.TheVariants.{Yes, No}
use Rattle.lks_evidence.specs.declared.findings.Why.{Why}
use Rattle.lks_evidence.specs.declared.findings.Why.TheVariants as why
use Rattle.lks_report.specs.Text.{line}
use Rattle.lks_report.specs.Words.{spaced_words}

-- Why something is doubted. No journals that were read have the first.
unfoldable pub why_words : Why → List ℕ
why_words why.Peer = codes "peer"
why_words why.Copy = codes "copy"
why_words why.Poll = codes "poll"
why_words (why.Twice voter) = spaced_words (codes "twice" ∷ decimal voter ∷ [])
why_words (why.Length voter) = spaced_words (codes "length" ∷ decimal voter ∷ [])
why_words (why.Quorum votes) = spaced_words (codes "quorum" ∷ decimal votes ∷ [])
why_words (why.For votes) = spaced_words (codes "for" ∷ decimal votes ∷ [])
why_words (why.Against votes) = spaced_words (codes "against" ∷ decimal votes ∷ [])
why_words (why.Vote voter) = spaced_words (codes "vote" ∷ decimal voter ∷ [])

-- that each replaced block has its evidence, and how many there are; or where and why one is doubted
unfoldable pub finding_words : Finding → List ℕ
finding_words (Yes replaced) = spaced_words (codes "evidence" ∷ codes "yes" ∷ decimal replaced ∷ [])
finding_words (No doubt) =
    spaced_words (codes "evidence" ∷ codes "no" ∷ decimal doubt.peer ∷ decimal doubt.place ∷ why_words doubt.why ∷ [])

unfoldable pub finding_text : Finding → List ℕ
finding_text finding = line (finding_words finding)

-- whether something is doubted
abbrev pub is_doubt : Finding → Bool
is_doubt (Yes replaced) = false
is_doubt (No doubt) = true
