use Rattle.std.proofs.Common.{◌↔◌, ◌∙◌, ap, subst, List}
use Rattle.lks_evidence.specs.Holding.{IsYes, SetHolds}
use Rattle.lks_evidence.specs.Search.{finding as finding_of}
use Rattle.lks_evidence.specs.declared.findings.Shelf.{Shelf}
use Rattle.lockss.proofs.runs.find_doubt.Goals as goal

pub returns-clause-finds : goal.returns-clause-finds
returns-clause-finds g c =
    let read = c.in_ok-gathered.gathered in (
      read,
      c.in_ok-gathered.ensures.finds,
      c.in_ok-examine.ensures.finding ∙ ap (finding_of read.plan) c.deref.ensures.value,
      subst (λ (set : List Shelf). IsYes c.in_ok-examine.field-0 ↔ SetHolds read.plan set) c.deref.ensures.value
          c.in_ok-examine.ensures.yes,
    )
