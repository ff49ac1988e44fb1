-- Journals that were read, examined and told.
use Rattle.std.proofs.Common.{◌≡◌, ◌↔◌, subst, ℕ, Bool, true, List, refl}
use Rattle.std.specs.Prelude.{Option, Some, Result}
use Rattle.lks_words.specs.declared.commands.Command.TheVariants.{Evidence}
use Rattle.lks_evidence.proofs.Evidenced.{has_evidence}
use Rattle.lks_evidence.proofs.Restored.{restores}
use Rattle.lks_evidence.specs.Holding.{IsYes, SetHolds}
use Rattle.lks_evidence.specs.Search.{finding}
use Rattle.lks_evidence.specs.declared.findings.Finding.{Finding}
use Rattle.lks_gather.specs.Sets.{said_by, set_of}
use Rattle.lks_gather.specs.declared.gathered.Gathered.{Gathered}
use Rattle.lks_outside.specs.declared.sinks.WriteStop.{WriteStop}
use Rattle.lockss.specs.Findings.{finding_text, is_doubt}
use Rattle.lockss.specs.Handed.{Devices, Senses}
use Rattle.lockss.specs.Promise.{Comes, Finds, Tells}
use Rattle.lockss.specs.declared.ends.End.TheVariants as end

pub examined : {S D K J B : Type 0} (left : S → Option (List ℕ)) (failed : S → ℕ) (e : Senses D K J B)
    (source source_after : S) (given : Devices D K J B) (sink_after : K) (f : Finding)
    → ((g : Gathered) × Finds left failed source source_after true set_of (said_by g)
    × (f ≡ finding g.plan g.set.items) × (IsYes f ↔ SetHolds g.plan g.set.items))
    → (told : Result Bool WriteStop)
    → Tells e (finding_text f) (is_doubt f) given.sink sink_after told
    → Comes left failed e source source_after given (record given { sink = sink_after }) (Some Evidence)
    (end.Examined told)
examined left failed e source source_after given sink_after f (g, finds, is, said) told tells = (
  g,
  finds,
  record {
    tells = subst (λ (x : Finding). Tells e (finding_text x) (is_doubt x) given.sink sink_after told) is tells;
    holds = subst (λ (x : Finding). IsYes x ↔ SetHolds g.plan g.set.items) is said;
    evidence = λ holds k s at. has_evidence g.plan g.set.items k s holds at;
    restored = λ holds k s at. restores g.plan g.set.items k s holds at;
    same = refl;
  },
)
