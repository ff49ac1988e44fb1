-- Before the first byte of what is told, and what a world remembers meanwhile.
use Rattle.std.proofs.Common.{◌≡◌, ℕ, ◌<◌, List, [], ◌∷◌, length, length-append, Option, Some, sym, ap, ◌∙◌, arith}
use Rattle.std.proofs.lemmas.List.{append-nil}
use Rattle.lks_evidence.specs.declared.findings.Finding.{Finding}
use Rattle.lks_outside.specs.Streams.{AddsFront}
use Rattle.lks_world.specs.Worlds.{Remembers, Seen}
use Rattle.lockss.specs.Findings.{finding_text, finding_words}

pub length-finding_text : (finding : Finding) → 0 < length (finding_text finding)
unfolding finding_text
length-finding_text finding = omega (arith, length-append (finding_words finding) (10 ∷ []))

pub nothing_added : (bytes piece : List ℕ) (after : Option (List ℕ)) → 0 < length piece → after ≡ Some bytes
    → AddsFront bytes piece after
nothing_added bytes piece after some same = record {
  count = 0;
  within = some;
  taken = same ∙ ap Some (sym (append-nil bytes));
}

pub remembers_then : {D J B : Type 0} (old mid new : Seen D J B) → Remembers old mid → Remembers mid new
    → Remembers old new
remembers_then old mid new first next = record {
  plan = next.plan ∙ first.plan;
  pool = next.pool ∙ first.pool;
  start = next.start ∙ first.start;
}
