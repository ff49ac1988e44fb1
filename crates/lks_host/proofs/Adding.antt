-- The bodies of a journal to which a batch is added.
use Rattle.std.proofs.Common.{◌≡◌, refl, sym, List, [], ◌∷◌, ◌++◌}
use Rattle.std.proofs.lemmas.List.{map-append}
use Rattle.lks_base.specs.declared.records.Record.{Record}
use Rattle.lks_host.specs.Bodies.{bodies_of}
use Rattle.lks_law.specs.Batches.{with_batch}
use Rattle.lks_record.specs.Spelling.{batch_spelling}

-- a batch of records is one body more
pub bodies_more : (batches : List (List Record)) (records : List Record) → (records ≡ [] → ⊥)
    → bodies_of batches ++ batch_spelling records ∷ [] ≡ bodies_of (with_batch batches records)
bodies_more batches [] some = absurd (some refl)
bodies_more batches (r ∷ rs) some = sym (map-append batch_spelling batches ((r ∷ rs) ∷ []))
