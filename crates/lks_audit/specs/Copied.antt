-- How the copies that a peer holds are seen.
use Rattle.std.specs.Prelude.{ℕ, ◌<◌, List, length, map}
use Rattle.lks_blocks.specs.Block.{bytes_of}
use Rattle.lks_law.specs.Fitting.{Where, IsCounted, most_numbered}
use Rattle.lks_law.specs.State.{Copy, copy_at}
use Rattle.lks_audit.specs.declared.copies.Held.{Held}
use Rattle.lks_versions.specs.Each.{EachOf}
use Rattle.lks_versions.specs.Shelf.{newest_of, current_of}

-- a copy, by the bytes of its newest version
abbrev pub copy_of : Held → Copy
copy_of h =
    record {
      au = h.au;
      blocks = bytes_of (newest_of h.versions);
      version = current_of h.versions;
      opened = h.opened;
      audit = record { tick = h.agreed; noted = h.noted };
    }

-- the copies
abbrev pub copies_of : List Held → List Copy
copies_of held = map copy_of held

-- all blocks of a copy are of this pool
abbrev pub IsOf : List ℕ → Held → Type 0
IsOf pool h = EachOf pool h.versions.lists

-- the AU has block b, if it is held, and a version more can be numbered
unfoldable pub MayReplace : ℕ → ℕ → List Copy → Type 0
MayReplace au b copies = Where (copy_at au copies) (λ c. (b < length c.blocks) × (c.version < most_numbered))

-- as many blocks as an AU has
abbrev pub HasBlocks : Copy → Type 0
HasBlocks c = IsCounted c.blocks
