-- What follows of a poll for its caller.
use Rattle.std.proofs.Common.{ℕ, List, sym}
use Rattle.std.specs.Prelude.{slice_set}
use Rattle.std.proofs.lemmas.List.{take-set}
use Rattle.lks_tally.specs.Keeping.{IsCacheOf}
use Rattle.lks_tally.proofs.Caching as caching
use Rattle.lks_poller.specs.Polling.{Polled, block_replaced}

-- the copy with the new block in place serves after a replacement
pub cache_replaced : (s : Polled) (b : ℕ) (bytes : List ℕ) (blocks : List (List ℕ)) → IsCacheOf s.tally blocks
    → IsCacheOf (block_replaced s b).tally (slice_set blocks b bytes)
cache_replaced s b bytes blocks cache =
    caching.cache_forgotten s.tally b blocks (slice_set blocks b bytes) cache (sym (take-set blocks b bytes))
