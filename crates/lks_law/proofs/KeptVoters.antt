-- What a voter adds keeps what holds of the peer's own polls.
use Rattle.std.proofs.Common.{List, [], ◌∷◌, ◌++◌, refl}
use Rattle.lks_base.specs.declared.records.Record.{Record}
use Rattle.lks_base.specs.declared.records.Record.TheVariants.{Joined, Committed, Voted, Served, Ended, Tuned}
use Rattle.lks_law.specs.Polls.{Station}
use Rattle.lks_law.proofs.Kept.{Kept, IsPlain, kept_more}
use Rattle.lks_law.proofs.Rows.{kept_nothing}
use Rattle.lks_law.proofs.VoterAdds.{IsVoters, VoterAdds}

plain_voters : (r : Record) → IsVoters r → IsPlain r
plain_voters (Joined poll au tick low repairs) is =
    record { deposit = λ a. refl; replaced = refl; opening = λ m. refl; counted = refl; tuned = tt }
plain_voters (Committed poll nonce version kind) is =
    record { deposit = λ a. refl; replaced = refl; opening = λ m. refl; counted = refl; tuned = tt }
plain_voters (Voted poll hashes) is =
    record { deposit = λ a. refl; replaced = refl; opening = λ m. refl; counted = refl; tuned = tt }
plain_voters (Served poll block) is =
    record { deposit = λ a. refl; replaced = refl; opening = λ m. refl; counted = refl; tuned = tt }
plain_voters (Ended poll) is =
    record { deposit = λ a. refl; replaced = refl; opening = λ m. refl; counted = refl; tuned = tt }
plain_voters (Tuned quorum minority repairs) is =
    record { deposit = λ a. refl; replaced = refl; opening = λ m. refl; counted = refl; tuned = is }
plain_voters r is = absurd is

-- what a voter adds says nothing of the peer's own polls
module _ (own : Station) (js : List Record) (kept : Kept own js) where
  one_voters : (r : Record) → IsVoters r → Kept own (js ++ r ∷ [])
  one_voters (Joined poll au tick low repairs) is =
      kept_more own js (Joined poll au tick low repairs) (plain_voters (Joined poll au tick low repairs) tt) kept
      kept.good
  one_voters (Committed poll nonce version kind) is =
      kept_more own js (Committed poll nonce version kind) (plain_voters (Committed poll nonce version kind) tt)
      kept kept.good
  one_voters (Voted poll hashes) is =
      kept_more own js (Voted poll hashes) (plain_voters (Voted poll hashes) tt) kept kept.good
  one_voters (Served poll block) is =
      kept_more own js (Served poll block) (plain_voters (Served poll block) tt) kept kept.good
  one_voters (Ended poll) is = kept_more own js (Ended poll) (plain_voters (Ended poll) tt) kept kept.good
  one_voters (Tuned quorum minority repairs) is =
      kept_more own js (Tuned quorum minority repairs) (plain_voters (Tuned quorum minority repairs) is) kept
      kept.good
  one_voters r is = absurd is

  pub kept_voters : (rs : List Record) → VoterAdds js rs → Kept own (js ++ rs)
  kept_voters [] may = kept_nothing own js kept
  kept_voters (r ∷ []) may = one_voters r may.voters
  kept_voters (r ∷ s ∷ rs) may = absurd may
