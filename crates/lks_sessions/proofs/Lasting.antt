-- Sessions of which votes and repairs can be sent stay such.
use Rattle.std.proofs.Common.{◌≡◌, ◌≤◌, sym, subst, ℕ, List, [], ◌++◌, length}
use Rattle.std.specs.Prelude.{Option, Some, None, map, All}
use Rattle.std.proofs.lemmas.List.Elements.{All-nil, All-cons, All-append}
use Rattle.lks_base.specs.declared.limits.TheConstants.{MOST_BLOCKS}
use Rattle.lks_base.specs.declared.names.PollName.{PollName}
use Rattle.lks_law.specs.Fitting.{Where, IsPinnedWell, IsCastWell}
use Rattle.lks_law.specs.Firsts.{changed_first, without_first}
use Rattle.lks_law.proofs.Lists.{without_any, changed_any, any_where}
use Rattle.lks_law.specs.Taking.{Pinned, is_pinned_of, is_cast_of, pinned_at, cast_as, casts_of, serving_block}
use Rattle.lks_sessions.specs.Kept.{Kept, pinned_of, cast_of, StaysSendable}

casting_sends : (hashes : List (List ℕ)) (o : Option Pinned) → length hashes ≤ MOST_BLOCKS → Where o IsPinnedWell
    → All IsCastWell (casts_of hashes o)
casting_sends hashes None few can = All-nil IsCastWell
casting_sends hashes (Some p) few can =
    All-cons IsCastWell (cast_as hashes [] p) [] (can, few) (All-nil IsCastWell)

module _ (old new : Kept) where
  pub sends_same : new.pinned ≡ old.pinned → new.cast ≡ old.cast → StaysSendable old new
  unfolding StaysSendable
  sends_same pinned cast = λ can. record {
    pinned = subst (λ ps. All IsPinnedWell (map pinned_of ps)) (sym pinned) can.pinned;
    cast = subst (λ cs. All IsCastWell (map cast_of cs)) (sym cast) can.cast;
  }

  pub sends_pinned : (All IsPinnedWell (map pinned_of old.pinned) → All IsPinnedWell (map pinned_of new.pinned))
      → new.cast ≡ old.cast → StaysSendable old new
  unfolding StaysSendable
  sends_pinned pins cast =
      λ can.
      record {
        pinned = pins can.pinned;
        cast = subst (λ cs. All IsCastWell (map cast_of cs)) (sym cast) can.cast;
      }

  pub sends_cast : (q : PollName) (hashes : List (List ℕ)) → length hashes ≤ MOST_BLOCKS
      → map pinned_of new.pinned ≡ without_first (is_pinned_of q) (map pinned_of old.pinned)
      → map cast_of new.cast ≡ map cast_of old.cast ++ casts_of hashes (pinned_at q (map pinned_of old.pinned))
      → StaysSendable old new
  unfolding StaysSendable
  sends_cast q hashes few pinned cast = λ can. record {
    pinned =
        subst (All IsPinnedWell) (sym pinned)
        (without_any IsPinnedWell (is_pinned_of q) (map pinned_of old.pinned) can.pinned);
    cast = subst (All IsCastWell) (sym cast)
        (All-append IsCastWell (map cast_of old.cast) (casts_of hashes (pinned_at q (map pinned_of old.pinned)))
        can.cast
        (casting_sends hashes (pinned_at q (map pinned_of old.pinned)) few
        (any_where IsPinnedWell (is_pinned_of q) (map pinned_of old.pinned) can.pinned)));
  }

  pub sends_served : (q : PollName) (block : ℕ) → new.pinned ≡ old.pinned
      → map cast_of new.cast ≡ changed_first (is_cast_of q) (serving_block block) (map cast_of old.cast)
      → StaysSendable old new
  unfolding StaysSendable
  sends_served q block pinned cast = λ can. record {
    pinned = subst (λ ps. All IsPinnedWell (map pinned_of ps)) (sym pinned) can.pinned;
    cast = subst (All IsCastWell) (sym cast)
        (changed_any IsCastWell (is_cast_of q) (serving_block block) (map cast_of old.cast) (λ c well. well) can.cast);
  }

  pub sends_ended : (q : PollName)
      → map pinned_of new.pinned ≡ without_first (is_pinned_of q) (map pinned_of old.pinned)
      → map cast_of new.cast ≡ without_first (is_cast_of q) (map cast_of old.cast) → StaysSendable old new
  unfolding StaysSendable
  sends_ended q pinned cast = λ can. record {
    pinned =
        subst (All IsPinnedWell) (sym pinned)
        (without_any IsPinnedWell (is_pinned_of q) (map pinned_of old.pinned) can.pinned);
    cast = subst (All IsCastWell) (sym cast) (without_any IsCastWell (is_cast_of q) (map cast_of old.cast) can.cast);
  }
