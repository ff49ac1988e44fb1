-- What is true of every copy stays true.
use Rattle.std.proofs.Common.{◌≡◌, ◌<◌, ◌≤◌, ◌^◌, List, [], ◌∷◌, ◌++◌, length, length-append, refl, arith, lit≤}
use Rattle.std.proofs.lemmas.List.Elements.{All-nil, All-cons, All-push, All-filter, All-weaker}
use Rattle.lks_blocks.specs.Block.{Block}
use Rattle.lks_base.specs.declared.names.PollName.{PollName}
use Rattle.lks_versions.specs.declared.versions.Pin.{Pin}
use Rattle.lks_versions.specs.Pins.{pins_without}
use Rattle.lks_versions.specs.Whole.{IsWhole}

-- a deposit
pub whole_one : (list : List Block) (later : List (List Block)) (pins : List Pin) → later ≡ [] → pins ≡ []
    → 1 ≤ length list → length list ≤ 65535 → IsWhole (list ∷ later) pins
whole_one list later pins no_later no_pins some few = rw (no_later, no_pins) record {
  counted = (some, few);
  same = let P : List Block → Type 0 = λ other. length other ≡ length list in All-cons P list [] refl (All-nil P);
  room = lit≤ tt;
  there = All-nil _;
}

-- fewer pins
pub whole_unpinned : (lists : List (List Block)) (pins after : List Pin) (poll : PollName)
    → after ≡ pins_without poll pins → IsWhole lists pins → IsWhole lists after
whole_unpinned lists pins after poll is whole = rw is record {
  counted = whole.counted;
  same = whole.same;
  room = whole.room;
  there = All-filter _ (λ (p : Pin). p.version < length lists) pins whole.there;
}

-- a version more, with as many blocks as the deposit
pub whole_replaced : (deposit : List Block) (later after : List (List Block)) (pins : List Pin) (list : List Block)
    → after ≡ (deposit ∷ later) ++ list ∷ [] → length list ≡ length deposit
    → length (deposit ∷ later) < 2 ^ 32 → IsWhole (deposit ∷ later) pins → IsWhole after pins
whole_replaced deposit later after pins list is same room whole =
    let lists : List (List Block) = deposit ∷ later in
    rw is record {
      counted = whole.counted;
      same = All-push (λ (other : List Block). length other ≡ length deposit) lists list whole.same same;
      room = omega (arith, length-append lists (list ∷ []));
      there =
          All-weaker (λ (p : Pin). p.version < length lists) (λ (p : Pin). p.version < length (lists ++ list ∷ []))
          (λ p within. omega (arith, length-append lists (list ∷ []))) pins whole.there;
    }
