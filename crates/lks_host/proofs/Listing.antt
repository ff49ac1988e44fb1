-- Bodies one after another.
use Rattle.std.proofs.Common.{◌≡◌, ◌∙◌, ◌<◌, ◌+◌, ap, sym, subst, Bool, true, ℕ, List, [], ◌∷◌, ◌++◌, length, get_or}
use Rattle.std.proofs.Common.{take, refl, arith}
use Rattle.std.specs.Prelude.{Some, Ok, slice_get, option_map}
use Rattle.std.proofs.lemmas.List.{take_more, take_more_same, length-map}
use Rattle.std.proofs.lemmas.Option.{slice_get-map, slice_get_read, get_or_from_slice_get}
use Rattle.lks_base.specs.declared.plans.AuPlan.{AuPlan}
use Rattle.lks_base.specs.declared.plans.Holding.{Holding}
use Rattle.lks_base.specs.declared.records.Record.{Record}
use Rattle.lks_law.specs.Batches.{alone}
use Rattle.lks_law.specs.Behind.{StandsBehind}
use Rattle.lks_law.specs.Polls.{Station}
use Rattle.lks_record.specs.Reading.{decode_of}
use Rattle.lks_record.specs.Spelling.{batch_spelling}
use Rattle.lks_host.specs.Sorted.{AreTaken, IsUpTo, TakenAs, spelled_each}
use Rattle.lks_host.specs.declared.sorting.Sorter.{Sorter}

-- one deposit more is alike
pub more_alike : (begun : List Record) (bodies : List (List ℕ)) (i : ℕ) (r : Record) (body : List ℕ)
    → i < length begun → i < length bodies → r ≡ get_or begun i r → body ≡ get_or bodies i body
    → body ≡ batch_spelling (alone r) → take i bodies ≡ take i (spelled_each begun)
    → take (i + 1) bodies ≡ take (i + 1) (spelled_each begun)
more_alike begun bodies i r body few enough at there same before =
    let count : length (spelled_each begun)
    ≡ length begun = length-map begun (λ (x : Record). batch_spelling (alone x)) in
    let found : slice_get (spelled_each begun) i
    ≡ Some (batch_spelling (alone r)) = slice_get-map (λ (x : Record). batch_spelling (alone x)) begun i
    ∙ ap (option_map (λ (x : Record). batch_spelling (alone x)))
    (slice_get_read begun (length begun) i r refl few at) in
    take_more_same bodies (spelled_each begun) i body enough (omega arith) before
    (sym there ∙ same ∙ sym (get_or_from_slice_get (spelled_each begun) i (batch_spelling (alone r)) body found))

-- one batch more is taken
pub taken_more : (own : Station) (js list : List Record) (bodies : List (List ℕ)) (body : List ℕ)
    (batch : List Record)
    → AreTaken own js bodies list → decode_of body ≡ Ok batch → StandsBehind own list batch
    → AreTaken own js (bodies ++ body ∷ []) (list ++ batch)
taken_more own js list [] body batch taken read stands = (
  batch,
  read,
  subst (λ (l : List Record). StandsBehind own l batch) taken stands,
  ap (λ (l : List Record). l ++ batch) taken,
)
taken_more own js list (b ∷ bs) body batch taken read stands =
    (taken.0, taken.1, taken.2, taken_more own (js ++ taken.0) list bs body batch taken.3 read stands)

pub taken_next : (own : Station) (js list : List Record) (bodies : List (List ℕ)) (i : ℕ) (body : List ℕ)
    (batch : List Record)
    → i < length bodies → body ≡ get_or bodies i body
    → AreTaken own js (take i bodies) list → decode_of body ≡ Ok batch → StandsBehind own list batch
    → AreTaken own js (take (i + 1) bodies) (list ++ batch)
taken_next own js list bodies i body batch few at taken read stands =
    subst (λ (bs : List (List ℕ)). AreTaken own js bs (list ++ batch))
    (ap (λ (b : List ℕ). take i bodies ++ b ∷ []) at ∙ sym (take_more bodies i body few))
    (taken_more own js list (take i bodies) body batch taken read stands)

-- what a batch that was taken makes of that
pub step_taken : (own : Station) (js : List Record) (old new : Sorter) (bodies : List (List ℕ)) (i : ℕ)
    (body there : List ℕ) (added : Bool)
    → old.peer.own ≡ own → AreTaken own js (take i bodies) old.list.items
    → i < length bodies → body ≡ get_or bodies i body → there ≡ body → added ≡ true → TakenAs there old new added
    → AreTaken own js (take (i + 1) bodies) new.list.items
    × ((aus : List AuPlan) (copies : List Holding) → IsUpTo aus copies old → IsUpTo aus copies new)
step_taken own js old new bodies i body there added same before few at is granted taken =
    let t : TakenAs body old new true = subst (λ (b : List ℕ). TakenAs b old new true) is
    (subst (TakenAs there old new) granted taken) in (
      subst (λ (l : List Record). AreTaken own js (take (i + 1) bodies) l) (sym t.3)
          (taken_next own js old.list.items bodies i body t.0 few at before t.1
          (subst (λ (o : Station). StandsBehind o old.list.items t.0) same t.2)),
      t.4,
    )
