-- A peer whose journal was sorted.
use Rattle.std.proofs.Common.{◌≡◌, ◌<◌, ◌+◌, ◌-◌, ◌∙◌, inl, inr, ap, sym, subst, true, Bool, ℕ, List, [], ◌∷◌, ◌++◌}
use Rattle.std.proofs.Common.{length, get_or, take, drop, refl, arith, append_assoc, length-append, take-append-drop}
use Rattle.std.specs.Prelude.{All, map}
use Rattle.std.proofs.lemmas.List.{append-nil, drop_all, flat_map_more, map-append, take_more, take-map, length-take-le}
use Rattle.std.proofs.lemmas.List.Elements.{All-nil, All-cons, All-append}
use Rattle.lks_base.specs.declared.plans.AuPlan.{AuPlan}
use Rattle.lks_base.specs.declared.plans.Holding.{Holding}
use Rattle.lks_base.specs.declared.plans.PeerPlan.{PeerPlan}
use Rattle.lks_base.specs.declared.plans.Plan.{Plan}
use Rattle.lks_base.specs.declared.records.Record.{Record}
use Rattle.lks_law.specs.Batches.{alone, together}
use Rattle.lks_law.specs.Behind.{latest_tick}
use Rattle.lks_law.specs.Facts.{IsJournalOf}
use Rattle.lks_law.specs.Polls.{Station}
use Rattle.lks_law.specs.State.{state_of}
use Rattle.lks_law.specs.World.{deposits, station_of, standing_of}
use Rattle.lks_law.proofs.Batches.{each_alone}
use Rattle.lks_law.proofs.Sorting.{journal_sorted}
use Rattle.lks_peer.specs.Knows.{Knowing, knowing_of}
use Rattle.lks_record.specs.Spelling.{batch_spelling}
use Rattle.lks_host.proofs.Few.{rest_is}
use Rattle.lks_host.specs.Fits.{IsSpelled}
use Rattle.lks_host.specs.Owners.{Spell, IsProperFront, IsOwner, HasPeer, missing_of}
use Rattle.lks_host.specs.Sorted.{IsSamePeer, IsUpTo, TakenAs, spelled_each}
use Rattle.lks_host.specs.declared.sorting.PeerSort.TheVariants.{Whole, Begun}
use Rattle.lks_host.specs.declared.sorting.Sorter.{Sorter}

-- Bodies that spell batches.

together_more : (batches : List (List Record)) (batch : List Record)
    → together (batches ++ batch ∷ []) ≡ together batches ++ batch
together_more batches batch = sym (flat_map_more (λ (b : List Record). b) [] batches batch)

spell_more : (bodies : List (List ℕ)) (list : List Record) (body : List ℕ) (batch : List Record) → Spell bodies list
    → IsSpelled batch → body ≡ batch_spelling batch → Spell (bodies ++ body ∷ []) (list ++ batch)
spell_more bodies list body batch so_far is spelled = record {
  batches = so_far.batches ++ batch ∷ [];
  are =
      All-append IsSpelled so_far.batches (batch ∷ []) so_far.are
      (All-cons IsSpelled batch [] is (All-nil IsSpelled));
  spelled =
      ap (λ (bs : List (List ℕ)). bs ++ body ∷ []) so_far.spelled
      ∙ ap (λ (b : List ℕ). map batch_spelling so_far.batches ++ b ∷ []) spelled
      ∙ sym (map-append batch_spelling so_far.batches (batch ∷ []));
  all = ap (λ (l : List Record). l ++ batch) so_far.all ∙ sym (together_more so_far.batches batch);
}

-- one body more of a list of them
pub spell_next : (old new : Sorter) (bodies : List (List ℕ)) (i : ℕ) (body there : List ℕ) (added : Bool)
    → i < length bodies → body ≡ get_or bodies i body → there ≡ body → added ≡ true → TakenAs there old new added
    → (front : List (List ℕ)) → Spell (front ++ take i bodies) old.list.items
    → Spell (front ++ take (i + 1) bodies) new.list.items
spell_next old new bodies i body there added few at is granted taken front so_far =
    let t : TakenAs body old new true = subst (λ (b : List ℕ). TakenAs b old new true) is
    (subst (TakenAs there old new) granted taken) in
    let more : (front ++ take i bodies) ++ body ∷ [] ≡ front ++ take (i + 1) bodies =
    append_assoc front (take i bodies) (body ∷ [])
    ∙ ap (λ (bs : List (List ℕ)). front ++ bs)
    (ap (λ (b : List ℕ). take i bodies ++ b ∷ []) at ∙ sym (take_more bodies i body few)) in
    subst (Spell (front ++ take (i + 1) bodies)) (sym t.3)
    (subst (λ (bs : List (List ℕ)). Spell bs (old.list.items ++ t.0)) more
    (spell_more (front ++ take i bodies) old.list.items body t.0 so_far t.5 t.6))

-- the bodies of deposits, one each
pub spell_each : (list : List Record) → All IsSpelled (map alone list) → Spell (spelled_each list) list
spell_each list are = record { batches = map alone list; are = are; spelled = both list; all = sym (each_alone list) }
  where
    both : (rs : List Record) → spelled_each rs ≡ map batch_spelling (map alone rs)
    both [] = refl
    both (r ∷ rs) = ap (λ (bs : List (List ℕ)). batch_spelling (alone r) ∷ bs) (both rs)

-- and those behind them
pub all_bodies : (begun : List Record) (bodies : List (List ℕ)) (count : ℕ) → count ≡ length begun
    → take (length begun) bodies ≡ spelled_each begun
    → spelled_each begun ++ take (length bodies - count) (drop count bodies) ≡ bodies
all_bodies begun bodies count same alike =
    (λ i. sym alike i ++ rest_is count bodies i) ∙ ap (λ (n : ℕ). take (length begun) bodies ++ drop n bodies) same
    ∙ take-append-drop (length begun) bodies

pub more_spelled : (begun : List Record) (i : ℕ) (r : Record) → i < length begun → r ≡ get_or begun i r
    → IsSpelled (alone r) → All IsSpelled (map alone (take i begun))
    → All IsSpelled (map alone (take (i + 1) begun))
more_spelled begun i r few at one before =
    subst (All IsSpelled)
    (sym (map-append alone (take i begun) (r ∷ []))
    ∙ ap (map alone) (ap (λ (x : Record). take i begun ++ x ∷ []) at ∙ sym (take_more begun i r few)))
    (All-append IsSpelled (map alone (take i begun)) (alone r ∷ []) before
    (All-cons IsSpelled (alone r) [] one (All-nil IsSpelled)))

-- Owners.

-- a journal lacks no deposit
pub nothing_missing : (own : Station) (aus : List AuPlan) (copies : List Holding) (tick : ℕ) (list : List Record)
    → IsJournalOf own (deposits aus copies) tick list → missing_of (deposits aus copies) list ≡ []
nothing_missing own aus copies tick list is =
    let sorted = journal_sorted own aus copies tick list is in
    drop_all (length list) (deposits aus copies)
    (omega (arith, ap length sorted.1, length-append (deposits aus copies) (together sorted.0)))

-- what was taken behind all deposits
pub owned_whole : (pool : List ℕ) (aus : List AuPlan) (copies : List Holding) (old new : Sorter)
    (bodies : List (List ℕ))
    → pool ≡ old.peer.pool → IsSamePeer old new → IsUpTo aus copies new → Spell bodies new.list.items
    → HasPeer old.peer.own pool aus copies bodies (Whole new.peer new.list.items)
owned_whole pool aus copies old new bodies pooled same upto spell = (
  subst (λ (o : Station). IsJournalOf o (deposits aus copies) (latest_tick new.list.items) new.list.items) same.0
      upto.journal,
  same.1 ∙ sym pooled,
  record {
    own = same.0;
    owner = record {
      own = inl upto.journal;
      state = upto.state
          ∙ ap (state_of new.peer.own)
          (sym (append-nil new.list.items)
          ∙ ap (λ (rest : List Record). new.list.items ++ rest)
          (sym
          (nothing_missing new.peer.own aus copies (latest_tick new.list.items) new.list.items
          upto.journal)));
    };
    spell = spell;
  },
)

-- what was taken of the deposits
pub owned_begun : (plan : Plan) (pool : List ℕ) (p : PeerPlan) (peer : Knowing) (begun list : List Record)
    (bodies : List (List ℕ))
    → peer ≡ knowing_of pool (standing_of plan p) → begun ≡ deposits plan.aus p.copies
    → length bodies < length begun → bodies ≡ take (length bodies) (spelled_each begun)
    → list ≡ take (length bodies) begun → All IsSpelled (map alone (take (length bodies) begun))
    → HasPeer (station_of plan p) pool plan.aus p.copies bodies (Begun peer list)
owned_begun plan pool p peer begun list bodies is deposited short alike front spelled =
    let count : length list
    ≡ length bodies = ap length front ∙ length-take-le (length bodies) begun (omega (arith, short)) in
    let own : peer.own ≡ station_of plan p = ap (λ (k : Knowing). k.own) is in
    let first : list ≡ take (length list) begun = front ∙ ap (λ (n : ℕ). take n begun) (sym count) in
    let all : begun
    ≡ list ++ drop (length list) begun = sym (take-append-drop (length list) begun)
    ∙ ap (λ (l : List Record). l ++ drop (length list) begun) (sym first) in
    let owner : IsOwner plan.aus p.copies list peer =
    record {
      own = inr (subst (IsProperFront list) deposited (record { short = omega (arith, count, short); front = first }));
      state =
          ap (λ (k : Knowing). k.state) is ∙ (λ i. state_of (sym own i) (sym deposited i))
          ∙ ap (state_of peer.own) all
          ∙ ap (λ (b : List Record). state_of peer.own (list ++ drop (length list) b)) deposited;
    } in (
      ap (λ (k : Knowing). k.pool) is,
      record {
        own = own;
        owner = owner;
        spell = subst (λ (l : List Record). Spell bodies l) (sym front)
            (subst (λ (bs : List (List ℕ)). Spell bs (take (length bodies) begun))
            (sym (alike ∙ take-map (λ (r : Record). batch_spelling (alone r)) (length bodies) begun))
            (spell_each (take (length bodies) begun) spelled));
      },
    )
