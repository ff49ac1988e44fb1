-- A batch that is taken.
use Rattle.std.proofs.Common.{◌≡◌, ◌∙◌, ◌⊎◌, ◌↔◌, IsTrue, ap, sym, subst, ℕ, Bool, true, false, List, [], ◌∷◌, ◌++◌}
use Rattle.std.specs.Prelude.{Option, Some, None, Result, Ok, Err, IfOk, map, max, ◌||◌}
use Rattle.std.proofs.lemmas.List.Folds.{list_any-append}
use Rattle.std.proofs.lemmas.List.Elements.{All-head}
use Rattle.lks_base.specs.declared.plans.AuPlan.{AuPlan}
use Rattle.lks_base.specs.declared.plans.Holding.{Holding}
use Rattle.lks_base.specs.declared.reactions.Input.{Input}
use Rattle.lks_base.specs.declared.reactions.Reaction.{Reaction}
use Rattle.lks_base.specs.declared.records.Record.{Record}
use Rattle.lks_law.specs.Behind.{latest_tick, StandsBehind}
use Rattle.lks_law.specs.Facts.{AddsFor, IsJournalOf, unnumbered}
use Rattle.lks_law.specs.Journal.{is_tuning, was_tuned}
use Rattle.lks_law.specs.Polls.{Station}
use Rattle.lks_law.specs.State.{State, after_all, state_of}
use Rattle.lks_law.specs.Table.{react_on, reaction}
use Rattle.lks_law.specs.Written.{AreWritten}
use Rattle.lks_law.specs.World.{deposits}
use Rattle.lks_law.proofs.Sorting.{latest_both, state_follows, journal_more}
use Rattle.lks_law.proofs.Writing.{written_of}
use Rattle.lks_law.proofs.VoterRows.{law as react_is}
use Rattle.lks_record.proofs.Laws.{spelling_read}
use Rattle.lks_record.proofs.Sizes.{short_batch}
use Rattle.lks_record.specs.Reading.{decode_of}
use Rattle.lks_record.specs.Spelling.{batch_spelling, IsBatch, IsInLimits}
use Rattle.lks_record.specs.declared.fault.RecFault.{RecFault}
use Rattle.lks_host.specs.Adding.{IsAdded}
use Rattle.lks_host.specs.Naming.{IsAsked, Names}
use Rattle.lks_host.specs.Sorted.{IsUpTo, TakenAs}
use Rattle.lks_host.specs.declared.naming.Named.{Named}
use Rattle.lks_host.specs.declared.sorting.Sorter.{Sorter}
use Rattle.lks_host.proofs.Calls.{heard_named}

module _ (own : Station) (js : List Record) (s : State) (tick : ℕ) (i : Input) (written : AreWritten [] js)
    (is : s ≡ state_of own js) where
  records_are : (r : Reaction) → r ≡ react_on own s tick i → r.records ≡ (reaction own js tick i).records
  records_are r e =
      ap (λ (x : Reaction). x.records) (e ∙ ap (λ t. react_on own t tick i) is ∙ react_is own js written tick i)

  -- what is said of the records that the peer added is what the rules say
  pub said_as : {E : Type 0} (result : Result Bool E) (tuned : Bool) (r : Reaction) (records batch : List Record)
      → tuned ≡ was_tuned js → r ≡ react_on own s tick i → records ≡ r.records
      → IfOk result (λ a. IsTrue a ↔ IsAdded tuned records batch)
      → IfOk result (λ a. IsTrue a ↔ AddsFor own js (record { tick = tick; input = i }) batch)
  said_as result tuned r records batch same e are said =
      subst
      (λ (rs : List Record). IfOk result
      (λ a. IsTrue a ↔ ((batch ≡ rs) ⊎ ((was_tuned js ≡ false) × (batch ≡ map unnumbered rs)))))
      (are ∙ records_are r e)
      (subst
      (λ (t : Bool). IfOk result
      (λ a. IsTrue a ↔ ((batch ≡ records) ⊎ ((t ≡ false) × (batch ≡ map unnumbered records))))) same said)

  -- and then the peer is in the state that the batch makes
  pub state_as : {E : Type 0} (result : Result Bool E) (r : Reaction) (batch : List Record) (new : State)
      → r ≡ react_on own s tick i → new ≡ after_all own s r.records
      → IfOk result (λ a. IsTrue a ↔ AddsFor own js (record { tick = tick; input = i }) batch)
      → IfOk result (λ a. IsTrue a → new ≡ state_of own (js ++ batch))
  state_as (Err e) r batch new same made said = tt
  state_as (Ok a) r batch new same made said = λ yes.
      made ∙ ap (λ (x : Reaction). after_all own s x.records) same
      ∙ ap (λ t. after_all own t (react_on own t tick i).records) is
      ∙ state_follows own js tick i batch written (said.0 yes)

-- What is read is one batch.

pub same_batch : (read : Result (List Record) RecFault) (a b : List Record) → read ≡ Ok a → read ≡ Ok b → a ≡ b
same_batch read a b e f = let both = sym e ∙ f in cc

-- one that names nothing doesn't stand
pub not_named : (own : Station) (js batch list items : List Record) (o : Option Named) (body : List ℕ) → list ≡ js
    → items ≡ batch → o ≡ None → Names list items o → decode_of body ≡ Ok batch
    → (b : List Record) → decode_of body ≡ Ok b → StandsBehind own js b → ⊥
not_named own js batch list items o body same_list same none names read b found stands =
    let named : Names list items None = subst (Names list items) none names in
    let here : Names js batch None = subst (λ (l : List Record). Names l batch None) same_list
    (subst (λ (x : List Record). Names list x None) same named) in
    here own (subst (StandsBehind own js) (same_batch (decode_of body) b batch found read) stands)

pub asked_is : (js batch list items : List Record) (o : Option Named) (named : Named) → list ≡ js → items ≡ batch
    → o ≡ Some named → Names list items o → IsAsked js batch named
asked_is js batch list items o named same_list same some names =
    subst (λ (l : List Record). IsAsked l batch named) same_list
    (subst (λ (x : List Record). IsAsked list x named) same (subst (Names list items) some names))

-- The records so far.

tuned_both : (js added : List Record) → was_tuned (js ++ added) ≡ (was_tuned js || was_tuned added)
unfolding was_tuned
tuned_both js added = list_any-append is_tuning js added

pub written_upto : (s : Sorter) → (aus : List AuPlan) × (copies : List Holding) × IsUpTo aus copies s
    → AreWritten [] s.list.items
written_upto s upto = written_of s.peer.own upto.0 upto.1 (latest_tick s.list.items) s.list.items upto.2.journal

-- A batch that is added is taken.

journal_with : (own : Station) (begun js batch : List Record) → IsBatch batch
    → IsJournalOf own begun (latest_tick js) js → StandsBehind own js batch
    → IsJournalOf own begun (latest_tick (js ++ batch)) (js ++ batch)
journal_with own begun js [] is journal stands = absurd stands
journal_with own begun js (r ∷ rs) is journal stands =
    journal_more own begun js r rs journal stands (heard_named js r (All-head IsInLimits r rs is.1).0)

pub taken_so : (old new : Sorter) (items batch : List Record) (body : List ℕ) (named : Named) (added : Bool)
    → items ≡ batch → IsBatch batch → decode_of body ≡ Ok batch → body ≡ batch_spelling batch
    → IsAsked old.list.items batch named → added ≡ true
    → (IsTrue added
    ↔ AddsFor old.peer.own old.list.items (record { tick = named.tick; input = named.input }) items)
    → (IsTrue added → new.peer.state ≡ state_of old.peer.own (old.list.items ++ items))
    → new.peer.own ≡ old.peer.own → new.list.items ≡ old.list.items ++ batch
    → new.last ≡ max old.last (latest_tick batch) → new.tuned ≡ (old.tuned || was_tuned batch)
    → TakenAs body old new true
taken_so old new items batch body named added same is read spelled asked granted said state own goes last tunes = (
  batch,
  read,
  stands,
  goes,
  λ aus copies upto. record {
    state =
        subst (λ (js : List Record). new.peer.state ≡ state_of new.peer.own js) (sym goes)
        (subst (λ (o : Station). new.peer.state ≡ state_of o (old.list.items ++ batch)) (sym own) made);
    last =
        last ∙ ap (λ (n : ℕ). max n (latest_tick batch)) upto.last ∙ sym (latest_both old.list.items batch)
        ∙ ap latest_tick (sym goes);
    tuned =
        tunes ∙ ap (λ (b : Bool). b || was_tuned batch) upto.tuned ∙ sym (tuned_both old.list.items batch)
        ∙ ap was_tuned (sym goes);
    journal =
        subst (λ (js : List Record). IsJournalOf new.peer.own (deposits aus copies) (latest_tick js) js) (sym goes)
        (subst
        (λ (o : Station). IsJournalOf o (deposits aus copies) (latest_tick (old.list.items ++ batch))
        (old.list.items ++ batch)) (sym own)
        (journal_with old.peer.own (deposits aus copies) old.list.items batch is upto.journal stands));
  },
  record { count = is.0; read = spelling_read batch is; short = short_batch batch is },
  spelled,
)
  where
    stands : StandsBehind old.peer.own old.list.items batch
    stands =
        asked.stands old.peer.own
        (subst
        (λ (x : List Record). AddsFor old.peer.own old.list.items
        (record { tick = named.tick; input = named.input }) x) same (said.0 granted))

    made : new.peer.state ≡ state_of old.peer.own (old.list.items ++ batch)
    made = state granted ∙ ap (λ (x : List Record). state_of old.peer.own (old.list.items ++ x)) same
