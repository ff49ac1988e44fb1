-- A node that does what it is told goes on as the rules say.
use Rattle.std.proofs.Common.{◌≡◌, ◌≤◌, ◌∙◌, ◌++◌, ap, sym, subst, refl, inl, arith, ℕ, List, [], ◌∷◌, Option, Some}
use Rattle.std.proofs.Common.{None}
use Rattle.std.proofs.lemmas.List.{append-nil}
use Rattle.std.specs.Prelude.{◌<◌, ◌^◌, Result, Ok, Err, IfOk, OnOk, OnErr}
use Rattle.lks_base.specs.declared.plans.AuPlan.{AuPlan}
use Rattle.lks_base.specs.declared.plans.Holding.{Holding}
use Rattle.lks_base.specs.declared.reactions.Reaction.{Reaction}
use Rattle.lks_base.specs.declared.records.Record.{Record}
use Rattle.lks_disk.specs.Face.{Face}
use Rattle.lks_outside.specs.declared.questions.Question.{Question}
use Rattle.lks_host.specs.Cutting.{Falls}
use Rattle.lks_host.specs.Hosted.{StandsFor}
use Rattle.lks_law.proofs.Batches.{batch_more}
use Rattle.lks_law.proofs.Sorting.{state_follows}
use Rattle.lks_law.proofs.VoterRows.{law as react_is}
use Rattle.lks_law.proofs.Writing.{written_of}
use Rattle.lks_law.specs.Batches.{together, with_batch}
use Rattle.lks_law.specs.Facts.{Heard, AreInOrder, IsJournalOf}
use Rattle.lks_law.specs.Polls.{Station}
use Rattle.lks_law.specs.Questions.{Verdicts}
use Rattle.lks_law.specs.State.{after_all, state_of}
use Rattle.lks_law.specs.World.{Deed, deposits}
use Rattle.lks_law.specs.Written.{AreWritten}
use Rattle.lks_node.specs.Being.{Acted, FallsFrom, IsAt}
use Rattle.lks_node.specs.Going.{Progress, journal_of, after, asked_for, deed_by, does, reacts, reaction_to}
use Rattle.lks_node.specs.Going.{tick_after, IsDone}
use Rattle.lks_node.specs.declared.ends.Fall.{Fall}
use Rattle.lks_node.specs.declared.nodes.Node.{Node}
use Rattle.lks_node.specs.declared.orders.Order.{Order}
use Rattle.lks_node.specs.declared.orders.Order.TheVariants.{Hear, Do, Pass}

-- in the state of a journal a peer reacts as the rules say over it
reacts_as : (own : Station) (js : List Record) (tick : ℕ) (d : Option Deed) → AreWritten [] js
    → reacts own (state_of own js) tick d ≡ reaction_to own js tick d
reacts_as own js tick None written = refl
reacts_as own js tick (Some d) written = react_is own js written tick d.input

-- and is then in the state of the journal with these records
follows : (own : Station) (js : List Record) (tick : ℕ) (d : Option Deed) → AreWritten [] js
    → after_all own (state_of own js) (reaction_to own js tick d).records
    ≡ state_of own (js ++ (reaction_to own js tick d).records)
follows own js tick None written = ap (state_of own) (sym (append-nil js))
follows own js tick (Some d) written =
    ap (λ (r : Reaction). after_all own (state_of own js) r.records) (sym (react_is own js written tick d.input))
    ∙ state_follows own js tick d.input _ written (inl refl)

-- a journal is one at each later tick
later : (tick next : ℕ) (heard : List Heard) → tick ≤ next → AreInOrder tick heard → AreInOrder next heard
later tick next [] low order = tt
later tick next (h ∷ hs) low order = let one = order.0 in (omega (arith, low), order.1)

pub journal_later : (own : Station) (begun : List Record) (tick next : ℕ) (js : List Record) → tick ≤ next
    → IsJournalOf own begun tick js → IsJournalOf own begun next js
journal_later own begun tick next js low is =
    record { heard = is.heard; in_order = later tick next is.heard low is.in_order; made = is.made }

-- and with what a deed adds
journal_more : (own : Station) (begun : List Record) (tick : ℕ) (js : List Record) (d : Option Deed) → IsDone d
    → IsJournalOf own begun tick js → IsJournalOf own begun tick (js ++ (reaction_to own js tick d).records)
journal_more own begun tick js None done is = subst (IsJournalOf own begun tick) (sym (append-nil js)) is
journal_more own begun tick js (Some d) done is = record {
  heard = record { tick = tick; input = d.input } ∷ is.heard;
  in_order = (omega arith, is.in_order);
  made = (js, _, is.made, done, inl refl, refl);
}

-- no clock goes back
no_earlier : (tick : ℕ) (o : Order) → tick < 2 ^ 32 → tick ≤ tick_after tick o
no_earlier tick (Hear from bytes) low = omega arith
no_earlier tick (Do i) low = omega arith
no_earlier tick (Pass ticks) low = omega arith

module _ {D : Type 0} (f : Face D) (verdict : Verdicts) (aus : List AuPlan) (copies : List Holding) (p : Progress)
    (old : Node D) (asked : List Question) (o : Order) (at : IsAt f aus copies p old asked) where
  abbrev own : Station
  own = old.host.peer.own

  abbrev deed : Option Deed
  deed = deed_by verdict own.id asked o

  written : AreWritten [] (journal_of p)
  written = written_of own aus copies p.tick (journal_of p) at.journal

  same_deed : deed_by verdict own.id asked o ≡ deed_by verdict own.id p.heard o
  same_deed = ap (λ heard. deed_by verdict own.id heard o) at.heard

  -- what was handed out is what the rules say
  pub reaction_is : reacts old.host.peer.own old.host.peer.state old.tick
      (deed_by verdict old.host.peer.own.id asked o)
      ≡ does verdict old.host.peer.own p o
  reaction_is =
      ap (λ s. reacts own s old.tick deed) at.state ∙ ap (λ t. reacts own (state_of own (journal_of p)) t deed) at.tick
      ∙ reacts_as own (journal_of p) p.tick deed written ∙ ap (reaction_to own (journal_of p) p.tick) same_deed

  abbrev does_deed : Option Deed
  does_deed = deed_by verdict own.id p.heard o

  abbrev added : List Record
  added = (does verdict own p o).records

  pub goes : (new : Node D) (now : List Question) (result : Result Reaction Fall) → old.tick < 2 ^ 32
      → Acted f old new
      (reacts old.host.peer.own old.host.peer.state old.tick (deed_by verdict old.host.peer.own.id asked o))
      result
      → new.tick ≡ tick_after old.tick o
      → OnOk result (IsDone (deed_by verdict old.host.peer.own.id asked o))
      → OnOk result (now ≡ asked ++ asked_for old.host.peer.own.id o)
      → IfOk result
      (λ r. (r ≡ does verdict old.host.peer.own p o)
      × IsAt f aus copies (after verdict old.host.peer.own p o) new now)
  goes new now (Err e) low acted tick done asks = tt
  goes new now (Ok x) low acted tick done asks =
      let js = journal_of p in
      let more : together (with_batch p.batches added) ≡ js ++ added = batch_more p.batches added in
      let small : p.tick < 2 ^ 32 = subst (λ (t : ℕ). t < 2 ^ 32) at.tick low in
      let journal : IsJournalOf own (deposits aus copies) (tick_after p.tick o) (js ++ added) =
      journal_later own (deposits aus copies) p.tick (tick_after p.tick o) _ (no_earlier p.tick o small)
      (journal_more own (deposits aus copies) p.tick js does_deed (subst IsDone same_deed done) at.journal) in
      let state : new.host.peer.state ≡ state_of own (together (with_batch p.batches added)) =
      acted.state ∙ ap (λ s. after_all own s (reacts own old.host.peer.state old.tick deed).records) at.state
      ∙ ap (λ (r : Reaction). after_all own (state_of own js) r.records) reaction_is
      ∙ follows own js p.tick does_deed written ∙ ap (state_of own) (sym more) in (
        acted.reaction ∙ reaction_is,
        record {
          state =
              state
              ∙ ap (λ (w : Station). state_of w (together (with_batch p.batches added))) (sym acted.stays.own);
          tick = tick ∙ ap (λ t. tick_after t o) at.tick;
          heard = asks ∙ ap (λ (xs : List Question). xs ++ asked_for own.id o) at.heard;
          journal =
              subst
              (λ (w : Station). IsJournalOf w (deposits aus copies) (tick_after p.tick o)
              (together (with_batch p.batches added))) (sym acted.stays.own)
              (subst (IsJournalOf own (deposits aus copies) (tick_after p.tick o)) (sym more) journal);
          stands = λ told.
              let before = acted.stays.told.1 told in
              subst (λ (r : Reaction). StandsFor f new.host (with_batch p.batches r.records)) reaction_is
              (acted.stands before p.batches (at.stands before));
        },
      )

  pub falls : (new : Node D) (result : Result Reaction Fall)
      → Acted f old new
      (reacts old.host.peer.own old.host.peer.state old.tick (deed_by verdict old.host.peer.own.id asked o))
      result
      → OnErr result (FallsFrom f p (after verdict old.host.peer.own p o) new)
  falls new (Ok x) acted = tt
  falls new (Err e) acted = λ told.
      let before = acted.stays.told.1 told in
      subst (λ (r : Reaction). Falls f p.batches (with_batch p.batches r.records) new.host.journal.disk) reaction_is
      (acted.falls before p.batches (at.stands before))
