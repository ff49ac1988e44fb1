-- A host that took a step acted as its peer over the journal on its disk.
use Rattle.std.proofs.Common.{◌≡◌, ◌∙◌, ap, sym, subst, ℕ, suc, Bool, true, List, [], ◌∷◌, ◌++◌, length, drop, refl}
use Rattle.std.specs.Prelude.{Some, is_some, slice_get}
use Rattle.std.specs.List.{filter_map, cons_option}
use Rattle.std.proofs.lemmas.List.{drop_at}
use Rattle.lks_base.specs.declared.reactions.Input.{Input}
use Rattle.lks_base.specs.declared.records.Record.{Record}
use Rattle.lks_base.specs.declared.records.Record.TheVariants.{Deposit, PollOpened, Nominated, OuterOpened, VoteIn}
use Rattle.lks_base.specs.declared.records.Record.TheVariants.{Shut, Asked, RepairBad, Replaced, Closed, Overdue}
use Rattle.lks_base.specs.declared.records.Record.TheVariants.{Joined, Committed, Voted, Served, Ended, Tuned}
use Rattle.lks_disk.specs.Face.{Face}
use Rattle.lks_host.proofs.Journals.{journal_is}
use Rattle.lks_host.specs.Hosted.{StandsFor}
use Rattle.lks_host.specs.Journals.{journal_on}
use Rattle.lks_host.specs.Stepping.{IsWritten}
use Rattle.lks_host.specs.declared.hosts.Host.{Host}
use Rattle.lks_law.specs.Table.{react_on, reaction}
use Rattle.lks_law.proofs.Batches.{batch_more}
use Rattle.lks_law.proofs.VoterRows.{law}
use Rattle.lks_law.proofs.Turning.{inner_noted}
use Rattle.lks_law.specs.Batches.{together, with_batch}
use Rattle.lks_law.specs.Entries.{is_inner, note_with, note_of}
use Rattle.lks_law.specs.Fitting.{Fits, AreFitting}
use Rattle.lks_law.specs.Polls.{Station}
use Rattle.lks_law.specs.State.{State, poll_at, state_of}
use Rattle.lks_law.specs.Turning.{has_inner_in}
use Rattle.lks_law.specs.Written.{AreWritten}
use Rattle.lks_world.specs.Hosts.{peer_in, with_added}

-- notes that ask of the same circles are the same
notes_same : (a b : ℕ → ℕ → Bool) (rs : List Record)
    → ((place n v : ℕ) (hashes : List (List ℕ)) → slice_get rs place ≡ Some (VoteIn n v hashes) → a n v ≡ b n v)
    → filter_map (note_with a) rs ≡ filter_map (note_with b) rs
unfolding note_with
notes_same a b [] same = refl
notes_same a b (r ∷ rs) same = λ i. cons_option (first r (same 0) i) (notes_same a b rs (λ place. same (suc place)) i)
  where
    first : (r : Record) → ((n v : ℕ) (hashes : List (List ℕ)) → Some r ≡ Some (VoteIn n v hashes) → a n v ≡ b n v)
        → note_with a r ≡ note_with b r
    first (Deposit au blocks) here = refl
    first (PollOpened number au nonce inner tick limits kind) here = refl
    first (Nominated number voter nominees) here = refl
    first (OuterOpened number outer) here = refl
    first (VoteIn number voter hashes) here =
        ap (λ t. note_with (λ _ _. t) (VoteIn number voter hashes)) (here number voter hashes refl)
    first (Shut number) here = refl
    first (Asked number block voter) here = refl
    first (RepairBad number block voter) here = refl
    first (Replaced number au block bytes) here = refl
    first (Closed number outcome tick) here = refl
    first (Overdue au tick) here = refl
    first (Joined poll au tick low repairs) here = refl
    first (Committed poll nonce version kind) here = refl
    first (Voted poll hashes) here = refl
    first (Served poll block) here = refl
    first (Ended poll) here = refl
    first (Tuned quorum minority repairs) here = refl

module _ {D : Type 0} (f : Face D) (h : Host D) (batches : List (List Record)) (stood : StandsFor f h batches)
    (written : AreWritten [] (journal_on f h.journal.disk)) where
  -- the state is that of the journal on the disk
  state_is : h.peer.state ≡ state_of h.peer.own (journal_on f h.journal.disk)
  state_is = stood.state ∙ ap (state_of h.peer.own) (sym (journal_is f h batches stood))

  -- so it reacts as the rules say over that journal
  pub reacts : (tick : ℕ) (i : Input)
      → react_on h.peer.own h.peer.state tick i ≡ reaction h.peer.own (journal_on f h.journal.disk) tick i
  reacts tick i =
      ap (λ (s : State). react_on h.peer.own s tick i) state_is
      ∙ law h.peer.own (journal_on f h.journal.disk) written tick i

  module _ (k : Host D) (records : List Record) (own : k.peer.own ≡ h.peer.own)
      (stands : StandsFor f k (with_batch batches records)) where
    journal_grown : journal_on f k.journal.disk ≡ journal_on f h.journal.disk ++ records
    journal_grown =
        journal_is f k (with_batch batches records) stands ∙ batch_more batches records
        ∙ ap (λ (js : List Record). js ++ records) (sym (journal_is f h batches stood))

    -- what it added stands behind
    pub grown : peer_in f k ≡ with_added (peer_in f h) records
    grown = λ i. record { own = own i; journal = journal_grown i }

    pub more : drop (length (journal_on f h.journal.disk)) (journal_on f k.journal.disk) ≡ records
    more =
        ap (drop (length (journal_on f h.journal.disk))) journal_grown
        ∙ drop_at (journal_on f h.journal.disk) records (length (journal_on f h.journal.disk)) refl

    -- and its notes are those of the journal
    pub noted : IsWritten h.peer.own h.peer.state records
        → filter_map (note_with (has_inner_in k.peer.state)) records
        ≡ filter_map (note_of (journal_on f h.journal.disk ++ records)) records
    noted is = notes_same (has_inner_in k.peer.state) (is_inner (journal_on f h.journal.disk ++ records)) records each
      where
        later : k.peer.state ≡ state_of h.peer.own (journal_on f h.journal.disk ++ records)
        later =
            stands.state ∙ ap (λ (o : Station). state_of o (together (with_batch batches records))) own
            ∙ ap (state_of h.peer.own) (sym (journal_is f k (with_batch batches records) stands) ∙ journal_grown)

        each : (place n v : ℕ) (hashes : List (List ℕ)) → slice_get records place ≡ Some (VoteIn n v hashes)
            → has_inner_in k.peer.state n v ≡ is_inner (journal_on f h.journal.disk ++ records) n v
        each place n v hashes at =
            let alone : records ≡ VoteIn n v hashes ∷ [] = is.batch.alone place n v hashes at in
            let fits : Fits h.peer.own h.peer.state
            (VoteIn n v hashes) = (subst (AreFitting h.peer.own h.peer.state) alone is.fit).0 in
            let runs : is_some (poll_at n (state_of h.peer.own (journal_on f h.journal.disk)).polls)
            ≡ true = ap (λ (s : State). is_some (poll_at n s.polls)) (sym state_is) ∙ fits.0 in
            ap (λ (s : State). has_inner_in s n v) later
            ∙ ap (λ (rs : List Record). has_inner_in (state_of h.peer.own (journal_on f h.journal.disk ++ rs)) n v)
            alone
            ∙ inner_noted h.peer.own (journal_on f h.journal.disk) n v hashes written runs
            ∙ ap (λ (rs : List Record). is_inner (journal_on f h.journal.disk ++ rs) n v) (sym alone)
