-- A host whose power failed during a step acted as its peer, kept its records, or did nothing.
use Rattle.std.proofs.Common.{◌≡◌, ◌≤◌, ◌⊎◌, ◌∙◌, ap, sym, subst, ℕ, List, [], ◌++◌, length, drop}
use Rattle.std.specs.Prelude.{Some}
use Rattle.std.specs.List.{filter_map}
use Rattle.lks_base.specs.declared.reactions.Input.{Input}
use Rattle.lks_base.specs.declared.reactions.Reaction.{Reaction}
use Rattle.lks_base.specs.declared.records.Record.{Record}
use Rattle.lks_disk.specs.Face.{Face}
use Rattle.lks_host.proofs.Journals.{journal_is}
use Rattle.lks_host.specs.Cutting.{IsCutShort, CutsOff}
use Rattle.lks_host.specs.Hosted.{StandsFor}
use Rattle.lks_host.specs.Journals.{journal_on}
use Rattle.lks_host.specs.Stepping.{IsWritten}
use Rattle.lks_host.specs.declared.hosts.Host.{Host}
use Rattle.lks_host.specs.declared.outcomes.AfterCut.{AfterCut}
use Rattle.lks_host.specs.declared.outcomes.AfterCut.TheVariants as outcome
use Rattle.lks_law.specs.Batches.{with_batch}
use Rattle.lks_law.specs.Entries.{note_of, note_with, notes_at}
use Rattle.lks_law.specs.Table.{react_on, reaction}
use Rattle.lks_law.specs.Turning.{has_inner_in}
use Rattle.lks_law.specs.Written.{AreWritten}
use Rattle.lks_world.proofs.Acting.{reacts, grown, more, noted}
use Rattle.lks_world.specs.Endings.{HostEnds, ending_of}
use Rattle.lks_world.specs.Hosts.{peer_in, with_added}

module _ {D : Type 0} (f : Face D) (h k : Host D) (batches : List (List Record)) (stood : StandsFor f h batches)
    (written : AreWritten [] (journal_on f h.journal.disk)) (own : k.peer.own ≡ h.peer.own) where
  -- the journal on the disk is as before
  pub peer_stays : StandsFor f k batches → peer_in f k ≡ peer_in f h
  peer_stays stands =
      λ i. record { own = own i; journal = (journal_is f k batches stands ∙ sym (journal_is f h batches stood)) i }

  module _ (tick : ℕ) (i : Input) (calls : ℕ) where
    abbrev said : Reaction
    said = react_on h.peer.own h.peer.state tick i

    abbrev told : Reaction
    told = reaction h.peer.own (journal_on f h.journal.disk) tick i

    same : said ≡ told
    same = reacts f h batches stood written tick i

    peer_is : StandsFor f k (with_batch batches said.records) → peer_in f k ≡ with_added (peer_in f h) told.records
    peer_is stands =
        grown f h batches stood written k said.records own stands
        ∙ ap (λ (x : Reaction). with_added (peer_in f h) x.records) same

    notes_are : (rs : List Record) → rs ≡ said.records → IsWritten h.peer.own h.peer.state said.records
        → StandsFor f k (with_batch batches said.records)
        → filter_map (note_with (has_inner_in k.peer.state)) rs ≡ notes_at (Some (peer_in f h)) told.records
    notes_are rs e is stands =
        ap (filter_map (note_with (has_inner_in k.peer.state))) e
        ∙ noted f h batches stood written k said.records own stands is
        ∙ ap (λ (x : Reaction). filter_map (note_of (journal_on f h.journal.disk ++ x.records)) x.records) same

    pub host_ends : (o : AfterCut) → IsWritten h.peer.own h.peer.state said.records
        → CutsOff f batches said calls h k o → HostEnds f told calls h k (ending_of (has_inner_in k.peer.state) o)
    host_ends (outcome.Whole x) is cut = (
      ap (λ (r : Reaction). r.sends) (cut.0 ∙ same),
      notes_are x.records (ap (λ (r : Reaction). r.records) cut.0) is cut.1,
      peer_is cut.1,
      subst (λ (r : Reaction). (r.records ≡ []) ⊎ (4 ≤ calls)) same cut.2,
    )
    host_ends (outcome.Kept rs) is cut =
        (notes_are rs cut.0 is cut.3, peer_is cut.3, subst (λ (r : Reaction). IsCutShort r calls) same cut.1, cut.2)
    host_ends outcome.Lost is cut = (peer_stays cut.1, subst (λ (r : Reaction). IsCutShort r calls) same cut.0)

    -- what its journal has more is one batch more
    pub stands_on : (o : AfterCut) (bs : List (List Record)) → CutsOff f batches said calls h k o
        → CutsOff f bs said calls h k o
        → StandsFor f k (with_batch bs (drop (length (journal_on f h.journal.disk)) (journal_on f k.journal.disk)))
    stands_on (outcome.Whole x) bs cut also =
        subst (λ (rs : List Record). StandsFor f k (with_batch bs rs))
        (sym (more f h batches stood written k said.records own cut.1)) also.1
    stands_on (outcome.Kept rs) bs cut also =
        subst (λ (rs : List Record). StandsFor f k (with_batch bs rs))
        (sym (more f h batches stood written k said.records own cut.3)) also.3
    stands_on outcome.Lost bs cut also =
        subst (λ (rs : List Record). StandsFor f k (with_batch bs rs))
        (sym (more f h batches stood written k [] own cut.1)) also.1

  -- it goes on from where it was
  pub stands_still : (bs : List (List Record)) → StandsFor f k batches → StandsFor f k bs
      → StandsFor f k (with_batch bs (drop (length (journal_on f h.journal.disk)) (journal_on f k.journal.disk)))
  stands_still bs stands also =
      subst (λ (rs : List Record). StandsFor f k (with_batch bs rs))
      (sym (more f h batches stood written k [] own stands)) also
