-- What the journals of its voters say of a repair.
use Rattle.std.proofs.Common.{◌≡◌, ◌<◌, ◌+◌, ◌∙◌, ◌⊎◌, ap, sym, subst, ℕ, true, eqb, List, length, take, refl, arith}
use Rattle.std.specs.Prelude.{Option, Some, None, option_map, slice_get, ◌&&◌, ◌==◌}
use Rattle.std.specs.Cmp.Lexicographic.{pointwise, pointwise_decides, bytes_decides}
use Rattle.std.proofs.lemmas.Bool.{and_parts, eqb-true}
use Rattle.std.proofs.lemmas.List.{length-set}
use Rattle.lks_base.specs.Kinds.{is_second}
use Rattle.lks_base.specs.declared.plans.AuPlan.{AuPlan}
use Rattle.lks_base.specs.declared.plans.Plan.{Plan}
use Rattle.lks_base.specs.declared.records.Record.{Record}
use Rattle.lks_hash.specs.Running.{hashes_of}
use Rattle.lks_hash.proofs.RunningLaws.{hashes_length}
use Rattle.lks_law.specs.Journal.{Opening, EachRepair, with_repair, contents_at, contents_of, opening_of, is_number}
use Rattle.lks_law.specs.Polls.{limits_of, votes_behind, ballot_behind}
use Rattle.lks_law.specs.Sessions.{Join, Commitment, join_of, commitment_of}
use Rattle.lks_law.specs.Snapshots.{version_by, named_version, is_front, held_if, holders, Collides, Restores}
use Rattle.lks_law.specs.Voting.{poll_named}
use Rattle.lks_law.proofs.Growing.{each_map}
use Rattle.lks_law.proofs.Lists.{each_from, each_both}
use Rattle.lks_law.proofs.Restoring.{some_is, HeldBy, Names, restored}
use Rattle.lks_tally.specs.declared.ballots.Ballot.{Ballot}
use Rattle.lks_tally.specs.declared.ballots.Vote.{Vote}
use Rattle.lks_tally.specs.Counting.{key_for}
use Rattle.lks_evidence.specs.declared.findings.Shelf.{Shelf}
use Rattle.lks_evidence.specs.Records as mine
use Rattle.lks_evidence.specs.Records.{joins, commitments}
use Rattle.lks_evidence.specs.Rules.{is_deposited, is_joined, is_for, is_over, is_committed, bears_out, bears_out_if}
use Rattle.lks_evidence.specs.Rules.{shelf_of, journals_on, is_founded}
use Rattle.lks_evidence.specs.Holding.{Stands, SetHolds}
use Rattle.lks_evidence.proofs.Evidenced.{held_block}
use Rattle.lks_evidence.proofs.Told.{au_of, join_is}

-- A set that holds.

-- whom a commitment binds
record Bound (q : Ballot) (journal : List Record) (v : Vote) : Type 0 where
  version : List (List ℕ)
  named_so : named_version q.poll journal ≡ Some version
  hashes : v.hashes ≡ hashes_of (is_second q.kind) (key_for q v.voter) version

-- by the AU of the join that it names
joined_is : (o : Option Join) (au : ℕ) → is_number (option_map au_of o) au ≡ true
    → (j : Join) × (o ≡ Some j) × (j.au ≡ au)
joined_is None au e = absurd cc
joined_is (Some j) au e = (j, refl, eqb-true j.au au e)

committed_bound : (q : Ballot) (journal : List Record) (v : Vote) (j : Join) (o : Option Commitment)
    → join_of q.poll journal ≡ Some j → j.au ≡ q.au → commitment_of q.poll journal ≡ o
    → is_committed q journal v o ≡ true → Bound q journal v
unfolding is_committed is_over named_version
committed_bound q journal v j None joined of_au committed e = absurd cc
committed_bound q journal v j (Some c) joined of_au committed e = record {
  version = contents_at q.au c.version journal;
  named_so =
      (λ i. version_by journal (joined i) (committed i)) ∙ ap (λ au. Some (contents_at au c.version journal)) of_au;
  hashes =
      (pointwise_decides {E = pointwise eqb} bytes_decides v.hashes
      (hashes_of (is_second q.kind) (key_for q v.voter) (contents_at q.au c.version journal))).0
      (and_parts (is_for q journal c) _ e).1;
}

bound : (aus : List AuPlan) (q : Ballot) (journal : List Record) (v : Vote) → bears_out aus q journal v ≡ true
    → Bound q journal v
unfolding bears_out is_joined
bound aus q journal v e =
    let rest = and_parts (joins q.poll journal == 1 && is_number (mine.join_of q.poll journal) q.au) _
    (and_parts (is_deposited aus q.au journal) _ e).1 in
    let number = (and_parts (joins q.poll journal == 1) _ rest.0).1 in
    let joined = joined_is (join_of q.poll journal) q.au
    (ap (λ o. is_number o q.au) (sym (join_is q.poll journal)) ∙ number) in
    committed_bound q journal v joined.0 (commitment_of q.poll journal) joined.1 joined.2 refl
    (and_parts (commitments q.poll journal == 1) _ rest.1).1

-- what a founded vote of a holder is
holder : (aus : List AuPlan) (set : List Shelf) (q : Ballot) (b : ℕ) (good : List (List ℕ)) (v : Vote)
    → is_founded aus set q v ≡ true → length v.hashes ≡ q.count
    → held_if q.poll good b (journals_on set v.voter) ≡ true → HeldBy q b good (Names (journals_on set) q.poll) v
unfolding is_founded
holder aus set q b good v founded whole held = by_shelf (shelf_of set v.voter) refl founded held
  where
    by_version : (journal : List Record) (x : Bound q journal v) (o : Option (List (List ℕ)))
        → journals_on set v.voter ≡ Some journal → named_version q.poll journal ≡ o
        → is_front good b o ≡ true → HeldBy q b good (Names (journals_on set) q.poll) v
    by_version journal x None known names e = absurd cc
    by_version journal x (Some version) known names e =
        let same : x.version ≡ version = some_is (named_version q.poll journal) x.version version x.named_so names in
        record {
          version = x.version;
          names = record { journal = journal; known = known; named_so = x.named_so };
          hashes = x.hashes;
          whole =
              sym (hashes_length (is_second q.kind) (key_for q v.voter) x.version) ∙ sym (ap length x.hashes)
              ∙ whole;
          front_is =
              ap (take (b + 1)) same
              ∙ (pointwise_decides {E = pointwise eqb} bytes_decides (take (b + 1) version) (take (b + 1) good)).0
              e;
        }

    by_shelf : (o : Option Shelf) → shelf_of set v.voter ≡ o → bears_out_if aus q o v ≡ true
        → held_if q.poll good b (option_map (λ s. s.list.items) o) ≡ true
        → HeldBy q b good (Names (journals_on set) q.poll) v
    by_shelf None is founded held = absurd cc
    by_shelf (Some s) is founded held =
        by_version s.list.items (bound aus q s.list.items v founded) (named_version q.poll s.list.items)
        (ap (option_map (λ s. s.list.items)) is) refl held

pub restores : (plan : Plan) (set : List Shelf) (k : ℕ) (s : Shelf) → SetHolds plan set → slice_get set k ≡ Some s
    → EachRepair (Restores (journals_on set) plan.rules s.peer) s.list.items
restores plan set k s h at i p r there says o good opened many =
    let before = take i s.list.items in
    let x = h.repairs k s at i p r there says in
    let same : x.evidence.opening
    ≡ o = some_is (opening_of r.number before) x.evidence.opening o x.evidence.opened opened in
    subst
    (λ (y : Opening). (limits_of plan.rules y).minority
    < length (holders (journals_on set) (poll_named s.peer r.number) good r.block (votes_behind before r y))
    → (take (r.block + 1) (with_repair before r) ≡ take (r.block + 1) good) ⊎ Collides (journals_on set)
    (ballot_behind s.peer before r y) (with_repair before r) r.block (votes_behind before r y)) same
    (by_opening before x) many
  where
    by_opening : (before : List Record) (x : Stands plan set s.peer s.list.items before r)
        → (limits_of plan.rules x.evidence.opening).minority
        < length
        (holders (journals_on set) (poll_named s.peer r.number) good r.block
        (votes_behind before r x.evidence.opening))
        → (take (r.block + 1) (with_repair before r) ≡ take (r.block + 1) good)
        ⊎ Collides (journals_on set) (ballot_behind s.peer before r x.evidence.opening) (with_repair before r)
        r.block (votes_behind before r x.evidence.opening)
    by_opening before x many =
        let q = ballot_behind s.peer before r x.evidence.opening in
        let votes = votes_behind before r x.evidence.opening in
        let inside = held_block plan.aus s.list.items before r x.held in
        let set_length = length-set (contents_of r.au before) r.block r.bytes in
        restored (journals_on set) q votes (with_repair before r) good r.block
        (limits_of plan.rules x.evidence.opening).minority (omega (arith, inside, set_length)) set_length
        (each_map _ _ votes (λ v both held. holder plan.aus set q r.block good v both.0 both.1 held)
        (each_both _ _ votes (each_from _ _ x.founded) (each_from _ _ x.whole)))
        x.evidence.few_against_new many
