-- Who voted over what.
use Rattle.std.proofs.Common.{◌≡◌, ◌≤◌, ◌<◌, ◌+◌, ◌∙◌, ◌⊎◌, ap, sym, subst, ℕ, true, eqb, List, [], length, take}
use Rattle.std.proofs.Common.{refl, arith}
use Rattle.std.specs.Prelude.{Option, Some, None, unwrap_or, option_map, slice_get}
use Rattle.std.specs.Cmp.Lexicographic.{pointwise, pointwise_decides, bytes_decides}
use Rattle.std.proofs.lemmas.Bool.{lt-ltb}
use Rattle.std.proofs.lemmas.List.{take-append-drop, length-set}
use Rattle.lks_base.proofs.PlanBounds.{good_rules}
use Rattle.lks_base.specs.Checking.{plan_fault}
use Rattle.lks_base.specs.Kinds.{is_second}
use Rattle.lks_base.specs.declared.events.Envelope.{Envelope}
use Rattle.lks_base.specs.declared.events.Event.{Event}
use Rattle.lks_base.specs.declared.messages.Message.TheVariants as message
use Rattle.lks_base.specs.declared.names.PollName.{PollName}
use Rattle.lks_base.specs.declared.plans.Plan.{Plan}
use Rattle.lks_base.specs.declared.records.Record.{Record}
use Rattle.lks_base.specs.declared.records.Record.TheVariants.{Deposit, Replaced}
use Rattle.lks_hash.specs.Running.{linked, hashes_of}
use Rattle.lks_law.specs.Journal.{Opening, Repair, said_by, with_repair, contents_at, contents_of, opening_of}
use Rattle.lks_law.specs.Polls.{Station, ObeyQuorumRule, limits_in, limits_of, ballot_for, votes_behind, ballot_behind}
use Rattle.lks_law.specs.Sessions.{Join, Commitment, join_of, commitment_of}
use Rattle.lks_law.specs.Voting.{poll_named}
use Rattle.lks_law.specs.World.{Standing, peer_at, world}
use Rattle.lks_law.specs.Histories.{IsHistory}
use Rattle.lks_law.specs.Safe.{Evidence, Safe}
use Rattle.lks_law.specs.Snapshots.{HaveSnapshots, version_by, named_version, is_front, journals_of, held_if, holders}
use Rattle.lks_law.specs.Snapshots.{HasFewHolders, Collides, IsRestored}
use Rattle.lks_law.proofs.Linked.{Each, Any, Heard, Fact}
use Rattle.lks_law.proofs.Journals.{evidence_in}
use Rattle.lks_law.proofs.Growing.{IsLater, each_map, front_deposit, contents_length, opening_stays}
use Rattle.lks_law.proofs.Linking.{place_at}
use Rattle.lks_law.proofs.Matching.{snapshot_of, VoteFact, inner_facts, voted_over}
use Rattle.lks_law.proofs.Restoring.{filter_few, some_is, HeldBy, Names, restored}
use Rattle.lks_law.proofs.Starts.{world_holds}
use Rattle.lks_law.proofs.Worlds.{IsSound, Linked, place_of}
use Rattle.lks_tally.specs.declared.ballots.Ballot.{Ballot}
use Rattle.lks_tally.specs.declared.ballots.Vote.{Vote}
use Rattle.lks_tally.specs.Counting.{key_for, for_at, against_at}
use Rattle.lks_tally.proofs.Agreeing.{agrees_same}

pub snapshots : (peers : List Standing) (bag : List Envelope) (tick k : ℕ) → Linked peers bag k
    → HaveSnapshots (record { peers = peers; bag = bag; tick = tick })
snapshots peers bag tick k linked place e s n hashes proof at from reads =
    snapshot_of peers k s _ hashes (linked.each e.from s from)
    (subst (λ o. Heard o e.to (message.Vote n hashes proof)) from
    ((subst (Any _) at (place_of _ bag place linked.bagged)).heard (message.Vote n hashes proof) reads)).1

named_is : (q : PollName) (js : List Record) (j : Join) (c : Commitment) → join_of q js ≡ Some j
    → commitment_of q js ≡ Some c → named_version q js ≡ Some (contents_at j.au c.version js)
unfolding named_version
named_is q js j c joined committed = λ i. version_by js (joined i) (committed i)

-- A vote of one that held the blocks.

record Held (peers : List Standing) (q : PollName) (blocks : List (List ℕ)) (b : ℕ) (voter : ℕ) : Type 0 where
  standing : Standing
  honest : peer_at voter peers ≡ Some standing
  version : List (List ℕ)
  named_so : named_version q standing.journal ≡ Some version
  front : take (b + 1) version ≡ take (b + 1) blocks

held_parts : (peers : List Standing) (q : PollName) (blocks : List (List ℕ)) (b voter : ℕ)
    → held_if q blocks b (journals_of peers voter) ≡ true → Held peers q blocks b voter
held_parts peers q blocks b voter e = by_peer (peer_at voter peers) refl e
  where
    by_version : (t : Standing) (o : Option (List (List ℕ))) → peer_at voter peers ≡ Some t
        → named_version q t.journal ≡ o → is_front blocks b o ≡ true → Held peers q blocks b voter
    by_version t None at named_so e = absurd cc
    by_version t (Some version) at named_so e =
        record {
          standing = t;
          honest = at;
          version = version;
          named_so = named_so;
          front = (pointwise_decides {E = pointwise eqb} bytes_decides _
              _).0 e;
        }

    by_peer : (o : Option Standing) → peer_at voter peers ≡ o
        → held_if q blocks b (option_map (λ (t : Standing). t.journal) o) ≡ true → Held peers q blocks b voter
    by_peer None at e = absurd cc
    by_peer (Some t) at e = by_version t (named_version q t.journal) at refl e

-- A replaced block.

pub opening_later : (n : ℕ) (js : List Record) (i : ℕ) (o : Opening) → opening_of n (take i js) ≡ Some o
    → opening_of n js ≡ Some o
opening_later n js i o opened =
    subst (λ rs. opening_of n rs ≡ Some o) (take-append-drop i js) (opening_stays n _ _ o opened)

pub repair_later : (r : Record) (x : Repair) → (said_by r).replaced ≡ Some x → IsLater r
repair_later (Deposit au blocks) x says = absurd cc
repair_later r x says = tt

repair_fact : (peers : List Standing) (own : Station) (js : List Record) (r : Record) (x : Repair)
    → Fact peers own js r → (said_by r).replaced ≡ Some x → x.block < length (contents_of x.au js)
repair_fact peers own js (Replaced n au b bytes) x fact says =
    let same : record { number = n; au = au; block = b; bytes = bytes } ≡ x = cc in
    subst (λ (y : Repair). y.block < length (contents_of y.au js)) same fact.0
repair_fact peers own js r x fact says = absurd cc

-- the AU has the block
pub repair_within : (peers : List Standing) (own : Station) (js : List Record) (i : ℕ) (r : Record) (x : Repair)
    → Each (Fact peers own js) js → slice_get js i ≡ Some r → (said_by r).replaced ≡ Some x
    → x.block < length (contents_of x.au js)
repair_within peers own js i r x facts there says =
    repair_fact peers own js r x (subst (Any _) there (place_of _ js i facts)) says

module _ (peers : List Standing) (k : ℕ)
    (each : (id : ℕ) (s : Standing) → peer_at id peers ≡ Some s → IsSound peers k s) (s : Standing)
    (at : peer_at s.own.id peers ≡ Some s) (sound : IsSound peers k s)
    (i : ℕ) (r : Record) (x : Repair) (o : Opening) (there : slice_get s.journal i ≡ Some r)
    (says : (said_by r).replaced ≡ Some x) (opened : opening_of x.number (take i s.journal) ≡ Some o)
    (of_au : o.au ≡ x.au) where
  same_count : length (contents_of x.au s.journal) ≡ length (contents_of x.au (take i s.journal))
  same_count =
      contents_length x.au s.journal
      ∙ ap (λ d. length (unwrap_or d []))
      (sym (front_deposit x.au s.journal i r sound.begun (repair_later r x says) there))
      ∙ sym (contents_length x.au (take i s.journal))

  inside : x.block < length (contents_of x.au (take i s.journal))
  inside =
      let within = repair_within peers s.own s.journal i r x sound.records there says in let same = same_count in
      omega (arith, within, same)

  facts : Each (VoteFact peers s.own s.journal sound.records x.number) (votes_behind (take i s.journal) x o)
  facts = inner_facts peers s.own s.journal sound.records x.number o.inner i

  -- the vote of one that held these blocks
  record Over (blocks : List (List ℕ)) (count : ℕ) (v : Vote) : Type 0 where
    standing : Standing
    honest : peer_at v.voter peers ≡ Some standing
    version : List (List ℕ)
    named_so : named_version (poll_named s.own.id x.number) standing.journal ≡ Some version
    hashes : v.hashes ≡ hashes_of (is_second o.kind) (key_for (ballot_for s.own.id x.number o count) v.voter) version
    whole : length version ≡ count
    front_is : take (x.block + 1) version ≡ take (x.block + 1) blocks

  over : (blocks : List (List ℕ)) (v : Vote) → VoteFact peers s.own s.journal sound.records x.number v
      → held_if (poll_named s.own.id x.number) blocks x.block (journals_of peers v.voter) ≡ true
      → Over blocks (length (contents_of x.au (take i s.journal))) v
  over blocks v fact held =
      let h = held_parts peers _ blocks x.block v.voter held in
      let t = h.standing in
      let w = voted_over peers k s t x.number o v at h.honest sound (each v.voter t h.honest)
      (opening_later x.number s.journal i o opened) fact in
      let named_so = named_is _ t.journal w.snap.join w.snap.commitment w.snap.joined
      w.snap.committed in
      subst (λ count. Over blocks count v) (ap (λ a. length (contents_of a s.journal)) of_au ∙ same_count) (record {
        standing = t;
        honest = h.honest;
        version = contents_at w.snap.join.au w.snap.commitment.version t.journal;
        named_so = named_so;
        hashes = w.over;
        whole = w.whole;
        front_is =
            ap (take _) (some_is _ _ h.version named_so h.named_so)
            ∙ h.front;
      })

  few_hold : for_at (ballot_behind s.own.id (take i s.journal) x o) (votes_behind (take i s.journal) x o)
      (contents_of x.au (take i s.journal)) x.block
      ≤ (limits_of s.own.rules o).minority
      → length
      (holders (journals_of peers) (poll_named s.own.id x.number) (contents_of x.au (take i s.journal))
      x.block (votes_behind (take i s.journal) x o))
      ≤ (limits_of s.own.rules o).minority
  unfolding holders
  few_hold few =
      let copy = contents_of x.au (take i s.journal) in
      let q = ballot_behind s.own.id _ x o in
      let held = filter_few _
      _ _
      (each_map _
      _ _ (λ v fact is.
      let y = over copy v fact is in
      let whole = y.whole in
      let deep = inside in
      agrees_same q y.version copy x.block v y.hashes (omega (arith, whole, deep)) y.front_is) facts) in
      omega (arith, held, few)

  restored_by : (good : List (List ℕ))
      → against_at (ballot_behind s.own.id (take i s.journal) x o) (votes_behind (take i s.journal) x o)
      (with_repair (take i s.journal) x) x.block
      ≤ (limits_of s.own.rules o).minority
      → (limits_of s.own.rules o).minority
      < length
      (holders (journals_of peers) (poll_named s.own.id x.number) good x.block
      (votes_behind (take i s.journal) x o))
      → (take (x.block + 1) (with_repair (take i s.journal) x) ≡ take (x.block + 1) good)
      ⊎ Collides (journals_of peers) (ballot_behind s.own.id (take i s.journal) x o)
      (with_repair (take i s.journal) x) x.block (votes_behind (take i s.journal) x o)
  restored_by good few many =
      restored _ q _ _ good x.block (limits_of s.own.rules o).minority deep set (each_map _
      _ _ held_so facts) few many
    where
      q : Ballot
      q = ballot_behind s.own.id (take i s.journal) x o

      set : length (with_repair (take i s.journal) x) ≡ length (contents_of x.au (take i s.journal))
      set = length-set _ x.block x.bytes

      deep : x.block < length (with_repair (take i s.journal) x)
      deep = let within = inside in let same = set in omega (arith, within, same)

      held_so : (v : Vote) → VoteFact peers s.own s.journal sound.records x.number v
          → held_if q.poll good x.block (journals_of peers v.voter) ≡ true
          → HeldBy q x.block good (Names (journals_of peers) q.poll) v
      held_so v fact held =
          let y = over good v fact held in
          record {
            version = y.version;
            names =
                record {
                  journal = y.standing.journal;
                  known = ap (option_map _) y.honest;
                  named_so = y.named_so;
                };
            hashes = y.hashes;
            whole = y.whole;
            front_is = y.front_is;
          }

-- Every history.

pub plan_is_lawful : (plan : Plan) → plan_fault plan ≡ None → ObeyQuorumRule (limits_in plan.rules)
plan_is_lawful plan good = lt-ltb _ plan.rules.quorum (good_rules plan good).3

module _ (plan : Plan) (history : List Event) (good : plan_fault plan ≡ None) (is : IsHistory plan history) where
  all_linked : Linked (world plan history).peers (world plan history).bag (0 + length history)
  all_linked = (world_holds plan history good is).linked

  own_place : (place : ℕ) (s : Standing) → slice_get (world plan history).peers place ≡ Some s
      → peer_at s.own.id (world plan history).peers ≡ Some s
  own_place place s at = place_at (world plan history).peers place s (world_holds plan history good is).apart at

  pub votes_are_over_versions : HaveSnapshots (world plan history)
  votes_are_over_versions =
      snapshots (world plan history).peers (world plan history).bag (world plan history).tick _ all_linked

  -- the evidence of a replaced block is of the poll that was opened so
  record Behind (s : Standing) (before : List Record) (x : Repair) (o : Opening) : Type 0 where
    of_au : o.au ≡ x.au
    few_for_old : for_at (ballot_behind s.own.id before x o) (votes_behind before x o) (contents_of x.au before)
        x.block
        ≤ (limits_of s.own.rules o).minority
    few_against_new : against_at (ballot_behind s.own.id before x o) (votes_behind before x o)
        (with_repair before x) x.block
        ≤ (limits_of s.own.rules o).minority

  behind : (s : Standing) (before : List Record) (x : Repair) (o : Opening) → opening_of x.number before ≡ Some o
      → Evidence s.own.rules s.own.id before x → Behind s before x o
  behind s before x o opened evidence =
      subst (Behind s before x) (some_is _ evidence.opening o evidence.opened opened) (record {
        of_au = evidence.of_au;
        few_for_old = evidence.few_for_old;
        few_against_new = evidence.few_against_new;
      })

  pub few_held_it : (place : ℕ) (s : Standing) → slice_get (world plan history).peers place ≡ Some s
      → HasFewHolders (world plan history) s
  few_held_it place s at i r x there says o opened =
      let own = own_place place s at in
      let found = behind s _ x o opened
      (evidence_in plan history place s (plan_is_lawful plan good) at i r x there says) in
      few_hold (world plan history).peers _ all_linked.each s own
      (all_linked.each s.own.id s own) i r x o there says opened found.of_au found.few_for_old

  pub replaced_restores : (place : ℕ) (s : Standing) → slice_get (world plan history).peers place ≡ Some s
      → IsRestored (world plan history) s
  replaced_restores place s at i r x there says o held opened many =
      let own = own_place place s at in
      let found = behind s _ x o opened
      (evidence_in plan history place s (plan_is_lawful plan good) at i r x there says) in
      restored_by (world plan history).peers _ all_linked.each s own
      (all_linked.each s.own.id s own) i r x o there says opened found.of_au held found.few_against_new many

pub is_safe : (plan : Plan) (history : List Event) → plan_fault plan ≡ None → IsHistory plan history → Safe plan history
is_safe plan history good is = record {
  evidence = λ place s at. evidence_in plan history place s (plan_is_lawful plan good) at;
  snapshots = votes_are_over_versions plan history good is;
  few_holders = few_held_it plan history good is;
}
