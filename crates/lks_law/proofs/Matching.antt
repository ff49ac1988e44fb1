-- Votes of sessions that match the poll.
use Rattle.std.proofs.Common.{◌≡◌, ◌∙◌, ap, sym, subst, ℕ, Bool, true, false, cond, eqb, List, [], ◌∷◌, length, take}
use Rattle.std.proofs.Common.{refl}
use Rattle.std.specs.Prelude.{Option, Some, None}
use Rattle.std.specs.List.{filter_map, cons_option}
use Rattle.std.proofs.lemmas.Bool.{eqb-true}
use Rattle.lks_base.specs.Kinds.{is_second}
use Rattle.lks_base.specs.declared.names.PollName.{PollName}
use Rattle.lks_base.specs.declared.records.Record.{Record}
use Rattle.lks_base.specs.declared.records.Record.TheVariants.{VoteIn, Joined, Committed}
use Rattle.lks_hash.specs.Hashes.{key_of}
use Rattle.lks_hash.specs.Running.{hashes_of}
use Rattle.lks_hash.proofs.RunningLaws.{hashes_length}
use Rattle.lks_law.specs.Journal.{Opening, contents_at, contents_of, opening_of, vote_in}
use Rattle.lks_law.specs.Linked.{Has, IsVoteOver}
use Rattle.lks_law.proofs.Linked.{Each, Any, Fact}
use Rattle.lks_law.specs.Polls.{Station, votes, inner_votes}
use Rattle.lks_law.specs.Sessions.{Join, Commitment, is_poll, join_in, join_of, commitment_in, commitment_of}
use Rattle.lks_law.specs.Sessions.{hashes_of_vote}
use Rattle.lks_law.specs.Snapshots.{Snapshot}
use Rattle.lks_law.specs.Voting.{poll_named, vote_hashes}
use Rattle.lks_law.specs.World.{Standing, peer_at}
use Rattle.lks_law.proofs.Growing.{first_of, each_front}
use Rattle.lks_law.proofs.Keyed.{same_poll}
use Rattle.lks_law.proofs.Knowing.{is_had, voted_fact}
use Rattle.lks_law.proofs.Linking.{at_own}
use Rattle.lks_law.proofs.Lists.{each_filter}
use Rattle.lks_law.proofs.Worlds.{IsSound}
use Rattle.lks_tally.specs.declared.ballots.Vote.{Vote}

-- what a journal says that its peer voted, it voted over a version
pub snapshot_of : (peers : List Standing) (k : ℕ) (s : Standing) (q : PollName) (hashes : List (List ℕ))
    → IsSound peers k s → hashes_of_vote q s.journal ≡ Some hashes → Snapshot s q hashes
snapshot_of peers k s q hashes is voted =
    by_join (join_of q s.journal) (commitment_of q s.journal) refl refl
    (voted_fact peers s.own s.journal is.records q hashes voted)
  where
    by_join : (j : Option Join) (c : Option Commitment) → join_of q s.journal ≡ j → commitment_of q s.journal ≡ c
        → Has (λ j. Has (IsVoteOver s.own s.journal q hashes j) c) j → Snapshot s q hashes
    by_join None c joined committed has = absurd has
    by_join (Some j) None joined committed has = absurd has
    by_join (Some j) (Some c) joined committed over =
        record {
          join = j;
          joined = joined;
          commitment = c;
          committed = committed;
          joined_once = is.single.joins q;
          committed_once = is.single.commitments q;
          there = over.0;
          over = over.1;
        }

module _ (peers : List Standing) (own : Station) (js : List Record) (all : Each (Fact peers own js) js) where
  -- a session is on the AU of the poll
  pub joined_so : (q : PollName) (r : Record) (j : Join) → join_in q r ≡ Some j → Fact peers own js r
      → Any (λ s. Has (λ o. o.au ≡ j.au) (opening_of q.number s.journal)) (peer_at q.poller peers)
  joined_so q r j e fact = by_record r j e fact
    where
      by_name : (b : Bool) (p : PollName) (x j : Join) → is_poll p q ≡ b
          → Any (λ s. Has (λ o. o.au ≡ x.au) (opening_of p.number s.journal)) (peer_at p.poller peers)
          → cond b (Some x) None ≡ Some j
          → Any (λ s. Has (λ o. o.au ≡ j.au) (opening_of q.number s.journal)) (peer_at q.poller peers)
      by_name true p x j same fact e =
          let is : x ≡ j = cc in
          subst
          (λ (y : Join). Any (λ s. Has (λ o. o.au ≡ y.au) (opening_of q.number s.journal))
          (peer_at q.poller peers)) is
          (subst
          (λ (r : PollName). Any (λ s. Has (λ o. o.au ≡ x.au) (opening_of r.number s.journal))
          (peer_at r.poller peers)) (same_poll p q same) fact)
      by_name false p x j same fact e = absurd cc

      by_record : (r : Record) (j : Join) → join_in q r ≡ Some j → Fact peers own js r
          → Any (λ s. Has (λ o. o.au ≡ j.au) (opening_of q.number s.journal)) (peer_at q.poller peers)
      by_record (Joined p au tick low repairs) j e fact = by_name _ p _ j refl fact.1 e
      by_record r j e fact = absurd cc

  pub join_match : (q : PollName) (j : Join) → join_of q js ≡ Some j
      → Any (λ s. Has (λ o. o.au ≡ j.au) (opening_of q.number s.journal)) (peer_at q.poller peers)
  unfolding join_of
  join_match q j e = first_of _ _ _ (joined_so q) js j e all

  -- it is committed under the poll's nonce and kind of hash
  pub committed_so : (q : PollName) (r : Record) (c : Commitment) → commitment_in q r ≡ Some c → Fact peers own js r
      → Any (λ s. Has (λ o. (o.nonce ≡ c.nonce) × (o.kind ≡ c.kind)) (opening_of q.number s.journal))
      (peer_at q.poller peers)
  committed_so q r c e fact = by_record r c e fact
    where
      by_name : (b : Bool) (p : PollName) (x c : Commitment) → is_poll p q ≡ b
          → Any (λ s. Has (λ o. (o.nonce ≡ x.nonce) × (o.kind ≡ x.kind)) (opening_of p.number s.journal))
          (peer_at p.poller peers)
          → cond b (Some x) None ≡ Some c
          → Any (λ s. Has (λ o. (o.nonce ≡ c.nonce) × (o.kind ≡ c.kind)) (opening_of q.number s.journal))
          (peer_at q.poller peers)
      by_name true p x c same fact e =
          let is : x ≡ c = cc in
          subst
          (λ (y : Commitment). Any
          (λ s. Has (λ o. (o.nonce ≡ y.nonce) × (o.kind ≡ y.kind)) (opening_of q.number s.journal))
          (peer_at q.poller peers)) is
          (subst
          (λ (r : PollName). Any
          (λ s. Has (λ o. (o.nonce ≡ x.nonce) × (o.kind ≡ x.kind)) (opening_of r.number s.journal))
          (peer_at r.poller peers)) (same_poll p q same) fact)
      by_name false p x c same fact e = absurd cc

      by_record : (r : Record) (c : Commitment) → commitment_in q r ≡ Some c → Fact peers own js r
          → Any (λ s. Has (λ o. (o.nonce ≡ c.nonce) × (o.kind ≡ c.kind)) (opening_of q.number s.journal))
          (peer_at q.poller peers)
      by_record (Committed p nonce version kind) c e fact =
          by_name (is_poll p q) p (record { nonce = nonce; version = version; kind = kind }) c refl fact.1 e
      by_record r c e fact = absurd cc

  pub commit_match : (q : PollName) (c : Commitment) → commitment_of q js ≡ Some c
      → Any (λ s. Has (λ o. (o.nonce ≡ c.nonce) × (o.kind ≡ c.kind)) (opening_of q.number s.journal))
      (peer_at q.poller peers)
  unfolding commitment_of
  commit_match q c e = first_of _ _ _ (committed_so q) js c e all

  -- what is known of a vote that a journal has
  abbrev pub VoteFact : ℕ → Vote → Type 0
  VoteFact n v =
      Any (λ t. hashes_of_vote (poll_named own.id n) t.journal ≡ Some v.hashes) (peer_at v.voter peers)
      × Has (λ o. length v.hashes ≡ length (contents_of o.au js)) (opening_of n js)

  pub counted_so : (n : ℕ) (r : Record) (v : Vote) → vote_in n r ≡ Some v → Fact peers own js r → VoteFact n v
  counted_so n (VoteIn m voter hashes) v e fact = by_number (eqb m n) refl e
    where
      by_number : (b : Bool) → eqb m n ≡ b → cond b (Some (record { voter = voter; hashes = hashes })) None ≡ Some v
          → VoteFact n v
      by_number true same e =
          let is : record { voter = voter; hashes = hashes } ≡ v = cc in
          subst (VoteFact n) is
          (subst (λ k. VoteFact k (record { voter = voter; hashes = hashes })) (eqb-true m n same) fact)
      by_number false same e = absurd cc
  counted_so n r v e fact = absurd cc

  vote_facts : (n : ℕ) (rs : List Record) → Each (Fact peers own js) rs → Each (VoteFact n) (filter_map (vote_in n) rs)
  vote_facts n [] each = tt
  vote_facts n (r ∷ rs) each = by_vote (vote_in n r) refl (vote_facts n rs each.1)
    where
      by_vote : (v : Option Vote) → vote_in n r ≡ v → Each (VoteFact n) (filter_map (vote_in n) rs)
          → Each (VoteFact n) (cons_option v (filter_map (vote_in n) rs))
      by_vote None is rest = rest
      by_vote (Some v) is rest = (counted_so n r v is each.0, rest)

  -- and of each of a poll's inner ones
  pub inner_facts : (n : ℕ) (inner : List ℕ) (i : ℕ) → Each (VoteFact n) (inner_votes n inner (take i js))
  unfolding inner_votes votes
  inner_facts n inner i = each_filter _ _ _ (vote_facts n _ (each_front _ i js all))

-- An honest vote that a poller has is the vote over a version that the voter named, under the poll's own key.
pub record VotedOver (s t : Standing) (n : ℕ) (o : Opening) (v : Vote) : Type 0 where
  pub snap : Snapshot t (poll_named s.own.id n) v.hashes
  pub au : o.au ≡ snap.join.au
  pub nonce : o.nonce ≡ snap.commitment.nonce
  pub kind : o.kind ≡ snap.commitment.kind
  pub whole : length (contents_at snap.join.au snap.commitment.version t.journal) ≡ length (contents_of o.au s.journal)
  pub over : v.hashes
      ≡ hashes_of (is_second o.kind)
      (key_of (is_second o.kind) s.own.id n o.nonce v.voter o.au (length (contents_of o.au s.journal)))
      (contents_at snap.join.au snap.commitment.version t.journal)

pub voted_over : (peers : List Standing) (k : ℕ) (s t : Standing) (n : ℕ) (o : Opening) (v : Vote)
    → peer_at s.own.id peers ≡ Some s → peer_at v.voter peers ≡ Some t → (sound : IsSound peers k s)
    → IsSound peers k t
    → opening_of n s.journal ≡ Some o → VoteFact peers s.own s.journal sound.records n v → VotedOver s t n o v
unfolding vote_hashes
voted_over peers k s t n o v at from sound voter opened fact =
    let q = poll_named s.own.id n in
    let snap = snapshot_of peers k t q v.hashes voter
    (subst (Any _) from fact.0) in
    let au : o.au ≡ snap.join.au =
    is_had _ _ o opened
    (subst (Any _) at
    (join_match peers t.own t.journal voter.records q snap.join snap.joined)) in
    let same : _ × (o.kind ≡ snap.commitment.kind) =
    is_had _
    _ o opened
    (subst
    (Any
    _) at
    (commit_match peers t.own t.journal voter.records q snap.commitment snap.committed)) in
    let blocks = contents_at snap.join.au snap.commitment.version t.journal in
    let key = key_of _ s.own.id n snap.commitment.nonce t.own.id snap.join.au
    _ in
    let count : length v.hashes
    ≡ length (contents_of o.au s.journal) = is_had
    _ _ o opened
    fact.1 in
    let whole : length blocks
    ≡ length (contents_of o.au s.journal) = sym (hashes_length _ key blocks)
    ∙ sym (ap length snap.over) ∙ count in
    let own : t.own.id ≡ v.voter = at_own v.voter peers t from in
    record {
      snap = snap;
      au = au;
      nonce = same.0;
      kind = same.1;
      whole = whole;
      over =
          snap.over
          ∙ (λ i. hashes_of (is_second (sym same.1 i))
          (key_of (is_second (sym same.1 i)) s.own.id n (sym same.0 i) (own i) (sym au i) (whole i)) blocks);
    }
