-- What stands behind the votes and replaced blocks of all honest peers together.
use Rattle.std.specs.Prelude.{◌≡◌, ◌≢◌, ◌≤◌, ◌<◌, ◌==◌, ◌+◌, ℕ, Bool, true, false, ◌⊎◌, Option, Some, None, Ok}
use Rattle.std.specs.Prelude.{option_map, List, ◌++◌, length, take, filter, slice_get}
use Rattle.std.specs.List.{list_any, filter_map}
use Rattle.std.specs.Cmp.Lexicographic.{pointwise}
use Rattle.lks_base.specs.Kinds.{is_second}
use Rattle.lks_base.specs.declared.events.Envelope.{Envelope}
use Rattle.lks_base.specs.declared.messages.Message.TheVariants as message
use Rattle.lks_base.specs.declared.names.PollName.{PollName}
use Rattle.lks_base.specs.declared.plans.Rules.{Rules}
use Rattle.lks_base.specs.declared.records.Record.{Record}
use Rattle.lks_hash.specs.Hashes.{hash_of}
use Rattle.lks_hash.specs.Running.{running}
use Rattle.lks_law.specs.Journal.{Opening, Repair, EachRepair, with_repair, contents_at, contents_of, opening_of}
use Rattle.lks_law.specs.Polls.{limits_of, votes_behind, ballot_behind}
use Rattle.lks_law.specs.Sessions.{Join, Commitment, join_in, join_of, commitment_in, commitment_of, version_now}
use Rattle.lks_law.specs.Voting.{poll_named, vote_hashes}
use Rattle.lks_law.specs.World.{Standing, World, peer_at}
use Rattle.lks_message.specs.Reading.{decode_of}
use Rattle.lks_tally.specs.declared.ballots.Ballot.{Ballot}
use Rattle.lks_tally.specs.declared.ballots.Vote.{Vote}
use Rattle.lks_tally.specs.Counting.{key_for}

-- The hashes that an honest peer sent to the poller of q are its vote over the version that its journal names.
pub record Snapshot (s : Standing) (q : PollName) (hashes : List (List ℕ)) : Type 0 where
  pub join : Join
  pub joined : join_of q s.journal ≡ Some join
  pub commitment : Commitment
  pub committed : commitment_of q s.journal ≡ Some commitment
  pub joined_once : length (filter_map (join_in q) s.journal) ≤ 1
  pub committed_once : length (filter_map (commitment_in q) s.journal) ≤ 1
  pub there : commitment.version ≤ version_now join.au s.journal
  pub over : hashes ≡ vote_hashes s.own.id q join.au commitment (contents_at join.au commitment.version s.journal)

abbrev pub HaveSnapshots : World → Type 0
HaveSnapshots w =
    (place : ℕ) (e : Envelope) (s : Standing) (n : ℕ) (hashes : List (List ℕ)) (proof : List ℕ)
    → slice_get w.bag place ≡ Some e → peer_at e.from w.peers ≡ Some s
    → decode_of e.bytes ≡ Ok (message.Vote n hashes proof) → Snapshot s (poll_named e.to n) hashes

-- the version that a voter's journal names for a poll
abbrev pub version_by : List Record → Option Join → Option Commitment → Option (List (List ℕ))
version_by js None c = None
version_by js (Some j) None = None
version_by js (Some j) (Some c) = Some (contents_at j.au c.version js)

unfoldable pub named_version : PollName → List Record → Option (List (List ℕ))
named_version q js = version_by js (join_of q js) (commitment_of q js)

-- whether it is these blocks up to block b
abbrev pub is_front : List (List ℕ) → ℕ → Option (List (List ℕ)) → Bool
is_front blocks b None = false
is_front blocks b (Some version) = pointwise (pointwise ◌==◌) (take (b + 1) version) (take (b + 1) blocks)

-- the journals that are known, by peer
abbrev pub Journals : Type 0
Journals = ℕ → Option (List Record)

-- those of these peers
abbrev pub journals_of : List Standing → Journals
journals_of peers id = option_map (λ (s : Standing). s.journal) (peer_at id peers)

abbrev pub held_if : PollName → List (List ℕ) → ℕ → Option (List Record) → Bool
held_if q blocks b None = false
held_if q blocks b (Some journal) = is_front blocks b (named_version q journal)

-- the votes of those whose version is known to have been these blocks up to block b
unfoldable pub holders : Journals → PollName → List (List ℕ) → ℕ → List Vote → List Vote
holders journals q blocks b votes = filter (λ v. held_if q blocks b (journals v.voter)) votes

-- of the votes behind a replaced block at most a minority is of those who held it and all blocks before it
abbrev pub FewHeld : Journals → Rules → ℕ → List Record → Repair → Type 0
FewHeld journals rules poller before r =
    (o : Opening) → opening_of r.number before ≡ Some o
    → length
    (holders journals (poll_named poller r.number) (contents_of r.au before) r.block
    (votes_behind before r o))
    ≤ (limits_of rules o).minority

-- so it is of each, where the journals of honest peers are known
abbrev pub HasFewHolders : World → Standing → Type 0
HasFewHolders w s = EachRepair (FewHeld (journals_of w.peers) s.own.rules s.own.id) s.journal

-- Collisions.

-- the text is what a link of the running hash over these blocks hashes
pub record IsInput (second : Bool) (key : List ℕ) (blocks : List (List ℕ)) (text : List ℕ) : Type 0 where
  pub place : ℕ
  pub block : List ℕ
  pub there : slice_get blocks place ≡ Some block
  pub is : text ≡ running second key (take place blocks) ++ block

-- two texts with one hash, one of each running hash
pub record Collision (second : Bool) (key : List ℕ) (one other : List (List ℕ)) : Type 0 where
  pub text : List ℕ
  pub twin : List ℕ
  pub of_one : IsInput second key one text
  pub of_other : IsInput second key other twin
  pub differ : text ≢ twin
  pub same : hash_of second text ≡ hash_of second twin

-- a collision under the key of a voter of the poll, between the blocks up to b and the version that the voter's journal
-- names
pub record Collides (journals : Journals) (q : Ballot) (blocks : List (List ℕ)) (b : ℕ) (votes : List Vote) : Type 0
  where
    pub voter : ℕ
    pub voted : list_any (λ v. v.voter == voter) votes ≡ true
    pub journal : List Record
    pub known : journals voter ≡ Some journal
    pub version : List (List ℕ)
    pub named_so : named_version q.poll journal ≡ Some version
    pub collision : Collision (is_second q.kind) (key_for q voter) (take (b + 1) blocks) (take (b + 1) version)

-- where more than a minority of the votes behind a replaced block is of those who held these blocks up to there, it
-- restores them, or there is a collision
abbrev pub Restores : Journals → Rules → ℕ → List Record → Repair → Type 0
Restores journals rules poller before r =
    (o : Opening) (good : List (List ℕ)) → opening_of r.number before ≡ Some o
    → (limits_of rules o).minority
    < length (holders journals (poll_named poller r.number) good r.block (votes_behind before r o))
    → (take (r.block + 1) (with_repair before r) ≡ take (r.block + 1) good)
    ⊎ Collides journals (ballot_behind poller before r o) (with_repair before r) r.block (votes_behind before r o)

-- so it is of each, where the journals of honest peers are known
abbrev pub IsRestored : World → Standing → Type 0
IsRestored w s = EachRepair (Restores (journals_of w.peers) s.own.rules s.own.id) s.journal
