-- Votes need not be over a version, and what an honest voter held can be replaced: in no world of a history, but in
-- others.
use Rattle.std.proofs.Common.{◌≡◌, ◌≤◌, ◌∙◌, sym, ap, ℕ, true, List, [], ◌∷◌, refl, arith}
use Rattle.std.specs.Prelude.{Some, None, Ok}
use Rattle.lks_base.specs.Checking.{has_member}
use Rattle.lks_base.specs.declared.messages.Message.TheVariants as message
use Rattle.lks_base.specs.declared.names.HashKind.TheVariants.{Sha256}
use Rattle.lks_base.specs.declared.plans.Rules.{Rules}
use Rattle.lks_base.specs.declared.records.Record.TheVariants.{Replaced}
use Rattle.lks_law.specs.Journal.{opening_of, deposit_of, contents_at, contents_of}
use Rattle.lks_law.specs.Polls.{votes, inner_votes}
use Rattle.lks_law.specs.Sessions.{Join, Commitment, join_of, commitment_of}
use Rattle.lks_law.specs.Snapshots.{HaveSnapshots, HasFewHolders, named_version, holders}
use Rattle.lks_law.specs.Voting.{poll_named, vote_hashes}
use Rattle.lks_law.specs.World.{peer_at}
use Rattle.lks_message.specs.Reading.{decode_of}
use Rattle.lks_world.specs.Unsafe.{station, committed_to, with_sent, who_replaced, with_holder}

-- a vote with one hash isn't over a version of two blocks
pub short_vote : (rules : Rules) (first second bytes hash proof : List ℕ)
    → decode_of bytes ≡ Ok (message.Vote 1 (hash ∷ []) proof) → HaveSnapshots (with_sent rules first second bytes)
    → ⊥
unfolding join_of commitment_of contents_at deposit_of vote_hashes peer_at
short_vote rules first second bytes hash proof decoded has =
    let journal = committed_to (first ∷ second ∷ []) in
    let snapshot = has 0 (record { from = 2; to = 1; bytes = bytes })
    (record { own = station rules 2; journal = journal }) 1 (hash ∷ []) proof refl refl decoded in
    let join : record { au = 1; tick = 0; low = true; repairs = None } ≡ snapshot.join = cc in
    let commitment : record { nonce = []; version = 0; kind = Sha256 } ≡ snapshot.commitment = cc in
    let over : hash ∷ []
    ≡ vote_hashes 2 (poll_named 1 1) 1 (record { nonce = []; version = 0; kind = Sha256 })
    (first ∷ second ∷ []) =
    snapshot.over
    ∙ ap
    (λ (j : Join). vote_hashes 2 (poll_named 1 1) j.au snapshot.commitment
    (contents_at j.au snapshot.commitment.version journal)) (sym join)
    ∙ ap (λ (c : Commitment). vote_hashes 2 (poll_named 1 1) 1 c (contents_at 1 c.version journal)) (sym commitment) in
    absurd cc

-- a block that an honest voter held, with all before it, isn't replaced where a minority is nobody
pub one_holder : (rules : Rules) (hashes : List (List ℕ)) (bytes : List ℕ)
    → HasFewHolders (with_holder rules hashes bytes) (who_replaced rules hashes bytes) → ⊥
unfolding opening_of inner_votes votes has_member holders named_version join_of commitment_of contents_at
    contents_of deposit_of peer_at
one_holder rules hashes bytes has =
    let few : 1
    ≤ 0 = has 4 (Replaced 1 1 0 bytes) (record { number = 1; au = 1; block = 0; bytes = bytes }) refl refl
    (record {
      au = 1;
      nonce = [];
      inner = 2 ∷ [];
      limits = Some (record { quorum = 1; minority = 0 });
      kind = Sha256;
    }) refl in
    absurd (omega (arith, few))
