-- What a voter adds: nothing, or one record of its part in a poll, or of its numbers, which may follow the journal.
use Rattle.std.proofs.Common.{◌≡◌, ap, ℕ, Bool, true, false, cond, not, List, [], ◌∷◌, refl}
use Rattle.std.specs.Prelude.{Option, Some, None, is_some, option_map, map, ◌&&◌, nat_le, slice_get}
use Rattle.std.proofs.lemmas.Bool.{and_parts, and_from}
use Rattle.lks_base.specs.Quorums.{obeys_quorum_rule}
use Rattle.lks_base.specs.declared.limits.TheConstants.{MOST_REPAIRS}
use Rattle.lks_base.specs.declared.names.HashKind.{HashKind}
use Rattle.lks_base.specs.declared.names.Judged.{Judged}
use Rattle.lks_base.specs.declared.names.Judged.TheVariants.{NotAsked, Accepted, Refused}
use Rattle.lks_base.specs.declared.names.PollName.{PollName}
use Rattle.lks_base.specs.declared.reactions.Reaction.{Reaction}
use Rattle.lks_base.specs.declared.records.Record.{Record}
use Rattle.lks_base.specs.declared.records.Record.TheVariants as records
use Rattle.lks_law.specs.Facts.{unnumbered}
use Rattle.lks_law.specs.Polls.{Station}
use Rattle.lks_law.specs.Reaction.{no_effect}
use Rattle.lks_law.specs.References.{reference_list}
use Rattle.lks_law.specs.Sessions.{Join, Commitment, join_of, commitment_of, hashes_of_vote, served_blocks}
use Rattle.lks_law.specs.Sessions.{is_session, may_work, version_now}
use Rattle.lks_law.specs.Voting.{may_join, on_invitation, repeats, commits, proved_to}
use Rattle.lks_law.specs.Voting.{on_proof, casts_vote, on_work, most_served, gives, serves, answers_request}
use Rattle.lks_law.specs.Voting.{on_request, on_end, may_tune, on_tune}
use Rattle.lks_law.specs.Written.{MayFollow}
use Rattle.lks_voter.specs.Voting.{answer_of}
use Rattle.lks_voter.specs.declared.commitments.Serve.{Serve}
use Rattle.lks_voter.specs.declared.commitments.Serve.TheVariants.{First, Again, Spent}

-- whether the record is of the peer's part in a poll, or of its numbers, which obey the quorum rule
abbrev pub IsVoters : Record → Type 0
IsVoters (records.Joined poll au tick low repairs) = Unit {0}
IsVoters (records.Committed poll nonce version kind) = Unit {0}
IsVoters (records.Voted poll hashes) = Unit {0}
IsVoters (records.Served poll block) = Unit {0}
IsVoters (records.Ended poll) = Unit {0}
IsVoters (records.Tuned quorum minority repairs) = obeys_quorum_rule quorum minority ≡ true
IsVoters r = ⊥

pub record VoterMay (js : List Record) (r : Record) : Type 0 where
  pub voters : IsVoters r
  pub follows : MayFollow js r

abbrev pub VoterAdds : List Record → List Record → Type 0
VoterAdds js [] = Unit {0}
VoterAdds js (r ∷ []) = VoterMay js r
VoterAdds js (r ∷ s ∷ rs) = ⊥

-- without its numbers too
one_unnumbered : (js : List Record) (r : Record) → VoterMay js r → VoterMay js (unnumbered r)
one_unnumbered js (records.Joined poll au tick low repairs) may = record { voters = tt; follows = may.follows }
one_unnumbered js (records.Committed poll nonce version kind) may = may
one_unnumbered js (records.Voted poll hashes) may = may
one_unnumbered js (records.Served poll block) may = may
one_unnumbered js (records.Ended poll) may = may
one_unnumbered js (records.Tuned quorum minority repairs) may = may
one_unnumbered js r may = absurd may.voters

pub unnumbered_adds : (js rs : List Record) → VoterAdds js rs → VoterAdds js (map unnumbered rs)
unnumbered_adds js [] may = tt
unnumbered_adds js (r ∷ []) may = one_unnumbered js r may
unnumbered_adds js (r ∷ s ∷ rs) may = absurd may

module _ (own : Station) (js : List Record) where
  either_adds : (b : Bool) (r s : Reaction) → (b ≡ true → VoterAdds js r.records)
      → (b ≡ false → VoterAdds js s.records) → VoterAdds js (cond b r s).records
  either_adds true r s one other = one refl
  either_adds false r s one other = other refl

  if_adds : (b : Bool) (r : Reaction) → (b ≡ true → VoterAdds js r.records) → VoterAdds js (cond b r no_effect).records
  if_adds true r one = one refl
  if_adds false r one = tt

  none_of : {X : Type 0} (o : Option X) → not (is_some o) ≡ true → o ≡ None
  none_of None e = refl
  none_of (Some x) e = absurd cc

  pub invitation_adds : (tick : ℕ) (q : PollName) (au : ℕ) → VoterAdds js (on_invitation own js tick q au).records
  unfolding on_invitation may_join
  invitation_adds tick q au =
      either_adds (is_session q js) _ _ _ (λ closed. either_adds (may_join own js tick q au) _ _ (λ may.
      let parts = and_parts _
      _ may in
      let first = and_parts _ _
      parts.0 in
      let both = and_parts _ _ first.0 in
      record { voters = tt; follows = (none_of _ both.0, both.1) }) _)

  pub proof_adds : (q : PollName) (nonce : List ℕ) (kind : HashKind) (judged : Judged)
      → VoterAdds js (on_proof own js q nonce kind judged).records
  unfolding on_proof
  proof_adds q nonce kind judged = if_adds _ _ (λ runs. by_session runs (join_of q js) refl (commitment_of q js) refl)
    where
      by_judged : is_session q js ≡ true → (j : Join) → join_of q js ≡ Some j → commitment_of q js ≡ None
          → (judged : Judged)
          → VoterAdds js (commits own (reference_list own js) q (version_now j.au js) nonce kind judged).records
      by_judged runs j joins new Accepted = record { voters = tt; follows = (runs, new, ap (option_map _) joins) }
      by_judged runs j joins new Refused = record { voters = tt; follows = runs }
      by_judged runs j joins new NotAsked = tt

      by_session : is_session q js ≡ true → (j : Option Join) → join_of q js ≡ j → (c : Option Commitment)
          → commitment_of q js ≡ c → VoterAdds js (proved_to own js q nonce kind judged j c).records
      by_session runs None ej c ec = tt
      by_session runs (Some j) ej None ec = by_judged runs j ej ec judged
      by_session runs (Some j) ej (Some c) ec = if_adds (repeats c nonce kind) _ (λ same. tt)

  may_vote_now : (q : PollName) → is_session q js ≡ true → (c : Commitment) → commitment_of q js ≡ Some c
      → hashes_of_vote q js ≡ None → may_work q js ≡ true
  unfolding may_work
  may_vote_now q runs c ec eh = and_from _ _ (and_from _ _ runs (ap is_some ec)) (ap (λ o. not (is_some o)) eh)

  pub work_adds : (q : PollName) → VoterAdds js (on_work own js q).records
  unfolding on_work
  work_adds q =
      if_adds _ _ (λ runs. by_session runs (join_of q js) refl (commitment_of q js) refl (hashes_of_vote q js) refl)
    where
      by_session : is_session q js ≡ true → (j : Option Join) → join_of q js ≡ j → (c : Option Commitment)
          → commitment_of q js ≡ c → (h : Option (List (List ℕ))) → hashes_of_vote q js ≡ h
          → VoterAdds js (casts_vote own js q j c h).records
      by_session runs None ej c ec h eh = tt
      by_session runs (Some j) ej None ec h eh = tt
      by_session runs (Some j) ej (Some c) ec None eh = record { voters = tt; follows = may_vote_now q runs c ec eh }
      by_session runs (Some j) ej (Some c) ec (Some h) eh = tt

  pub request_adds : (q : PollName) (b : ℕ) → VoterAdds js (on_request own js q b).records
  unfolding on_request
  request_adds q b =
      if_adds _ _ (λ runs. by_session runs (join_of q js) (commitment_of q js) (hashes_of_vote q js) refl)
    where
      by_block : is_session q js ≡ true → is_some (hashes_of_vote q js) ≡ true → (j : Join) (o : Option (List ℕ))
          → VoterAdds js (serves q b (most_served own.rules j.repairs) (served_blocks q js) o).records
      by_block runs voted j None = tt
      by_block runs voted j (Some bytes) = by_answer (answer_of _ b _)
        where
          by_answer : (a : Serve) → VoterAdds js (gives q b bytes a).records
          by_answer First = record { voters = tt; follows = (runs, voted) }
          by_answer Again = tt
          by_answer Spent = tt

      by_session : is_session q js ≡ true → (j : Option Join) (c : Option Commitment) (h : Option (List (List ℕ)))
          → hashes_of_vote q js ≡ h → VoterAdds js (answers_request own js q b j c h).records
      by_session runs None c h eh = tt
      by_session runs (Some j) None h eh = tt
      by_session runs (Some j) (Some c) None eh = tt
      by_session runs (Some j) (Some c) (Some h) eh = by_block runs (ap is_some eh) j (slice_get _ b)

  pub end_adds : (q : PollName) → VoterAdds js (on_end js q).records
  unfolding on_end
  end_adds q = if_adds (is_session q js) _ (λ runs. record { voters = tt; follows = runs })

  pub tune_adds : (quorum minority repairs : ℕ) → VoterAdds js (on_tune own quorum minority repairs).records
  unfolding on_tune may_tune
  tune_adds quorum minority repairs = if_adds _ _ (λ may.
      let some = and_parts (nat_le 1 quorum && nat_le quorum own.rules.inner && obeys_quorum_rule quorum minority)
      (nat_le repairs MOST_REPAIRS) may in
      record {
        voters = (and_parts _
            _ some.0).1;
        follows = tt;
      })
