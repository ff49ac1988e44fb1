-- Evidence can be wanting, and not every list of events is a history.
use Rattle.std.proofs.Common.{◌≡◌, ◌≤◌, ◌<◌, ◌∙◌, sym, subst, ℕ, List, [], ◌∷◌, length, get_or, refl, arith}
use Rattle.std.specs.Prelude.{Some}
use Rattle.lks_base.specs.Checking.{has_member}
use Rattle.lks_base.specs.declared.plans.Plan.{Plan}
use Rattle.lks_base.specs.declared.plans.Rules.{Rules}
use Rattle.lks_base.specs.declared.names.HashKind.TheVariants.{Sha256}
use Rattle.lks_base.specs.declared.records.Record.{Record}
use Rattle.lks_base.specs.declared.records.Record.TheVariants.{VoteIn}
use Rattle.lks_law.specs.Broken.{peer_of, with_strange_vote, with_strange_bytes, with_lax_numbers, with_one_vote}
use Rattle.lks_law.specs.Broken.{with_one_voter, with_later_votes, with_no_envelope}
use Rattle.lks_law.specs.Histories.{IsHistory}
use Rattle.lks_law.specs.Journal.{Opening, Repair, opening_of}
use Rattle.lks_law.specs.Polls.{ObeyQuorumRule, limits_of, votes, inner_votes, votes_behind}
use Rattle.lks_law.specs.Safe.{Evidence, HasEvidence}
use Rattle.lks_law.specs.Linked.{AreLinked}
use Rattle.lks_law.specs.Sessions.{hashes_of_vote}
use Rattle.lks_law.specs.World.{peer_at, start}
use Rattle.lks_message.specs.Reading.{heading_at, decode_of}
use Rattle.lks_tally.specs.Distinct.{AreDistinct}
use Rattle.lks_tally.specs.declared.ballots.Vote.{Vote}

same_opening : {o x : Opening} → Some o ≡ Some x → o ≡ x
same_opening e = cc

-- a journal with too few inner votes has no evidence
wanting : (rules : Rules) (poller : ℕ) (journal : List Record) (r : Repair) (o : Opening)
    → opening_of r.number journal ≡ Some o
    → length (votes_behind journal r o) < (limits_of rules o).quorum → Evidence rules poller journal r → ⊥
wanting rules poller journal r o opened few e =
    let same : o ≡ e.opening = same_opening (sym opened ∙ e.opened) in
    let enough = subst (λ x. (limits_of rules x).quorum ≤ length (votes_behind journal r x)) (sym same) e.quorum in
    absurd (omega (arith, few, enough))

-- what these journals replace
abbrev replaced : ℕ → ℕ → List ℕ → Repair
replaced au b bytes = record { number = 1; au = au; block = b; bytes = bytes }

pub one_vote : (rules : Rules) (poller au b : ℕ) (bytes : List ℕ)
    → HasEvidence rules poller (with_one_vote au b bytes) → ⊥
unfolding opening_of inner_votes votes has_member
one_vote rules poller au b bytes has = wanting rules poller _ _ _ refl (omega arith) (has 3 _ _ refl refl)

-- nor has one with numbers by which votes may be a landslide both ways
pub lax_numbers : (rules : Rules) (poller au b : ℕ) (bytes : List ℕ)
    → HasEvidence rules poller (with_lax_numbers au b bytes) → ⊥
unfolding opening_of
lax_numbers rules poller au b bytes has =
    let e = has 4 _ _ refl refl in
    let same : record {
      au = au;
      nonce = [];
      inner = 2 ∷ 3 ∷ [];
      limits = Some (record { quorum = 2; minority = 2 });
      kind = Sha256;
    }
    ≡ e.opening = same_opening e.opened in
    let lawful : ObeyQuorumRule (record { quorum = 2; minority = 2 }) = subst
    (λ o. ObeyQuorumRule (limits_of rules o)) (sym same) e.lawful in
    absurd cc

-- nor has one in which a voter is counted twice
doubled : (rules : Rules) (poller : ℕ) (journal : List Record) (r : Repair) (o : Opening) (d : Vote)
    → opening_of r.number journal ≡ Some o
    → 1 < length (votes_behind journal r o)
    → (get_or (votes_behind journal r o) 0 d).voter ≡ (get_or (votes_behind journal r o) 1 d).voter
    → Evidence rules poller journal r → ⊥
doubled rules poller journal r o d opened two same_voter e =
    let same : o ≡ e.opening = same_opening (sym opened ∙ e.opened) in
    let distinct = subst (λ x. AreDistinct (votes_behind journal r x)) (sym same) e.distinct in
    distinct 0 1 d (omega arith) two same_voter

pub one_voter : (rules : Rules) (poller au b : ℕ) (bytes : List ℕ)
    → HasEvidence rules poller (with_one_voter au b bytes) → ⊥
unfolding opening_of inner_votes votes has_member
one_voter rules poller au b bytes has =
    doubled rules poller _ _ _
    (record { voter = 2; hashes = [] }) refl (omega arith) refl
    (has 4 _ _ refl refl)

pub later_votes : (rules : Rules) (poller au b : ℕ) (bytes : List ℕ)
    → HasEvidence rules poller (with_later_votes au b bytes) → ⊥
unfolding opening_of inner_votes votes has_member
later_votes rules poller au b bytes has = wanting rules poller _ _ _ refl (omega arith) (has 2 _ _ refl refl)

pub strange_vote : (rules : Rules) (hashes : List (List ℕ)) → AreLinked (with_strange_vote rules hashes) → ⊥
unfolding peer_at hashes_of_vote
strange_vote rules hashes linked =
    let voted = (linked.journals 0 _ refl).counted 1
    (record { voter = 2; hashes = hashes }) (peer_of rules 2 [])
    (record { place = 0; item = VoteIn 1 2 hashes; there = refl; said = refl }) refl in
    absurd cc

pub strange_bytes : (rules : Rules) → AreLinked (with_strange_bytes rules) → ⊥
unfolding peer_at decode_of heading_at
strange_bytes rules linked = let told = linked.envelopes 0 _ _ refl refl in let spelled = told.spelled in absurd cc

pub no_envelope : (plan : Plan) → IsHistory plan with_no_envelope → ⊥
unfolding start
no_envelope plan is = let sent = is.may.0.0 in absurd (omega (arith, sent))
