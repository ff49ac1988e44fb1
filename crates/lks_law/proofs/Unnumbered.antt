-- Journals that were begun before numbers could be tuned: which of their records lack numbers, and what these keep.
use Rattle.std.proofs.Common.{◌≡◌, ◌+◌, ◌∙◌, ◌⊎◌, inl, inr, ap, sym, subst, ℕ, Bool, true, false, cond, List, [], ◌∷◌}
use Rattle.std.proofs.Common.{◌++◌, refl}
use Rattle.std.specs.Prelude.{Option, Some, None, unwrap_or, map, not, ◌&&◌}
use Rattle.std.specs.List.{filter_map, cons_option}
use Rattle.lks_base.specs.declared.messages.Message.{Message}
use Rattle.lks_base.specs.declared.messages.Message.TheVariants as message
use Rattle.lks_base.specs.declared.names.HashKind.{HashKind}
use Rattle.lks_base.specs.declared.names.HashKind.TheVariants.{Sha256, Sha512_256}
use Rattle.lks_base.specs.declared.names.Judged.{Judged}
use Rattle.lks_base.specs.declared.plans.AuPlan.{AuPlan}
use Rattle.lks_base.specs.declared.reactions.Input.{Input}
use Rattle.lks_base.specs.declared.reactions.Input.TheVariants as input
use Rattle.lks_base.specs.declared.reactions.Reaction.{Reaction}
use Rattle.lks_base.specs.declared.records.Record.{Record}
use Rattle.lks_base.specs.declared.records.Record.TheVariants as records
use Rattle.lks_law.specs.Facts.{AddsFor, limits_left, unnumbered}
use Rattle.lks_law.specs.Journal.{Opening, Request, opening_of, openings, is_voting, is_widened}
use Rattle.lks_law.specs.Polls.{Station, ObeyQuorumRule, limits_in, limits_in_force, verdict_in, candidate, restores}
use Rattle.lks_law.specs.Reaction.{no_effect, for_opening, may_open, opens_poll, on_open, invites_outer, on_widen}
use Rattle.lks_law.specs.Reaction.{is_inquorate, on_shut, closes_poll}
use Rattle.lks_law.specs.Reaction.{asks_supplier, follows_verdict, on_tally, asked_again, on_nudge}
use Rattle.lks_law.specs.Reaction.{given_up, on_give_up, must_note, overdue_in, on_check, may_prove}
use Rattle.lks_law.specs.Reaction.{on_challenge, may_nominate, on_nominate, may_vote}
use Rattle.lks_law.specs.Reaction.{on_vote, on_repair}
use Rattle.lks_law.specs.Table.{on_message, reaction}
use Rattle.lks_law.proofs.Kept.{Kept}
use Rattle.lks_law.proofs.Openings.{kept_opened, kept_on_open, free_of}
use Rattle.lks_law.proofs.Rows.{KeptBy, kept_nothing}
use Rattle.lks_law.proofs.Samples.{Adds, inner_sample, open_adds, voter_adds}
use Rattle.lks_choice.specs.Lists.{IsReferenceList}
use Rattle.lks_tally.specs.declared.ballots.Verdict.{Verdict}
use Rattle.lks_tally.specs.declared.ballots.Verdict.TheVariants as verdict
use Rattle.lks_law.proofs.KeptVoters.{kept_voters}
use Rattle.lks_law.proofs.VoterAdds.{VoterAdds, unnumbered_adds, invitation_adds, proof_adds, work_adds, request_adds}
use Rattle.lks_law.proofs.VoterAdds.{end_adds, tune_adds}

-- none of the records has numbers to lack
abbrev pub Same : Reaction → Type 0
Same r = map unnumbered r.records ≡ r.records

if_same : (b : Bool) (r s : Reaction) → Same r → Same s → Same (cond b r s)
if_same true r s first second = first
if_same false r s first second = second

opening_same : (o : Option Opening) (f : Opening → Reaction) → ((x : Opening) → Same (f x)) → Same (for_opening o f)
opening_same None f same = refl
opening_same (Some x) f same = same x

-- a message to a poller
abbrev pub IsPollers : Message → Type 0
IsPollers (message.PollChallenge n agrees) = Unit {0}
IsPollers (message.Nominate n nominees) = Unit {0}
IsPollers (message.Vote n hashes proof) = Unit {0}
IsPollers (message.Repair n b bytes) = Unit {0}
IsPollers m = ⊥

module _ (own : Station) (js : List Record) where
  widen_same : (n : ℕ) → Same (on_widen own js n)
  unfolding on_widen
  widen_same n =
      if_same (is_voting n js && not (is_widened n js)) _ no_effect
      (opening_same (opening_of n js) (invites_outer own js n) (λ o. refl)) refl

  shut_same : (tick n : ℕ) → Same (on_shut own js tick n)
  unfolding on_shut
  shut_same tick n =
      if_same _ _ no_effect (opening_same _ _ (λ o. if_same (is_inquorate own n o js) _ _ refl refl)) refl

  tallied_same : (tick n : ℕ) (o : Opening) (v : Verdict) → Same (follows_verdict own js tick n o v)
  unfolding closes_poll
  tallied_same tick n o verdict.Inquorate = refl
  tallied_same tick n o verdict.Agreed = refl
  tallied_same tick n o (verdict.Split b) = refl
  tallied_same tick n o (verdict.Loss b) = by_candidate (candidate own n o b js)
    where
      by_candidate : (v : Option ℕ) → Same (asks_supplier js tick n b v)
      by_candidate None = refl
      by_candidate (Some v) = refl

  tally_same : (tick n : ℕ) → Same (on_tally own js tick n)
  unfolding on_tally
  tally_same tick n =
      if_same _ _ no_effect (opening_same _ _ (λ o. tallied_same tick n o (verdict_in own n o js))) refl

  request_same : (n : ℕ) (r : Option Request) → Same (asked_again n r) × Same (given_up n r)
  request_same n None = (refl, refl)
  request_same n (Some r) = (refl, refl)

  nudge_same : (n : ℕ) → Same (on_nudge js n)
  unfolding on_nudge
  nudge_same n = if_same _ _ _ (opening_same (opening_of n js) _ (λ o. refl)) (request_same n _).0

  give_up_same : (n : ℕ) → Same (on_give_up js n)
  unfolding on_give_up
  give_up_same n = (request_same n _).1

  noted_same : (tick : ℕ) (aus : List AuPlan)
      → map unnumbered (filter_map (overdue_in own js tick) aus) ≡ filter_map (overdue_in own js tick) aus
  noted_same tick [] = refl
  noted_same tick (au ∷ aus) = first (must_note own js tick au.id) (noted_same tick aus)
    where
      first : (b : Bool)
          → map unnumbered (filter_map (overdue_in own js tick) aus) ≡ filter_map (overdue_in own js tick) aus
          → map unnumbered
          (cons_option (cond b (Some (records.Overdue au.id tick)) None)
          (filter_map (overdue_in own js tick) aus))
          ≡ cons_option (cond b (Some (records.Overdue au.id tick)) None)
          (filter_map (overdue_in own js tick) aus)
      first true rest = ap (λ (rs : List Record). records.Overdue au.id tick ∷ rs) rest
      first false rest = rest

  message_same : (tick from : ℕ) (m : Message) (judged : Judged) → IsPollers m
      → Same (on_message own js tick from m judged)
  unfolding on_challenge on_nominate on_vote on_repair
  message_same tick from (message.PollChallenge n agrees) judged is =
      if_same _ _ no_effect (opening_same _ _ (λ o. if_same (may_prove js from n o) _ no_effect refl refl)) refl
  message_same tick from (message.Nominate n nominees) judged is =
      if_same _ _ no_effect (opening_same _ _ (λ o. if_same (may_nominate js from n o) _ no_effect refl refl)) refl
  message_same tick from (message.Vote n hashes proof) judged is =
      if_same _ _ no_effect (opening_same _ _ (λ o. if_same (may_vote js from n _ o) _ no_effect refl refl)) refl
  message_same tick from (message.Repair n b bytes) judged is =
      if_same _ _ no_effect (opening_same _ _ (λ o. if_same (restores own n o b bytes js) _ _ refl refl)) refl
  message_same tick from m judged is = absurd is

  -- what is added for anything but an opening is what the rules say
  pub records_are : (tick : ℕ) (i : Input) (added : List Record) → Same (reaction own js tick i)
      → AddsFor own js (record { tick = tick; input = i }) added
      → added ≡ (reaction own js tick i).records
  records_are tick i added same (inl is) = is
  records_are tick i added same (inr lacks) = lacks.1 ∙ same

  -- an opening may lack its numbers, which keeps all the same
  opens_kept : (tick au : ℕ) (added : List Record)
      → AddsFor own js (record { tick = tick; input = input.OpenPoll au }) added → Kept own js
      → Kept own (js ++ added)
  unfolding reaction on_open
  opens_kept tick au added (inl is) kept =
      subst (λ (rs : List Record). Kept own (js ++ rs)) (sym is) (kept_on_open own js tick au kept)
  opens_kept tick au added (inr lacks) kept =
      subst (λ (rs : List Record). Kept own (js ++ rs)) (sym lacks.1) (by_test (may_open own js tick au) refl)
    where
      by_kind : (kind : HashKind) → ObeyQuorumRule (limits_in own.rules) → ObeyQuorumRule (limits_in_force own.rules js)
          → ObeyQuorumRule (unwrap_or (limits_left kind (Some (limits_in_force own.rules js))) (limits_in own.rules))
      by_kind Sha256 rule in_force = rule
      by_kind Sha512_256 rule in_force = in_force

      by_test : (b : Bool) → may_open own js tick au ≡ b
          → Kept own (js ++ map unnumbered (cond b (opens_poll own js tick au (openings js + 1)) no_effect).records)
      by_test true may = kept_opened own js _ tick _ kept refl (free_of own js tick au may) (by_kind own.hash)
      by_test false may = kept_nothing own js kept

  opens_add : (tick au : ℕ) (added : List Record) → IsReferenceList own.id own.refs
      → AddsFor own js (record { tick = tick; input = input.OpenPoll au }) added → Adds own js added
  unfolding reaction on_open
  opens_add tick au added listed (inl is) = subst (Adds own js) (sym is) (open_adds own js tick au listed)
  opens_add tick au added listed (inr lacks) = subst (Adds own js) (sym lacks.1) (by_test (may_open own js tick au))
    where
      by_test : (b : Bool)
          → Adds own js (map unnumbered (cond b (opens_poll own js tick au (openings js + 1)) no_effect).records)
      by_test true = (inner_sample own _ js listed, tt)
      by_test false = tt

-- what a poller does or is told, but for an opening
abbrev pub IsOther : Input → Type 0
IsOther (input.Widen n) = Unit {0}
IsOther (input.Shut n) = Unit {0}
IsOther (input.Tally n) = Unit {0}
IsOther (input.Nudge n) = Unit {0}
IsOther (input.GiveUp n) = Unit {0}
IsOther input.Check = Unit {0}
IsOther (input.Got from m judged) = IsPollers m
IsOther i = ⊥

pub other_same : (own : Station) (js : List Record) (tick : ℕ) (i : Input) → IsOther i → Same (reaction own js tick i)
unfolding reaction on_check
other_same own js tick (input.Widen n) other = widen_same own js n
other_same own js tick (input.Shut n) other = shut_same own js tick n
other_same own js tick (input.Tally n) other = tally_same own js tick n
other_same own js tick (input.Nudge n) other = nudge_same own js n
other_same own js tick (input.GiveUp n) other = give_up_same own js n
other_same own js tick input.Check other = noted_same own js tick own.aus
other_same own js tick (input.Got from m judged) other = message_same own js tick from m judged other
other_same own js tick i other = absurd other

-- An opening, what a poller does or is told else, or what a voter does or is told.

abbrev pub Half : Station → List Record → ℕ → Input → Type 0
Half own js tick i = ((au : ℕ) × (i ≡ input.OpenPoll au)) ⊎ IsOther i ⊎ VoterAdds js (reaction own js tick i).records

pub half : (own : Station) (js : List Record) (tick : ℕ) (i : Input) → Half own js tick i
unfolding reaction
half own js tick (input.OpenPoll au) = inl (au, refl)
half own js tick (input.Widen n) = inr (inl tt)
half own js tick (input.Shut n) = inr (inl tt)
half own js tick (input.Tally n) = inr (inl tt)
half own js tick (input.Nudge n) = inr (inl tt)
half own js tick (input.GiveUp n) = inr (inl tt)
half own js tick input.Check = inr (inl tt)
half own js tick (input.Work q) = inr (inr (work_adds own js q))
half own js tick (input.Expire q) = inr (inr (end_adds own js q))
half own js tick (input.Tune quorum minority repairs) = inr (inr (tune_adds own js quorum minority repairs))
half own js tick (input.Got from (message.Poll n au) judged) = inr (inr (invitation_adds own js tick _ au))
half own js tick (input.Got from (message.PollChallenge n agrees) judged) = inr (inl tt)
half own js tick (input.Got from (message.PollProof n nonce kind proof) judged) =
    inr (inr (proof_adds own js _ nonce kind judged))
half own js tick (input.Got from (message.Nominate n nominees) judged) = inr (inl tt)
half own js tick (input.Got from (message.Vote n hashes proof) judged) = inr (inl tt)
half own js tick (input.Got from (message.RepairRequest n b) judged) = inr (inr (request_adds own js _ b))
half own js tick (input.Got from (message.Repair n b bytes) judged) = inr (inl tt)
half own js tick (input.Got from (message.Receipt n) judged) = inr (inr (end_adds own js _))

-- whatever is added, with its numbers or without, keeps what the rules keep, and its circles are samples
module _ (own : Station) (js : List Record) (tick : ℕ) (i : Input) (added : List Record)
    (adds : AddsFor own js (record { tick = tick; input = i }) added) where
  -- what is added by a voter is still such without its numbers
  voters_added : VoterAdds js (reaction own js tick i).records → VoterAdds js added
  voters_added may = elim adds [
    | inl is ↦ subst (VoterAdds js) (sym is) may
    | inr lacks ↦ subst (VoterAdds js) (sym lacks.1) (unnumbered_adds js _ may)
  ]

  pub adds_kept : KeptBy own js (reaction own js tick i) → Kept own js → Kept own (js ++ added)
  adds_kept by kept = elim (half own js tick i) [
    | inl (au, opens)
        ↦ opens_kept own js tick au added
        (subst (λ i. AddsFor own js (record { tick = tick; input = i }) added) opens adds) kept
    | inr (inl other)
        ↦ subst (λ (rs : List Record). Kept own (js ++ rs))
        (sym (records_are own js tick i added (other_same own js tick i other) adds)) by
    | inr (inr may) ↦ kept_voters own js kept added (voters_added may)
  ]

  pub adds_circles : Adds own js (reaction own js tick i).records → IsReferenceList own.id own.refs → Adds own js added
  adds_circles by listed = elim (half own js tick i) [
    | inl (au, opens)
        ↦ opens_add own js tick au added listed
        (subst (λ i. AddsFor own js (record { tick = tick; input = i }) added) opens adds)
    | inr (inl other)
        ↦ subst (Adds own js) (sym (records_are own js tick i added (other_same own js tick i other) adds)) by
    | inr (inr may) ↦ voter_adds own js added (voters_added may)
  ]
