-- Reference lists and circles are samples.
use Rattle.std.proofs.Common.{◌≡◌, ◌≢◌, ◌≤◌, ◌∙◌, inl, inr, sym, subst, ℕ, Bool, true, false, cond, not}
use Rattle.std.proofs.Common.{List, [], ◌∷◌, ◌++◌, length, refl, arith}
use Rattle.std.specs.Prelude.{Option, Some, None, ◌&&◌, nat_le, All, AllPairs}
use Rattle.std.specs.List.{filter_map, cons_option}
use Rattle.std.proofs.lemmas.Bool.{not-true, eqb-false}
use Rattle.std.proofs.lemmas.List.{append-nil, append_assoc, take-append-le, take_at}
use Rattle.std.proofs.lemmas.List.Elements.{All-nil, All-cons, All-weaker, All-contains}
use Rattle.std.proofs.lemmas.List.Quantifiers.{all_pairs_push}
use Rattle.lks_base.proofs.PlanLaws.{no_first, no_second, stands, fifth}
use Rattle.lks_base.specs.Checking.{unless, ◌▹◌, each, is_within, has_member}
use Rattle.lks_base.specs.Checking.{member_fault, peer_fault, bytes_of_peers, plan_fault}
use Rattle.lks_base.specs.declared.messages.Message.{Message}
use Rattle.lks_base.specs.declared.messages.Message.TheVariants as message
use Rattle.lks_base.specs.declared.names.Judged.{Judged}
use Rattle.lks_base.specs.declared.plans.AuPlan.{AuPlan}
use Rattle.lks_base.specs.declared.plans.PeerPlan.{PeerPlan}
use Rattle.lks_base.specs.declared.plans.Plan.{Plan}
use Rattle.lks_base.specs.declared.plans.PlanFault.{PlanFault}
use Rattle.lks_base.specs.declared.plans.PlanFault.TheVariants.{Bounds}
use Rattle.lks_base.specs.declared.reactions.Input.{Input}
use Rattle.lks_base.specs.declared.reactions.Input.TheVariants as input
use Rattle.lks_base.specs.declared.reactions.Reaction.{Reaction}
use Rattle.lks_base.specs.declared.records.Record.{Record}
use Rattle.lks_base.specs.declared.records.Record.TheVariants as records
use Rattle.lks_draw.proofs.Picking.{pick_law}
use Rattle.lks_draw.proofs.Places.{word_fits}
use Rattle.lks_draw.specs.Picks.{IsPickOf}
use Rattle.lks_draw.specs.Words.{drawn_from}
use Rattle.lks_law.specs.Circles.{IsSample, IsCircle, HaveCircles}
use Rattle.lks_law.specs.Journal.{Opening, Request, unanswered_request, agreed_in, opening_of}
use Rattle.lks_law.specs.Journal.{is_voting, is_widened}
use Rattle.lks_law.specs.Polls.{Station, verdict_in, restores}
use Rattle.lks_law.specs.Reaction.{no_effect, for_opening, may_open, on_open, invites_outer, on_widen}
use Rattle.lks_law.specs.Reaction.{is_inquorate, ends_voting, on_shut, may_tally, closes_poll}
use Rattle.lks_law.specs.Reaction.{asks_supplier, follows_verdict, on_tally, must_note, overdue_in, on_check}
use Rattle.lks_law.specs.Reaction.{asked_again, on_nudge, given_up, on_give_up, may_prove}
use Rattle.lks_law.specs.Reaction.{sends_proof, on_challenge, may_nominate, notes_nominees, on_nominate}
use Rattle.lks_law.specs.Reaction.{may_vote, counts_vote, on_vote, takes_repair, on_repair}
use Rattle.lks_law.specs.References.{list_agreed, list_if, list_with, list_from}
use Rattle.lks_law.specs.References.{reference_list, inner_circle, outer_circle}
use Rattle.lks_law.specs.Table.{reaction, on_message}
use Rattle.lks_law.proofs.Grown.{last_or_before}
use Rattle.lks_choice.proofs.Filling.{circle_law}
use Rattle.lks_choice.proofs.Members.{absent_apart, list_after_kept}
use Rattle.lks_choice.specs.Circles.{circle_of}
use Rattle.lks_choice.specs.Lists.{IsReferenceList}
use Rattle.lks_tally.specs.declared.ballots.Verdict.{Verdict}
use Rattle.lks_tally.specs.declared.ballots.Verdict.TheVariants as verdict
use Rattle.lks_law.specs.Voting.{poll_named, draw_number, nominees}
use Rattle.lks_base.specs.declared.limits.TheConstants.{MOST_NOMINEES}
use Rattle.lks_base.specs.declared.names.PollName.{PollName}
use Rattle.lks_law.proofs.VoterAdds.{IsVoters, VoterAdds, invitation_adds, proof_adds, work_adds, request_adds}
use Rattle.lks_law.proofs.VoterAdds.{end_adds, tune_adds}

-- The reference list.

list_with_kept : (own : Station) (before : List Record) (list : List ℕ) (r : Record) → IsReferenceList own.id list
    → IsReferenceList own.id (list_with own before list r)
unfolding list_with
list_with_kept own before list r is = by_number (agreed_in r)
  where
    by_opening : (n : ℕ) (o : Option Opening) → IsReferenceList own.id (list_agreed own before list n o)
    by_opening n None = is
    by_opening n (Some o) = list_after_kept own.id list _ _ _ is

    by_number : (n : Option ℕ) → IsReferenceList own.id (list_if own before list n)
    by_number None = is
    by_number (Some n) = by_opening n (opening_of n before)

list_from_kept : (own : Station) (before : List Record) (list : List ℕ) (js : List Record)
    → IsReferenceList own.id list → IsReferenceList own.id (list_from own before list js)
list_from_kept own before list [] is = is
list_from_kept own before list (r ∷ rs) is =
    list_from_kept own _ (list_with own before list r) rs (list_with_kept own before list r is)

pub list_kept : (own : Station) (js : List Record) → IsReferenceList own.id own.refs
    → IsReferenceList own.id (reference_list own js)
unfolding reference_list
list_kept own js is = list_from_kept own [] own.refs js is

-- The circles.

inner_pick : (own : Station) (n : ℕ) (js : List Record)
    → IsPickOf (reference_list own js) own.rules.inner (inner_circle own n js)
unfolding inner_circle
inner_pick own n js = let d = drawn_from own.seed 1 n in pick_law _ (word_fits d.key) d.place _ own.rules.inner

pub few_inner : (own : Station) (n : ℕ) (js : List Record) → length (inner_circle own n js) ≤ own.rules.inner
few_inner own n js = let pick = inner_pick own n js in omega (arith, pick.count)

pub few_nominees : (own : Station) (refs : List ℕ) (q : PollName) → length (nominees own refs q) ≤ MOST_NOMINEES
unfolding nominees
few_nominees own refs q =
    let d = drawn_from own.seed 5 (draw_number q) in
    let pick = pick_law _ (word_fits d.key) d.place refs MOST_NOMINEES in
    omega (arith, pick.count)

pub inner_sample : (own : Station) (n : ℕ) (js : List Record) → IsReferenceList own.id own.refs
    → IsSample own.id own.rules.inner (inner_circle own n js)
inner_sample own n js is =
    let list = list_kept own js is in
    let pick = inner_pick own n js in
    record {
      few = few_inner own n js;
      once = pick.once list.once;
      others =
          All-weaker _ _ (λ p here. All-contains (λ q. q ≢ own.id) _ p list.others here) _ pick.members;
    }

pub outer_sample : (own : Station) (n : ℕ) (o : Opening) (js : List Record)
    → IsSample own.id own.rules.outer (outer_circle own n o js)
    × All (λ p. has_member o.inner p ≡ false) (outer_circle own n o js)
unfolding outer_circle has_member
outer_sample own n o js =
    let law = circle_law _ own.id o.inner _ own.rules.outer
    (circle_of _ own.id o.inner _ own.rules.outer).peers refl in
    (record { few = law.few; once = law.once; others = law.others }, law.not_inner)

-- Each rule adds such circles alone.

abbrev pub Adds : Station → List Record → List Record → Type 0
Adds own js [] = Unit {0}
Adds own js (r ∷ rs) = IsCircle own js r × Adds own (js ++ r ∷ []) rs

circle_more : (own : Station) (js : List Record) (r : Record) → HaveCircles own js → IsCircle own js r
    → HaveCircles own (js ++ r ∷ [])
circle_more own js r has last i x at = elim (last_or_before js r i x at) [
  | inl before ↦ let low =
      before.0 in
      subst (λ front. IsCircle own front x) (sym (take-append-le i js _ (omega (arith, low)))) (has i x before.1)
  | inr here ↦ let place =
      here.0 in
      subst (λ front. IsCircle own front x) (sym (take_at js _ i (sym place))) (subst (IsCircle own js) here.1 last)
]

pub circles_more : (own : Station) (js added : List Record) → HaveCircles own js → Adds own js added
    → HaveCircles own (js ++ added)
circles_more own js [] has adds = subst (HaveCircles own) (sym (append-nil js)) has
circles_more own js (r ∷ rs) has adds =
    subst (HaveCircles own) (append_assoc js _ rs) (circles_more own _ rs (circle_more own js r has adds.0) adds.1)

module _ (own : Station) (js : List Record) where
  if_adds : (b : Bool) (r : Reaction) → Adds own js r.records → Adds own js (cond b r no_effect).records
  if_adds true r adds = adds
  if_adds false r adds = tt

  either_adds : (b : Bool) (r s : Reaction) → Adds own js r.records → Adds own js s.records
      → Adds own js (cond b r s).records
  either_adds true r s p q = p
  either_adds false r s p q = q

  at_opening : (o : Option Opening) (f : Opening → Reaction)
      → ((x : Opening) → o ≡ Some x → Adds own js (f x).records) → Adds own js (for_opening o f).records
  at_opening None f adds = tt
  at_opening (Some x) f adds = adds x refl

  pub open_adds : (tick au : ℕ) → IsReferenceList own.id own.refs → Adds own js (on_open own js tick au).records
  unfolding on_open
  open_adds tick au is = if_adds (may_open own js tick au) _ (inner_sample own _ js is, tt)

  widen_adds : (n : ℕ) → Adds own js (on_widen own js n).records
  unfolding on_widen
  widen_adds n =
      if_adds _ _ (at_opening _ (invites_outer own js n) (λ o opened.
      let sample = outer_sample own n o js in (
        (
          sample.0,
          λ x is. let same : o ≡ x = same_opening (sym opened ∙ is) in
              subst (λ y. All (λ p. has_member y.inner p ≡ false) (outer_circle own n o js)) same sample.1,
        ),
        tt,
      )))
    where
      same_opening : {o x : Opening} → Some o ≡ Some x → o ≡ x
      same_opening e = cc

  shut_adds : (tick n : ℕ) → Adds own js (on_shut own js tick n).records
  unfolding on_shut
  shut_adds tick n =
      if_adds (is_voting n js) (for_opening (opening_of n js) (ends_voting own js tick n))
      (at_opening _ (ends_voting own js tick n) (λ o opened.
      either_adds (is_inquorate own n o js) _ _ (tt, (tt, tt)) (tt, tt)))

  asked_adds : (tick n b : ℕ) (v : Option ℕ) → Adds own js (asks_supplier js tick n b v).records
  unfolding closes_poll
  asked_adds tick n b None = (tt, tt)
  asked_adds tick n b (Some v) = (tt, tt)

  tallied_adds : (tick n : ℕ) (o : Opening) (v : Verdict) → Adds own js (follows_verdict own js tick n o v).records
  unfolding closes_poll
  tallied_adds tick n o verdict.Inquorate = tt
  tallied_adds tick n o verdict.Agreed = (tt, tt)
  tallied_adds tick n o (verdict.Split b) = (tt, tt)
  tallied_adds tick n o (verdict.Loss b) = asked_adds tick n b _

  tally_adds : (tick n : ℕ) → Adds own js (on_tally own js tick n).records
  unfolding on_tally
  tally_adds tick n =
      if_adds (may_tally n js) _ (at_opening _ _ (λ o opened. tallied_adds tick n o (verdict_in own n o js)))

  nudge_adds : (n : ℕ) → Adds own js (on_nudge js n).records
  unfolding on_nudge
  nudge_adds n = either_adds _ _ _ (at_opening (opening_of n js) _ _) (by_request (unanswered_request n js))
    where
      by_request : (r : Option Request) → Adds own js (asked_again n r).records
      by_request None = tt
      by_request (Some r) = tt

  give_up_adds : (n : ℕ) → Adds own js (on_give_up js n).records
  unfolding on_give_up
  give_up_adds n = by_request (unanswered_request n js)
    where
      by_request : (r : Option Request) → Adds own js (given_up n r).records
      by_request None = tt
      by_request (Some r) = (tt, tt)

  voter_circle : (r : Record) → IsVoters r → IsCircle own js r
  voter_circle (records.Joined poll au tick low repairs) is = tt
  voter_circle (records.Committed poll nonce version kind) is = tt
  voter_circle (records.Voted poll hashes) is = tt
  voter_circle (records.Served poll block) is = tt
  voter_circle (records.Ended poll) is = tt
  voter_circle (records.Tuned quorum minority repairs) is = tt
  voter_circle r is = absurd is

  pub voter_adds : (rs : List Record) → VoterAdds js rs → Adds own js rs
  voter_adds [] may = tt
  voter_adds (r ∷ []) may = (voter_circle r may.voters, tt)
  voter_adds (r ∷ s ∷ rs) may = absurd may

  message_adds : (tick from : ℕ) (m : Message) (judged : Judged)
      → Adds own js (on_message own js tick from m judged).records
  unfolding on_challenge on_nominate on_vote on_repair
  message_adds tick from (message.PollChallenge n agrees) judged =
      if_adds (agrees && is_voting n js) (for_opening (opening_of n js) (sends_proof own js from n))
      (at_opening _ (sends_proof own js from n) (λ o opened. if_adds (may_prove js from n o) _ tt))
  message_adds tick from (message.Nominate n nominees) judged =
      if_adds (is_voting n js && not (is_widened n js))
      (for_opening (opening_of n js) (notes_nominees js from n nominees)) (at_opening (opening_of n js) _
      (λ o opened. if_adds (may_nominate js from n o) _ (tt, tt)))
  message_adds tick from (message.Vote n hashes proof) judged =
      if_adds _ _ (at_opening (opening_of n js) (counts_vote js from n hashes)
      (λ o opened. if_adds (may_vote js from n _ o) _ (tt, tt)))
  message_adds tick from (message.Repair n b bytes) judged =
      if_adds _ _ (at_opening (opening_of n js) (takes_repair own js from n b bytes)
      (λ o opened. either_adds (restores own n o b bytes js) _ _ (tt, tt) (tt, tt)))
  message_adds tick from (message.Poll n au) judged = voter_adds _ (invitation_adds own js tick (poll_named from n) au)
  message_adds tick from (message.PollProof n nonce kind proof) judged =
      voter_adds _ (proof_adds own js _ nonce kind judged)
  message_adds tick from (message.RepairRequest n b) judged = voter_adds _ (request_adds own js (poll_named from n) b)
  message_adds tick from (message.Receipt n) judged = voter_adds _ (end_adds own js (poll_named from n))

noted_add : (own : Station) (all js : List Record) (tick : ℕ) (aus : List AuPlan)
    → Adds own js (filter_map (overdue_in own all tick) aus)
noted_add own all js tick [] = tt
noted_add own all js tick (au ∷ aus) = first (must_note own all tick au.id) (λ later. noted_add own all later tick aus)
  where
    first : (b : Bool) → ((later : List Record) → Adds own later (filter_map (overdue_in own all tick) aus))
        → Adds own js
        (cons_option (cond b (Some (records.Overdue au.id tick)) None)
        (filter_map (overdue_in own all tick) aus))
    first true rest = (tt, rest _)
    first false rest = rest js

pub reaction_adds : (own : Station) (js : List Record) (tick : ℕ) (i : Input) → IsReferenceList own.id own.refs
    → Adds own js (reaction own js tick i).records
unfolding reaction on_check
reaction_adds own js tick (input.OpenPoll au) is = open_adds own js tick au is
reaction_adds own js tick (input.Widen n) is = widen_adds own js n
reaction_adds own js tick (input.Shut n) is = shut_adds own js tick n
reaction_adds own js tick (input.Tally n) is = tally_adds own js tick n
reaction_adds own js tick (input.Nudge n) is = nudge_adds own js n
reaction_adds own js tick (input.GiveUp n) is = give_up_adds own js n
reaction_adds own js tick input.Check is = noted_add own js js tick own.aus
reaction_adds own js tick (input.Got from m judged) is = message_adds own js tick from m judged
reaction_adds own js tick (input.Work q) is = voter_adds own js _ (work_adds own js q)
reaction_adds own js tick (input.Expire q) is = voter_adds own js _ (end_adds own js q)
reaction_adds own js tick (input.Tune quorum minority repairs) is =
    voter_adds own js _ (tune_adds own js quorum minority repairs)

-- The lists of a good plan.

each_all : {X : Type 0} (rule : List X → X → Option PlanFault) (P : X → Type 0)
    → ((before : List X) (x : X) → rule before x ≡ None → P x)
    → (before xs : List X) → each rule before xs ≡ None → All P xs
each_all rule P holds before [] e = All-nil P
each_all rule P holds before (x ∷ xs) e =
    All-cons P x xs (holds before x (no_first _ _ e)) (each_all rule P holds _ xs (no_second (rule before x) _ e))

listed_other : (peers : List PeerPlan) (own : ℕ) (before : List ℕ) (x : ℕ) → member_fault peers own before x ≡ None
    → x ≢ own
unfolding member_fault
listed_other peers own before x e = eqb-false x own (not-true _ (stands _ _ (no_first _ _ e)))

listed_new : (peers : List PeerPlan) (own : ℕ) (before : List ℕ) (x : ℕ) → member_fault peers own before x ≡ None
    → has_member before x ≡ false
unfolding member_fault
listed_new peers own before x e = not-true _ (stands _ _ (no_second _ _ (no_second _ _ e)))

listed_once : (peers : List PeerPlan) (own : ℕ) (before xs : List ℕ)
    → each (member_fault peers own) before xs ≡ None → AllPairs ◌≢◌ before → AllPairs ◌≢◌ (before ++ xs)
unfolding has_member
listed_once peers own before [] e once = subst (AllPairs ◌≢◌) (sym (append-nil before)) once
listed_once peers own before (x ∷ xs) e once =
    let first = no_first _ _ e in
    let rest = no_second _ (each (member_fault peers own) (before ++ x ∷ []) xs) e in
    subst (AllPairs ◌≢◌) (append_assoc before _ xs)
    (listed_once peers own _ xs rest
    (all_pairs_push ◌≢◌ before x once (absent_apart before x (listed_new peers own before x first))))

listed : (peers : List PeerPlan) (own : ℕ) (refs : List ℕ) → each (member_fault peers own) [] refs ≡ None
    → IsReferenceList own refs
listed peers own refs e = record {
  once = listed_once peers own [] refs e (λ i j d low high. absurd (omega arith));
  others = each_all _ _ (listed_other peers own) [] refs e;
}

peer_listed : (aus : List AuPlan) (peers before : List PeerPlan) (p : PeerPlan)
    → peer_fault aus peers before p ≡ None → IsReferenceList p.id p.refs
unfolding peer_fault
peer_listed aus peers before p e = listed peers p.id p.refs (no_first _ _ (no_second _ _ (no_second _ _ e)))

seventh : (a b c d e f g h : Option PlanFault) → (a ▹ b ▹ c ▹ d ▹ e ▹ f ▹ g ▹ h) ≡ None → g ≡ None
seventh a b c d e f g h none = no_first g h (no_second f _ (no_second e _ (fifth a b c d _ none)))

-- each peer of a good plan has a reference list
pub peers_listed : (plan : Plan) → plan_fault plan ≡ None → All (λ p. IsReferenceList p.id p.refs) plan.peers
unfolding plan_fault
peers_listed plan good =
    each_all _ _ (peer_listed plan.aus plan.peers)
    [] plan.peers (seventh _ _ (unless (nat_le plan.turns 4096) Bounds)
    (unless (is_within 1 4 (length plan.aus)) Bounds) _ _ (each (peer_fault plan.aus plan.peers) [] plan.peers)
    (unless (nat_le (bytes_of_peers plan.peers) 134217728) Bounds) good)
