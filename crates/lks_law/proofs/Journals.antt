-- What holds of every journal, and in every world.
use Rattle.std.proofs.Common.{◌≡◌, ◌≢◌, ◌≤◌, ◌+◌, ◌∙◌, ◌⊎◌, inl, inr, ap, sym, subst, ℕ, zero, suc, Bool, true, false}
use Rattle.std.proofs.Common.{cond, eqb, List, [], ◌∷◌, ◌++◌, length, filter, refl, arith}
use Rattle.std.specs.Prelude.{Option, Some, None, IfSome, Result, Ok, Err, slice_get, option_map, ◌&&◌}
use Rattle.std.specs.List.{list_all, filter_map, cons_option, range_with_len}
use Rattle.std.proofs.lemmas.List.{length-map}
use Rattle.std.proofs.lemmas.List.Elements.{All-filter}
use Rattle.std.proofs.lemmas.List.Folds.{list_all-append}
use Rattle.std.proofs.lemmas.Option.{slice_get-map, slice_get_within, get_or_from_slice_get}
use Rattle.lks_base.specs.Checking.{plan_fault}
use Rattle.lks_base.specs.declared.events.Envelope.{Envelope}
use Rattle.lks_base.specs.declared.events.Event.{Event}
use Rattle.lks_base.specs.declared.events.Event.TheVariants.{Step, Cut, Tick, Lose, Forge, Crash}
use Rattle.lks_base.specs.declared.events.PeerStep.{PeerStep}
use Rattle.lks_base.specs.declared.events.PeerStep.TheVariants.{OpenPoll, Widen, Shut, Tally, Nudge, GiveUp, Work}
use Rattle.lks_base.specs.declared.events.PeerStep.TheVariants.{Expire, Check, Tune, Deliver}
use Rattle.lks_base.specs.declared.messages.Message.{Message}
use Rattle.lks_base.specs.declared.messages.Message.TheVariants as message
use Rattle.lks_base.specs.declared.names.Judged.{Judged}
use Rattle.lks_base.specs.declared.plans.AuPlan.{AuPlan}
use Rattle.lks_base.specs.declared.plans.Holding.{Holding}
use Rattle.lks_base.specs.declared.plans.PeerPlan.{PeerPlan}
use Rattle.lks_base.specs.declared.plans.Plan.{Plan}
use Rattle.lks_base.specs.declared.plans.Rules.{Rules}
use Rattle.lks_base.specs.declared.reactions.Input.{Input}
use Rattle.lks_base.specs.declared.reactions.Input.TheVariants as input
use Rattle.lks_base.specs.declared.records.Record.{Record}
use Rattle.lks_base.specs.declared.records.Record.TheVariants.{Deposit}
use Rattle.lks_law.specs.Circles.{IsCircle, HaveCircles, Samples}
use Rattle.lks_law.specs.Facts.{Heard, IsHeard, GoesBy, AreInOrder, IsJournalOf, HasJournal, HaveJournals, HasPolls}
use Rattle.lks_law.specs.Journal.{Opening, said_by, contents_of, opening_of, is_shut, is_closed, has_asked}
use Rattle.lks_law.specs.Journal.{unanswered_request, waiting_requests, openings, opened_numbers}
use Rattle.lks_law.specs.Polls.{Station, ObeyQuorumRule, limits_in, numbers_in_force, limits_in_force, limits_of}
use Rattle.lks_law.specs.Polls.{votes, verdict_in}
use Rattle.lks_law.specs.Reaction.{may_tally}
use Rattle.lks_law.specs.Safe.{HasEvidence}
use Rattle.lks_law.specs.Table.{reaction, on_message}
use Rattle.lks_law.specs.World.{Standing, World, Deed, is_honest, standing_of, deposit_for, deposits, start, got}
use Rattle.lks_law.specs.World.{delivers, own_deed_of, deed_of, peer_at, reaction_at, effect_of, with_records}
use Rattle.lks_law.specs.World.{peers_after, after_step, happens, happen_all, world}
use Rattle.lks_law.specs.Written.{is_deposit}
use Rattle.lks_law.proofs.Kept.{Kept}
use Rattle.lks_law.proofs.Openings.{kept_on_open}
use Rattle.lks_law.proofs.PollStates.{Good, poll_of, blank, good_poll}
use Rattle.lks_law.proofs.Repairs.{kept_on_repair, kept_on_give_up}
use Rattle.lks_law.proofs.Samples.{circles_more, reaction_adds, list_kept, peers_listed}
use Rattle.lks_law.proofs.Unnumbered.{adds_kept, adds_circles}
use Rattle.lks_message.proofs.Within.{read_within}
use Rattle.lks_message.specs.Spelling.{IsWithin}
use Rattle.lks_message.specs.declared.fault.MsgFault.{MsgFault}
use Rattle.lks_choice.specs.Lists.{IsReferenceList}
use Rattle.lks_law.proofs.Rows.{KeptBy, kept_on_challenge, kept_on_nominate, kept_on_vote, kept_on_shut}
use Rattle.lks_law.proofs.Rows.{kept_on_tally, kept_on_widen, kept_on_check, kept_on_nudge, tally_parts}
use Rattle.lks_tally.specs.declared.ballots.Verdict.TheVariants as verdict
use Rattle.lks_tally.proofs.Deciding.{inquorate_votes}
use Rattle.lks_law.proofs.VoterAdds.{invitation_adds, proof_adds, work_adds, request_adds, end_adds, tune_adds}
use Rattle.lks_law.proofs.KeptVoters.{kept_voters}

-- Every reaction.

kept_message : (own : Station) (js : List Record) (tick from : ℕ) (m : Message) (judged : Judged) → Kept own js
    → KeptBy own js (on_message own js tick from m judged)
kept_message own js tick from (message.PollChallenge n agrees) judged kept = kept_on_challenge own js from n agrees kept
kept_message own js tick from (message.Nominate n nominees) judged kept = kept_on_nominate own js from n nominees kept
kept_message own js tick from (message.Vote n hashes proof) judged kept = kept_on_vote own js from n hashes judged kept
kept_message own js tick from (message.Repair n b bytes) judged kept = kept_on_repair own js from n b bytes kept
kept_message own js tick from (message.Poll n au) judged kept =
    kept_voters own js kept _ (invitation_adds own js tick _ au)
kept_message own js tick from (message.PollProof n nonce kind proof) judged kept =
    kept_voters own js kept _ (proof_adds own js _ nonce kind judged)
kept_message own js tick from (message.RepairRequest n b) judged kept =
    kept_voters own js kept _ (request_adds own js _ b)
kept_message own js tick from (message.Receipt n) judged kept = kept_voters own js kept _ (end_adds own js _)

pub kept_reaction : (own : Station) (js : List Record) (tick : ℕ) (i : Input) → Kept own js
    → KeptBy own js (reaction own js tick i)
unfolding reaction
kept_reaction own js tick (input.OpenPoll au) kept = kept_on_open own js tick au kept
kept_reaction own js tick (input.Widen n) kept = kept_on_widen own js n kept
kept_reaction own js tick (input.Shut n) kept = kept_on_shut own js tick n kept
kept_reaction own js tick (input.Tally n) kept = kept_on_tally own js tick n kept
kept_reaction own js tick (input.Nudge n) kept = kept_on_nudge own js n kept
kept_reaction own js tick (input.GiveUp n) kept = kept_on_give_up own js n kept
kept_reaction own js tick input.Check kept = kept_on_check own js tick kept
kept_reaction own js tick (input.Got from m judged) kept = kept_message own js tick from m judged kept
kept_reaction own js tick (input.Work q) kept = kept_voters own js kept _ (work_adds own js q)
kept_reaction own js tick (input.Expire q) kept = kept_voters own js kept _ (end_adds own js q)
kept_reaction own js tick (input.Tune quorum minority repairs) kept =
    kept_voters own js kept _ (tune_adds own js quorum minority repairs)

-- The beginning: deposits alone.

unfoldable pub AreDeposits : List Record → Type 0
AreDeposits js = list_all is_deposit js ≡ true

deposits_say : (n : ℕ) (js : List Record) → AreDeposits js → poll_of n js ≡ blank
unfolding AreDeposits opening_of votes is_shut is_closed has_asked unanswered_request waiting_requests
deposits_say n [] all = refl
deposits_say n (Deposit au blocks ∷ js) all = deposits_say n js all
deposits_say n (r ∷ js) all = absurd cc

none_opened : (js : List Record) → AreDeposits js → opened_numbers js ≡ range_with_len 1 (openings js)
unfolding AreDeposits opened_numbers openings
none_opened js all = let none = nothing_opened js all in none.0 ∙ ap (range_with_len 1) (sym none.1)
  where
    nothing_opened : (rs : List Record) → list_all is_deposit rs ≡ true → (opened_numbers rs ≡ []) × (openings rs ≡ 0)
    nothing_opened [] all = (refl, refl)
    nothing_opened (Deposit au blocks ∷ rs) all = nothing_opened rs all
    nothing_opened (r ∷ rs) all = absurd cc

deposit_at : (js : List Record) → AreDeposits js → (i : ℕ) (r : Record) → slice_get js i ≡ Some r → is_deposit r ≡ true
unfolding AreDeposits
deposit_at [] all i r e = absurd cc
deposit_at (Deposit au blocks ∷ js) all zero r e = let same : Deposit au blocks ≡ r = cc in ap is_deposit (sym same)
deposit_at (Deposit au blocks ∷ js) all (suc i) r e = deposit_at js all i r e
deposit_at (d ∷ js) all i r e = absurd cc

none_replaced : (own : Station) (js : List Record) → AreDeposits js → HasEvidence own.rules own.id js
none_replaced own js all i r x at says = absurd (by_record r (deposit_at js all i r at) says)
  where
    by_record : (r : Record) → is_deposit r ≡ true → (said_by r).replaced ≡ Some x → ⊥
    by_record (Deposit au blocks) is says = absurd cc
    by_record r is says = absurd cc

none_tuned : (rules : Rules) (js : List Record) → AreDeposits js → limits_in_force rules js ≡ limits_in rules
unfolding AreDeposits numbers_in_force
none_tuned rules [] all = refl
none_tuned rules (Deposit au blocks ∷ js) all = none_tuned rules js all
none_tuned rules (r ∷ js) all = absurd cc

good_blank : (own : Station) (n : ℕ) (copy : ℕ → List (List ℕ)) → Good own n copy blank
good_blank own n copy = record {
  unopened = λ e. refl;
  distinct = λ i j d low high. absurd (omega arith);
  quorum = λ o e runs over. absurd cc;
  asked = λ o e asked. absurd cc;
  single = refl;
  runs = λ r waits. absurd cc;
  lost = λ o r e waits. absurd cc;
}

pub kept_deposits : (own : Station) (js : List Record) → AreDeposits js → Kept own js
kept_deposits own js all =
    let none : (n : ℕ) → opening_of n js ≡ None = λ n. ap (λ p. p.opening) (deposits_say n js all) in
    record {
      good = λ n. subst (Good own n _) (sym (deposits_say n js all)) (good_blank own n _);
      rest = record {
        in_order = none_opened js all;
        numbered = λ n o is. absurd (no_opening (opening_of n js) o (none n) is);
        alone = λ m n o p is too runs also au. absurd (no_opening (opening_of m js) o (none m) is);
        lawful = λ rule. record {
          in_force = subst ObeyQuorumRule (sym (none_tuned own.rules js all)) rule;
          opened = λ n o is. absurd (no_opening (opening_of n js) o (none n) is);
        };
        evidence = λ rule. none_replaced own js all;
      };
    }
  where
    no_opening : (o : Option Opening) (x : Opening) → o ≡ None → o ≡ Some x → ⊥
    no_opening o x none some = let both : None ≡ Some x = sym none ∙ some in absurd cc

held_is : (au : AuPlan) (copy : Holding) (b : Bool)
    → list_all is_deposit (cons_option (cond b (Some (Deposit au.id copy.blocks)) None) []) ≡ true
held_is au copy true = refl
held_is au copy false = refl

held_are : (au : AuPlan) (copies : List Holding) → AreDeposits (filter_map (deposit_for au) copies)
unfolding AreDeposits
held_are au [] = refl
held_are au (copy ∷ copies) = first (eqb copy.au au.id) (held_are au copies)
  where
    first : (b : Bool) → list_all is_deposit (filter_map (deposit_for au) copies) ≡ true
        → list_all is_deposit
        (cons_option (cond b (Some (Deposit au.id copy.blocks)) None) (filter_map (deposit_for au) copies))
        ≡ true
    first true rest = rest
    first false rest = rest

pub deposits_are : (aus : List AuPlan) (copies : List Holding) → AreDeposits (deposits aus copies)
unfolding AreDeposits deposits
deposits_are [] copies = refl
deposits_are (au ∷ aus) copies =
    list_all-append is_deposit (filter_map _ copies) _
    ∙ ap (λ b. b && list_all is_deposit (deposits aus copies)) (held_are au copies) ∙ deposits_are aus copies

no_circle : (own : Station) (before : List Record) (r : Record) → is_deposit r ≡ true → IsCircle own before r
no_circle own before (Deposit au blocks) e = tt
no_circle own before r e = absurd cc

deposits_have_circles : (own : Station) (js : List Record) → AreDeposits js → HaveCircles own js
deposits_have_circles own js all i r at = no_circle own _ r (deposit_at js all i r at)

-- Every journal.

kept_journal : (own : Station) (aus : List AuPlan) (copies : List Holding) (heard : List Heard) (js : List Record)
    → GoesBy own (deposits aus copies) heard js → Kept own js
kept_journal own aus copies [] js is = subst (Kept own) (sym is) (kept_deposits own _ (deposits_are aus copies))
kept_journal own aus copies (h ∷ hs) js (before, added, goes, heard, adds, is) =
    let kept = kept_journal own aus copies hs before goes in
    subst (Kept own) (sym is)
    (adds_kept own before h.tick h.input added adds (kept_reaction own before h.tick h.input kept) kept)

kept_of : (own : Station) (aus : List AuPlan) (copies : List Holding) (tick : ℕ) (js : List Record)
    → IsJournalOf own (deposits aus copies) tick js → Kept own js
kept_of own aus copies tick js is = kept_journal own aus copies is.heard js is.made

circles_of : (own : Station) (aus : List AuPlan) (copies : List Holding) (heard : List Heard) (js : List Record)
    → IsReferenceList own.id own.refs
    → GoesBy own (deposits aus copies) heard js → HaveCircles own js
circles_of own aus copies [] js listed is =
    subst (HaveCircles own) (sym is) (deposits_have_circles own _ (deposits_are aus copies))
circles_of own aus copies (h ∷ hs) js listed (before, added, goes, heard, adds, is) =
    subst (HaveCircles own) (sym is) (circles_more own before added (circles_of own aus copies hs before listed goes)
    (adds_circles own before h.tick h.input added adds (reaction_adds own before h.tick h.input listed) listed))

polls_of : (own : Station) (js : List Record) → Kept own js → HasPolls own js
polls_of own js kept =
    record { numbered = kept.rest.in_order; each = λ n. good_poll own js n (kept.good n); alone = kept.rest.alone }

-- Every world.

record Extended (id : ℕ) (added : List Record) (ss : List Standing) (place : ℕ) (after : Standing) : Type 0 where
  before : Standing
  there : slice_get ss place ≡ Some before
  found : peer_at id ss ≡ Some before
  is : record { own = before.own; journal = before.journal ++ added } ≡ after

-- each peer stands as before, but the one that adds records
records_at : (id : ℕ) (added : List Record) (ss : List Standing) (place : ℕ) (after : Standing)
    → slice_get (with_records id added ss) place ≡ Some after
    → (slice_get ss place ≡ Some after) ⊎ Extended id added ss place after
unfolding peer_at
records_at id added [] place after e = absurd cc
records_at id added (s ∷ ss) place after e = by_id (eqb s.own.id id) refl place e (λ k. records_at id added ss k after)
  where
    by_id : (b : Bool) → eqb s.own.id id ≡ b → (place : ℕ)
        → slice_get
        (cond b (record { own = s.own; journal = s.journal ++ added } ∷ ss) (s ∷ with_records id added ss))
        place
        ≡ Some after
        → ((k : ℕ) → slice_get (with_records id added ss) k ≡ Some after
        → (slice_get ss k ≡ Some after) ⊎ Extended id added ss k after)
        → (slice_get (s ∷ ss) place ≡ Some after) ⊎ Extended id added (s ∷ ss) place after
    by_id true here zero e rest =
        inr (record { before = s; there = refl; found = ap (λ b. cond b (Some s) (peer_at id ss)) here; is = cc })
    by_id true here (suc k) e rest = inl e
    by_id false here zero e rest = inl e
    by_id false here (suc k) e rest = elim (rest k e) [
      | inl same ↦ inl same
      | inr more
          ↦ inr
          (record {
            before = more.before;
            there = more.there;
            found = ap (λ b. cond b (Some s) (peer_at id ss)) here ∙ more.found;
            is = more.is;
          })
    ]

journal_more : (plan : Plan) (tick : ℕ) (p : Option PeerPlan) (s : Standing) (i : Input) → IsHeard i
    → HasJournal plan tick p s
    → HasJournal plan tick p (record { own = s.own; journal = s.journal ++ (reaction s.own s.journal tick i).records })
journal_more plan tick None s i heard has = has
journal_more plan tick (Some p) s i heard has = (
  has.0,
  record {
    heard = record { tick = tick; input = i } ∷ has.1.heard;
    in_order = (omega arith, has.1.in_order);
    made = (s.journal, (reaction s.own s.journal tick i).records, has.1.made, heard, inl refl, refl);
  },
)

pub ordered_later : (tick later : ℕ) (heard : List Heard) → tick ≤ later → AreInOrder tick heard
    → AreInOrder later heard
ordered_later tick later [] le order = tt
ordered_later tick later (h ∷ hs) le order = let first = order.0 in (omega (arith, le, first), order.1)

journal_later : (plan : Plan) (tick by : ℕ) (p : Option PeerPlan) (s : Standing) → HasJournal plan tick p s
    → HasJournal plan (tick + by) p s
journal_later plan tick by None s has = has
journal_later plan tick by (Some p) s has = (
  has.0,
  record {
    heard = has.1.heard;
    in_order = ordered_later tick _ has.1.heard (omega arith) has.1.in_order;
    made = has.1.made;
  },
)

abbrev PeersHave : Plan → ℕ → List Standing → Type 0
PeersHave plan tick peers =
    (place : ℕ) (s : Standing) → slice_get peers place ≡ Some s
    → HasJournal plan tick (slice_get (filter is_honest plan.peers) place) s

-- what a deed is to its peer is heard in its limits

said_heard : (e : Envelope) (judged : Judged) (read : Result Message MsgFault)
    → ((m : Message) → read ≡ Ok m → IsWithin m)
    → IfSome (got e judged (elim read [ Ok m ↦ Some m | Err fault ↦ None ])) (λ d. IsHeard d.input)
said_heard e judged (Ok m) within = within m refl
said_heard e judged (Err fault) within = tt

pub deed_heard : (bag : List Envelope) (s : PeerStep) → IfSome (deed_of bag s) (λ d. IsHeard d.input)
unfolding deed_of own_deed_of
deed_heard bag (Deliver envelope judged) = by_envelope (slice_get bag envelope)
  where
    by_envelope : (e : Option Envelope) → IfSome (delivers e judged) (λ d. IsHeard d.input)
    by_envelope None = tt
    by_envelope (Some e) = said_heard e judged _ (read_within e.bytes)
deed_heard bag (OpenPoll peer au) = tt
deed_heard bag (Widen peer number) = tt
deed_heard bag (Shut peer number) = tt
deed_heard bag (Tally peer number) = tt
deed_heard bag (Nudge peer number) = tt
deed_heard bag (GiveUp peer number) = tt
deed_heard bag (Work peer poll) = tt
deed_heard bag (Expire peer poll) = tt
deed_heard bag (Check peer) = tt
deed_heard bag (Tune peer quorum minority repairs) = tt

deed_keeps : (plan : Plan) (tick : ℕ) (peers : List Standing) (d : Option Deed) → IfSome d (λ d. IsHeard d.input)
    → PeersHave plan tick peers → PeersHave plan tick (peers_after tick peers d)
deed_keeps plan tick peers None heard has place s at = has place s at
deed_keeps plan tick peers (Some d) heard has place s at =
    elim (records_at d.peer (effect_of tick peers (Some d)).records peers place s at) [
      | inl same ↦ has place s same
      | inr more ↦
          subst (HasJournal plan tick _) more.is
          (subst
          (λ o. HasJournal plan tick (slice_get (filter is_honest plan.peers) place)
          (record {
            own = more.before.own;
            journal = more.before.journal ++ (reaction_at tick o d.input).records;
          })) (sym more.found)
          (journal_more plan tick _ more.before d.input heard
          (has place more.before more.there)))
    ]

-- no peer comes or goes

records_count : (id : ℕ) (added : List Record) (ss : List Standing) → length (with_records id added ss) ≡ length ss
records_count id added [] = refl
records_count id added (s ∷ ss) = by_id (eqb s.own.id id) (records_count id added ss)
  where
    by_id : (b : Bool) → length (with_records id added ss) ≡ length ss
        → length (cond b (record { own = s.own; journal = s.journal ++ added } ∷ ss) (s ∷ with_records id added ss))
        ≡ suc (length ss)
    by_id true rest = refl
    by_id false rest = ap suc rest

deed_count : (tick : ℕ) (peers : List Standing) (d : Option Deed) → length (peers_after tick peers d) ≡ length peers
deed_count tick peers None = refl
deed_count tick peers (Some d) = records_count d.peer (effect_of tick peers (Some d)).records peers

step_keeps : (plan : Plan) (w : World) (s : PeerStep) → HaveJournals plan w → HaveJournals plan (after_step w s true)
unfolding after_step
step_keeps plan w s has = record {
  count = deed_count w.tick w.peers _ ∙ has.count;
  each = deed_keeps plan w.tick w.peers _ (deed_heard w.bag s) has.each;
}

happens_keeps : (plan : Plan) (w : World) (e : Event) → HaveJournals plan w → HaveJournals plan (happens w e)
unfolding happens after_step
happens_keeps plan w (Step s) has = step_keeps plan w s has
happens_keeps plan w (Cut s true) has =
    let kept = step_keeps plan w s has in record { count = kept.count; each = kept.each }
happens_keeps plan w (Cut s false) has = has
happens_keeps plan w (Tick by) has = record {
  count = has.count;
  each =
      λ place s at. journal_later plan w.tick by _ s
      (has.each place s at);
}
happens_keeps plan w (Lose envelope) has = has
happens_keeps plan w (Forge from to bytes) has = record { count = has.count; each = has.each }
happens_keeps plan w (Crash peer) has = has

all_keep : (plan : Plan) (w : World) (history : List Event) → HaveJournals plan w
    → HaveJournals plan (happen_all w history)
all_keep plan w [] has = has
all_keep plan w (e ∷ es) has = all_keep plan (happens w e) es (happens_keeps plan w e has)

start_has : (plan : Plan) → HaveJournals plan (start plan)
unfolding start
start_has plan = record {
  count = length-map _ _;
  each =
      λ place s at. standing s (slice_get _ place)
      (sym (slice_get-map _ _ place) ∙ at);
}
  where
    standing : (s : Standing) (p : Option PeerPlan) → option_map (standing_of plan) p ≡ Some s → HasJournal plan 0 p s
    standing s None e = absurd cc
    standing s (Some p) e =
        let same : standing_of plan p ≡ s = cc in
        subst (HasJournal plan 0 (Some p)) same (refl, record { heard = []; in_order = tt; made = refl })

pub journals_are_own : (plan : Plan) (history : List Event) → HaveJournals plan (world plan history)
unfolding world
journals_are_own plan history = all_keep plan _ history (start_has plan)

kept_at : (plan : Plan) (tick : ℕ) (p : Option PeerPlan) (s : Standing) → HasJournal plan tick p s
    → Kept s.own s.journal
kept_at plan tick None s has = absurd has
kept_at plan tick (Some p) s has = kept_of s.own plan.aus p.copies tick s.journal has.1

pub kept_in : (plan : Plan) (history : List Event) (place : ℕ) (s : Standing)
    → slice_get (world plan history).peers place ≡ Some s → Kept s.own s.journal
kept_in plan history place s at =
    kept_at plan (world plan history).tick _ s ((journals_are_own plan history).each place s at)

pub polls_keep : (plan : Plan) (history : List Event) (place : ℕ) (s : Standing)
    → slice_get (world plan history).peers place ≡ Some s → HasPolls s.own s.journal
polls_keep plan history place s at = polls_of s.own s.journal (kept_in plan history place s at)

pub rules_are : (plan : Plan) (history : List Event) (place : ℕ) (s : Standing)
    → slice_get (world plan history).peers place ≡ Some s → s.own.rules ≡ plan.rules
rules_are plan history place s at = by_peer (slice_get _ place) ((journals_are_own plan history).each place s at)
  where
    by_peer : (p : Option PeerPlan) → HasJournal plan (world plan history).tick p s → s.own.rules ≡ plan.rules
    by_peer None has = absurd has
    by_peer (Some p) has = ap (λ (own : Station). own.rules) has.0

pub evidence_in : (plan : Plan) (history : List Event) (place : ℕ) (s : Standing)
    → ObeyQuorumRule (limits_in plan.rules) → slice_get (world plan history).peers place ≡ Some s
    → HasEvidence s.own.rules s.own.id s.journal
evidence_in plan history place s rule at =
    (kept_in plan history place s at).rest.evidence
    (subst (λ rules. ObeyQuorumRule (limits_in rules)) (sym (rules_are plan history place s at)) rule)

pub tallies_have_quorum : (plan : Plan) (history : List Event) (place : ℕ) (s : Standing)
    → slice_get (world plan history).peers place ≡ Some s
    → (n : ℕ) (opening : Opening) → may_tally n s.journal ≡ true → opening_of n s.journal ≡ Some opening
    → verdict_in s.own n opening s.journal ≢ verdict.Inquorate
unfolding verdict_in
tallies_have_quorum plan history place s at n opening may opened lacks =
    let state = (polls_keep plan history place s at).each n in
    let parts = tally_parts n s.journal may in
    let limits = limits_of s.own.rules opening in
    let copy = contents_of opening.au s.journal in
    let enough = state.quorum opening opened parts.runs parts.over in
    let few = inquorate_votes limits.minority _
    _ copy limits.quorum lacks in
    absurd (omega (arith, enough, few))

-- Every reference list and every circle.

good_at : (plan : Plan) → plan_fault plan ≡ None → (place : ℕ) (p : PeerPlan)
    → slice_get (filter is_honest plan.peers) place ≡ Some p → IsReferenceList p.id p.refs
good_at plan good place p at =
    let all = All-filter is_honest (λ q. IsReferenceList q.id q.refs) plan.peers (peers_listed plan good) in
    subst (λ q. IsReferenceList q.id q.refs) (get_or_from_slice_get _ place p p at)
    (all place p (slice_get_within _ place p at))

sampled_at : (plan : Plan) → plan_fault plan ≡ None → (place tick : ℕ) (o : Option PeerPlan)
    → slice_get (filter is_honest plan.peers) place ≡ o → (s : Standing) → HasJournal plan tick o s
    → Samples s
sampled_at plan good place tick None at s has = absurd has
sampled_at plan good place tick (Some p) at s has =
    let listed : IsReferenceList s.own.id s.own.refs = subst (λ own. IsReferenceList own.id own.refs) (sym has.0)
    (good_at plan good place p at) in
    record {
      list = list_kept s.own s.journal listed;
      circles = circles_of s.own plan.aus p.copies has.1.heard s.journal listed has.1.made;
    }

pub circles_are_samples : (plan : Plan) → plan_fault plan ≡ None → (history : List Event) (place : ℕ) (s : Standing)
    → slice_get (world plan history).peers place ≡ Some s → Samples s
circles_are_samples plan good history place s at =
    sampled_at plan good place (world plan history).tick _ refl s ((journals_are_own plan history).each place s at)
