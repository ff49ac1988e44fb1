-- The lines that declare a plan are read as the plan, and the steps behind a plan as its steps.
use Rattle.std.proofs.Common.{◌≡◌, ℕ, ◌≤◌, Bool, true, false, ltb, leb, List, [], ◌∷◌, ◌++◌, length, map, Option}
use Rattle.std.proofs.Common.{Some, None, refl, sym, ap, subst, ◌∙◌, append_assoc, arith}
use Rattle.std.specs.Prelude.{codes, not}
use Rattle.std.specs.Fmt.{decimal}
use Rattle.std.specs.List.{All, flat_map}
use Rattle.std.specs.Option.{option_map}
use Rattle.std.proofs.lemmas.Bool.{and_parts, and_from, leb-true, le-leb, lt-ltb}
use Rattle.std.proofs.lemmas.List.{length-append, length-map, append-nil}
use Rattle.std.proofs.lemmas.List.Elements.{All-head, All-tail}
use Rattle.hex.specs.Hex.{encode_lower}
use Rattle.lks_base.specs.Checking.{unless, ◌▹◌, each, is_within, are_bounded, are_ordered, has_au, has_peer}
use Rattle.lks_base.specs.Checking.{au_fault, is_bare, is_fit, peer_fault, bytes_of_peers, plan_fault}
use Rattle.lks_base.specs.declared.limits.TheConstants.{LAST_NUMBER, MOST_AUS, MOST_BLOCKS, MOST_COPY_BYTES}
use Rattle.lks_base.specs.declared.limits.TheConstants.{MOST_EVENTS, MOST_PEERS, MOST_PROOF_BYTES}
use Rattle.lks_base.specs.declared.plans.AuPlan.{AuPlan}
use Rattle.lks_base.specs.declared.plans.PeerPlan.{PeerPlan}
use Rattle.lks_base.specs.declared.plans.Plan.{Plan}
use Rattle.lks_base.specs.declared.plans.PlanFault.{PlanFault}
use Rattle.lks_base.specs.declared.plans.PlanFault.TheVariants.{Bounds, RulesOrder}
use Rattle.lks_base.specs.declared.plans.Rules.{Rules}
use Rattle.lks_base.proofs.PlanLaws.{no_first, no_second, stands}
use Rattle.lks_lines.specs.PlanLines.{are_good, au_in, aus_with, may_add_au, peer_in, may_add_peer, draft_with_peer}
use Rattle.lks_lines.specs.declared.plan_lines.PlanDraft.{PlanDraft}
use Rattle.lks_script.specs.declared.drafts.Draft.{Draft}
use Rattle.lks_script.specs.declared.drafts.Draft.TheVariants.{Blank, Titled, Ruled, Planned, Stepped}
use Rattle.lks_script.specs.declared.drafts.PlanPart.{PlanPart}
use Rattle.lks_script.specs.declared.drafts.PlanPart.TheVariants as part
use Rattle.lks_script.specs.declared.steps.Script.{Script}
use Rattle.lks_script.specs.declared.steps.Step.{Step}
use Rattle.lks_script.specs.Grammar.{title_line, rules_line, turns_line, au_line, peer_line, ruled_line, step_line}
use Rattle.lks_script.specs.Grammar.{declares_peer, planned_line, line_in, script_of_draft, end_in, lines_in}
use Rattle.lks_words.specs.Printing.{hex_or_hyphen, kind_text}
use Rattle.lks_words.proofs.Decimals.{number_again}
use Rattle.lks_words.proofs.Kept.{hex_above, text_above, kind_above, seed_again, proof_again, kind_again}
use Rattle.lks_words.proofs.Splits.{weaker}
use Rattle.lks_print.specs.Steps as printed
use Rattle.lks_print.specs.Steps.{line_of, key_of, more_of}
use Rattle.lks_print.specs.Scripts as text
use Rattle.lks_print.specs.Scripts.{rules_words, au_words, peer_words}
use Rattle.lks_print.specs.Said.{are_plain}
use Rattle.lks_print.proofs.Belongings.{bare_of, bare_has}
use Rattle.lks_print.proofs.Kept.{plain_number, small_plain, small_again, step_names}
use Rattle.lks_print.proofs.RulesAgain.{AreSmall, are_small, good_again}
use Rattle.lks_print.proofs.Reading.{Reads, words_read, script_with, one_more, steps_read}
use Rattle.lks_print.specs.Said.{IsSaidPeer, CanFollow, StepsFollow}

-- ---- the rules of a plan one by one

record Eight (a b c d e f g h : Option PlanFault) : Type 0 where
  first : a ≡ None
  second : b ≡ None
  third : c ≡ None
  fourth : d ≡ None
  fifth : e ≡ None
  sixth : f ≡ None
  seventh : g ≡ None

eight : (a b c d e f g h : Option PlanFault) → (a ▹ b ▹ c ▹ d ▹ e ▹ f ▹ g ▹ h) ≡ None → Eight a b c d e f g h
eight a b c d e f g h none =
    let from_b = no_second a (b ▹ c ▹ d ▹ e ▹ f ▹ g ▹ h) none in
    let from_c = no_second b (c ▹ d ▹ e ▹ f ▹ g ▹ h) from_b in
    let from_d = no_second c (d ▹ e ▹ f ▹ g ▹ h) from_c in
    let from_e = no_second d (e ▹ f ▹ g ▹ h) from_d in
    let from_f = no_second e (f ▹ g ▹ h) from_e in
    let from_g = no_second f (g ▹ h) from_f in
    record {
      first = no_first a (b ▹ c ▹ d ▹ e ▹ f ▹ g ▹ h) none;
      second = no_first b (c ▹ d ▹ e ▹ f ▹ g ▹ h) from_b;
      third = no_first c (d ▹ e ▹ f ▹ g ▹ h) from_c;
      fourth = no_first d (e ▹ f ▹ g ▹ h) from_d;
      fifth = no_first e (f ▹ g ▹ h) from_e;
      sixth = no_first f (g ▹ h) from_f;
      seventh = no_first g h from_g;
    }

-- a plan that breaks no rule
pub record IsGood (p : Plan) : Type 0 where
  pub bounded : are_bounded p.rules ≡ true
  pub ordered : are_ordered p.rules ≡ true
  pub turns : p.turns ≤ MOST_EVENTS
  pub aus : each au_fault [] p.aus ≡ None
  pub some_aus : leb 1 (length p.aus) ≡ true
  pub few_aus : length p.aus ≤ MOST_AUS
  pub peers : each (peer_fault p.aus p.peers) [] p.peers ≡ None
  pub some_peers : leb 1 (length p.peers) ≡ true
  pub few_peers : length p.peers ≤ MOST_PEERS

pub is_good : (p : Plan) → plan_fault p ≡ None → IsGood p
unfolding plan_fault
is_good p good =
    let all = eight (unless (are_bounded p.rules) Bounds) (unless (are_ordered p.rules) RulesOrder)
    (unless (leb p.turns MOST_EVENTS) Bounds)
    (unless (is_within 1 MOST_AUS (length p.aus)) Bounds) (each au_fault [] p.aus)
    (unless (is_within 1 MOST_PEERS (length p.peers)) Bounds)
    (each (peer_fault p.aus p.peers) [] p.peers) (unless (leb (bytes_of_peers p.peers) MOST_COPY_BYTES) Bounds) good in
    let aus = and_parts (leb 1 (length p.aus)) (leb (length p.aus) MOST_AUS) (stands _ _ all.fourth) in
    let some = and_parts (leb 1 (length p.peers)) (leb (length p.peers) MOST_PEERS) (stands _ _ all.sixth) in
    record {
      bounded = stands _ _ all.first;
      ordered = stands _ _ all.second;
      turns = leb-true p.turns MOST_EVENTS (stands _ _ all.third);
      aus = all.fifth;
      some_aus = aus.0;
      few_aus = leb-true (length p.aus) MOST_AUS aus.1;
      peers = all.seventh;
      some_peers = some.0;
      few_peers = leb-true (length p.peers) MOST_PEERS some.1;
    }

-- ---- AUs

au_again : (au : AuPlan) → au.id ≤ 65535 → au.count ≤ 65535 → au_in (au_words au) ≡ Some au
unfolding au_in au_words
au_again au id count = rw (small_again au.id id, small_again au.count count) refl

au_plain : (au : AuPlan) → au.id ≤ 65535 → au.count ≤ 65535 → are_plain (codes "au" ∷ au_words au) ≡ true
unfolding au_words
au_plain au id count = rw (small_plain au.id id, small_plain au.count count) refl

record CanJoin (before : List AuPlan) (au : AuPlan) : Type 0 where
  id : au.id ≤ 65535
  count : au.count ≤ 65535
  within : is_within 1 MOST_BLOCKS au.count ≡ true
  other : not (has_au before au.id) ≡ true

can_join : (before : List AuPlan) (au : AuPlan) → au_fault before au ≡ None → CanJoin before au
unfolding au_fault
can_join before au none =
    let bounds = and_parts (is_within 0 LAST_NUMBER au.id) (is_within 1 MOST_BLOCKS au.count)
    (stands _ _ (no_first _ _ none)) in
    let id = leb-true au.id LAST_NUMBER (and_parts (leb 0 au.id) (leb au.id LAST_NUMBER) bounds.0).1 in
    let count = leb-true au.count MOST_BLOCKS (and_parts (leb 1 au.count) (leb au.count MOST_BLOCKS) bounds.1).1 in
    record {
      id = omega (arith, id);
      count = omega (arith, count);
      within = bounds.1;
      other = stands _ _ (no_second _ _ none);
    }

au_reads : (rules : Rules) (turns : Option ℕ) (before : List AuPlan) (au : AuPlan) (rest : List ℕ) (script : Script)
    → CanJoin before au → ltb (length before) MOST_AUS ≡ true
    → Reads (Ruled rules turns (before ++ au ∷ [])) rest script
    → Reads (Ruled rules turns before) (text.au_line au ++ rest) script
unfolding text.au_line line_in ruled_line au_line aus_with may_add_au
au_reads rules turns before au rest script can room =
    words_read (Ruled rules turns before) (Ruled rules turns (before ++ au ∷ [])) (codes "au") (au_words au) rest
    script refl (au_plain au can.id can.count)
    (rw (au_again au can.id can.count, room, can.within, can.other) refl)

-- lines of a list, and what comes behind them
regroup : {X : Type 0} (f : X → List ℕ) (x : X) (xs : List X) (rest : List ℕ)
    → flat_map f (x ∷ xs) ++ rest ≡ f x ++ (flat_map f xs ++ rest)
regroup f x xs rest = append_assoc (f x) (flat_map f xs) rest

room_left : {X : Type 0} (before : List X) (x : X) (xs : List X) (most : ℕ) → length (before ++ x ∷ xs) ≤ most
    → ltb (length before) most ≡ true
room_left before x xs most le = lt-ltb (length before) most (omega (arith, le, length-append before (x ∷ xs)))

pub aus_read : (rules : Rules) (turns : Option ℕ) (before aus : List AuPlan) (rest : List ℕ) (script : Script)
    → each au_fault before aus ≡ None → length (before ++ aus) ≤ MOST_AUS
    → Reads (Ruled rules turns (before ++ aus)) rest script
    → Reads (Ruled rules turns before) (flat_map text.au_line aus ++ rest) script
aus_read rules turns before [] rest script none few reads =
    subst (λ (aus : List AuPlan). Reads (Ruled rules turns aus) rest script) (append-nil before) reads
aus_read rules turns before (au ∷ aus) rest script none few reads =
    let parts = append_assoc before (au ∷ []) aus in
    subst (λ (t : List ℕ). Reads (Ruled rules turns before) t script) (sym (regroup text.au_line au aus rest))
    (au_reads rules turns before au (flat_map text.au_line aus ++ rest) script
    (can_join before au (no_first _ _ none)) (room_left before au aus MOST_AUS few)
    (aus_read rules turns (before ++ au ∷ []) aus rest script (no_second (au_fault before au) _ none)
    (subst (λ (all : List AuPlan). length all ≤ MOST_AUS) (sym parts) few)
    (subst (λ (all : List AuPlan). Reads (Ruled rules turns all) rest script) (sym parts) reads)))

-- ---- peers

-- a plan with these peers, without their lists and copies
abbrev pub declared : Rules → ℕ → List AuPlan → List PeerPlan → PlanDraft
declared rules turns aus before =
    record {
      plan = record { rules = rules; turns = turns; aus = aus; peers = map bare_of before };
      bytes = 0;
      hashed = [];
    }

peer_again : (p : PeerPlan) → IsSaidPeer p → peer_in (peer_words p) ≡ Some (bare_of p)
unfolding peer_in peer_words
peer_again p said =
    rw (
      small_again p.id said.id,
      kind_again p.corrupt,
      seed_again p.seed said.seed said.long,
      proof_again p.proof said.proof,
    ) refl

peer_plain : (p : PeerPlan) → IsSaidPeer p → are_plain (codes "peer" ∷ peer_words p) ≡ true
unfolding peer_words
peer_plain p said =
    rw (
      small_plain p.id said.id,
      weaker 43 44 (kind_text p.corrupt) (omega arith) (kind_above p.corrupt),
      weaker 43 44 (encode_lower p.seed) (omega arith) (hex_above p.seed said.seed),
      weaker 43 44 (hex_or_hyphen p.proof) (omega arith) (text_above p.proof said.proof.bytes),
    ) refl

bare_fit : (p : PeerPlan) (corrupt : Bool) → leb (length p.proof) MOST_PROOF_BYTES ≡ true → p.corrupt ≡ corrupt
    → is_fit (bare_of p) ≡ true
unfolding is_fit is_bare
bare_fit p true few is = rw (few, is) refl
bare_fit p false few is = rw (few, is) refl

new_peer : (aus : List AuPlan) (all before : List PeerPlan) (p : PeerPlan) → peer_fault aus all before p ≡ None
    → not (has_peer before p.id) ≡ true
unfolding peer_fault
new_peer aus all before p none = stands _ _ (no_first _ _ (no_second _ _ none))

joined : (before : List PeerPlan) (p : PeerPlan) → map bare_of before ++ bare_of p ∷ [] ≡ map bare_of (before ++ p ∷ [])
joined [] p = refl
joined (q ∷ before) p = ap (λ (more : List PeerPlan). bare_of q ∷ more) (joined before p)

peer_joins : (rules : Rules) (turns : ℕ) (aus : List AuPlan) (before : List PeerPlan) (p : PeerPlan) → IsSaidPeer p
    → leb 1 (length aus) ≡ true → ltb (length before) MOST_PEERS ≡ true → not (has_peer before p.id) ≡ true
    → draft_with_peer (declared rules turns aus before) (peer_words p)
    ≡ Some (declared rules turns aus (before ++ p ∷ []))
unfolding draft_with_peer may_add_peer
peer_joins rules turns aus before p said some room other =
    rw (
      peer_again p said,
      some,
      ap (λ (n : ℕ). ltb n MOST_PEERS) (length-map before bare_of)
          ∙ room,
      ap not (bare_has before p.id)
          ∙ other,
      bare_fit p p.corrupt (le-leb _ _ said.proof.few) refl,
      joined before p,
    ) refl

-- the line may stand behind this draft, where a peer is declared
abbrev Declares : Draft → PlanDraft → Type 0
Declares draft plan = (more : List (List ℕ)) → line_in draft (codes "peer" ∷ more) ≡ peer_line plan more

peer_reads : (draft : Draft) (rules : Rules) (turns : ℕ) (aus : List AuPlan) (before : List PeerPlan) (p : PeerPlan)
    (rest : List ℕ) (script : Script)
    → Declares draft (declared rules turns aus before) → IsSaidPeer p → leb 1 (length aus) ≡ true
    → ltb (length before) MOST_PEERS ≡ true → not (has_peer before p.id) ≡ true
    → Reads (Planned part.Peers (declared rules turns aus (before ++ p ∷ []))) rest script
    → Reads draft (text.peer_line p ++ rest) script
unfolding text.peer_line peer_line
peer_reads draft rules turns aus before p rest script declares said some room other =
    words_read draft (Planned part.Peers (declared rules turns aus (before ++ p ∷ []))) (codes "peer")
    (peer_words p) rest script refl (peer_plain p said)
    (declares (peer_words p)
    ∙ ap (λ (o : Option PlanDraft). option_map (λ (d : PlanDraft). Planned part.Peers d) o)
    (peer_joins rules turns aus before p said some room other))

pub begins : (rules : Rules) (turns : ℕ) (aus : List AuPlan)
    → Declares (Ruled rules (Some turns) aus) (declared rules turns aus [])
unfolding line_in ruled_line
begins rules turns aus more = refl

goes_on : (plan : PlanDraft) → Declares (Planned part.Peers plan) plan
unfolding line_in planned_line declares_peer
goes_on plan more = refl

pub peers_read : (draft : Draft) (rules : Rules) (turns : ℕ) (aus : List AuPlan) (all before : List PeerPlan)
    (p : PeerPlan) (peers : List PeerPlan) (rest : List ℕ) (script : Script)
    → Declares draft (declared rules turns aus before)
    → All IsSaidPeer (p ∷ peers) → leb 1 (length aus) ≡ true → length (before ++ p ∷ peers) ≤ MOST_PEERS
    → each (peer_fault aus all) before (p ∷ peers) ≡ None
    → Reads (Planned part.Peers (declared rules turns aus (before ++ p ∷ peers))) rest script
    → Reads draft (flat_map text.peer_line (p ∷ peers) ++ rest) script
peers_read draft rules turns aus all before p [] rest script declares said some few none reads =
    subst (λ (t : List ℕ). Reads draft t script) (sym (regroup text.peer_line p [] rest))
    (peer_reads draft rules turns aus before p rest script declares (All-head IsSaidPeer p [] said) some
    (room_left before p [] MOST_PEERS few) (new_peer aus all before p (no_first _ _ none)) reads)
peers_read draft rules turns aus all before p (q ∷ peers) rest script declares said some few none reads =
    let parts = append_assoc before (p ∷ []) (q ∷ peers) in
    subst (λ (t : List ℕ). Reads draft t script) (sym (regroup text.peer_line p (q ∷ peers) rest))
    (peer_reads draft rules turns aus before p (flat_map text.peer_line (q ∷ peers) ++ rest) script declares
    (All-head IsSaidPeer p (q ∷ peers) said) some (room_left before p (q ∷ peers) MOST_PEERS few)
    (new_peer aus all before p (no_first _ _ none))
    (peers_read (Planned part.Peers (declared rules turns aus (before ++ p ∷ []))) rules turns aus all
    (before ++ p ∷ []) q peers rest script (goes_on (declared rules turns aus (before ++ p ∷ [])))
    (All-tail IsSaidPeer p (q ∷ peers) said) some
    (subst (λ (ps : List PeerPlan). length ps ≤ MOST_PEERS) (sym parts) few)
    (no_second (peer_fault aus all before p) _ none)
    (subst (λ (ps : List PeerPlan). Reads (Planned part.Peers (declared rules turns aus ps)) rest script)
    (sym parts) reads)))

-- ---- steps behind a plan

no_peer : (at : PlanPart) (step : Step) → declares_peer at (key_of step) ≡ false
unfolding declares_peer
no_peer part.Peers step = (step_names step).no_peer
no_peer part.Lists step = refl

first_step : (at : PlanPart) (plan : PlanDraft) (step : Step) → CanFollow plan.plan [] step
    → line_in (Planned at plan) (key_of step ∷ more_of step) ≡ Some (Stepped plan.plan (step ∷ []))
unfolding line_in planned_line step_line
first_step at plan step can =
    rw (no_peer at step)
    ((step_names step).behind plan (more_of step)
    ∙ ap (λ (o : Option (List Step)). option_map (λ (longer : List Step). Stepped plan.plan longer) o)
    (one_more plan.plan [] step can))

first_reads : (at : PlanPart) (plan : PlanDraft) (step : Step) (rest : List ℕ) (script : Script)
    → CanFollow plan.plan [] step → Reads (Stepped plan.plan (step ∷ [])) rest script
    → Reads (Planned at plan) (printed.step_line step ++ rest) script
unfolding printed.step_line
first_reads at plan step rest script can =
    words_read (Planned at plan) (Stepped plan.plan (step ∷ [])) (key_of step) (more_of step) rest script
    (step_names step).named can.said.plain (first_step at plan step can)

no_steps : (at : PlanPart) (plan : PlanDraft) → Reads (Planned at plan) [] (script_with plan.plan [])
unfolding lines_in end_in script_of_draft
no_steps at plan k = refl

pub plan_ends : (at : PlanPart) (plan : PlanDraft) (steps : List Step) → StepsFollow plan.plan [] steps
    → Reads (Planned at plan) (flat_map printed.step_line steps) (script_with plan.plan steps)
plan_ends at plan [] follow = no_steps at plan
plan_ends at plan (step ∷ steps) follow =
    first_reads at plan step (flat_map printed.step_line steps) (script_with plan.plan (step ∷ steps)) follow.0
    (steps_read plan.plan (step ∷ []) steps follow.1)

-- ---- the first three lines

pub title_reads : (rest : List ℕ) (script : Script) → Reads Titled rest script
    → Reads Blank (line_of (codes "lockss") (codes "1" ∷ []) ++ rest) script
unfolding line_in title_line
title_reads rest script = words_read Blank Titled (codes "lockss") (codes "1" ∷ []) rest script refl refl refl

rules_plain : (r : Rules) → AreSmall r → are_plain (codes "rules" ∷ rules_words r) ≡ true
unfolding rules_words
rules_plain r small =
    rw (
      small_plain r.inner small.inner,
      small_plain r.quorum small.quorum,
      small_plain r.minority small.minority,
      small_plain r.outer small.outer,
      small_plain r.repairs small.repairs,
      plain_number 4294967295 r.pace (omega arith) small.pace,
      plain_number 4294967295 r.refractory (omega arith) small.refractory,
      plain_number 4294967295 r.overdue (omega arith) small.overdue,
      plain_number 255 r.unknown_pct (omega arith) small.unknown,
      plain_number 255 r.debt_pct (omega arith) small.debt,
      small_plain r.churn small.churn,
    ) refl

rules_are_good : (r : Rules) → are_bounded r ≡ true → are_ordered r ≡ true → are_good r ≡ true
unfolding are_good
rules_are_good r bounded ordered = and_from (are_bounded r) (are_ordered r) bounded ordered

pub rules_read : (r : Rules) (rest : List ℕ) (script : Script) → are_bounded r ≡ true → are_ordered r ≡ true
    → Reads (Ruled r None []) rest script → Reads Titled (text.rules_line r ++ rest) script
unfolding text.rules_line line_in rules_line
rules_read r rest script bounded ordered =
    words_read Titled (Ruled r None []) (codes "rules") (rules_words r) rest script refl
    (rules_plain r (are_small r bounded ordered))
    (ap (λ (o : Option Rules). option_map (λ (r : Rules). Ruled r None []) o)
    (good_again r (rules_are_good r bounded ordered)))

pub turns_read : (r : Rules) (turns : ℕ) (rest : List ℕ) (script : Script) → turns ≤ MOST_EVENTS
    → Reads (Ruled r (Some turns) []) rest script
    → Reads (Ruled r None []) (line_of (codes "turns") (decimal turns ∷ []) ++ rest) script
unfolding line_in ruled_line turns_line
turns_read r turns rest script few =
    words_read (Ruled r None []) (Ruled r (Some turns) []) (codes "turns") (decimal turns ∷ []) rest script refl
    (rw (plain_number MOST_EVENTS turns (omega arith) few) refl)
    (rw (number_again MOST_EVENTS turns (decimal turns) (omega arith) few refl) refl)
