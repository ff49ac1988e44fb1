-- A script that can be said is printed so that it reads as the same.
use Rattle.std.proofs.Common.{◌≡◌, ℕ, List, [], ◌∷◌, ◌++◌, Some, Ok, sym, ap, subst, ◌∙◌, append_assoc}
use Rattle.std.specs.Prelude.{codes}
use Rattle.std.specs.Fmt.{decimal}
use Rattle.std.specs.List.{flat_map}
use Rattle.std.proofs.lemmas.List.{append-nil}
use Rattle.lks_base.specs.Checking.{bytes_of_peers}
use Rattle.lks_base.specs.declared.plans.AuPlan.{AuPlan}
use Rattle.lks_base.specs.declared.plans.PeerPlan.{PeerPlan}
use Rattle.lks_base.specs.declared.plans.Rules.{Rules}
use Rattle.lks_script.specs.declared.drafts.Draft.TheVariants.{Blank, Ruled, Planned}
use Rattle.lks_script.specs.declared.drafts.PlanPart.{PlanPart}
use Rattle.lks_script.specs.declared.drafts.PlanPart.TheVariants as part
use Rattle.lks_script.specs.declared.steps.Script.{Script}
use Rattle.lks_script.specs.declared.steps.Step.{Step}
use Rattle.lks_script.specs.Grammar.{script_of}
use Rattle.lks_print.specs.Steps.{line_of, step_line}
use Rattle.lks_print.specs.Scripts.{rules_line, au_line, peer_line, belongings, plan_text, script_text}
use Rattle.lks_print.proofs.Belongings.{said_hashes, draft_at, belongings_read}
use Rattle.lks_print.proofs.Heads.{is_good, begins, title_reads, rules_read, turns_read, aus_read, peers_read}
use Rattle.lks_print.proofs.Heads.{plan_ends}
use Rattle.lks_print.proofs.Reading.{Reads}
use Rattle.lks_print.specs.Said.{StepsFollow, IsSaid}

-- a script by its parts
abbrev script_from : Rules → ℕ → List AuPlan → List PeerPlan → List Step → Script
script_from rules turns aus peers steps =
    record { plan = record { rules = rules; turns = turns; aus = aus; peers = peers }; steps = steps }

-- a text in seven pieces
apart : (a b c d e f g : List ℕ) → (a ++ b ++ c ++ d ++ e ++ f) ++ g ≡ a ++ (b ++ (c ++ (d ++ (e ++ (f ++ g)))))
apart a b c d e f g =
    append_assoc (a ++ b ++ c ++ d ++ e) f g ∙ append_assoc (a ++ b ++ c ++ d) e (f ++ g)
    ∙ append_assoc (a ++ b ++ c) d (e ++ (f ++ g))
    ∙ append_assoc (a ++ b) c (d ++ (e ++ (f ++ g))) ∙ append_assoc a b (c ++ (d ++ (e ++ (f ++ g))))

-- all peers have what they have
ending : (rules : Rules) (turns : ℕ) (aus : List AuPlan) (peers : List PeerPlan) (steps : List Step)
    → StepsFollow (script_from rules turns aus peers steps).plan [] steps → (at : PlanPart)
    → Reads (Planned at (draft_at rules turns aus peers [])) (flat_map step_line steps)
    (script_from rules turns aus peers steps)
ending rules turns aus peers steps follow at =
    subst
    (λ (ps : List PeerPlan). Reads
    (Planned at
    (record {
      plan = record { rules = rules; turns = turns; aus = aus; peers = ps };
      bytes = bytes_of_peers peers;
      hashed = said_hashes peers;
    })) (flat_map step_line steps)
    (script_from rules turns aus peers steps))
    (sym (append-nil peers))
    (plan_ends at
    (record {
      plan = record { rules = rules; turns = turns; aus = aus; peers = peers };
      bytes = bytes_of_peers peers;
      hashed = said_hashes peers;
    }) steps follow)

reads : (rules : Rules) (turns : ℕ) (aus : List AuPlan) (peers : List PeerPlan) (steps : List Step)
    → IsSaid (script_from rules turns aus peers steps)
    → Reads Blank (script_text (script_from rules turns aus peers steps)) (script_from rules turns aus peers steps)
unfolding script_text plan_text
reads rules turns aus [] steps said =
    let good = (is_good (script_from rules turns aus [] steps).plan said.good).some_peers in absurd cc
reads rules turns aus (p ∷ peers) steps said =
    let script = script_from rules turns aus (p ∷ peers) steps in
    let good = is_good script.plan said.good in
    let steps_text = flat_map step_line steps in
    let belonging_text = flat_map belongings (p ∷ peers) ++ steps_text in
    let peers_text = flat_map peer_line (p ∷ peers) ++ belonging_text in
    let aus_text = flat_map au_line aus ++ peers_text in
    let turns_text = line_of (codes "turns") (decimal turns ∷ []) ++ aus_text in
    subst (λ (t : List ℕ). Reads Blank t script)
    (sym
    (apart (line_of (codes "lockss") (codes "1" ∷ [])) (rules_line rules)
    (line_of (codes "turns") (decimal turns ∷ [])) (flat_map au_line aus) (flat_map peer_line (p ∷ peers))
    (flat_map belongings (p ∷ peers)) steps_text))
    (title_reads (rules_line rules ++ turns_text) script
    (rules_read rules turns_text script good.bounded good.ordered
    (turns_read rules turns aus_text script good.turns
    (aus_read rules (Some turns) [] aus peers_text script good.aus good.few_aus
    (peers_read (Ruled rules (Some turns) aus) rules turns aus (p ∷ peers) [] p peers belonging_text script
    (begins rules turns aus) said.peers good.some_aus good.few_peers good.peers
    (belongings_read rules turns aus [] (p ∷ peers) part.Peers steps_text script said.good said.peers
    (ending rules turns aus (p ∷ peers) steps said.steps)))))))

-- a script that can be said
pub said_again : (s : Script) → IsSaid s → script_of (script_text s) ≡ Ok s
unfolding script_of
said_again s said = reads s.plan.rules s.plan.turns s.plan.aus s.plan.peers s.steps said 1

-- the same of a text that is the printed script
pub again_as : (text : List ℕ) (s : Script) → text ≡ script_text s → IsSaid s → script_of text ≡ Ok s
again_as text s is said = ap script_of is ∙ said_again s said
