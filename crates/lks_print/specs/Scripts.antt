-- How a script is printed.
use Rattle.std.specs.Prelude.{ℕ, List, [], ◌∷◌, ◌++◌, map, codes}
use Rattle.std.specs.Fmt.{decimal}
use Rattle.std.specs.List.{flat_map}
use Rattle.hex.specs.Hex.{encode_lower}
use Rattle.lks_base.specs.declared.names.HashKind.{HashKind}
use Rattle.lks_base.specs.declared.names.HashKind.TheVariants.{Sha256, Sha512_256}
use Rattle.lks_base.specs.declared.plans.AuPlan.{AuPlan}
use Rattle.lks_base.specs.declared.plans.Holding.{Holding}
use Rattle.lks_base.specs.declared.plans.PeerPlan.{PeerPlan}
use Rattle.lks_base.specs.declared.plans.Plan.{Plan}
use Rattle.lks_base.specs.declared.plans.Rules.{Rules}
use Rattle.lks_script.specs.declared.steps.Script.{Script}
use Rattle.lks_words.specs.Printing.{hex_or_hyphen, blocks_text, kind_text, hash_text}
use Rattle.lks_print.specs.Steps.{line_of, step_line}

-- a name and a number, behind a space each
abbrev pub named_text : List ℕ → ℕ → List ℕ
named_text name n = (32 ∷ name) ++ 32 ∷ decimal n

-- inner N quorum N minority N outer N repairs N pace N refractory N overdue N unknown N debt N churn N
unfoldable pub rules_words : Rules → List (List ℕ)
rules_words r =
    codes "inner" ∷ decimal r.inner ∷ codes "quorum" ∷ decimal r.quorum ∷ codes "minority" ∷ decimal r.minority
    ∷ codes "outer" ∷ decimal r.outer ∷ codes "repairs" ∷ decimal r.repairs ∷ codes "pace" ∷ decimal r.pace
    ∷ codes "refractory" ∷ decimal r.refractory ∷ codes "overdue" ∷ decimal r.overdue
    ∷ codes "unknown" ∷ decimal r.unknown_pct ∷ codes "debt" ∷ decimal r.debt_pct ∷ codes "churn" ∷ decimal r.churn ∷ []

-- rules ...
unfoldable pub rules_line : Rules → List ℕ
rules_line r = line_of (codes "rules") (rules_words r)

-- A COUNT
unfoldable pub au_words : AuPlan → List (List ℕ)
au_words au = decimal au.id ∷ decimal au.count ∷ []

-- au A COUNT
unfoldable pub au_line : AuPlan → List ℕ
au_line au = line_of (codes "au") (au_words au)

-- P honest SEED PROOF, P corrupt SEED PROOF
unfoldable pub peer_words : PeerPlan → List (List ℕ)
peer_words p = decimal p.id ∷ kind_text p.corrupt ∷ encode_lower p.seed ∷ hex_or_hyphen p.proof ∷ []

-- peer P honest SEED PROOF, peer P corrupt SEED PROOF
unfoldable pub peer_line : PeerPlan → List ℕ
peer_line p = line_of (codes "peer") (peer_words p)

-- hash P sha512-256, where the hash is another than that of a peer whose hash isn't said
unfoldable pub hash_line : ℕ → HashKind → List ℕ
hash_line id Sha256 = []
hash_line id Sha512_256 = line_of (codes "hash") (decimal id ∷ hash_text Sha512_256 ∷ [])

-- refs P Q ..., friends P Q ..., where there are any
unfoldable pub list_line : List ℕ → ℕ → List ℕ → List ℕ
list_line key id [] = []
list_line key id (first ∷ rest) = line_of key (decimal id ∷ map decimal (first ∷ rest))

-- copy P A BLOCKS
unfoldable pub copy_line : ℕ → Holding → List ℕ
copy_line id copy = line_of (codes "copy") (decimal id ∷ decimal copy.au ∷ blocks_text copy.blocks ∷ [])

-- what a peer is besides: its hash, its lists, and its copies
unfoldable pub belongings : PeerPlan → List ℕ
belongings p =
    hash_line p.id p.hash ++ list_line (codes "refs") p.id p.refs ++ list_line (codes "friends") p.id p.friends
    ++ flat_map (copy_line p.id) p.copies

-- the lines of a plan
unfoldable pub plan_text : Plan → List ℕ
plan_text plan =
    line_of (codes "lockss") (codes "1" ∷ []) ++ rules_line plan.rules
    ++ line_of (codes "turns") (decimal plan.turns ∷ [])
    ++ flat_map au_line plan.aus ++ flat_map peer_line plan.peers ++ flat_map belongings plan.peers

-- the lines of a script
unfoldable pub script_text : Script → List ℕ
script_text script = plan_text script.plan ++ flat_map step_line script.steps
