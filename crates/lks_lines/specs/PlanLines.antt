-- Lines that begin a plan: its rules, its AUs and its peers.
use Rattle.std.specs.Prelude.{ℕ, ◌==◌, Bool, not, ◌&&◌, nat_le, nat_lt, if◌then◌else◌, List, [], ◌∷◌, ◌++◌, length}
use Rattle.std.specs.Prelude.{codes, Option, Some, None, unwrap_or}
use Rattle.std.specs.Str.{bytes_eq}
use Rattle.lks_base.specs.declared.limits.TheConstants.{MOST_AUS, MOST_BLOCKS, MOST_EVENTS, MOST_PEERS}
use Rattle.lks_base.specs.declared.names.HashKind.TheVariants.{Sha256}
use Rattle.lks_base.specs.declared.plans.AuPlan.{AuPlan}
use Rattle.lks_base.specs.declared.plans.PeerPlan.{PeerPlan}
use Rattle.lks_base.specs.declared.plans.Plan.{Plan}
use Rattle.lks_base.specs.declared.plans.Rules.{Rules}
use Rattle.lks_base.specs.Checking.{is_within, are_bounded, are_ordered, has_au, has_peer, is_fit}
use Rattle.lks_lines.specs.declared.plan_lines.PlanDraft.{PlanDraft}
use Rattle.lks_words.specs.Numbers.{◌>>=◌, number_in}
use Rattle.lks_words.specs.Words.{id_in, seed_in, proof_in, kind_in}

-- a name, a number of at most so much, and the words behind them
unfoldable pub named_number : List ℕ → ℕ → List (List ℕ) → Option (ℕ × List (List ℕ))
named_number name most (key ∷ word ∷ rest) =
    if bytes_eq key name then (number_in most word >>= λ n. Some (n, rest)) else None
named_number name most _ = None

-- rules in their bounds and in order
unfoldable pub are_good : Rules → Bool
are_good rules = are_bounded rules && are_ordered rules

-- pace N refractory N overdue N unknown N debt N churn N, behind the sizes
unfoldable pub paces_in : Rules → List (List ℕ) → Option Rules
paces_in sizes words = do
  pace ← named_number (codes "pace") 4294967295 words
  refractory ← named_number (codes "refractory") 4294967295 pace.1
  overdue ← named_number (codes "overdue") 4294967295 refractory.1
  unknown ← named_number (codes "unknown") 255 overdue.1
  debt ← named_number (codes "debt") 255 unknown.1
  churn ← named_number (codes "churn") 65535 debt.1
  if length churn.1 == 0
      then Some
      (record {
        inner = sizes.inner;
        quorum = sizes.quorum;
        minority = sizes.minority;
        outer = sizes.outer;
        repairs = sizes.repairs;
        pace = pace.0;
        refractory = refractory.0;
        overdue = overdue.0;
        unknown_pct = unknown.0;
        debt_pct = debt.0;
        churn = churn.0;
      })
      else None

-- inner N quorum N minority N outer N repairs N, and the numbers behind these
unfoldable pub numbers_in : List (List ℕ) → Option Rules
numbers_in words = do
  inner ← named_number (codes "inner") 65535 words
  quorum ← named_number (codes "quorum") 65535 inner.1
  minority ← named_number (codes "minority") 65535 quorum.1
  outer ← named_number (codes "outer") 65535 minority.1
  repairs ← named_number (codes "repairs") 65535 outer.1
  paces_in
      (record {
        inner = inner.0;
        quorum = quorum.0;
        minority = minority.0;
        outer = outer.0;
        repairs = repairs.0;
        pace = 0;
        refractory = 0;
        overdue = 0;
        unknown_pct = 0;
        debt_pct = 0;
        churn = 0;
      }) repairs.1

-- rules ...: in their bounds and in order
unfoldable pub rules_in : List (List ℕ) → Option Rules
rules_in words = do
  rules ← numbers_in words
  if are_good rules then Some rules else None

-- au A COUNT
unfoldable pub au_in : List (List ℕ) → Option AuPlan
au_in (id ∷ count ∷ []) = do
  a ← id_in id
  n ← number_in 65535 count
  Some (record { id = a; count = n })
au_in _ = None

-- there is room for one more AU, it has as many blocks as an AU may have, and its number is new
unfoldable pub may_add_au : List AuPlan → AuPlan → Bool
may_add_au aus au = nat_lt (length aus) MOST_AUS && is_within 1 MOST_BLOCKS au.count && not (has_au aus au.id)

-- au A COUNT: one AU more
unfoldable pub aus_with : List AuPlan → List (List ℕ) → Option (List AuPlan)
aus_with aus words = do
  au ← au_in words
  if may_add_au aus au then Some (aus ++ au ∷ []) else None

-- peer P honest SEED PROOF, peer P corrupt SEED PROOF
unfoldable pub peer_in : List (List ℕ) → Option PeerPlan
peer_in (id ∷ kind ∷ seed ∷ proof ∷ []) = do
  p ← id_in id
  corrupt ← kind_in kind
  seed ← seed_in seed
  proof ← proof_in proof
  Some
      (record {
        id = p;
        corrupt = corrupt;
        seed = seed;
        proof = proof;
        refs = [];
        friends = [];
        copies = [];
        hash = Sha256;
      })
peer_in _ = None

-- a plan without peers, whose copies have no bytes
abbrev pub begun_draft : Rules → Option ℕ → List AuPlan → PlanDraft
begun_draft rules turns aus =
    record {
      plan = record { rules = rules; turns = unwrap_or turns MOST_EVENTS; aus = aus; peers = [] };
      bytes = 0;
      hashed = [];
    }

-- the draft with other peers, whose copies have so many bytes
abbrev pub with_peers : PlanDraft → List PeerPlan → ℕ → PlanDraft
with_peers d peers bytes =
    record {
      plan = record { rules = d.plan.rules; turns = d.plan.turns; aus = d.plan.aus; peers = peers };
      bytes = bytes;
      hashed = d.hashed;
    }

-- there is an AU, there is room for one more peer, its number is new, and its proof isn't too long
unfoldable pub may_add_peer : Plan → PeerPlan → Bool
may_add_peer plan peer =
    nat_le 1 (length plan.aus) && nat_lt (length plan.peers) MOST_PEERS && not (has_peer plan.peers peer.id)
    && is_fit peer

-- one peer more
unfoldable pub draft_with_peer : PlanDraft → List (List ℕ) → Option PlanDraft
draft_with_peer d words = do
  peer ← peer_in words
  if may_add_peer d.plan peer then Some (with_peers d (d.plan.peers ++ peer ∷ []) d.bytes) else None
