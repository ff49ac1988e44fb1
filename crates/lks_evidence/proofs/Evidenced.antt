-- Where a set holds, each replaced block has its evidence.
use Rattle.std.proofs.Common.{◌≡◌, ◌<◌, ◌∙◌, sym, ℕ, true, List, [], ◌∷◌, length, refl, arith}
use Rattle.std.specs.Prelude.{Option, Some, None, unwrap_or, slice_get, slice_set, ◌&&◌, ◌==◌}
use Rattle.std.proofs.lemmas.Bool.{and_parts, eqb-true, eq-eqb, ltb-true}
use Rattle.std.proofs.lemmas.List.{length-set}
use Rattle.lks_base.specs.declared.names.Limits.{Limits}
use Rattle.lks_base.specs.declared.plans.AuPlan.{AuPlan}
use Rattle.lks_base.specs.declared.plans.Plan.{Plan}
use Rattle.lks_base.specs.declared.records.Record.{Record}
use Rattle.lks_law.specs.Journal.{Opening, Replacement, deposit_of, replacements, replaced_by, contents_of, is_shut}
use Rattle.lks_law.specs.Journal.{Repair, is_number}
use Rattle.lks_law.specs.Polls.{ObeyQuorumRule}
use Rattle.lks_law.specs.Safe.{HasEvidence}
use Rattle.lks_evidence.specs.declared.findings.Shelf.{Shelf}
use Rattle.lks_evidence.specs.Records.{deposits, openings}
use Rattle.lks_evidence.specs.Rules.{count_in, deposited_blocks, is_deposited, is_held, is_polled}
use Rattle.lks_evidence.specs.Holding.{SetHolds}

replaced-length : (blocks : List (List ℕ)) (rs : List Replacement) → length (replaced_by blocks rs) ≡ length blocks
replaced-length blocks [] = refl
replaced-length blocks (r ∷ rs) =
    replaced-length (slice_set blocks r.block r.bytes) rs ∙ length-set blocks r.block r.bytes

-- a copy has as many blocks as its deposit
pub copy_length : (au : ℕ) (journal : List Record) → length (contents_of au journal)
    ≡ length (deposited_blocks au journal)
unfolding contents_of deposited_blocks
copy_length au journal = replaced-length (unwrap_or (deposit_of au journal) []) (replacements au journal)

numbered : (o : Option ℕ) (n : ℕ) → is_number o n ≡ true → unwrap_or o 0 ≡ n
numbered None n e = absurd cc
numbered (Some k) n e = eqb-true k n e

-- and of a held AU as many as the plan gives it
pub held_count : (aus : List AuPlan) (journal before : List Record) (r : Repair) → is_held aus journal before r ≡ true
    → unwrap_or (count_in aus r.au) 0 ≡ length (contents_of r.au before)
unfolding is_held is_deposited
held_count aus journal before r held =
    let deposit = (and_parts
    (deposits r.au before == 1 && is_number (count_in aus r.au) (length (deposited_blocks r.au before))) _ held).0 in
    numbered (count_in aus r.au) (length (deposited_blocks r.au before))
    (and_parts (deposits r.au before == 1) _ deposit).1
    ∙ sym (copy_length r.au before)

pub held_block : (aus : List AuPlan) (journal before : List Record) (r : Repair)
    → is_held aus journal before r ≡ true → r.block < length (contents_of r.au before)
unfolding is_held
held_block aus journal before r held =
    let rest = (and_parts (is_deposited aus r.au before) _ held).1 in
    let within =
    ltb-true r.block (length (deposited_blocks r.au before)) (and_parts (deposits r.au journal == 1) _ rest).1 in
    omega (arith, within, copy_length r.au before)

-- what is known of a poll that was opened so
pub record Polled (limits : Limits) (before : List Record) (r : Repair) (o : Opening) : Type 0 where
  pub once : openings r.number before ≡ 1
  pub of_au : o.au ≡ r.au
  pub ended : is_shut r.number before ≡ true
  pub lawful : ObeyQuorumRule limits

pub polled_parts : (limits : Limits) (before : List Record) (r : Repair) (o : Opening)
    → is_polled limits before r o ≡ true → Polled limits before r o
unfolding is_polled
polled_parts limits before r o e =
    let first = and_parts (openings r.number before == 1) _ e in
    let second = and_parts (o.au == r.au) _ first.1 in
    let last = and_parts (is_shut r.number before) _ second.1 in
    record {
      once = eqb-true (openings r.number before) 1 first.0;
      of_au = eqb-true o.au r.au second.0;
      ended = last.0;
      lawful = last.1;
    }

pub polled_from : (limits : Limits) (before : List Record) (r : Repair) (o : Opening) → Polled limits before r o
    → is_polled limits before r o ≡ true
unfolding is_polled
polled_from limits before r o p = rw (p.once, eq-eqb o.au r.au p.of_au, p.ended, p.lawful) refl

pub has_evidence : (plan : Plan) (set : List Shelf) (k : ℕ) (s : Shelf) → SetHolds plan set
    → slice_get set k ≡ Some s → HasEvidence plan.rules s.peer s.list.items
has_evidence plan set k s h at i q r there says = (h.repairs k s at i q r there says).evidence
