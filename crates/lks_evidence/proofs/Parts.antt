-- A part of a set that holds.
use Rattle.std.proofs.Common.{◌≡◌, ◌∙◌, inl, inr, ap, sym, subst, ℕ, zero, suc, Bool, true, false, cond, List, []}
use Rattle.std.proofs.Common.{◌∷◌, ◌++◌, take, refl, append_assoc}
use Rattle.std.specs.Prelude.{Option, Some, None, slice_get, not, ◌||◌, ◌==◌}
use Rattle.std.proofs.lemmas.Bool.{and_parts, and_from, not-true, not_from_false, or_left, or_right, eqb-true, eq-eqb}
use Rattle.std.proofs.lemmas.Bool.{false≢true}
use Rattle.std.proofs.lemmas.List.{append-nil}
use Rattle.std.proofs.lemmas.List.Elements.{All-weaker}
use Rattle.std.proofs.lemmas.List.Folds.{list_any-append}
use Rattle.lks_base.specs.Checking.{has_honest}
use Rattle.lks_base.specs.declared.plans.Plan.{Plan}
use Rattle.lks_base.specs.declared.records.Record.{Record}
use Rattle.lks_law.specs.Journal.{Repair}
use Rattle.lks_law.specs.Polls.{votes_behind, ballot_behind}
use Rattle.lks_tally.specs.declared.ballots.Ballot.{Ballot}
use Rattle.lks_tally.specs.declared.ballots.Vote.{Vote}
use Rattle.lks_evidence.specs.declared.findings.Shelf.{Shelf}
use Rattle.lks_evidence.specs.Rules.{has_shelf, is_new, shelf_of, bears_out_if, is_founded}
use Rattle.lks_evidence.specs.Holding.{Stands, SetHolds}
use Rattle.lks_evidence.specs.Parts.{IsPart}

-- who has a shelf among some has one among others
abbrev Includes : List Shelf → List Shelf → Type 0
Includes small big = (p : ℕ) → has_shelf small p ≡ true → has_shelf big p ≡ true

abbrev AreNew : Plan → List Shelf → List Shelf → Type 0
AreNew plan before set =
    (k : ℕ) (s : Shelf) → slice_get set k ≡ Some s → is_new plan (before ++ take k set) s.peer ≡ true

unshelved : (small big : List Shelf) (p : ℕ) → Includes small big → has_shelf big p ≡ false → has_shelf small p ≡ false
unshelved small big p inc e = by_test (has_shelf small p) refl
  where
    by_test : (b : Bool) → has_shelf small p ≡ b → b ≡ false
    by_test true is = absurd (false≢true (sym e ∙ inc p is))
    by_test false is = refl

new_parts : (plan : Plan) (before : List Shelf) (p : ℕ) → is_new plan before p ≡ true
    → (has_honest plan.peers p ≡ true) × (has_shelf before p ≡ false)
unfolding is_new
new_parts plan before p e =
    let parts = and_parts (has_honest plan.peers p) (not (has_shelf before p)) e in
    (parts.0, not-true (has_shelf before p) parts.1)

new_less : (plan : Plan) (small big : List Shelf) (p : ℕ) → Includes small big → is_new plan big p ≡ true
    → is_new plan small p ≡ true
unfolding is_new
new_less plan small big p inc e =
    let parts = new_parts plan big p e in
    and_from (has_honest plan.peers p) (not (has_shelf small p)) parts.0
    (not_from_false (has_shelf small p) (unshelved small big p inc parts.1))

shelf_more : (xs ys : List Shelf) (p : ℕ) → has_shelf (xs ++ ys) p ≡ (has_shelf xs p || has_shelf ys p)
shelf_more xs ys p = list_any-append (λ s. s.peer == p) xs ys

includes_skip : (small big : List Shelf) (y : Shelf) → Includes small big → Includes small (big ++ y ∷ [])
includes_skip small big y inc p e = shelf_more big (y ∷ []) p ∙ or_left (has_shelf big p) _ (inc p e)

includes_more : (small big : List Shelf) (y : Shelf) → Includes small big → Includes (small ++ y ∷ []) (big ++ y ∷ [])
includes_more small big y inc p e =
    shelf_more big (y ∷ []) p ∙ by_old (has_shelf small p) refl (sym (shelf_more small (y ∷ []) p) ∙ e)
  where
    by_old : (b : Bool) → has_shelf small p ≡ b → (b || has_shelf (y ∷ []) p) ≡ true
        → (has_shelf big p || has_shelf (y ∷ []) p) ≡ true
    by_old true is e = or_left (has_shelf big p) _ (inc p is)
    by_old false is e = or_right (has_shelf big p) _ e

rest_new : (plan : Plan) (before : List Shelf) (s : Shelf) (set : List Shelf) → AreNew plan before (s ∷ set)
    → AreNew plan (before ++ s ∷ []) set
rest_new plan before s set h k x at =
    ap (λ b. is_new plan b x.peer) (append_assoc before (s ∷ []) (take k set)) ∙ h (suc k) x at

first_new : (plan : Plan) (before : List Shelf) (s : Shelf) (set : List Shelf) → AreNew plan before (s ∷ set)
    → is_new plan before s.peer ≡ true
first_new plan before s set h = ap (λ b. is_new plan b s.peer) (sym (append-nil before)) ∙ h 0 s refl

join_new : (plan : Plan) (before : List Shelf) (s : Shelf) (set : List Shelf) → is_new plan before s.peer ≡ true
    → AreNew plan (before ++ s ∷ []) set → AreNew plan before (s ∷ set)
join_new plan before s set first rest zero x at =
    let same : s ≡ x = cc in
    ap (λ b. is_new plan b x.peer) (append-nil before)
    ∙ subst (λ (y : Shelf). is_new plan before y.peer ≡ true) same first
join_new plan before s set first rest (suc k) x at =
    ap (λ b. is_new plan b x.peer) (sym (append_assoc before (s ∷ []) (take k set))) ∙ rest k x at

part_new : (plan : Plan) (part set small big : List Shelf) → Includes small big → IsPart part set
    → AreNew plan big set → AreNew plan small part
part_new plan [] set small big inc is h = λ k x at. absurd cc
part_new plan (s ∷ part) [] small big inc is h = absurd is
part_new plan (s ∷ part) (t ∷ set) small big inc (inl both) h =
    join_new plan small s part
    (new_less plan small big s.peer inc
    (subst (λ (y : Shelf). is_new plan big y.peer ≡ true) (sym both.0) (first_new plan big t set h)))
    (part_new plan part set (small ++ s ∷ []) (big ++ t ∷ [])
    (subst (λ (y : Shelf). Includes (small ++ s ∷ []) (big ++ y ∷ [])) both.0 (includes_more small big s inc))
    both.1 (rest_new plan big t set h))
part_new plan (s ∷ part) (t ∷ set) small big inc (inr rest) h =
    part_new plan (s ∷ part) set small (big ++ t ∷ []) (includes_skip small big t inc) rest (rest_new plan big t set h)

-- Where a shelf is.

record At (set : List Shelf) (t : Shelf) : Type 0 where
  place : ℕ
  there : slice_get set place ≡ Some t

later : (s : Shelf) (set : List Shelf) (t : Shelf) → At set t → At (s ∷ set) t
later s set t at = record { place = suc at.place; there = at.there }

part_at : (part set : List Shelf) (k : ℕ) (t : Shelf) → IsPart part set → slice_get part k ≡ Some t → At set t
part_at [] set k t is at = absurd cc
part_at (s ∷ part) [] k t is at = absurd is
part_at (s ∷ part) (x ∷ set) zero t (inl both) at =
    let same : s ≡ t = cc in
    record { place = 0; there = ap Some (sym both.0 ∙ same) }
part_at (s ∷ part) (x ∷ set) (suc k) t (inl both) at = later x set t (part_at part set k t both.1 at)
part_at (s ∷ part) (x ∷ set) k t (inr rest) at = later x set t (part_at (s ∷ part) set k t rest at)

record Found (set : List Shelf) (p : ℕ) (t : Shelf) : Type 0 where
  at : At set t
  of_peer : t.peer ≡ p

found : (set : List Shelf) (p : ℕ) (t : Shelf) → shelf_of set p ≡ Some t → Found set p t
unfolding shelf_of
found [] p t e = absurd cc
found (s ∷ set) p t e = by_test (s.peer == p) refl e (found set p t)
  where
    by_test : (b : Bool) → (s.peer == p) ≡ b → cond b (Some s) (shelf_of set p) ≡ Some t
        → (shelf_of set p ≡ Some t → Found set p t) → Found (s ∷ set) p t
    by_test true is e rest =
        let same : s ≡ t = cc in
        record {
          at = record { place = 0; there = ap Some same };
          of_peer = subst (λ (y : Shelf). y.peer ≡ p) same (eqb-true s.peer p is);
        }
    by_test false is e rest =
        let f = rest e in
        record { at = later s set t f.at; of_peer = f.of_peer }

-- a shelf of a set in which each is new is found by its peer
found_new : (plan : Plan) (before set : List Shelf) (k : ℕ) (t : Shelf) → AreNew plan before set
    → slice_get set k ≡ Some t → shelf_of set t.peer ≡ Some t
unfolding shelf_of
found_new plan before [] k t h at = absurd cc
found_new plan before (s ∷ set) zero t h at =
    let same : s ≡ t = cc in
    ap (λ b. cond b (Some s) (shelf_of set t.peer)) (eq-eqb s.peer t.peer (ap (λ (y : Shelf). y.peer) same))
    ∙ ap Some same
found_new plan before (s ∷ set) (suc k) t h at =
    let fresh = (new_parts plan (before ++ take (suc k) (s ∷ set)) t.peer (h (suc k) t at)).1 in
    let rest = found_new plan (before ++ s ∷ []) set k t (rest_new plan before s set h) at in
    by_test (s.peer == t.peer) refl (sym (shelf_more before (s ∷ take k set) t.peer) ∙ fresh) rest
  where
    by_test : (b : Bool) → (s.peer == t.peer) ≡ b
        → (has_shelf before t.peer || has_shelf (s ∷ take k set) t.peer) ≡ false → shelf_of set t.peer ≡ Some t
        → cond (s.peer == t.peer) (Some s) (shelf_of set t.peer) ≡ Some t
    by_test true is none rest =
        absurd (false≢true (sym none ∙ or_right (has_shelf before t.peer) _ (or_left (s.peer == t.peer) _ is)))
    by_test false is none rest = ap (λ b. cond b (Some s) (shelf_of set t.peer)) is ∙ rest

founded_part : (plan : Plan) (part set : List Shelf) (q : Ballot) (v : Vote) → AreNew plan [] set → IsPart part set
    → is_founded plan.aus set q v ≡ true → is_founded plan.aus part q v ≡ true
unfolding is_founded
founded_part plan part set q v new is e = by_shelf (shelf_of part v.voter) refl
  where
    by_shelf : (o : Option Shelf) → shelf_of part v.voter ≡ o → bears_out_if plan.aus q o v ≡ true
    by_shelf None none = refl
    by_shelf (Some t) some =
        let f = found part v.voter t some in
        let at = part_at part set f.at.place t is f.at.there in
        let there = found_new plan [] set at.place t new at.there in
        ap (λ o. bears_out_if plan.aus q o v) (sym there ∙ ap (shelf_of set) f.of_peer) ∙ e

stands_part : (plan : Plan) (part set : List Shelf) (poller : ℕ) (journal before : List Record) (r : Repair)
    → AreNew plan [] set → IsPart part set
    → Stands plan set poller journal before r → Stands plan part poller journal before r
stands_part plan part set poller journal before r new is x =
    let q = ballot_behind poller before r x.evidence.opening in
    record {
      held = x.held;
      evidence = x.evidence;
      once = x.once;
      whole = x.whole;
      founded =
          All-weaker (λ v. is_founded plan.aus set q v ≡ true) (λ v. is_founded plan.aus part q v ≡ true)
          (λ v e. founded_part plan part set q v new is e)
          (votes_behind before r x.evidence.opening) x.founded;
    }

pub part_holds : (plan : Plan) (part set : List Shelf) → IsPart part set → SetHolds plan set → SetHolds plan part
part_holds plan part set is h = record {
  shelves = part_new plan part set [] [] (λ p e. e) is h.shelves;
  repairs = λ k s at i q r there says.
      let x = part_at part set k s is at in
      stands_part plan part set s.peer s.list.items _ _ h.shelves is (h.repairs x.place s x.there i q r there says);
}
