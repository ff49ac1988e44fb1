-- Journals of all honest peers of a plan, in its order, may be kept together.
use Rattle.std.proofs.Common.{◌≡◌, ◌==◌, ◌&&◌, ◌||◌, ℕ, Bool, true, false, cond, not, List, [], ◌∷◌, ◌++◌, filter}
use Rattle.std.proofs.Common.{None, refl, sym, ap, subst, ◌∙◌, append_assoc}
use Rattle.std.specs.List.{list_any}
use Rattle.std.proofs.lemmas.Bool.{and_from, eq-eqb, eqb-true, not-true}
use Rattle.std.proofs.lemmas.List.Folds.{list_any-append}
use Rattle.lks_base.specs.Checking.{each, has_honest, has_peer, peer_fault, plan_fault}
use Rattle.lks_base.specs.declared.plans.AuPlan.{AuPlan}
use Rattle.lks_base.specs.declared.plans.PeerPlan.{PeerPlan}
use Rattle.lks_base.specs.declared.plans.Plan.{Plan}
use Rattle.lks_base.proofs.PlanLaws.{no_first, no_second, stands}
use Rattle.lks_print.proofs.Heads.{is_good}
use Rattle.lks_gather.specs.Sets.{Book, may_keep}
use Rattle.lks_gather.specs.Texts.{Filed, AreFiled, AreTheirs, honest_peers}

is_another : (aus : List AuPlan) (peers before : List PeerPlan) (p : PeerPlan)
    → peer_fault aus peers before p ≡ None → has_peer before p.id ≡ false
unfolding peer_fault
is_another aus peers before p e = not-true (has_peer before p.id) (stands _ _ (no_first _ _ (no_second _ _ e)))

or_left : (a b : Bool) → a ≡ true → (a || b) ≡ true
or_left true b e = refl
or_left false b e = absurd cc

or_right : (a b : Bool) → b ≡ true → (a || b) ≡ true
or_right true b e = refl
or_right false b e = e

either : {X : Type 0} (a b : Bool) → (a ≡ true → X) → (b ≡ true → X) → (a || b) ≡ true → X
either true b f g e = f refl
either false b f g e = g e

by_test : (b : Bool) → (b ≡ true → ⊥) → b ≡ false
by_test true f = absurd (f refl)
by_test false f = refl

same : (n : ℕ) → (n == n) ≡ true
same n = eq-eqb n n refl

-- one peer more
was_there : (done : List PeerPlan) (p : PeerPlan) (id : ℕ) → has_peer done id ≡ true
    → has_peer (done ++ p ∷ []) id ≡ true
unfolding has_peer
was_there done p id e =
    list_any-append (λ q. q.id == id) done (p ∷ [])
    ∙ or_left (list_any (λ q. q.id == id) done) ((p.id == id) || false) e

is_there : (done : List PeerPlan) (p : PeerPlan) → has_peer (done ++ p ∷ []) p.id ≡ true
unfolding has_peer
is_there done p =
    list_any-append (λ q. q.id == p.id) done (p ∷ [])
    ∙ or_right (list_any (λ q. q.id == p.id) done) ((p.id == p.id) || false)
    (or_left (p.id == p.id) false (same p.id))

is_honest : (done rest : List PeerPlan) (p : PeerPlan) → p.corrupt ≡ false → has_honest (done ++ p ∷ rest) p.id ≡ true
unfolding has_honest
is_honest done rest p e =
    let test : PeerPlan → Bool = λ q. q.id == p.id && not q.corrupt in
    list_any-append test done (p ∷ rest)
    ∙ or_right (list_any test done) (test p || list_any test rest)
    (or_left (test p) (list_any test rest) (and_from (p.id == p.id) (not p.corrupt) (same p.id) (ap not e)))

-- whoever has a book is one of these
abbrev AreOf : List PeerPlan → List Book → Type 0
AreOf done before = (id : ℕ) → list_any (λ b. b.peer == id) before ≡ true → has_peer done id ≡ true

with_peer : (done : List PeerPlan) (before : List Book) (p : PeerPlan) → AreOf done before
    → AreOf (done ++ p ∷ []) before
with_peer done before p of = λ id e. was_there done p id (of id e)

with_book : (done : List PeerPlan) (before : List Book) (p : PeerPlan) (b : Book) → AreOf done before
    → b.peer ≡ p.id → AreOf (done ++ p ∷ []) (before ++ b ∷ [])
with_book done before p b of is = λ id e.
    either (list_any (λ x. x.peer == id) before) ((b.peer == id) || false)
    (λ old. was_there done p id (of id old))
    (λ new. either (b.peer == id) false
    (λ here. subst (λ (n : ℕ). has_peer (done ++ p ∷ []) n ≡ true) (sym is ∙ eqb-true b.peer id here) (is_there done p))
    (λ none. absurd cc) new)
    (sym (list_any-append (λ x. x.peer == id) before (b ∷ [])) ∙ e)

may : (plan : Plan) (done rest : List PeerPlan) (before : List Book) (p : PeerPlan) (id : ℕ)
    → plan.peers ≡ done ++ p ∷ rest → has_peer done p.id ≡ false → p.corrupt ≡ false → AreOf done before → id ≡ p.id
    → may_keep plan before id ≡ true
unfolding may_keep
may plan done rest before p id all new honest of is =
    subst (λ (n : ℕ). (has_honest plan.peers n && not (list_any (λ b. b.peer == n) before)) ≡ true) (sym is)
    (and_from (has_honest plan.peers p.id) (not (list_any (λ b. b.peer == p.id) before))
    (ap (λ (ps : List PeerPlan). has_honest ps p.id) all ∙ is_honest done rest p honest)
    (ap
    not (by_test (list_any (λ b. b.peer == p.id) before)
    (λ has. let there = of p.id has in absurd (cc (there, new))))))

module _ (plan : Plan) (rest done : List PeerPlan) (p : PeerPlan) (all : plan.peers ≡ done ++ p ∷ rest)
    (good : each (peer_fault plan.aus plan.peers) done (p ∷ rest) ≡ None)
    (next : (before : List Book) (journals : List Filed) (books : List Book) → AreOf (done ++ p ∷ []) before
    → AreTheirs (filter (λ q. not q.corrupt) rest) journals books → AreFiled plan before journals books) where
  with_journal : (before : List Book) (journals : List Filed) (books : List Book) → AreOf done before
      → p.corrupt ≡ false → AreTheirs (p ∷ filter (λ q. not q.corrupt) rest) journals books
      → AreFiled plan before journals books
  with_journal before [] books of honest h = absurd h
  with_journal before (f ∷ journals) [] of honest h = absurd h
  with_journal before (f ∷ journals) (b ∷ books) of honest h = (
    may plan done rest before p b.peer all (is_another plan.aus plan.peers done p (no_first _ _ good)) honest of
        h.0,
    h.1,
    next (before ++ b ∷ []) journals books (with_book done before p b of h.0) h.2,
  )

  one_peer : (before : List Book) (journals : List Filed) (books : List Book) → AreOf done before → (corrupt : Bool)
      → p.corrupt ≡ corrupt
      → AreTheirs (cond (not corrupt) (p ∷ filter (λ q. not q.corrupt) rest) (filter (λ q. not q.corrupt) rest))
      journals books
      → AreFiled plan before journals books
  one_peer before journals books of true is h = next before journals books (with_peer done before p of) h
  one_peer before journals books of false is h = with_journal before journals books of is h

walk : (plan : Plan) (rest done : List PeerPlan) (before : List Book) (journals : List Filed) (books : List Book)
    → plan.peers ≡ done ++ rest → each (peer_fault plan.aus plan.peers) done rest ≡ None → AreOf done before
    → AreTheirs (filter (λ p. not p.corrupt) rest) journals books → AreFiled plan before journals books
walk plan [] done before [] [] all good of theirs = tt
walk plan [] done before [] (b ∷ books) all good of theirs = absurd theirs
walk plan [] done before (f ∷ journals) books all good of theirs = absurd theirs
walk plan (p ∷ rest) done before journals books all good of theirs =
    one_peer plan rest done p all good
    (λ bs js cs of_more h. walk plan rest (done ++ p ∷ []) bs js cs (all ∙ sym (append_assoc done (p ∷ []) rest))
    (no_second _ _ good) of_more h)
    before journals books of p.corrupt refl theirs

pub all_filed : (plan : Plan) (journals : List Filed) (books : List Book) → plan_fault plan ≡ None
    → AreTheirs (honest_peers plan) journals books → AreFiled plan [] journals books
all_filed plan journals books good theirs =
    walk plan plan.peers [] [] journals books refl (is_good plan good).peers (λ id e. absurd cc) theirs
