-- What votes over versions restore, of plain lists.
use Rattle.std.proofs.Common.{◌≡◌, ◌≤◌, ◌<◌, ◌+◌, ◌∙◌, ◌⊎◌, inl, inr, ap, sym, ℕ, Bool, true, false, cond, eqb, List}
use Rattle.std.proofs.Common.{[], ◌∷◌, length, take, filter, refl, arith}
use Rattle.std.specs.Prelude.{Option, Some, slice_get, ◌||◌, count_by}
use Rattle.std.specs.List.{list_any}
use Rattle.std.proofs.lemmas.Bool.{eq-eqb}
use Rattle.std.proofs.lemmas.List.{length-take-le}
use Rattle.std.proofs.lemmas.List.Sums.{sum_by-cons}
use Rattle.lks_base.specs.Kinds.{is_second}
use Rattle.lks_base.specs.declared.names.PollName.{PollName}
use Rattle.lks_base.specs.declared.records.Record.{Record}
use Rattle.lks_hash.specs.Running.{hashes_of}
use Rattle.lks_hash.proofs.RunningLaws.{hash_at as hash_at_own}
use Rattle.lks_law.proofs.Linked.{Each}
use Rattle.lks_law.specs.Snapshots.{Journals, named_version, held_if, holders, Collision, Collides}
use Rattle.lks_law.proofs.Colliding.{same_or_collide}
use Rattle.lks_law.proofs.Growing.{each_map}
use Rattle.lks_law.proofs.Lists.{each_both}
use Rattle.lks_tally.specs.declared.ballots.Ballot.{Ballot}
use Rattle.lks_tally.specs.declared.ballots.Vote.{Vote}
use Rattle.lks_tally.specs.Counting.{key_for, agrees, against_at}
use Rattle.lks_tally.proofs.Agreeing.{agrees_hash}

-- Counting.

filter_head : (b : Bool) (v : Vote) (vs : List Vote) → length (cond b (v ∷ vs) vs) ≡ cond b 1 0 + length vs
filter_head true v vs = omega arith
filter_head false v vs = omega arith

-- fewer pass the one test where it follows that they pass the other
pub filter_few : (h a : Vote → Bool) (vs : List Vote) → Each (λ v. h v ≡ true → a v ≡ true) vs
    → length (filter h vs) ≤ count_by a vs
filter_few h a [] each = omega arith
filter_few h a (v ∷ vs) each =
    let rest = filter_few h a vs each.1 in
    let head = filter_head (h v) v _ in
    let step : count_by a (v ∷ vs) ≡ cond (a v) 1 0 + count_by a vs = sum_by-cons _ v vs in
    by_tests (h v) (a v) each.0 rest head step
  where
    by_tests : (x y : Bool) → (x ≡ true → y ≡ true) → length (filter h vs) ≤ count_by a vs
        → length (filter h (v ∷ vs)) ≡ cond x 1 0 + length (filter h vs)
        → count_by a (v ∷ vs) ≡ cond y 1 0 + count_by a vs → length (filter h (v ∷ vs)) ≤ count_by a (v ∷ vs)
    by_tests true true f rest head step = omega (arith, rest, head, step)
    by_tests true false f rest head step = absurd (let both = f refl in cc)
    by_tests false true f rest head step = omega (arith, rest, head, step)
    by_tests false false f rest head step = omega (arith, rest, head, step)

record Both (P : Vote → Type 0) (h a : Vote → Bool) : Type 0 where
  vote : Vote
  is : P vote
  held : h vote ≡ true
  agreed : a vote ≡ true

-- one passes both tests, or the two counts are few
both_pass : (P : Vote → Type 0) (h a : Vote → Bool) (vs : List Vote) → Each P vs
    → Both P h a ⊎ (length (filter h vs) + count_by a vs ≤ length vs)
both_pass P h a [] each = inr (omega arith)
both_pass P h a (v ∷ vs) each =
    by_tests (h v) (a v) refl refl (both_pass P h a vs each.1) (filter_head (h v) v _) (sum_by-cons _ v vs)
  where
    by_tests : (x y : Bool) → h v ≡ x → a v ≡ y → Both P h a ⊎ (length (filter h vs) + count_by a vs ≤ length vs)
        → length (filter h (v ∷ vs)) ≡ cond x 1 0 + length (filter h vs)
        → count_by a (v ∷ vs) ≡ cond y 1 0 + count_by a vs
        → Both P h a ⊎ (length (filter h (v ∷ vs)) + count_by a (v ∷ vs) ≤ length (v ∷ vs))
    by_tests x y is_x is_y (inl found) head step = inl found
    by_tests true true is_x is_y (inr few) head step =
        inl (record { vote = v; is = each.0; held = is_x; agreed = is_y })
    by_tests true false is_x is_y (inr few) head step = inr (omega (arith, few, head, step))
    by_tests false true is_x is_y (inr few) head step = inr (omega (arith, few, head, step))
    by_tests false false is_x is_y (inr few) head step = inr (omega (arith, few, head, step))

-- each voter is one of the voters
each_there : (vs : List Vote) → Each (λ v. list_any (λ (u : Vote). eqb u.voter v.voter) vs ≡ true) vs
each_there [] = tt
each_there (v ∷ vs) = (
  ap (λ b. b || list_any (λ (u : Vote). eqb u.voter v.voter) vs) (eq-eqb v.voter v.voter refl),
  each_map _
      _ vs
      (λ w e. either (eqb v.voter w.voter) _ e) (each_there vs),
)
  where
    either : (a b : Bool) → b ≡ true → (a || b) ≡ true
    either true b e = refl
    either false b e = e

pub some_is : {X : Type 0} (o : Option X) (x y : X) → o ≡ Some x → o ≡ Some y → x ≡ y
some_is o x y e f = let both : Some x ≡ Some y = sym e ∙ f in cc

-- this vote is over a version with these first blocks
pub record HeldBy (q : Ballot) (b : ℕ) (good : List (List ℕ)) (Names : Vote → List (List ℕ) → Type 0)
    (v : Vote) : Type 0 where
  pub version : List (List ℕ)
  pub names : Names v version
  pub hashes : v.hashes ≡ hashes_of (is_second q.kind) (key_for q v.voter) version
  pub whole : length version ≡ q.count
  pub front_is : take (b + 1) version ≡ take (b + 1) good

record CollidesIn (q : Ballot) (new : List (List ℕ)) (b : ℕ) (good : List (List ℕ))
    (Names : Vote → List (List ℕ) → Type 0) (votes : List Vote) (held : Vote → Bool) : Type 0 where
  pub vote : Vote
  pub there : list_any (λ (u : Vote). eqb u.voter vote.voter) votes ≡ true
  pub holds : held vote ≡ true
  pub by : HeldBy q b good Names vote
  pub collision : Collision (is_second q.kind) (key_for q vote.voter) (take (b + 1) new) (take (b + 1) by.version)

restores_or_collides : (q : Ballot) (votes : List Vote) (new good : List (List ℕ)) (b minority : ℕ)
    (Names : Vote → List (List ℕ) → Type 0) (held : Vote → Bool)
    → b < length new → length new ≡ q.count → Each (λ v. held v ≡ true → HeldBy q b good Names v) votes
    → against_at q votes new b ≤ minority → minority < length (filter held votes)
    → (take (b + 1) new ≡ take (b + 1) good) ⊎ CollidesIn q new b good Names votes held
restores_or_collides q votes new good b minority Names held inside count each few many =
    elim (both_pass _ held _ votes (each_both _ _ votes each (each_there votes))) [
      | inr less ↦ absurd (omega (arith, less, few, many))
      | inl both ↦ by_vote both.vote both.held (both.is.0 both.held) both.is.1 both.agreed
    ]
  where
    by_hashes : (v : Vote) → held v ≡ true → (x : HeldBy q b good Names v)
        → list_any (λ (u : Vote). eqb u.voter v.voter) votes ≡ true
        → (take (b + 1) new ≡ take (b + 1) x.version) ⊎ Collision (is_second q.kind) (key_for q v.voter)
        (take (b + 1) new) (take (b + 1) x.version)
        → (take (b + 1) new ≡ take (b + 1) good) ⊎ CollidesIn q new b good Names votes held
    by_hashes v holds x there (inl same) = inl (same ∙ x.front_is)
    by_hashes v holds x there (inr found) =
        inr (record { vote = v; there = there; holds = holds; by = x; collision = found })

    by_vote : (v : Vote) → held v ≡ true → HeldBy q b good Names v
        → list_any (λ (u : Vote). eqb u.voter v.voter) votes ≡ true → agrees q new b v ≡ true
        → (take (b + 1) new ≡ take (b + 1) good) ⊎ CollidesIn q new b good Names votes held
    by_vote v holds x there agreed =
        let second = is_second q.kind in
        let key = key_for q v.voter in
        let whole = x.whole in
        let deep : b < length x.version = omega (arith, whole, inside, count) in
        let short : b + 1 ≤ length x.version = omega (arith, deep) in
        let short_new : b + 1 ≤ length new = omega (arith, inside) in
        let his = ap (λ hs. slice_get hs b) x.hashes ∙ hash_at_own second key x.version b deep in
        let mine = agrees_hash q new b v agreed in
        let equal = some_is _ _
        _ mine his in
        by_hashes v holds x there
        (same_or_collide second key _ _
        (length-take-le _ new short_new ∙ sym (length-take-le _ x.version short)) equal)

-- Of known journals.

-- that the voter's journal is known, and names this version
pub record Names (journals : Journals) (q : PollName) (v : Vote) (version : List (List ℕ)) : Type 0 where
  pub journal : List Record
  pub known : journals v.voter ≡ Some journal
  pub named_so : named_version q journal ≡ Some version

pub restored : (journals : Journals) (q : Ballot) (votes : List Vote) (new good : List (List ℕ)) (b minority : ℕ)
    → b < length new → length new ≡ q.count
    → Each (λ v. held_if q.poll good b (journals v.voter) ≡ true → HeldBy q b good (Names journals q.poll) v) votes
    → against_at q votes new b ≤ minority
    → minority < length (holders journals q.poll good b votes)
    → (take (b + 1) new ≡ take (b + 1) good) ⊎ Collides journals q new b votes
unfolding holders
restored journals q votes new good b minority inside count each few many =
    elim (restores_or_collides q votes new good b minority _ _ inside count each few many) [
      | inl same ↦ inl same
      | inr found ↦ inr (record {
        voter = found.vote.voter;
        voted = found.there;
        journal = found.by.names.journal;
        known = found.by.names.known;
        version = found.by.version;
        named_so = found.by.names.named_so;
        collision = found.collision;
      })
    ]
