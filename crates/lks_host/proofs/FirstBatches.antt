-- What a peer's journal begins with is in its limits, and is short.
use Rattle.std.proofs.Common.{◌≡◌, ◌≤◌, ◌<◌, ◌+◌, ◌-◌, ◌==◌, ◌∙◌, inl, inr, ap, sym, subst, ℕ, Bool, true, false}
use Rattle.std.proofs.Common.{cond, List, [], ◌∷◌, ◌++◌, length, get_or, drop, refl, arith, append_assoc, length-drop}
use Rattle.std.specs.Prelude.{Option, Some, None, option_map, find, filter, slice_get, All}
use Rattle.std.specs.List.{filter_map, flat_map, cons_option, position_or_len}
use Rattle.std.proofs.Math.Seq.{drop-append-add}
use Rattle.std.proofs.lemmas.Bool.{cases_lt}
use Rattle.std.proofs.lemmas.List.{drop-append-le, drop_all, drop_more, length-append}
use Rattle.std.proofs.lemmas.List.Elements.{All-nil, All-cons, All-append, All-drop, All-head, All-tail}
use Rattle.std.proofs.lemmas.List.Folds.{find_at}
use Rattle.lks_base.specs.Checking.{plan_fault}
use Rattle.lks_base.specs.declared.plans.AuPlan.{AuPlan}
use Rattle.lks_base.specs.declared.plans.Holding.{Holding}
use Rattle.lks_base.specs.declared.plans.PeerPlan.{PeerPlan}
use Rattle.lks_base.specs.declared.plans.Plan.{Plan}
use Rattle.lks_base.specs.declared.records.Record.{Record}
use Rattle.lks_base.specs.declared.records.Record.TheVariants.{Deposit}
use Rattle.lks_base.proofs.PlanBounds.{few_aus, one_copy, sound_copy}
use Rattle.lks_law.specs.Behind.{latest_tick}
use Rattle.lks_law.specs.Fitting.{AreFitting}
use Rattle.lks_law.specs.State.{blank}
use Rattle.lks_law.specs.World.{deposit_for, deposits, honest_peer, is_honest_at, station_of, standing_of}
use Rattle.lks_law.proofs.Room.{journal_fits}
use Rattle.lks_law.proofs.Sorting.{begun_is}
use Rattle.lks_peer.specs.Knows.{Knowing, knowing_of}
use Rattle.lks_record.specs.Spelling.{IsWithin}
use Rattle.lks_host.specs.Fits.{AreFirst}

-- what is found stands in the list
pub found_at : (q : PeerPlan → Bool) (xs : List PeerPlan) (p : PeerPlan) → find q xs ≡ Some p
    → (i : ℕ) × (slice_get xs i ≡ Some p)
found_at q xs p found = (position_or_len q xs, sym (find_at q xs) ∙ found)

-- ---- limits

-- a copy that can be written as a deposit
abbrev IsSound : Holding → Type 0
IsSound c = (1 ≤ length c.blocks) × (length c.blocks ≤ 512) × All (λ b. length b ≤ 16384) c.blocks

deposit_each : (P : Record → Type 0) → (b : Bool) (au : AuPlan) (c : Holding) (rest : List Record)
    → P (Deposit au.id c.blocks) → All P rest
    → All P (cons_option (cond b (Some (Deposit au.id c.blocks)) None) rest)
deposit_each P true au c rest is later = All-cons P (Deposit au.id c.blocks) rest is later
deposit_each P false au c rest is later = later

module _ (P : Record → Type 0) (each : (au : AuPlan) (c : Holding) → IsSound c → P (Deposit au.id c.blocks)) where
  copies_each : (au : AuPlan) (copies : List Holding) → All IsSound copies → All P (filter_map (deposit_for au) copies)
  copies_each au [] sound = All-nil P
  copies_each au (c ∷ cs) sound =
      deposit_each P (c.au == au.id) au c (filter_map (deposit_for au) cs) (each au c (All-head IsSound c cs sound))
      (copies_each au cs (All-tail IsSound c cs sound))

  deposits_each : (aus : List AuPlan) (copies : List Holding) → All IsSound copies → All P (deposits aus copies)
  unfolding deposits
  deposits_each [] copies sound = All-nil P
  deposits_each (au ∷ aus) copies sound =
      All-append P (filter_map (deposit_for au) copies) (deposits aus copies) (copies_each au copies sound)
      (deposits_each aus copies sound)

  -- what holds of each deposit of such a copy holds of those of a good plan's peer
  begun_each : (plan : Plan) → plan_fault plan ≡ None → (q : PeerPlan → Bool) (p : PeerPlan)
      → find q plan.peers ≡ Some p → All P (deposits plan.aus p.copies)
  begun_each plan good q p found =
      let at = found_at q plan.peers p found in
      deposits_each plan.aus p.copies (sound_copy plan good at.0 p at.1)

-- the records that the journal of a good plan's peer begins with are in their limits
pub begun_within : (plan : Plan) → plan_fault plan ≡ None → (q : PeerPlan → Bool) (p : PeerPlan)
    → find q plan.peers ≡ Some p → All IsWithin (deposits plan.aus p.copies)
begun_within plan good q p found = begun_each IsWithin (λ au c sound. sound) plan good q p found

-- what is made of a peer that is found
pub option_at : {X : Type 0} (made : PeerPlan → X) (o : Option PeerPlan) (q : PeerPlan) (x : X) → o ≡ Some q
    → option_map made o ≡ Some x → x ≡ made q
option_at made None q x there is = absurd cc
option_at made (Some p) q x there is =
    let same : p ≡ q = cc in
    let made_is : made p ≡ x = cc in
    sym made_is ∙ ap made same

-- and so it stands with them
pub begun_knowing : (plan : Plan) (pool : List ℕ) (o : Option PeerPlan) (list : List Record) (peer : Knowing)
    → option_map (λ p. deposits plan.aus p.copies) o ≡ Some list
    → option_map (λ p. knowing_of pool (record { own = station_of plan p; journal = list })) o ≡ Some peer
    → option_map (λ p. knowing_of pool (standing_of plan p)) o ≡ Some peer
begun_knowing plan pool None list peer are is = absurd cc
begun_knowing plan pool (Some p) list peer are is =
    let deposited : deposits plan.aus p.copies ≡ list = cc in
    ap (λ (js : List Record). Some (knowing_of pool (record { own = station_of plan p; journal = js }))) deposited ∙ is

-- ---- number

abbrev is_of : AuPlan → Holding → Bool
is_of au c = c.au == au.id

counted : (b : Bool) (au : AuPlan) (c : Holding) (rest : List Record) (others : List Holding)
    → length rest ≡ length others
    → length (cons_option (cond b (Some (Deposit au.id c.blocks)) None) rest) ≡ length (cond b (c ∷ others) others)
counted true au c rest others same = omega (arith, same)
counted false au c rest others same = same

-- as many deposits of an AU as copies of it
length-copies : (au : AuPlan) (copies : List Holding)
    → length (filter_map (deposit_for au) copies) ≡ length (filter (is_of au) copies)
length-copies au [] = refl
length-copies au (c ∷ cs) =
    counted (is_of au c) au c (filter_map (deposit_for au) cs) (filter (is_of au) cs) (length-copies au cs)

length-deposits : (aus : List AuPlan) (copies : List Holding)
    → ((au : AuPlan) → length (filter (is_of au) copies) ≤ 1) → length (deposits aus copies) ≤ length aus
unfolding deposits
length-deposits [] copies once = omega arith
length-deposits (au ∷ aus) copies once =
    let one : length (filter_map (deposit_for au) copies) ≤ 1 = omega (arith, length-copies au copies, once au) in
    let rest : length (deposits aus copies) ≤ length aus = length-deposits aus copies once in
    let both = length-append (filter_map (deposit_for au) copies) (deposits aus copies) in
    omega (arith, one, rest, both)

-- and there are at most 4, since no peer has two copies of an AU
pub begun_few : (plan : Plan) → plan_fault plan ≡ None → (q : PeerPlan → Bool) (p : PeerPlan)
    → find q plan.peers ≡ Some p → length (deposits plan.aus p.copies) ≤ 4
begun_few plan good q p found =
    let at = found_at q plan.peers p found in
    let each : length (deposits plan.aus p.copies)
    ≤ length plan.aus = length-deposits plan.aus p.copies (λ au. one_copy plan good at.0 p at.1 au.id) in
    omega (arith, each, few_aus plan good)

-- so a part of them is a beginning too
pub first_behind : (plan : Plan) → plan_fault plan ≡ None → (q : PeerPlan → Bool) (p : PeerPlan)
    → find q plan.peers ≡ Some p → (n : ℕ) → AreFirst (drop n (deposits plan.aus p.copies))
first_behind plan good q p found n =
    let few : length (deposits plan.aus p.copies) ≤ 4 = begun_few plan good q p found in
    record {
      within = All-drop IsWithin n (deposits plan.aus p.copies) (begun_within plan good q p found);
      few = omega (arith, few, length-drop n (deposits plan.aus p.copies));
    }

-- Deposits of one AU after another, the first n of which are left out.

drop_both : {X : Type 0} (n : ℕ) (xs ys : List X) → drop n (xs ++ ys) ≡ drop n xs ++ drop (n - length xs) ys
drop_both {X = X} n xs ys = elim (cases_lt (length xs) n) [
  | inl over ↦
      let split : n ≡ length xs + (n - length xs) = omega (arith, over) in
      let none : drop n xs ≡ [] = drop_all n xs (omega (arith, over)) in
      ap (λ (k : ℕ). drop k (xs ++ ys)) split ∙ drop-append-add xs ys (n - length xs)
      ∙ ap (λ (zs : List X). zs ++ drop (n - length xs) ys) (sym none)
  | inr within ↦
      let all : 0 ≡ n - length xs = omega (arith, within) in
      drop-append-le n xs ys within ∙ ap (λ (k : ℕ). drop n xs ++ drop k ys) all
]

pub skipped_more : {X A : Type 0} (f : X → List A) (list total : List A) (n i : ℕ) (xs : List X) (d : X)
    → i < length xs → list ++ drop n (flat_map f (drop i xs)) ≡ total
    → (list ++ drop n (f (get_or xs i d))) ++ drop (n - length (f (get_or xs i d))) (flat_map f (drop (i + 1) xs))
    ≡ total
skipped_more {X = X} {A = A} f list total n i xs d few before =
    let one : List A = f (get_or xs i d) in
    let rest : List A = flat_map f (drop (i + 1) xs) in
    append_assoc list (drop n one) (drop (n - length one) rest)
    ∙ ap (λ (ys : List A). list ++ ys) (sym (drop_both n one rest))
    ∙ ap (λ (ys : List X). list ++ drop n (flat_map f ys)) (sym (drop_more xs i d few))
    ∙ before

-- the deposits of an honest peer of a good plan are a journal, so they fit its state one after another
pub begun_fitting : (plan : Plan) (id : ℕ) (q : PeerPlan) (list : List Record) → plan_fault plan ≡ None
    → honest_peer id plan ≡ Some q → list ≡ deposits plan.aus q.copies
    → (p : PeerPlan) → honest_peer id plan ≡ Some p → AreFitting (station_of plan p) (blank (station_of plan p)) list
begun_fitting plan id q list good found are p there =
    let same : q ≡ p = some_is (sym found ∙ there) in
    let few : length (deposits plan.aus p.copies) ≤ 4 = begun_few plan good (is_honest_at id) p there in
    subst (AreFitting (station_of plan p) (blank (station_of plan p)))
    (sym (are ∙ ap (λ (x : PeerPlan). deposits plan.aus x.copies) same))
    (journal_fits plan id p good there (latest_tick (deposits plan.aus p.copies)) (deposits plan.aus p.copies)
    (omega (arith, few)) (begun_is (station_of plan p) (deposits plan.aus p.copies)))
  where
    some_is : {x y : PeerPlan} → Some x ≡ Some y → x ≡ y
    some_is e = cc
