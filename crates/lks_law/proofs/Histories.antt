-- A history and one event more.
use Rattle.std.proofs.Common.{◌≡◌, ◌+◌, ◌≤◌, ◌<◌, ◌∙◌, ap, ℕ, zero, suc, Bool, true, false, cond, List, [], ◌∷◌, ◌++◌}
use Rattle.std.proofs.Common.{length, refl, arith}
use Rattle.std.specs.Prelude.{not, filter, map, ◌||◌, ◌&&◌}
use Rattle.std.specs.List.{list_any, range_with_len}
use Rattle.std.proofs.lemmas.List.Folds.{list_any-append}
use Rattle.lks_law.proofs.Ranges.{range_parts}
use Rattle.lks_base.specs.declared.entries.Entry.{Entry}
use Rattle.lks_base.specs.declared.events.Event.{Event}
use Rattle.lks_base.specs.declared.events.Event.TheVariants.{Step, Cut, Tick, Lose, Forge, Crash}
use Rattle.lks_base.specs.declared.plans.Plan.{Plan}
use Rattle.lks_law.specs.Due.{takes_out, is_pending, pending}
use Rattle.lks_law.specs.Entries.{entry_of, entries_from, entries}
use Rattle.lks_law.specs.World.{World, happens, happen_all, world}

all_more : (w : World) (history : List Event) (e : Event)
    → happen_all w (history ++ e ∷ []) ≡ happens (happen_all w history) e
all_more w [] e = refl
all_more w (d ∷ ds) e = all_more (happens w d) ds e

pub world_more : (plan : Plan) (history : List Event) (e : Event)
    → world plan (history ++ e ∷ []) ≡ happens (world plan history) e
unfolding world
world_more plan history e = all_more _ history e

from_more : (w : World) (history : List Event) (e : Event)
    → entries_from w (history ++ e ∷ []) ≡ entries_from w history ++ entry_of (happen_all w history) e ∷ []
from_more w [] e = refl
from_more w (d ∷ ds) e = ap (λ es. entry_of w d ∷ es) (from_more (happens w d) ds e)

pub entries_more : (plan : Plan) (history : List Event) (e : Event)
    → entries plan (history ++ e ∷ []) ≡ entries plan history ++ entry_of (world plan history) e ∷ []
unfolding entries world
entries_more plan history e = from_more _ history e

-- The envelopes that wait after one event more.

pass_all : (q : ℕ → Bool) (a n : ℕ) → ((i : ℕ) → a ≤ i → q i ≡ true)
    → filter q (range_with_len a n) ≡ range_with_len a n
pass_all q a zero p = refl
pass_all q a (suc n) p =
    ap (λ b. cond b (a ∷ filter q (range_with_len (a + 1) n)) (filter q (range_with_len (a + 1) n))) (p a (omega arith))
    ∙ ap (λ is. a ∷ is) (pass_all q (a + 1) n (λ i le. p i (omega arith)))

filter-append : (q : ℕ → Bool) (xs ys : List ℕ) → filter q (xs ++ ys) ≡ filter q xs ++ filter q ys
filter-append q [] ys = refl
filter-append q (x ∷ xs) ys = filter_head (q x) x (filter q xs) (filter q ys) (filter q _) (filter-append q xs ys)
  where
    filter_head : (b : Bool) (x : ℕ) (xs ys zs : List ℕ) → zs ≡ xs ++ ys → cond b (x ∷ zs) zs ≡ cond b (x ∷ xs) xs ++ ys
    filter_head true x xs ys zs e = ap (λ is. x ∷ is) e
    filter_head false x xs ys zs e = e

twice_head : (q : ℕ → Bool) (a : Bool) (x : ℕ) (ps qs : List ℕ) → qs ≡ filter q ps
    → cond (a && q x) (x ∷ qs) qs ≡ filter q (cond a (x ∷ ps) ps)
twice_head q true x ps qs e = ap (λ zs. cond (q x) (x ∷ zs) zs) e
twice_head q false x ps qs e = e

filter_twice : (p q : ℕ → Bool) (xs : List ℕ) → filter (λ i. p i && q i) xs ≡ filter q (filter p xs)
filter_twice p q [] = refl
filter_twice p q (x ∷ xs) = twice_head q (p x) x _ _ (filter_twice p q xs)

-- an envelope waits after one event more if it waited and the event doesn't take it out
pending_after : (history : List Event) (e : Event) (i : ℕ)
    → is_pending (history ++ e ∷ []) i ≡ (is_pending history i && not (takes_out i e))
pending_after history e i = ap not (list_any-append _ history _) ∙ neither (list_any _ history) (takes_out i e)
  where
    neither : (a b : Bool) → not (a || (b || false)) ≡ (not a && not b)
    neither true b = refl
    neither false true = refl
    neither false false = refl

same_tests : (p q : ℕ → Bool) (xs : List ℕ) → ((i : ℕ) → p i ≡ q i) → filter p xs ≡ filter q xs
same_tests p q [] h = refl
same_tests p q (x ∷ xs) h =
    ap (λ b. cond b (x ∷ filter p xs) (filter p xs)) (h x) ∙ ap (λ zs. cond (q x) (x ∷ zs) zs) (same_tests p q xs h)

waiting_more : (history : List Event) (e : Event) (n k : ℕ) → ((i : ℕ) → n ≤ i → is_pending history i ≡ true)
    → ((i : ℕ) → n ≤ i → takes_out i e ≡ false)
    → filter (is_pending (history ++ e ∷ [])) (range_with_len 0 (n + k))
    ≡ filter (λ i. not (takes_out i e)) (filter (is_pending history) (range_with_len 0 n)) ++ range_with_len n k
waiting_more history e n k fresh untouched =
    let after = is_pending (history ++ e ∷ []) in
    let stays : _ → Bool = λ i. not (takes_out i e) in
    ap (filter after) (range_parts 0 n k ∙ ap (λ m. range_with_len 0 n ++ range_with_len m k) zero_n)
    ∙ filter-append after _ _
    ∙ ap (λ is. is ++ filter after (range_with_len n k))
    (same_tests after _ _ (pending_after history e)
    ∙ filter_twice _ stays (range_with_len 0 n))
    ∙ ap (λ is. filter stays (filter (is_pending history) (range_with_len 0 n)) ++ is)
    (pass_all after n k
    (λ i le. pending_after history e i ∙ ap (λ b. b && stays i) (fresh i le) ∙ ap not (untouched i le)))
  where
    zero_n : 0 + n ≡ n
    zero_n = omega arith

-- the envelopes that wait after one event more: those before that it doesn't take out, and what it sends
pub pending_more : (plan : Plan) (history : List Event) (e : Event) (k : ℕ)
    → length (world plan (history ++ e ∷ [])).bag ≡ length (world plan history).bag + k
    → ((i : ℕ) → length (world plan history).bag ≤ i → is_pending history i ≡ true)
    → ((i : ℕ) → length (world plan history).bag ≤ i → takes_out i e ≡ false)
    → pending plan (history ++ e ∷ [])
    ≡ filter (λ i. not (takes_out i e)) (pending plan history)
    ++ range_with_len (length (world plan history).bag) k
unfolding pending
pending_more plan history e k grown fresh untouched =
    ap (λ m. filter (is_pending (history ++ e ∷ [])) (range_with_len 0 m)) grown
    ∙ waiting_more history e _ k fresh untouched

pub fresh_more : (history : List Event) (e : Event) (n m : ℕ) → n ≤ m
    → ((i : ℕ) → n ≤ i → is_pending history i ≡ true) → ((i : ℕ) → n ≤ i → takes_out i e ≡ false) → (i : ℕ) → m ≤ i
    → is_pending (history ++ e ∷ []) i ≡ true
fresh_more history e n m le fresh untouched i far =
    pending_after history e i ∙ ap (λ b. b && not (takes_out i e)) (fresh i (omega arith))
    ∙ ap not (untouched i (omega arith))

pub pass_true : (xs : List ℕ) → filter (λ i. true) xs ≡ xs
pass_true [] = refl
pass_true (x ∷ xs) = ap (λ is. x ∷ is) (pass_true xs)

head_below : (b : Bool) (a end i : ℕ) (xs is : List ℕ) → a < end → (xs ≡ i ∷ is → i < end)
    → cond b (a ∷ xs) xs ≡ i ∷ is → i < end
head_below true a end i xs is here later e = let same : a ≡ i = cc in omega arith
head_below false a end i xs is here later e = later e

first_below : (q : ℕ → Bool) (a n end i : ℕ) (is : List ℕ) → a + n ≤ end → filter q (range_with_len a n) ≡ i ∷ is
    → i < end
first_below q a zero end i is le e = absurd cc
first_below q a (suc n) end i is le e =
    head_below (q a) a end i _ is (omega arith) (first_below q (a + 1) n end i is (omega arith)) e

-- an envelope that waits stands in the bag
pub waiting_stands : (plan : Plan) (history : List Event) (i : ℕ) (is : List ℕ) → pending plan history ≡ i ∷ is
    → i < length (world plan history).bag
unfolding pending
waiting_stands plan history i is e = first_below _ 0 (length (world plan history).bag) _ i is (omega arith) e

pub entry_event : (w : World) (e : Event) → (entry_of w e).event ≡ e
unfolding entry_of
entry_event w (Step s) = refl
entry_event w (Cut s kept) = refl
entry_event w (Forge from to bytes) = refl
entry_event w (Tick by) = refl
entry_event w (Lose envelope) = refl
entry_event w (Crash peer) = refl

events_from : (w : World) (history : List Event) → map (λ (e : Entry). e.event) (entries_from w history) ≡ history
events_from w [] = refl
events_from w (e ∷ es) =
    ap (λ d. d ∷ map (λ (x : Entry). x.event) (entries_from (happens w e) es)) (entry_event w e)
    ∙ ap (λ ds. e ∷ ds) (events_from (happens w e) es)

pub entries_events : (plan : Plan) (history : List Event)
    → map (λ (e : Entry). e.event) (entries plan history) ≡ history
unfolding entries
entries_events plan history = events_from _ history
