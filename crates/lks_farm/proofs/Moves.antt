-- Each move of a queue keeps its rule.
use Rattle.std.proofs.Common.{◌≡◌, ◌≢◌, ℕ, zero, suc, ◌+◌, ◌-◌, ◌<◌, ◌≤◌, List, [], ◌∷◌, ◌++◌, map, length, set, sym}
use Rattle.std.proofs.Common.{refl, ap, ◌∙◌, subst, ⊎_elim, append_assoc, append-nil, length-append, arith}
use Rattle.std.specs.Prelude.{flat_map, IsPermutation}
use Rattle.std.proofs.lemmas.List.Sorted.{IsPermutation-refl, IsPermutation-sym, IsPermutation-trans}
use Rattle.std.proofs.lemmas.List.Sorted.{IsPermutation-append_left, IsPermutation-append_right}
use Rattle.std.proofs.lemmas.List.Sorted.{IsPermutation-append_comm, length_permutation}
use Rattle.std.proofs.lemmas.List.Elements.{All-nil, All-head, All-tail, All-push, All-append}
use Rattle.std.proofs.lemmas.List.{length-map, map-append, nil_from_length}
use mathlib.Core.Option.{some, some-injective, some-ne-none}
use lib.ListN.{get_elem?}
use Rattle.crossbeam_queue.specs.Fifo.{Pushes, Pops, Forks, Merges, Learns}
use Rattle.crossbeam_queue.proofs.Lists.{at_set, at_snoc, set_else}
use Rattle.lks_farm.specs.declared.entries.NumberedJob.{NumberedJob}
use Rattle.lks_farm.specs.declared.rule.View.{View}
use Rattle.lks_farm.specs.Entries.{IsOf, EachIsOf}
use Rattle.lks_farm.specs.Sharing.{view_knowing, putting, getting, parts_of, all_put, all_got, Fits, Shared, Moment}
use Rattle.lks_farm.proofs.Orders.{all_more, all_same, all_less, all_snoc, to_front, set_swapped}

parts_set : (views : List View) (port : ℕ) (v w : View) → get_elem? views port ≡ some v
    → parts_of (set views port w) + v.parts ≡ parts_of views + w.parts
parts_set [] port v w at = absurd (some-ne-none v (sym at))
parts_set (x ∷ xs) zero v w at = omega (arith, ap (λ (y : View). y.parts) (some-injective x v at))
parts_set (x ∷ xs) (suc port) v w at = omega (arith, parts_set xs port v w at)

parts_snoc : (views : List View) (w : View) → parts_of (views ++ w ∷ []) ≡ parts_of views + w.parts
parts_snoc [] w = omega arith
parts_snoc (x ∷ xs) w = omega (arith, parts_snoc xs w)

part_le : (views : List View) (port : ℕ) (v : View) → get_elem? views port ≡ some v → v.parts ≤ parts_of views
part_le [] port v at = absurd (some-ne-none v (sym at))
part_le (x ∷ xs) zero v at = omega (arith, ap (λ (y : View). y.parts) (some-injective x v at))
part_le (x ∷ xs) (suc port) v at = omega (arith, part_le xs port v at)

parts_le : (views : List View) (port other : ℕ) (v u : View) → other ≢ port → get_elem? views port ≡ some v
    → get_elem? views other ≡ some u → u.parts + v.parts ≤ parts_of views
parts_le [] port other v u n at at' = absurd (some-ne-none v (sym at))
parts_le (x ∷ xs) zero zero v u n at at' = absurd (n refl)
parts_le (x ∷ xs) zero (suc other) v u n at at' =
    omega (arith, ap (λ (y : View). y.parts) (some-injective x v at), part_le xs other u at')
parts_le (x ∷ xs) (suc port) zero v u n at at' =
    omega (arith, ap (λ (y : View). y.parts) (some-injective x u at'), part_le xs port v at)
parts_le (x ∷ xs) (suc port) (suc other) v u n at at' =
    omega (arith, parts_le xs port other v u (λ e. n (ap suc e)) at at')

abbrev Each : List ℕ → List View → Type 0
Each pool views = (port : ℕ) (v : View) → get_elem? views port ≡ some v → Fits pool v

each_set : (pool : List ℕ) (views : List View) (port : ℕ) (w : View) → Fits pool w → Each pool views
    → Each pool (set views port w)
each_set pool views port w fits each j u at =
    ⊎_elim (λ (x : (j ≡ port) × (w ≡ u)). subst (Fits pool) x.1 fits)
    (λ (x : (j ≢ port) × (get_elem? views j ≡ some u)). each j u x.1) (at_set views port j w u at)

each_snoc : (pool : List ℕ) (views : List View) (w : View) → Fits pool w → Each pool views → Each pool (views ++ w ∷ [])
each_snoc pool views w fits each j u at =
    ⊎_elim (λ x. each j u x) (λ (x : w ≡ u). subst (Fits pool) x fits) (at_snoc views w u j at)

idle_fits : (pool : List ℕ) (parts : ℕ) (other : List ℕ) → (0 < parts → other ≡ pool)
    → Fits pool (view_knowing parts other [] [])
idle_fits pool parts other named =
    record { idle = λ _. (refl, refl); named = named; put = All-nil (IsOf pool); got = All-nil (IsOf pool) }

-- a new queue
pub begins : Shared [] (view_knowing 128 [] [] [] ∷ [])
begins = record {
  pool = [];
  parts = omega arith;
  balance = IsPermutation-refl [];
  each =
      each_snoc [] [] (view_knowing 128 [] [] []) (idle_fits [] 128 [] (λ _. refl))
      (λ j u at. absurd (some-ne-none u (sym at)));
  held = All-nil (IsOf []);
}

-- where one view has all parts, the others have nothing
alone : (pool : List ℕ) (f : View → List NumberedJob) → ((u : View) → Fits pool u → u.parts ≡ 0 → f u ≡ [])
    → (views : List View) → Each pool views → parts_of views ≡ 0 → flat_map f views ≡ []
alone pool f none [] each is = refl
alone pool f none (x ∷ xs) each is =
    ap (λ (l : List NumberedJob). l ++ flat_map f xs) (none x (each 0 x refl) (omega arith))
    ∙ alone pool f none xs (λ j u at. each (suc j) u at) (omega arith)

pub whole : (pool : List ℕ) (f : View → List NumberedJob) → ((u : View) → Fits pool u → u.parts ≡ 0 → f u ≡ [])
    → (views : List View) (port : ℕ) (v : View) → Each pool views → get_elem? views port ≡ some v
    → parts_of views ≡ v.parts → flat_map f views ≡ f v
whole pool f none [] port v each at is = absurd (some-ne-none v (sym at))
whole pool f none (x ∷ xs) zero v each at is =
    let here : x ≡ v = some-injective x v at in
    ap (λ (l : List NumberedJob). f x ++ l)
    (alone pool f none xs (λ j u e. each (suc j) u e) (omega (arith, ap (λ (y : View). y.parts) here)))
    ∙ append-nil (f x) ∙ ap f here
whole pool f none (x ∷ xs) (suc port) v each at is =
    let le : v.parts ≤ parts_of xs = part_le xs port v at in
    ap (λ (l : List NumberedJob). l ++ flat_map f xs) (none x (each 0 x refl) (omega arith))
    ∙ whole pool f none xs port v (λ j u e. each (suc j) u e) at (omega arith)

put_none : (pool : List ℕ) (u : View) → Fits pool u → u.parts ≡ 0 → u.put ≡ []
put_none pool u fits is = (fits.idle is).0

got_none : (pool : List ℕ) (u : View) → Fits pool u → u.parts ≡ 0 → u.got ≡ []
got_none pool u fits is = (fits.idle is).1

-- at a moment at which a view has all parts, what it put is what it got and what the queue held
pub whole_balance : (entries : List NumberedJob) (views : List View) (port : ℕ) (v : View) → Shared entries views
    → get_elem? views port ≡ some v → v.parts ≡ 128 → IsPermutation v.put (v.got ++ entries)
whole_balance entries views port v s at all =
    let put : all_put views
    ≡ v.put = whole s.pool (λ (u : View). u.put) (put_none s.pool) views port v s.each at (s.parts ∙ sym all) in
    let got : all_got views
    ≡ v.got = whole s.pool (λ (u : View). u.got) (got_none s.pool) views port v s.each at (s.parts ∙ sym all) in
    subst (λ (l : List NumberedJob). IsPermutation l (v.got ++ entries)) put
    (subst (λ (l : List NumberedJob). IsPermutation (all_put views) (l ++ entries)) got s.balance)

pub moment_balance : (n : ℕ) (v : View) → v.parts ≡ 128 → Moment n v
    → (entries : List NumberedJob) × (length entries ≡ n) × IsPermutation v.put (v.got ++ entries)
moment_balance n v all m = (m.entries, m.count, whole_balance m.entries m.views m.port v m.shared m.own all)

-- how many are left
pub moment_count : (n : ℕ) (v : View) → v.parts ≡ 128 → Moment n v → length v.put ≡ length v.got + n
moment_count n v all m =
    let b = moment_balance n v all m in
    omega (arith, length_permutation v.put (v.got ++ b.0) b.2, b.1, length-append v.got b.0)

-- where none is left, what was put is what was got
pub moment_end : (n : ℕ) (v : View) → v.parts ≡ 128 → Moment n v → length v.put ≡ length v.got
    → IsPermutation v.put v.got
moment_end n v all m same =
    let b = moment_balance n v all m in
    let none : b.0
    ≡ [] = nil_from_length b.0
    (omega (arith, length_permutation v.put (v.got ++ b.0) b.2, length-append v.got b.0)) in
    subst (IsPermutation v.put) (ap (λ (l : List NumberedJob). v.got ++ l) none ∙ append-nil v.got) b.2

-- two views become one
merged : (f : View → List NumberedJob) (views : List View) (port : ℕ) (v : View) (other : ℕ) (u both spent : View)
    → get_elem? views port ≡ some v → get_elem? views other ≡ some u → other ≢ port
    → f both ≡ f v ++ f u → f spent ≡ []
    → IsPermutation (flat_map f (set (set views port both) other spent)) (flat_map f views)
merged f views port v other u both spent at was two is none =
    let less : List View = set views other spent in
    let at' : get_elem? less port ≡ some v = set_else views other port spent (λ e. two (sym e)) ∙ at in
    subst (λ (l : List View). IsPermutation (flat_map f l) (flat_map f views))
    (set_swapped views other port spent both two)
    (IsPermutation-trans (flat_map f (set less port both)) (f u ++ flat_map f less) (flat_map f views)
    (all_more f less port v both (f u) at' is) (all_less f views other u spent was none))

-- where one view has all parts, the others fit any pool
renamed : (old new : List ℕ) (views : List View) (port : ℕ) (v w : View) → get_elem? views port ≡ some v
    → parts_of views ≡ v.parts → Fits new w → Each old views → Each new (set views port w)
renamed old new views port v w at all fits each j u at' =
    ⊎_elim (λ (x : (j ≡ port) × (w ≡ u)). subst (Fits new) x.1 fits)
    (λ (x : (j ≢ port) × (get_elem? views j ≡ some u)).
    let le : u.parts + v.parts ≤ parts_of views = parts_le views port j v u x.0 at x.1 in
    let none : u.parts ≡ 0 = omega arith in
    let empty = (each j u x.1).idle none in
    record {
      idle = λ _. empty;
      named = λ some. absurd (omega arith);
      put = subst (EachIsOf new) (sym empty.0) (All-nil (IsOf new));
      got = subst (EachIsOf new) (sym empty.1) (All-nil (IsOf new));
    })
    (at_set views port j w u at')

module _ {T : Type 0} (entry : T → NumberedJob) where
  abbrev pub Ruled : List T → List View → Type 0
  Ruled items views = Shared (map entry items) views

  pub learns : (port : ℕ) (v : View) → Learns Ruled port v (λ items. Moment (length items) v)
  learns port v items views s at =
      record {
        entries = map entry items;
        views = views;
        count = length-map items entry;
        shared = s;
        port = port;
        own = at;
      }

  pub pushes : (n port : ℕ) (v : View) (x : T) → 0 < v.parts → IsOf v.pool (entry x)
      → Pushes Ruled n port v x (λ w. w ≡ putting v (entry x))
  pushes n port v x part of items views room s at =
      let w : View = putting v (entry x) in
      let e : List NumberedJob = entry x ∷ [] in
      let held : List NumberedJob = map entry items in
      let mine : Fits s.pool v = s.each port v at in
      let of' : IsOf s.pool (entry x) = subst (λ (p : List ℕ). IsOf p (entry x)) (mine.named part) of in
      let put : IsPermutation (all_put (set views port w)) (e ++ all_put views) = all_more (λ (u : View). u.put)
      views port v w e at refl in
      let got : all_got (set views port w) ≡ all_got views = all_same (λ (u : View). u.got) views port v w at refl in
      let moved : IsPermutation (e ++ (all_got views ++ held)) (all_got views ++ (held ++ e)) =
      IsPermutation-trans (e ++ (all_got views ++ held)) (all_got views ++ (e ++ held)) (all_got views ++ (held ++ e))
      (to_front e (all_got views) held)
      (IsPermutation-append_right (all_got views) (e ++ held) (held ++ e) (IsPermutation-append_comm e held)) in
      let balance : IsPermutation (all_put (set views port w)) (all_got views ++ (held ++ e)) =
      IsPermutation-trans (all_put (set views port w)) (e ++ all_put views) (all_got views ++ (held ++ e)) put
      (IsPermutation-trans (e ++ all_put views) (e ++ (all_got views ++ held)) (all_got views ++ (held ++ e))
      (IsPermutation-append_right e (all_put views) (all_got views ++ held) s.balance) moved) in (
        w,
        record {
          pool = s.pool;
          parts = omega (arith, parts_set views port v w at, s.parts);
          balance =
              subst
              (λ (l : List NumberedJob). IsPermutation (all_put (set views port w))
              (l ++ map entry (items ++ x ∷ []))) (sym got)
              (subst (λ (l : List NumberedJob). IsPermutation (all_put (set views port w)) (all_got views ++ l))
              (sym (map-append entry items (x ∷ []))) balance);
          each = each_set s.pool views port w
              (record {
                idle = λ none. absurd (omega arith);
                named = mine.named;
                put = All-push (IsOf s.pool) v.put (entry x) mine.put of';
                got = mine.got;
              }) s.each;
          held =
              subst (EachIsOf s.pool) (sym (map-append entry items (x ∷ [])))
              (All-push (IsOf s.pool) held (entry x) s.held of');
        },
        refl,
      )

  pub pops : (port : ℕ) (v : View) → 0 < v.parts
      → Pops Ruled port v (λ x w. (w ≡ getting v (entry x)) × IsOf v.pool (entry x))
  pops port v part x items views s at =
      let w : View = getting v (entry x) in
      let e : List NumberedJob = entry x ∷ [] in
      let held : List NumberedJob = map entry items in
      let mine : Fits s.pool v = s.each port v at in
      let of : IsOf s.pool (entry x) = All-head (IsOf s.pool) (entry x) held s.held in
      let got : IsPermutation (all_got (set views port w)) (e ++ all_got views) = all_more (λ (u : View). u.got)
      views port v w e at refl in
      let put : all_put (set views port w) ≡ all_put views = all_same (λ (u : View). u.put) views port v w at refl in
      let joined : IsPermutation (all_got (set views port w) ++ held) (all_got views ++ (e ++ held)) =
      IsPermutation-trans (all_got (set views port w) ++ held) ((e ++ all_got views) ++ held)
      (all_got views ++ (e ++ held))
      (IsPermutation-append_left held (all_got (set views port w)) (e ++ all_got views) got)
      (subst (λ (l : List NumberedJob). IsPermutation l (all_got views ++ (e ++ held)))
      (sym (append_assoc e (all_got views) held)) (to_front e (all_got views) held)) in (
        w,
        record {
          pool = s.pool;
          parts = omega (arith, parts_set views port v w at, s.parts);
          balance = subst (λ (l : List NumberedJob). IsPermutation l (all_got (set views port w) ++ held)) (sym put)
              (IsPermutation-trans (all_put views) (all_got views ++ (e ++ held))
              (all_got (set views port w) ++ held) s.balance
              (IsPermutation-sym (all_got (set views port w) ++ held) (all_got views ++ (e ++ held)) joined));
          each = each_set s.pool views port w
              (record {
                idle = λ none. absurd (omega arith);
                named = mine.named;
                put = mine.put;
                got = All-push (IsOf s.pool) v.got (entry x) mine.got of;
              }) s.each;
          held = All-tail (IsOf s.pool) (entry x) held s.held;
        },
        (refl, subst (λ (p : List ℕ). IsOf p (entry x)) (sym (mine.named part)) of),
      )

  -- a pass gives one part away
  pub forks : (port : ℕ) (v : View) → 1 < v.parts
      → Forks Ruled port v (view_knowing (v.parts - 1) v.pool v.put v.got) (view_knowing 1 v.pool [] [])
  forks port v parts items views s at =
      let left : View = view_knowing (v.parts - 1) v.pool v.put v.got in
      let right : View = view_knowing 1 v.pool [] [] in
      let mine : Fits s.pool v = s.each port v at in
      let vs : List View = set views port left in
      let put : all_put (vs ++ right ∷ [])
      ≡ all_put views = all_snoc (λ (u : View). u.put) vs right ∙ append-nil (all_put vs)
      ∙ all_same (λ (u : View). u.put) views port v left at refl in
      let got : all_got (vs ++ right ∷ [])
      ≡ all_got views = all_snoc (λ (u : View). u.got) vs right ∙ append-nil (all_got vs)
      ∙ all_same (λ (u : View). u.got) views port v left at refl in
      record {
        pool = s.pool;
        parts = omega (arith, parts_snoc vs right, parts_set views port v left at, s.parts);
        balance =
            subst (λ (l : List NumberedJob). IsPermutation l (all_got (vs ++ right ∷ []) ++ map entry items))
            (sym put)
            (subst (λ (l : List NumberedJob). IsPermutation (all_put views) (l ++ map entry items)) (sym got)
            s.balance);
        each = each_snoc s.pool vs right (idle_fits s.pool 1 v.pool (λ _. mine.named (omega arith)))
            (each_set s.pool views port left
            (record {
              idle = λ none. absurd (omega arith);
              named = λ _. mine.named (omega arith);
              put = mine.put;
              got = mine.got;
            }) s.each);
        held = s.held;
      }

  -- two passes become one
  pub merges : (port : ℕ) (v : View) (other : ℕ) (u : View) → 0 < v.parts
      → Merges Ruled port v other u (view_knowing (v.parts + u.parts) v.pool (v.put ++ u.put) (v.got ++ u.got))
      (view_knowing 0 [] [] [])
  merges port v other u part items views s at two at' =
      let both : View = view_knowing (v.parts + u.parts) v.pool (v.put ++ u.put) (v.got ++ u.got) in
      let spent : View = view_knowing 0 [] [] [] in
      let was : get_elem? views other
      ≡ some u = ⊎_elim (λ (x : (other ≡ port) × (both ≡ u)). absurd (two x.0))
      (λ (x : (other ≢ port) × (get_elem? views other ≡ some u)). x.1) (at_set views port other both u at') in
      let mine : Fits s.pool v = s.each port v at in
      let theirs : Fits s.pool u = s.each other u was in
      let vs : List View = set (set views port both) other spent in
      let put : IsPermutation (all_put vs) (all_put views) = merged (λ (y : View). y.put) views port v other u both
      spent at was two refl refl in
      let got : IsPermutation (all_got vs) (all_got views) = merged (λ (y : View). y.got) views port v other u both
      spent at was two refl refl in
      record {
        pool = s.pool;
        parts =
            omega
            (arith, parts_set views port v both at, parts_set (set views port both) other u spent at', s.parts);
        balance = IsPermutation-trans (all_put vs) (all_put views) (all_got vs ++ map entry items) put
            (IsPermutation-trans (all_put views) (all_got views ++ map entry items) (all_got vs ++ map entry items)
            s.balance
            (IsPermutation-append_left (map entry items) (all_got views) (all_got vs)
            (IsPermutation-sym (all_got vs) (all_got views) got)));
        each = each_set s.pool (set views port both) other spent (idle_fits s.pool 0 [] (λ some. absurd (omega arith)))
            (each_set s.pool views port both (record {
              idle = λ none. absurd (omega arith);
              named = λ _. mine.named part;
              put = All-append (IsOf s.pool) v.put u.put mine.put theirs.put;
              got = All-append (IsOf s.pool) v.got u.got mine.got theirs.got;
            }) s.each);
        held = s.held;
      }

  -- the first pass, which knows of nothing, gives the whole right to one that names the pool
  pub names : (port : ℕ) (pool : List ℕ)
      → Forks Ruled port (view_knowing 128 [] [] []) (view_knowing 0 pool [] []) (view_knowing 128 pool [] [])
  names port pool items views s at =
      let v : View = view_knowing 128 [] [] [] in
      let left : View = view_knowing 0 pool [] [] in
      let right : View = view_knowing 128 pool [] [] in
      let vs : List View = set views port left in
      let all : IsPermutation [] (map entry items) = whole_balance (map entry items) views port v s at refl in
      let none : map entry items
      ≡ [] = nil_from_length (map entry items) (length_permutation [] (map entry items) all) in
      let put : all_put (vs ++ right ∷ []) ≡ [] =
      all_snoc (λ (y : View). y.put) vs right ∙ append-nil (all_put vs)
      ∙ all_same (λ (y : View). y.put) views port v left at refl
      ∙ whole s.pool (λ (y : View). y.put) (put_none s.pool) views port v s.each at s.parts in
      let got : all_got (vs ++ right ∷ []) ≡ [] =
      all_snoc (λ (y : View). y.got) vs right ∙ append-nil (all_got vs)
      ∙ all_same (λ (y : View). y.got) views port v left at refl
      ∙ whole s.pool (λ (y : View). y.got) (got_none s.pool) views port v s.each at s.parts in
      record {
        pool = pool;
        parts = omega (arith, parts_snoc vs right, parts_set views port v left at, s.parts);
        balance =
            subst (λ (l : List NumberedJob). IsPermutation l (all_got (vs ++ right ∷ []) ++ map entry items))
            (sym put)
            (subst (λ (l : List NumberedJob). IsPermutation [] (l ++ map entry items)) (sym got) all);
        each =
            each_snoc pool vs right (idle_fits pool 128 pool (λ _. refl))
            (renamed s.pool pool views port v left at s.parts (idle_fits pool 0 pool (λ _. refl)) s.each);
        held = subst (EachIsOf pool) (sym none) (All-nil (IsOf pool));
      }
