-- What a seat stores still agrees with the views of its passes.
use Rattle.std.proofs.Common.{◌≡◌, ℕ, true≢false, ◌+◌, Option, None, Some, List, [], ◌∷◌, ◌++◌, length, sym, refl, ap}
use Rattle.std.proofs.Common.{◌∙◌, subst, append-nil, length-append, arith}
use Rattle.std.specs.Prelude.{IfSome, IsNone, option_map, option_to_list, slice_get}
use Rattle.std.proofs.lemmas.Option.{slice_get_past}
use Rattle.lks_farm.specs.declared.jobs.JobNumber.{JobNumber}
use Rattle.lks_farm.specs.declared.jobs.FarmDone.{FarmDone}
use Rattle.lks_farm.specs.declared.entries.NumberedJob.{NumberedJob}
use Rattle.lks_farm.specs.declared.rule.View.{View}
use Rattle.lks_farm.specs.Entries.{IsOf, entry_done}
use Rattle.lks_farm.specs.Sharing.{view_knowing, putting, getting}
use Rattle.lks_farm.specs.Seats.{AreCounted, HandSeen, Keeps, SeatSeen, held_by, jobs_view, results_view, seat_seen}

counted_more : (seat k : ℕ) (es : List NumberedJob) (e : NumberedJob) (n : ℕ) → n ≡ k + length es
    → AreCounted seat k es → e.number ≡ record { seat = seat; count = n } → AreCounted seat k (es ++ e ∷ [])
counted_more seat k [] e n at all is =
    let here : n ≡ k = omega arith in
    (is ∙ ap (λ (m : ℕ). let number : JobNumber = record { seat = seat; count = m } in number) here, tt)
counted_more seat k (x ∷ xs) e n at all is = (all.0, counted_more seat (k + 1) xs e n (omega arith) all.1 is)

abbrev number_of : Option NumberedJob → Option JobNumber
number_of o = option_map (λ (e : NumberedJob). e.number) o

some_same : (e f : NumberedJob) → Some e ≡ Some f → e ≡ f
some_same e f is = cc

none_some : (e : NumberedJob) → None ≡ Some e → ⊥
none_some e is = cc

seam : (xs : List NumberedJob) (e : NumberedJob) → slice_get (xs ++ e ∷ []) (length xs) ≡ Some e
seam [] e = refl
seam (x ∷ xs) e = seam xs e

pub keeps_offer : (number offers : ℕ) (holds : Option JobNumber) (jobs jobs' results : View) (e : NumberedJob)
    → Keeps number offers holds jobs results → jobs' ≡ putting jobs e
    → e.number ≡ record { seat = number; count = offers }
    → Keeps number (offers + 1) holds jobs' results
keeps_offer number offers holds jobs jobs' results e k is numbered =
    subst (λ (v : View). Keeps number (offers + 1) holds v results) (sym is) (record {
      some_part = k.some_part;
      same_parts = k.same_parts;
      same_pool = k.same_pool;
      count = omega (arith, k.count, length-append jobs.put (e ∷ []));
      counted = counted_more number 0 jobs.put e offers (omega (arith, k.count)) k.counted numbered;
      taken = k.taken;
      held = k.held;
      of = k.of;
    })

-- what was got while nothing was held is held
held_next : (jobs results : View) (e : NumberedJob)
    → jobs.got ≡ results.put ++ option_to_list (held_by jobs results) → held_by jobs results ≡ None
    → held_by (getting jobs e) results ≡ Some e
held_next jobs results e taken none =
    let same : jobs.got
    ≡ results.put = taken ∙ ap (λ (o : Option NumberedJob). results.put ++ option_to_list o) none
    ∙ append-nil results.put in
    ap (λ (l : List NumberedJob). slice_get (l ++ e ∷ []) (length results.put)) same ∙ seam results.put e

pub keeps_take : (number offers : ℕ) (holds : Option JobNumber) (jobs jobs' results : View) (e : NumberedJob)
    → Keeps number offers holds jobs results → held_by jobs results ≡ None → jobs' ≡ getting jobs e
    → IsOf jobs.pool e
    → Keeps number offers (Some e.number) jobs' results
keeps_take number offers holds jobs jobs' results e k none is of =
    let next : held_by (getting jobs e) results ≡ Some e = held_next jobs results e k.taken none in
    let same : jobs.got
    ≡ results.put = k.taken ∙ ap (λ (o : Option NumberedJob). results.put ++ option_to_list o) none
    ∙ append-nil results.put in
    subst (λ (v : View). Keeps number offers (Some e.number) v results) (sym is) (record {
      some_part = k.some_part;
      same_parts = k.same_parts;
      same_pool = k.same_pool;
      count = k.count;
      counted = k.counted;
      taken =
          ap (λ (l : List NumberedJob). l ++ e ∷ []) same
          ∙ ap (λ (o : Option NumberedJob). results.put ++ option_to_list o) (sym next);
      held = ap (λ (o : Option NumberedJob). number_of o) (sym next);
      of = λ f at. subst (λ (g : NumberedJob). IsOf jobs.pool g) (some_same e f (sym next ∙ at)) of;
    })

pub seen_take : (number : ℕ) (jobs jobs' results : HandSeen) (e : NumberedJob) (now : SeatSeen)
    → seat_seen number jobs results ≡ now → jobs'.table ≡ jobs.table → jobs'.knows ≡ getting jobs.knows e
    → jobs.knows.got ≡ results.knows.put ++ option_to_list (held_by jobs.knows results.knows) → now.held ≡ None
    → seat_seen number jobs' results ≡ record now { held = Some e }
seen_take number jobs jobs' results e now view table is taken free =
    let none : held_by jobs.knows results.knows ≡ None = ap (λ (s : SeatSeen). s.held) view ∙ free in
    let next : held_by jobs'.knows results.knows
    ≡ Some e = ap (λ (v : View). held_by v results.knows) is
    ∙ held_next jobs.knows results.knows e taken none in
    let hand : jobs'
    ≡ record { table = jobs.table; knows = getting jobs.knows e } = λ i.
    record { table = table i; knows = is i } in
    ap
    (λ (h : HandSeen).
    let s : SeatSeen = record (seat_seen number h results) { held = held_by jobs'.knows results.knows } in s)
    hand
    ∙ ap (λ (o : Option NumberedJob). let s : SeatSeen = record (seat_seen number jobs results) { held = o } in s) next
    ∙ ap (λ (s : SeatSeen). let t : SeatSeen = record s { held = Some e } in t) view

-- what is put into the queue of results isn't held any more
held_past : (jobs results : View) (e : NumberedJob)
    → jobs.got ≡ results.put ++ option_to_list (held_by jobs results) → held_by jobs results ≡ Some e
    → held_by jobs (putting results e) ≡ None
held_past jobs results e taken held =
    let same : jobs.got
    ≡ results.put ++ e ∷ [] = taken ∙ ap (λ (o : Option NumberedJob). results.put ++ option_to_list o) held in
    slice_get_past jobs.got (length (results.put ++ e ∷ []))
    (omega (arith, ap (λ (l : List NumberedJob). length l) same))

pub keeps_hand_in : (number offers : ℕ) (holds : Option JobNumber) (jobs results results' : View) (e : NumberedJob)
    → Keeps number offers holds jobs results → held_by jobs results ≡ Some e → results' ≡ putting results e
    → Keeps number offers None jobs results'
keeps_hand_in number offers holds jobs results results' e k held is =
    let past : held_by jobs (putting results e) ≡ None = held_past jobs results e k.taken held in
    let same : jobs.got
    ≡ results.put ++ e ∷ [] = k.taken ∙ ap (λ (o : Option NumberedJob). results.put ++ option_to_list o) held in
    subst (λ (v : View). Keeps number offers None jobs v) (sym is) (record {
      some_part = k.some_part;
      same_parts = k.same_parts;
      same_pool = k.same_pool;
      count = k.count;
      counted = k.counted;
      taken =
          same ∙ sym (append-nil (results.put ++ e ∷ []))
          ∙ ap (λ (o : Option NumberedJob). (results.put ++ e ∷ []) ++ option_to_list o) (sym past);
      held = ap (λ (o : Option NumberedJob). number_of o) (sym past);
      of = λ f at. absurd (none_some f (sym past ∙ at));
    })

pub seen_hand_in : (number : ℕ) (jobs results results' : HandSeen) (e : NumberedJob) (now : SeatSeen)
    → seat_seen number jobs results ≡ now → results'.table ≡ results.table
    → results'.knows ≡ putting results.knows e
    → jobs.knows.got ≡ results.knows.put ++ option_to_list (held_by jobs.knows results.knows) → now.held ≡ Some e
    → seat_seen number jobs results' ≡ record now { handed = now.handed ++ e ∷ []; held = None }
seen_hand_in number jobs results results' e now view table is taken holds =
    let held : held_by jobs.knows results.knows ≡ Some e = ap (λ (s : SeatSeen). s.held) view ∙ holds in
    let past : held_by jobs.knows results'.knows
    ≡ None = ap (λ (v : View). held_by jobs.knows v) is ∙ held_past jobs.knows results.knows e taken held in
    let hand : results'
    ≡ record { table = results.table; knows = putting results.knows e } = λ i.
    record { table = table i; knows = is i } in
    ap
    (λ (h : HandSeen).
    let s : SeatSeen = record (seat_seen number jobs h) { held = held_by jobs.knows results'.knows } in s) hand
    ∙ ap
    (λ (o : Option NumberedJob).
    let s : SeatSeen = record (seat_seen number jobs results) {
      handed = results.knows.put ++ e ∷ [];
      held = o;
    } in s) past
    ∙ ap (λ (s : SeatSeen). let t : SeatSeen = record s { handed = s.handed ++ e ∷ []; held = None } in t) view

-- what was got is of the pool that the view names
pub pool_if : (r : Option FarmDone) (old new : View) (pool : List ℕ) → old.pool ≡ pool
    → IfSome r (λ f. (new ≡ getting old (entry_done f)) × IsOf old.pool (entry_done f))
    → IfSome r (λ f. IsOf pool (entry_done f))
pool_if None old new pool is h = h
pool_if (Some f) old new pool is h = subst (λ (p : List ℕ). IsOf p (entry_done f)) is h.1

pub none_is : (o : Option NumberedJob) → IsNone o → o ≡ None
none_is None h = refl
none_is (Some e) h = absurd (true≢false h)

-- the view of a seat's pass on the queue of jobs
pub jobs_view_is : (number offers : ℕ) (holds : Option JobNumber) (jobs results : HandSeen) (now : SeatSeen)
    → Keeps number offers holds jobs.knows results.knows → seat_seen number jobs results ≡ now
    → jobs.knows ≡ jobs_view now
jobs_view_is number offers holds jobs results now k view =
    ap (λ (l : List NumberedJob). view_knowing jobs.knows.parts jobs.knows.pool jobs.knows.put l) k.taken
    ∙ ap jobs_view view

pub results_view_is : (number offers : ℕ) (holds : Option JobNumber) (jobs results : HandSeen) (now : SeatSeen)
    → Keeps number offers holds jobs.knows results.knows → seat_seen number jobs results ≡ now
    → results.knows ≡ results_view now
results_view_is number offers holds jobs results now k view =
    (λ i. view_knowing (k.same_parts i) (k.same_pool i) results.knows.put results.knows.got) ∙ ap results_view view

pub counted_is : (number offers : ℕ) (holds : Option JobNumber) (jobs results : HandSeen) (now : SeatSeen)
    → Keeps number offers holds jobs.knows results.knows → seat_seen number jobs results ≡ now
    → AreCounted now.badge.number 0 now.offered
counted_is number offers holds jobs results now k view =
    subst (λ (s : SeatSeen). AreCounted s.badge.number 0 s.offered) view k.counted
