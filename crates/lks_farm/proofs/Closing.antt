-- What was offered is what was collected, what is left and what is held.
use Rattle.std.proofs.Common.{◌≡◌, ◌≤◌, cond, List, [], ◌∷◌, ◌++◌, map, sym, refl, ◌∙◌, subst, append_assoc, arith}
use Rattle.std.specs.Prelude.{IsPermutation, option_to_list, sum_by}
use Rattle.std.proofs.lemmas.List.Recursion.{is_sum_by}
use Rattle.std.proofs.lemmas.List.Sorted.{IsPermutation-refl, IsPermutation-trans, IsPermutation-append_left}
use Rattle.std.proofs.lemmas.List.Sorted.{IsPermutation-append_right, IsPermutation-append_comm, sum_by-IsPermutation}
use Rattle.lks_farm.specs.declared.jobs.JobNumber.{JobNumber}
use Rattle.lks_farm.specs.declared.farms.FarmEnd.{FarmEnd}
use Rattle.lks_farm.specs.declared.entries.NumberedJob.{NumberedJob}
use Rattle.lks_farm.specs.Ends.{IsClosed, has_number, times}
use Rattle.lks_farm.specs.Entries.{entry_done, entry_of}
use Rattle.lks_farm.specs.Seats.{SeatSeen, all_collected, all_handed, all_held, all_offered, all_taken}
use Rattle.lks_farm.proofs.Gathering.{times-append}
use Rattle.lks_farm.proofs.Orders.{to_front}

times_by : (n : JobNumber) (es : List NumberedJob)
    → times n es ≡ sum_by (λ (e : NumberedJob). cond (has_number n e) 1 0) es
times_by n es = is_sum_by (times n) (λ (e : NumberedJob). cond (has_number n e) 1 0) refl (λ x xs. refl) es

times-permutation : (n : JobNumber) (xs ys : List NumberedJob) → IsPermutation xs ys → times n ys ≡ times n xs
times-permutation n xs ys h =
    times_by n ys ∙ sum_by-IsPermutation (λ (e : NumberedJob). cond (has_number n e) 1 0) xs ys h
    ∙ sym (times_by n xs)

-- what stands third comes second
last_swapped : (a b c : List NumberedJob) → IsPermutation ((a ++ b) ++ c) ((a ++ c) ++ b)
last_swapped a b c =
    subst (λ (l : List NumberedJob). IsPermutation l ((a ++ c) ++ b)) (sym (append_assoc a b c))
    (subst (λ (l : List NumberedJob). IsPermutation (a ++ (b ++ c)) l) (sym (append_assoc a c b))
    (IsPermutation-append_right a (b ++ c) (c ++ b) (IsPermutation-append_comm b c)))

-- what was taken was handed in or is held
taken_parts : (seats : List SeatSeen) → IsPermutation (all_taken seats) (all_handed seats ++ all_held seats)
taken_parts [] = IsPermutation-refl []
taken_parts (s ∷ ss) =
    let h = s.handed in
    let o = option_to_list s.held in
    let hs = all_handed ss in
    let os = all_held ss in
    let inner : IsPermutation (o ++ all_taken ss) (hs ++ (o ++ os)) =
    IsPermutation-trans (o ++ all_taken ss) (o ++ (hs ++ os)) (hs ++ (o ++ os))
    (IsPermutation-append_right o (all_taken ss) (hs ++ os) (taken_parts ss)) (to_front o hs os) in
    subst (λ (l : List NumberedJob). IsPermutation l ((h ++ hs) ++ (o ++ os))) (sym (append_assoc h o (all_taken ss)))
    (subst (λ (l : List NumberedJob). IsPermutation (h ++ (o ++ all_taken ss)) l)
    (sym (append_assoc h hs (o ++ os)))
    (IsPermutation-append_right h (o ++ all_taken ss) (hs ++ (o ++ os)) inner))

same_jobs : (offered taken handed held collected jobs done : List NumberedJob)
    → IsPermutation offered (taken ++ jobs) → IsPermutation handed (collected ++ done)
    → IsPermutation taken (handed ++ held) → IsPermutation offered (((collected ++ done) ++ jobs) ++ held)
same_jobs offered taken handed held collected jobs done put hand took =
    IsPermutation-trans offered (taken ++ jobs) (((collected ++ done) ++ jobs) ++ held) put
    (IsPermutation-trans (taken ++ jobs) ((handed ++ held) ++ jobs) (((collected ++ done) ++ jobs) ++ held)
    (IsPermutation-append_left jobs taken (handed ++ held) took)
    (IsPermutation-trans ((handed ++ held) ++ jobs) (((collected ++ done) ++ held) ++ jobs)
    (((collected ++ done) ++ jobs) ++ held)
    (IsPermutation-append_left jobs (handed ++ held) ((collected ++ done) ++ held)
    (IsPermutation-append_left held handed (collected ++ done) hand))
    (last_swapped (collected ++ done) held jobs)))

pub closed : (seats : List SeatSeen) (left : FarmEnd) → ((n : JobNumber) → times n (all_offered seats) ≤ 1)
    → IsPermutation (all_offered seats) (all_taken seats ++ map entry_of left.jobs.items)
    → IsPermutation (all_handed seats) (all_collected seats ++ map entry_done left.done.items) → IsClosed seats left
closed seats left once put hand =
    let collected = all_collected seats in
    let done = map entry_done left.done.items in
    let jobs = map entry_of left.jobs.items in
    let held = all_held seats in
    let same = same_jobs (all_offered seats) (all_taken seats) (all_handed seats) held collected jobs done put hand
    (taken_parts seats) in
    record {
      once = once;
      one_place =
          λ n. omega (
            arith,
            times-permutation n (all_offered seats) (((collected ++ done) ++ jobs) ++ held) same,
            times-append n ((collected ++ done) ++ jobs) held,
            times-append n (collected ++ done) jobs,
            times-append n collected done,
          );
      same_jobs = same;
    }
