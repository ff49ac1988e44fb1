-- A journal and one record more.
use Rattle.std.proofs.Common.{◌≡◌, ◌<◌, ◌+◌, ◌∙◌, ◌⊎◌, inl, inr, ap, ℕ, zero, suc, Bool, true, false, cond, List, []}
use Rattle.std.proofs.Common.{◌∷◌, ◌++◌, length, refl, arith}
use Rattle.std.specs.Prelude.{Option, Some, None, is_some, unwrap_or, ◌||◌, slice_get, slice_set}
use Rattle.std.specs.List.{list_any, filter_map, cons_option}
use Rattle.std.proofs.lemmas.List.{append-nil}
use Rattle.std.proofs.lemmas.List.Elements.{filter_map-append}
use Rattle.std.proofs.lemmas.List.Folds.{list_any-append}
use Rattle.std.proofs.lemmas.List.Sums.{sum_by_push}
use Rattle.lks_base.specs.declared.names.Numbers.{Numbers}
use Rattle.lks_base.specs.declared.records.Record.{Record}
use Rattle.lks_law.specs.Journal.{Opening, Replacement, Request, deposit_in, deposit_of, replacement_in, replacements}
use Rattle.lks_law.specs.Journal.{replaced_by, contents_of, opening_in, opening_of, is_opening, openings, opened_in}
use Rattle.lks_law.specs.Journal.{opened_numbers, vote_in, shuts, is_shut, closes, is_closed, asks_any, has_asked}
use Rattle.lks_law.specs.Journal.{unanswered_after, unanswered_from, unanswered_request, waiting_after, waiting_from}
use Rattle.lks_law.specs.Journal.{waiting_requests, numbers_after, numbers_from}
use Rattle.lks_law.specs.Polls.{votes}
use Rattle.lks_tally.specs.declared.ballots.Vote.{Vote}

pub any_more : (p : Record → Bool) (js : List Record) (r : Record)
    → list_any p (js ++ r ∷ []) ≡ cond (p r) true (list_any p js)
any_more p js r = list_any-append p js _ ∙ either (list_any p js) (p r)
  where
    either : (a b : Bool) → (a || (b || false)) ≡ cond b true a
    either true true = refl
    either true false = refl
    either false true = refl
    either false false = refl

pub shut_more : (n : ℕ) (js : List Record) (r : Record)
    → is_shut n (js ++ r ∷ []) ≡ cond (shuts n r) true (is_shut n js)
unfolding is_shut
shut_more n js r = any_more _ js r

pub closed_more : (n : ℕ) (js : List Record) (r : Record)
    → is_closed n (js ++ r ∷ []) ≡ cond (closes n r) true (is_closed n js)
unfolding is_closed
closed_more n js r = any_more _ js r

pub asked_more : (n : ℕ) (js : List Record) (r : Record)
    → has_asked n (js ++ r ∷ []) ≡ cond (asks_any n r) true (has_asked n js)
unfolding has_asked
asked_more n js r = any_more _ js r

-- the votes with the one that the record has
abbrev pub votes_after : List Vote → Option Vote → List Vote
votes_after vs None = vs
votes_after vs (Some v) = vs ++ v ∷ []

pub votes_more : (n : ℕ) (js : List Record) (r : Record)
    → votes n (js ++ r ∷ []) ≡ votes_after (votes n js) (vote_in n r)
unfolding votes
votes_more n js r = filter_map-append _ js _ ∙ by_vote (filter_map _ js) (vote_in n r)
  where
    by_vote : (vs : List Vote) (v : Option Vote) → vs ++ cons_option v [] ≡ votes_after vs v
    by_vote vs None = append-nil vs
    by_vote vs (Some v) = refl

unanswered_last : (n : ℕ) (before : Option Request) (js : List Record) (r : Record)
    → unanswered_from n before (js ++ r ∷ []) ≡ unanswered_after n (unanswered_from n before js) r
unanswered_last n before [] r = refl
unanswered_last n before (j ∷ js) r = unanswered_last n (unanswered_after n before j) js r

pub unanswered_more : (n : ℕ) (js : List Record) (r : Record)
    → unanswered_request n (js ++ r ∷ []) ≡ unanswered_after n (unanswered_request n js) r
unfolding unanswered_request
unanswered_more n js r = unanswered_last n None js r

waiting_last : (n : ℕ) (before : List Request) (js : List Record) (r : Record)
    → waiting_from n before (js ++ r ∷ []) ≡ waiting_after n (waiting_from n before js) r
waiting_last n before [] r = refl
waiting_last n before (j ∷ js) r = waiting_last n (waiting_after n before j) js r

pub waiting_more : (n : ℕ) (js : List Record) (r : Record)
    → waiting_requests n (js ++ r ∷ []) ≡ waiting_after n (waiting_requests n js) r
unfolding waiting_requests
waiting_more n js r = waiting_last n [] js r

-- the first opening stays
abbrev pub first_opening : Option Opening → Option Opening → Option Opening
first_opening None later = later
first_opening (Some o) later = Some o

pub first_stays : (o : Option Opening) → first_opening o None ≡ o
first_stays None = refl
first_stays (Some o) = refl

pub opening_more : (n : ℕ) (js : List Record) (r : Record)
    → opening_of n (js ++ r ∷ []) ≡ first_opening (opening_of n js) (opening_in n r)
unfolding opening_of
opening_more n [] r = only (opening_in n r)
  where
    only : (o : Option Opening) → cond (is_some o) o None ≡ o
    only None = refl
    only (Some o) = refl
opening_more n (j ∷ js) r =
    here (opening_in n j) (opening_of n js) (opening_in n r) (opening_of n (js ++ r ∷ [])) (opening_more n js r)
  where
    here : (o rest later all : Option Opening) → all ≡ first_opening rest later
        → cond (is_some o) o all ≡ first_opening (cond (is_some o) o rest) later
    here None rest later all e = e
    here (Some o) rest later all e = refl

pub openings_more : (js : List Record) (r : Record) → openings (js ++ r ∷ []) ≡ openings js + cond (is_opening r) 1 0
unfolding openings
openings_more js r = sum_by_push _ js r

pub numbers_more : (js : List Record) (r : Record)
    → opened_numbers (js ++ r ∷ []) ≡ opened_numbers js ++ cons_option (opened_in r) []
unfolding opened_numbers
numbers_more js r = filter_map-append opened_in js _

-- the numbers in force
pub numbers_last : (before : Numbers) (js : List Record) (r : Record)
    → numbers_from before (js ++ r ∷ []) ≡ numbers_after (numbers_from before js) r
numbers_last before [] r = refl
numbers_last before (j ∷ js) r = numbers_last _ js r

-- Copies of AUs.

pub deposit_more : (au : ℕ) (js : List Record) (r : Record) → deposit_in au r ≡ None
    → deposit_of au (js ++ r ∷ []) ≡ deposit_of au js
unfolding deposit_of
deposit_more au [] r none = ap (λ d. cond (is_some d) d None) none
deposit_more au (j ∷ js) r none =
    ap (λ d. cond (is_some (deposit_in au j)) (deposit_in au j) d) (deposit_more au js r none)

abbrev pub replaced_if : List (List ℕ) → Option Replacement → List (List ℕ)
replaced_if blocks None = blocks
replaced_if blocks (Some r) = slice_set blocks r.block r.bytes

replaced_last : (blocks : List (List ℕ)) (rs : List Replacement) (r : Replacement)
    → replaced_by blocks (rs ++ r ∷ []) ≡ slice_set (replaced_by blocks rs) r.block r.bytes
replaced_last blocks [] r = refl
replaced_last blocks (s ∷ rs) r = replaced_last _ rs r

pub contents_more : (au : ℕ) (js : List Record) (r : Record) → deposit_in au r ≡ None
    → contents_of au (js ++ r ∷ []) ≡ replaced_if (contents_of au js) (replacement_in au r)
unfolding contents_of
contents_more au js r none =
    ap (λ d. replaced_by (unwrap_or d []) (replacements au (js ++ r ∷ []))) (deposit_more au js r none)
    ∙ ap (replaced_by blocks) (filter_map-append _ js _)
    ∙ by_replacement (replacement_in au r)
  where
    blocks : List (List ℕ)
    blocks = unwrap_or (deposit_of au js) []

    by_replacement : (o : Option Replacement)
        → replaced_by blocks (replacements au js ++ cons_option o [])
        ≡ replaced_if (replaced_by blocks (replacements au js)) o
    by_replacement None = ap (replaced_by blocks) (append-nil (replacements au js))
    by_replacement (Some s) = replaced_last blocks (replacements au js) s

-- A place in a list and one more.

pub last_or_before : (js : List Record) (r : Record) (i : ℕ) (x : Record) → slice_get (js ++ r ∷ []) i ≡ Some x
    → ((i < length js) × (slice_get js i ≡ Some x)) ⊎ ((i ≡ length js) × (r ≡ x))
last_or_before [] r zero x e = inr (refl, cc)
last_or_before [] r (suc i) x e = absurd cc
last_or_before (j ∷ js) r zero x e = inl (omega arith, e)
last_or_before (j ∷ js) r (suc i) x e = elim (last_or_before js r i x e) [
  | inl before ↦ let low = before.0 in inl (omega (arith, low), before.1)
  | inr last ↦ let at = last.0 in inr (omega (arith, at), last.1)
]
