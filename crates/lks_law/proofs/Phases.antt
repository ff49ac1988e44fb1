-- What a journal says of the peer's part in one poll, and one record more.
use Rattle.std.proofs.Common.{◌≡◌, ◌≤◌, ◌∙◌, ap, sym, subst, ℕ, Bool, true, false, cond, List, [], ◌∷◌, ◌++◌, length}
use Rattle.std.proofs.Common.{refl, arith}
use Rattle.std.specs.Prelude.{Option, Some, None, is_some, unwrap_or, option_and_then, take, ◌&&◌}
use Rattle.std.specs.List.{list_all}
use Rattle.std.proofs.lemmas.List.{take-append-le, take_all}
use Rattle.lks_base.specs.declared.names.PollName.{PollName}
use Rattle.lks_base.specs.declared.records.Record.{Record}
use Rattle.lks_base.specs.declared.records.Record.TheVariants.{Deposit}
use Rattle.lks_law.specs.Journal.{Replacement, deposit_in, deposit_of, replacement_in, replacements, replaced_by}
use Rattle.lks_law.specs.Journal.{contents_at, contents_of}
use Rattle.lks_law.specs.Sessions.{Join, Commitment, Turn, Part, is_poll, part_of, join_by, commitment_by, hashes_by}
use Rattle.lks_law.specs.Sessions.{block_by, is_end, of_poll, join_in, commitment_in, hashes_in, served_in, ends_part}
use Rattle.lks_law.specs.Sessions.{ends, first_in, join_of, commitment_of, hashes_of_vote, served_blocks, is_ended}
use Rattle.lks_law.specs.Sessions.{version_now}
use Rattle.lks_law.specs.Written.{is_deposit}
use Rattle.lks_law.proofs.Grown.{any_more, deposit_more}
use Rattle.lks_law.proofs.Keyed.{first, first_only, is_itself}
use Rattle.lks_law.proofs.RunningPolls.{pushed, filter_map_more}

pub record Phase : Type 0 where
  pub join : Option Join
  pub commitment : Option Commitment
  pub hashes : Option (List (List ℕ))
  pub served : List ℕ
  pub over : Bool

abbrev pub phase : PollName → List Record → Phase
phase q js =
    record {
      join = join_of q js;
      commitment = commitment_of q js;
      hashes = hashes_of_vote q js;
      served = served_blocks q js;
      over = is_ended q js;
    }

-- after a turn in this poll

abbrev pub turned_in : Turn → Phase → Phase
turned_in (Turn.Joins join) p = record p { join = first p.join (Some join) }
turned_in (Turn.Commits commitment) p = record p { commitment = first p.commitment (Some commitment) }
turned_in (Turn.Votes hashes) p = record p { hashes = first p.hashes (Some hashes) }
turned_in (Turn.Serves block) p = record p { served = p.served ++ block ∷ [] }
turned_in Turn.Ends p = record p { over = true }

-- the first that has any stays
pub first_more : {X : Type 0} (has : Record → Option X) (js : List Record) (r : Record)
    → first_in has (js ++ r ∷ []) ≡ first (first_in has js) (has r)
first_more has [] r = only (has r)
  where
    only : {X : Type 0} (o : Option X) → cond (is_some o) o None ≡ o
    only None = refl
    only (Some x) = refl
first_more has (j ∷ js) r = here (has j) (first_in has js) (has r) (first_in has _) (first_more has js r)
  where
    here : {X : Type 0} (o rest later all : Option X) → all ≡ first rest later
        → cond (is_some o) o all ≡ first (cond (is_some o) o rest) later
    here None rest later all e = e
    here (Some x) rest later all e = refl

-- what one record says, put to a phase
abbrev said : PollName → Option Part → Phase → Phase
said q o p =
    record {
      join = first p.join (of_poll q join_by o);
      commitment = first p.commitment (of_poll q commitment_by o);
      hashes = first p.hashes (of_poll q hashes_by o);
      served = pushed p.served (of_poll q block_by o);
      over = cond (ends_part q o) true p.over;
    }

phase_more : (q : PollName) (js : List Record) (r : Record) → phase q (js ++ r ∷ []) ≡ said q (part_of r) (phase q js)
unfolding join_of commitment_of hashes_of_vote served_blocks is_ended
phase_more q js r = λ i. record {
  join = first_more (join_in q) js r i;
  commitment = first_more (commitment_in q) js r i;
  hashes = first_more (hashes_in q) js r i;
  served = filter_map_more (served_in q) js r i;
  over = any_more (ends q) js r i;
}

none_said : (q : PollName) (p : Phase) → said q None p ≡ p
none_said q p =
    λ i.
    record p {
      join = first_only p.join i;
      commitment = first_only p.commitment i;
      hashes = first_only p.hashes i;
    }

-- of another poll nothing is said, and of this one all

other_says : {X : Type 0} (b : Bool) (o : Option X) → b ≡ false → option_and_then (λ x. cond b (Some x) None) o ≡ None
other_says b None e = refl
other_says {X = X} b (Some x) e = ap (λ c. cond {A = Option X} c (Some x) None) e

own_says : {X : Type 0} (b : Bool) (o : Option X) → b ≡ true → option_and_then (λ x. cond b (Some x) None) o ≡ o
own_says b None e = refl
own_says {X = X} b (Some x) e = ap (λ c. cond {A = Option X} c (Some x) None) e

other_said : (q : PollName) (x : Part) (p : Phase) → is_poll x.poll q ≡ false → said q (Some x) p ≡ p
other_said q x p other = λ i. record {
  join = (ap (first p.join) (other_says _ (join_by x.turn) other) ∙ first_only p.join) i;
  commitment =
      (ap (first p.commitment) (other_says _ (commitment_by x.turn) other)
      ∙ first_only p.commitment) i;
  hashes = (ap (first p.hashes) (other_says _ (hashes_by x.turn) other) ∙ first_only p.hashes) i;
  served = ap (pushed p.served) (other_says _ (block_by x.turn) other) i;
  over = ap (λ b. cond (b && is_end x.turn) true p.over) other i;
}

mine_said : (q : PollName) (t : Turn) (p : Phase) → said q (Some (record { poll = q; turn = t })) p ≡ turned_in t p
mine_said q t p =
    (λ i. record {
      join = first p.join (own_says _ (join_by t) (is_itself q) i);
      commitment = first p.commitment (own_says _ (commitment_by t) (is_itself q) i);
      hashes = first p.hashes (own_says _ (hashes_by t) (is_itself q) i);
      served = pushed p.served (own_says _ (block_by t) (is_itself q) i);
      over = cond (is_itself q i && is_end t) true p.over;
    }) ∙ by_turn t
  where
    by_turn : (t : Turn)
        → record {
          join = first p.join (join_by t);
          commitment = first p.commitment (commitment_by t);
          hashes = first p.hashes (hashes_by t);
          served = pushed p.served (block_by t);
          over = cond (is_end t) true p.over;
        }
        ≡ turned_in t p
    by_turn (Turn.Joins join) =
        λ i.
        record {
          join = first p.join (Some join);
          commitment = first_only p.commitment i;
          hashes = first_only p.hashes i;
          served = p.served;
          over = p.over;
        }
    by_turn (Turn.Commits commitment) =
        λ i.
        record {
          join = first_only p.join i;
          commitment = first p.commitment (Some commitment);
          hashes = first_only p.hashes i;
          served = p.served;
          over = p.over;
        }
    by_turn (Turn.Votes hashes) =
        λ i.
        record {
          join = first_only p.join i;
          commitment = first_only p.commitment i;
          hashes = first p.hashes (Some hashes);
          served = p.served;
          over = p.over;
        }
    by_turn (Turn.Serves block) =
        λ i.
        record {
          join = first_only p.join i;
          commitment = first_only p.commitment i;
          hashes = first_only p.hashes i;
          served = p.served ++ block ∷ [];
          over = p.over;
        }
    by_turn Turn.Ends =
        λ i.
        record {
          join = first_only p.join i;
          commitment = first_only p.commitment i;
          hashes = first_only p.hashes i;
          served = p.served;
          over = true;
        }

pub phase_quiet : (q : PollName) (js : List Record) (r : Record) → part_of r ≡ None
    → phase q (js ++ r ∷ []) ≡ phase q js
phase_quiet q js r none = phase_more q js r ∙ ap (λ o. said q o (phase q js)) none ∙ none_said q _

pub phase_other : (q : PollName) (js : List Record) (r : Record) (x : Part) → part_of r ≡ Some x
    → is_poll x.poll q ≡ false → phase q (js ++ r ∷ []) ≡ phase q js
phase_other q js r x is other = phase_more q js r ∙ ap (λ o. said q o (phase q js)) is ∙ other_said q x _ other

pub phase_mine : (q : PollName) (js : List Record) (r : Record) (t : Turn)
    → part_of r ≡ Some (record { poll = q; turn = t }) → phase q (js ++ r ∷ []) ≡ turned_in t (phase q js)
phase_mine q js r t is = phase_more q js r ∙ ap (λ o. said q o (phase q js)) is ∙ mine_said q t _

-- Deposits alone say nothing of any part.

pub nothing_said : (q : PollName) (js : List Record) → list_all is_deposit js ≡ true → join_of q js ≡ None
unfolding join_of
nothing_said q [] all = refl
nothing_said q (Deposit au blocks ∷ js) all = nothing_said q js all
nothing_said q (j ∷ js) all = absurd cc

-- A version of an AU stays as it is.

front : (k : ℕ) (rs : List Replacement) (o : Option Replacement) → k ≤ length rs → take k (pushed rs o) ≡ take k rs
front k rs None low = refl
front k rs (Some r) low = take-append-le k rs _ low

pub version_stays : (au k : ℕ) (js : List Record) (r : Record) → deposit_in au r ≡ None → k ≤ version_now au js
    → contents_at au k (js ++ r ∷ []) ≡ contents_at au k js
unfolding contents_at version_now
version_stays au k js r none low = λ i.
    replaced_by (unwrap_or (deposit_more au js r none i) []) ((ap (take k) (filter_map_more (replacement_in au) js r)
    ∙ front k _ _ low) i)

pub newest_is : (au : ℕ) (js : List Record) → contents_at au (version_now au js) js ≡ contents_of au js
unfolding contents_at contents_of version_now
newest_is au js = ap (replaced_by (unwrap_or (deposit_of au js) [])) (take_all _ (replacements au js) (omega arith))

-- and its number grows
pub version_grows : (au : ℕ) (js : List Record) (r : Record) → version_now au js ≤ version_now au (js ++ r ∷ [])
unfolding version_now
version_grows au js r =
    subst (λ rs. length (replacements au js) ≤ length rs) (sym (filter_map_more (replacement_in au) js r))
    (longer (replacements au js) (replacement_in au r))
  where
    pushed_long : (rs : List Replacement) (r : Replacement) → length rs ≤ length (rs ++ r ∷ [])
    pushed_long [] r = omega arith
    pushed_long (x ∷ rs) r = let more = pushed_long rs r in omega (arith, more)

    longer : (rs : List Replacement) (o : Option Replacement) → length rs ≤ length (pushed rs o)
    longer rs None = omega arith
    longer rs (Some r) = pushed_long rs r

-- a deposit stays
pub deposit_stays : (au : ℕ) (js : List Record) (r : Record) → is_some (deposit_of au js) ≡ true
    → is_some (deposit_of au (js ++ r ∷ [])) ≡ true
unfolding deposit_of
deposit_stays au [] r e = absurd cc
deposit_stays au (j ∷ js) r e = here (deposit_in au j) e (λ e. deposit_stays au js r e)
  where
    here : (o : Option (List (List ℕ))) → is_some (cond (is_some o) o (deposit_of au js)) ≡ true
        → (is_some (deposit_of au js) ≡ true → is_some (deposit_of au (js ++ r ∷ [])) ≡ true)
        → is_some (cond (is_some o) o (deposit_of au (js ++ r ∷ []))) ≡ true
    here None e later = later e
    here (Some o) e later = refl
