-- What a verdict says of the blocks.
use Rattle.std.proofs.Common.{◌≡◌, ℕ, zero, suc, ◌+◌, ◌<◌, ◌≤◌, Bool, true, false, cond, ltb, leb, List, length, inl}
use Rattle.std.proofs.Common.{inr, refl, ap, subst, sym, ◌∙◌, arith}
use Rattle.std.proofs.lemmas.Bool.{leb-true, leb-false, ltb-true, ltb-false, cases_lt}
use Rattle.lks_tally.specs.declared.ballots.Ballot.{Ballot}
use Rattle.lks_tally.specs.declared.ballots.Vote.{Vote}
use Rattle.lks_tally.specs.declared.ballots.At.{At}
use Rattle.lks_tally.specs.declared.ballots.At.TheVariants as at
use Rattle.lks_tally.specs.declared.ballots.Verdict.{Verdict}
use Rattle.lks_tally.specs.declared.ballots.Verdict.TheVariants.{Inquorate, Agreed, Loss, Split}
use Rattle.lks_tally.specs.Counting.{for_at, against_at, landslide, verdict_at, decided_at, first_from, verdict_on}
use Rattle.lks_tally.specs.Counting.{IsFirst}

-- what so many votes for and against say
record Says (minority votes_for votes_against : ℕ) (said : At) : Type 0 where
  win : said ≡ at.Win → votes_against ≤ minority
  loss : said ≡ at.Loss → (votes_for ≤ minority) × (minority < votes_against)
  split : said ≡ at.Split → (minority < votes_for) × (minority < votes_against)

says : (minority votes_for votes_against : ℕ)
    → Says minority votes_for votes_against (landslide minority votes_for votes_against)
says minority votes_for votes_against = by_against (leb votes_against minority) refl
  where
    by_for : (t : Bool) → leb votes_for minority ≡ t → leb votes_against minority ≡ false
        → Says minority votes_for votes_against (cond t at.Loss at.Split)
    by_for true low high = record {
      win = λ e. absurd cc;
      loss = λ e. (leb-true votes_for minority low, leb-false votes_against minority high);
      split = λ e. absurd cc;
    }
    by_for false low high = record {
      win = λ e. absurd cc;
      loss = λ e. absurd cc;
      split = λ e. (leb-false votes_for minority low, leb-false votes_against minority high);
    }

    by_against : (t : Bool) → leb votes_against minority ≡ t
        → Says minority votes_for votes_against (cond t at.Win (cond (leb votes_for minority) at.Loss at.Split))
    by_against true few =
        record { win = λ e. leb-true votes_against minority few; loss = λ e. absurd cc; split = λ e. absurd cc }
    by_against false many = by_for (leb votes_for minority) refl many

module _ (minority : ℕ) (q : Ballot) (votes : List Vote) (blocks : List (List ℕ)) where
  -- at most a minority is against a win, and for a loss
  pub win_at : (b : ℕ) → verdict_at minority q votes blocks b ≡ at.Win → against_at q votes blocks b ≤ minority
  win_at b is = (says minority (for_at q votes blocks b) (against_at q votes blocks b)).win is

  pub loss_at : (b : ℕ) → verdict_at minority q votes blocks b ≡ at.Loss
      → (for_at q votes blocks b ≤ minority) × (minority < against_at q votes blocks b)
  loss_at b is = (says minority (for_at q votes blocks b) (against_at q votes blocks b)).loss is

  pub split_at : (b : ℕ) → verdict_at minority q votes blocks b ≡ at.Split
      → (minority < for_at q votes blocks b) × (minority < against_at q votes blocks b)
  split_at b is = (says minority (for_at q votes blocks b) (against_at q votes blocks b)).split is

  -- the first block of n from `start` on that isn't a win
  record First (said : At) (start n b : ℕ) : Type 0 where
    low : start ≤ b
    high : b < start + n
    here : verdict_at minority q votes blocks b ≡ said
    before : (k : ℕ) → start ≤ k → k < b → verdict_at minority q votes blocks k ≡ at.Win

  abbrev Found : Verdict → ℕ → ℕ → Type 0
  Found Inquorate start n = ⊥
  Found Agreed start n = (k : ℕ) → start ≤ k → k < start + n → verdict_at minority q votes blocks k ≡ at.Win
  Found (Loss b) start n = First at.Loss start n b
  Found (Split b) start n = First at.Split start n b

  win_more : (start k : ℕ) → verdict_at minority q votes blocks start ≡ at.Win → start ≤ k
      → (start + 1 ≤ k → verdict_at minority q votes blocks k ≡ at.Win) → verdict_at minority q votes blocks k ≡ at.Win
  win_more start k first low later = elim (cases_lt start k) [
    | inl above ↦ later (omega arith)
    | inr below ↦ let same : k ≡ start = omega arith in ap (verdict_at minority q votes blocks) same ∙ first
  ]

  first_more : (said : At) (start n b : ℕ) → verdict_at minority q votes blocks start ≡ at.Win
      → First said (start + 1) n b → First said start (suc n) b
  first_more said start n b first f = record {
    low = omega arith;
    high = omega arith;
    here = f.here;
    before = λ k low high. win_more start k first low (λ above. f.before k above high);
  }

  found_more : (v : Verdict) (start n : ℕ) → verdict_at minority q votes blocks start ≡ at.Win
      → Found v (start + 1) n → Found v start (suc n)
  found_more Inquorate start n first f = f
  found_more Agreed start n first f = λ k low high. win_more start k first low (λ above. f k above (omega arith))
  found_more (Loss b) start n first f = first_more at.Loss start n b first f
  found_more (Split b) start n first f = first_more at.Split start n b first f

  found_at : (a : At) (start n : ℕ) (rest : Verdict) → verdict_at minority q votes blocks start ≡ a
      → Found rest (start + 1) n
      → Found (decided_at a start rest) start (suc n)
  found_at at.Win start n rest is f = found_more rest start n is f
  found_at at.Loss start n rest is f =
      record { low = omega arith; high = omega arith; here = is; before = λ k low high. absurd (omega arith) }
  found_at at.Split start n rest is f =
      record { low = omega arith; high = omega arith; here = is; before = λ k low high. absurd (omega arith) }

  found : (n start : ℕ) → Found (first_from minority q votes blocks start n) start n
  found zero start = λ k low high. absurd (omega arith)
  found (suc n) start =
      found_at (verdict_at minority q votes blocks start) start n (first_from minority q votes blocks (start + 1) n)
      refl (found n (start + 1))

  first_is : (said : At) (b : ℕ) → First said 0 (length blocks) b → IsFirst minority q votes blocks said b
  first_is said b f = record { within = omega arith; here = f.here; before = λ k high. f.before k (omega arith) high }

  module _ (quorum : ℕ) where
    by_quorum : (few : Bool) → ltb (length votes) quorum ≡ few → (v : Verdict)
        → cond few Inquorate (first_from minority q votes blocks 0 (length blocks)) ≡ v → (v ≡ Inquorate → ⊥)
        → (quorum ≤ length votes) × Found v 0 (length blocks)
    by_quorum true few v is decided = absurd (decided (sym is))
    by_quorum false few v is decided =
        (ltb-false (length votes) quorum few, subst (λ x. Found x 0 (length blocks)) is (found (length blocks) 0))

    -- an inquorate poll has fewer votes than its quorum
    pub inquorate_votes : verdict_on quorum minority q votes blocks ≡ Inquorate → length votes < quorum
    unfolding verdict_on
    inquorate_votes is = by_few (ltb (length votes) quorum) refl is
      where
        by_few : (few : Bool) → ltb (length votes) quorum ≡ few
            → cond few Inquorate (first_from minority q votes blocks 0 (length blocks)) ≡ Inquorate
            → length votes < quorum
        by_few true few is = ltb-true (length votes) quorum few
        by_few false few is = absurd (subst (λ v. Found v 0 (length blocks)) is (found (length blocks) 0))

    -- a lost or split poll has its quorum, and the block is the first that isn't a win
    pub loss_first : (b : ℕ) → verdict_on quorum minority q votes blocks ≡ Loss b
        → (quorum ≤ length votes) × IsFirst minority q votes blocks at.Loss b
    unfolding verdict_on
    loss_first b is =
        let parts = by_quorum (ltb (length votes) quorum) refl (Loss b) is (λ e. absurd cc) in
        (parts.0, first_is at.Loss b parts.1)

    pub split_first : (b : ℕ) → verdict_on quorum minority q votes blocks ≡ Split b
        → (quorum ≤ length votes) × IsFirst minority q votes blocks at.Split b
    unfolding verdict_on
    split_first b is =
        let parts = by_quorum (ltb (length votes) quorum) refl (Split b) is (λ e. absurd cc) in
        (parts.0, first_is at.Split b parts.1)
