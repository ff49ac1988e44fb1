-- What the two writes of an append make of a journal, each of them done or not.
use Rattle.std.proofs.Common.{◌≡◌, ◌<◌, ◌∙◌, inl, ℕ, true, List, [], ◌∷◌, ◌++◌, ◌+◌, ◌≤◌, length, length-append, sym}
use Rattle.std.proofs.Common.{subst, arith}
use Rattle.std.specs.Prelude.{Result, Ok, Err, OnOk, IsErrOf}
use Rattle.lks_disk.specs.Counts.{raised}
use Rattle.lks_disk.proofs.Runs.{weaker, joined}
use Rattle.lks_disk.specs.Face.{Face, AlwaysLeaves}
use Rattle.lks_journal.specs.Adding.{HoldsEither, KeepsOrAdds}
use Rattle.lks_journal.specs.Called.{Called}
use Rattle.lks_field.proofs.Frames.{few_bodies}
use Rattle.lks_field.specs.Frames.{HoldsBodies}
use Rattle.lks_journal.specs.Tearing.{CanLeaveTorn}
use Rattle.lks_journal.specs.Puts.{Puts}
use Rattle.lks_journal.specs.Settled.{IsSettled}
use Rattle.lks_journal.specs.declared.faults.JournalFault.{JournalFault}
use Rattle.lks_journal.specs.declared.faults.JournalFault.TheVariants.{Memory}
use Rattle.lks_journal.specs.declared.journals.Journal.{Journal}
use Rattle.lks_journal.proofs.Appends.{Appending, first_crash, first_done, second_crash, second_done, end_after}

module _ {D : Type 0} (f : Face D) (old new : Journal D) (mid : D) (bodies : List (List ℕ)) (body piece : List ℕ)
    (s : IsSettled f old bodies) (a : Appending bodies body piece (f.seen old.disk) old.end) where
  abbrev after : List (List ℕ)
  after = bodies ++ body ∷ []

  none : (P : Type 0) (r : Result (Unit {0}) JournalFault) → OnOk r ⊥ → OnOk r P
  none P (Ok x) never = absurd never
  none P (Err e) never = tt

  -- the first write was cut short
  pub adds_first : (result : Result (Unit {0}) JournalFault) → OnOk result ⊥ → new.end ≡ old.end
      → new.count ≡ old.count → Puts f (old.end + 1) piece old.disk new.disk result
      → AlwaysLeaves f old.disk new.disk (CanLeaveTorn (f.may_leave old.disk) (old.end + 1) (length piece))
      → KeepsOrAdds f old new bodies after result
  adds_first result never end count p run = record {
    ok = none _ result never;
    memory = λ is. record {
      holds = subst (HoldsBodies bodies) (sym (p.memory is)) s.holds;
      end = end ∙ s.end;
      count = count ∙ s.count;
      durable = λ c left. s.durable c (p.memory_crash is c left) ∙ sym (p.memory is);
    };
    crash = λ c left. inl (first_crash a (f.may_leave old.disk) s.durable c (p.crash c left));
    any_moment =
        weaker f.moment f.left_since old.disk new.disk _ (HoldsEither bodies after)
        (λ c left. inl (first_crash a (f.may_leave old.disk) s.durable c left)) run;
    early = λ is few c left. first_crash a (f.may_leave old.disk) s.durable c (p.crash c left);
  }

  module _ (p : Puts f (old.end + 1) piece old.disk mid (Ok tt)) (result : Result (Unit {0}) JournalFault)
      (q : Puts f old.end (165 ∷ []) mid new.disk result)
      (first_run : AlwaysLeaves f old.disk mid (CanLeaveTorn (f.may_leave old.disk) (old.end + 1) (length piece)))
      (second_run : AlwaysLeaves f mid new.disk (CanLeaveTorn (f.may_leave mid) (old.end) 1)) where
    crashed : (c : List ℕ) → f.may_leave new.disk c → HoldsEither bodies after c
    crashed c left = second_crash a (f.seen mid) p.holds (f.may_leave mid) p.durable c (q.crash c left)

    always : AlwaysLeaves f old.disk new.disk (HoldsEither bodies after)
    always = joined f.moment f.left_since old.disk mid new.disk (HoldsEither bodies after)
        (weaker f.moment f.left_since old.disk mid _ (HoldsEither bodies after)
        (λ c left. inl (first_crash a (f.may_leave old.disk) s.durable c left)) first_run)
        (weaker f.moment f.left_since mid new.disk _ (HoldsEither bodies after)
        (second_crash a (f.seen mid) p.holds (f.may_leave mid) p.durable) second_run)

    stays_held : new.end ≡ old.end → new.count ≡ old.count → IsErrOf result Memory → IsSettled f new bodies
    stays_held end count is = record {
      holds = subst (HoldsBodies bodies) (sym (q.memory is)) (first_done a (f.seen mid) p.holds);
      end = end ∙ s.end;
      count = count ∙ s.count;
      durable = λ c left. p.durable c (q.memory_crash is c left) ∙ sym (q.memory is);
    }

    -- the second write was cut short
    pub adds_second : new.end ≡ old.end → new.count ≡ old.count → Called {T = Unit {0}} f 2 old.disk mid (Ok tt)
        → Called f 2 mid new.disk result → OnOk result ⊥ → KeepsOrAdds f old new bodies after result
    adds_second end count first second never = record {
      ok = none _ result never;
      memory = stays_held end count;
      crash = crashed;
      any_moment = always;
      early = λ is few c left.
          let burned = second.fuse.cut is in
          let set : f.fused old.disk ≡ true = sym first.fuse.stays_set ∙ burned.0 in
          let passed : f.left mid + 2 ≡ f.left old.disk = first.fuse.passes set in
          absurd (low _ _ passed few);
    }
      where
        low : (m n : ℕ) → m + 2 ≡ n → n < 2 → ⊥
        low m n is few = omega (arith, is, few)

  -- both writes were made
  pub adds_both : Puts f (old.end + 1) piece old.disk mid (Ok tt) → Puts f old.end (165 ∷ []) mid new.disk (Ok tt)
      → AlwaysLeaves f old.disk mid (CanLeaveTorn (f.may_leave old.disk) (old.end + 1) (length piece))
      → AlwaysLeaves f mid new.disk (CanLeaveTorn (f.may_leave mid) (old.end) 1)
      → new.end ≡ old.end + (5 + length body) → new.count ≡ raised old.count → old.end ≤ 2147483647
      → KeepsOrAdds f old new bodies after (Ok tt)
  adds_both p q first_run second_run end count low = record {
    ok = record {
      holds = second_done a (f.seen mid) p.holds (f.seen new.disk) q.holds;
      end = end ∙ end_after a;
      count = omega (arith, count, s.count, s.end, few_bodies bodies, low, length-append bodies (body ∷ []));
      durable = q.durable;
    };
    memory = λ is. absurd cc;
    crash = crashed p (Ok tt) q first_run second_run;
    any_moment = always p (Ok tt) q first_run second_run;
    early = λ is few c left. absurd cc;
  }
