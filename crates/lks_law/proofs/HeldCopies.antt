-- The copies of AUs, as a journal has them, and one record more.
use Rattle.std.proofs.Common.{◌≡◌, ◌∙◌, ap, sym, subst, ℕ, Bool, true, false, cond, eqb, List, [], ◌∷◌, ◌++◌, length}
use Rattle.std.proofs.Common.{refl, arith}
use Rattle.std.specs.Prelude.{Option, Some, None, is_some, unwrap_or, option_map, ◌+◌, ◌&&◌}
use Rattle.std.specs.List.{list_all}
use Rattle.std.proofs.lemmas.Bool.{both_ways, eqb-true, or_left, or_right, and_parts, eq-eqb}
use Rattle.lks_base.specs.declared.names.Outcome.TheVariants.{Agreed}
use Rattle.lks_base.specs.declared.plans.Rules.{Rules}
use Rattle.lks_base.specs.declared.records.Record.{Record}
use Rattle.lks_base.specs.declared.records.Record.TheVariants.{Deposit, PollOpened, Replaced, Closed, Overdue}
use Rattle.lks_law.specs.Journal.{Opening, Replacement, Audit, later, deposit_in, deposit_of, replacement_in}
use Rattle.lks_law.specs.Journal.{replacements, replaced_by, contents_of, opening_in, opening_of, closes, is_closed}
use Rattle.lks_law.specs.Journal.{is_of_au, audit_after, audit_from, audit_of}
use Rattle.lks_law.specs.State.{Poll, Copy, copy_at, blocks_in, blocks_at, deposited_copy, opened_at, replaced_in}
use Rattle.lks_law.specs.State.{agreed_at, noted_overdue, copy_changed, agreed_on, copies_after}
use Rattle.lks_law.specs.Written.{is_deposit, MayFollow}
use Rattle.lks_law.proofs.Grown.{first_opening, opening_more, contents_more, replaced_if, first_stays}
use Rattle.lks_law.proofs.RunningPolls.{eqb_swap, pushed, filter_map_more, unnamed, polls_of, running_by, poll_found}

-- the latest tick at which a poll on the AU was opened
abbrev pub opened_after : ℕ → Option ℕ → Record → Option ℕ
opened_after au before (PollOpened number a nonce inner tick limits kind) = cond (eqb a au) (later before tick) before
opened_after au before _ = before

abbrev pub opened_from : ℕ → Option ℕ → List Record → Option ℕ
opened_from au before [] = before
opened_from au before (r ∷ rs) = opened_from au (opened_after au before r) rs

opened_more : (au : ℕ) (before : Option ℕ) (js : List Record) (r : Record)
    → opened_from au before (js ++ r ∷ []) ≡ opened_after au (opened_from au before js) r
opened_more au before [] r = refl
opened_more au before (j ∷ js) r = opened_more au (opened_after au before j) js r

abbrev pub copy_as : ℕ → List Record → Copy
copy_as au js =
    record {
      au = au;
      blocks = contents_of au js;
      version = length (replacements au js);
      opened = opened_from au None js;
      audit = audit_of au js;
    }

abbrev pub copy_by : ℕ → List Record → Option (List (List ℕ)) → Option Copy
copy_by au js None = None
copy_by au js (Some blocks) = Some (copy_as au js)

abbrev pub copy_of : ℕ → List Record → Option Copy
copy_of au js = copy_by au js (deposit_of au js)

-- Deposits alone.

abbrev first : {X : Type 0} → Option X → Option X → Option X
first None later = later
first (Some x) later = Some x

deposit_first : (au : ℕ) (js : List Record) (r : Record)
    → deposit_of au (js ++ r ∷ []) ≡ first (deposit_of au js) (deposit_in au r)
unfolding deposit_of
deposit_first au [] r = only (deposit_in au r)
  where
    only : (o : Option (List (List ℕ))) → cond (is_some o) o None ≡ o
    only None = refl
    only (Some o) = refl
deposit_first au (j ∷ js) r =
    here (deposit_in au j) (deposit_of au js) (deposit_in au r) (deposit_of au (js ++ r ∷ [])) (deposit_first au js r)
  where
    here : (o rest last all : Option (List (List ℕ))) → all ≡ first rest last
        → cond (is_some o) o all ≡ first (cond (is_some o) o rest) last
    here None rest last all e = e
    here (Some o) rest last all e = refl

record Untouched (au : ℕ) (js : List Record) : Type 0 where
  pub replaced : replacements au js ≡ []
  pub opened : opened_from au None js ≡ None
  pub audit : (all : List Record)
      → audit_from au all (record { tick = 0; noted = false }) js ≡ record { tick = 0; noted = false }

-- deposits say nothing else of an AU
deposits_only : (au : ℕ) (js : List Record) → list_all is_deposit js ≡ true → Untouched au js
unfolding audit_after
deposits_only au [] e = record { replaced = refl; opened = refl; audit = λ all. refl }
deposits_only au (j ∷ js) e = let parts = and_parts _ _ e in by_record j parts.0 (deposits_only au js parts.1)
  where
    by_record : (j : Record) → is_deposit j ≡ true → Untouched au js → Untouched au (j ∷ js)
    by_record (Deposit a blocks) e rest = record { replaced = rest.replaced; opened = rest.opened; audit = rest.audit }
    by_record j e rest = absurd cc

deposit_is : (au : ℕ) (js : List Record) → list_all is_deposit js ≡ true
    → copy_of au js ≡ option_map (deposited_copy au) (deposit_of au js)
unfolding contents_of audit_of
deposit_is au js e = by_deposit (deposit_of au js) refl
  where
    by_deposit : (d : Option (List (List ℕ))) → deposit_of au js ≡ d
        → copy_by au js d ≡ option_map (deposited_copy au) d
    by_deposit None e = refl
    by_deposit (Some blocks) is =
        let free = deposits_only au js e in
        λ i. Some (record {
          au = au;
          blocks = replaced_by (unwrap_or (is i) []) (free.replaced i);
          version = length (free.replaced i);
          opened = free.opened i;
          audit = free.audit js i;
        })

deposits_more : (js : List Record) (r : Record) → list_all is_deposit js ≡ true → is_deposit r ≡ true
    → list_all is_deposit (js ++ r ∷ []) ≡ true
deposits_more [] r e last = ap (λ b. b && true) last
deposits_more (j ∷ js) r e last =
    let parts = and_parts _ _ e in
    ap (λ b. b && list_all is_deposit (js ++ r ∷ [])) parts.0 ∙ deposits_more js r parts.1 last

at_end : (au : ℕ) (cs : List Copy) (c : Copy)
    → copy_at au (cs ++ c ∷ []) ≡ first (copy_at au cs) (cond (eqb c.au au) (Some c) None)
at_end au [] c = refl
at_end au (x ∷ cs) c = here (eqb x.au au) (at_end au cs c)
  where
    here : (b : Bool) → copy_at au (cs ++ c ∷ []) ≡ first (copy_at au cs) (cond (eqb c.au au) (Some c) None)
        → cond b (Some x) (copy_at au (cs ++ c ∷ []))
        ≡ first (cond b (Some x) (copy_at au cs)) (cond (eqb c.au au) (Some c) None)
    here true e = refl
    here false e = e

one_deposit : (js : List Record) (a : ℕ) (blocks : List (List ℕ)) (cs : List Copy) → list_all is_deposit js ≡ true
    → ((au : ℕ) → copy_at au cs ≡ copy_of au js)
    → (au : ℕ)
    → copy_at au (cond (is_some (copy_at a cs)) cs (cs ++ deposited_copy a blocks ∷ []))
    ≡ copy_of au (js ++ Deposit a blocks ∷ [])
one_deposit js a blocks cs all are au =
    by_held (deposit_of a js) refl (copy_at a cs) (are a ∙ deposit_is a js all)
    ∙ sym (deposit_is au _ (deposits_more js _ all refl)
    ∙ ap (option_map _) (deposit_first au js _))
  where
    was : copy_at au cs ≡ option_map (deposited_copy au) (deposit_of au js)
    was = are au ∙ deposit_is au js all

    stays : (b : Bool) (d : Option (List (List ℕ))) → (b ≡ true → is_some d ≡ true)
        → d ≡ first d (cond b (Some blocks) None)
    stays b (Some d) h = refl
    stays false None h = refl
    stays true None h = absurd (let e : false ≡ true = h refl in cc)

    joins : (b : Bool) (d : Option (List (List ℕ))) → (b ≡ true → a ≡ au)
        → first (option_map (deposited_copy au) d) (cond b (Some (deposited_copy a blocks)) None)
        ≡ option_map (deposited_copy au) (first d (cond b (Some blocks) None))
    joins b (Some d) h = refl
    joins true None h = ap (λ k. Some (deposited_copy k blocks)) (h refl)
    joins false None h = refl

    by_held : (d : Option (List (List ℕ))) → deposit_of a js ≡ d → (held : Option Copy)
        → held ≡ option_map (deposited_copy a) d
        → copy_at au (cond (is_some held) cs (cs ++ deposited_copy a blocks ∷ []))
        ≡ option_map (deposited_copy au) (first (deposit_of au js) (cond (eqb a au) (Some blocks) None))
    by_held (Some d) is held e =
        ap (λ h. copy_at au (cond (is_some h) cs (cs ++ deposited_copy a blocks ∷ []))) e ∙ was
        ∙ ap (option_map _) (stays (eqb a au) (deposit_of au js)
        (λ t. ap is_some (ap (λ k. deposit_of k js) (sym (eqb-true a au t)) ∙ is)))
    by_held None is held e =
        ap (λ h. copy_at au (cond (is_some h) cs (cs ++ deposited_copy a blocks ∷ []))) e
        ∙ at_end au cs _
        ∙ ap (λ c. first c (cond (eqb a au) (Some (deposited_copy a blocks)) None)) was
        ∙ joins (eqb a au) (deposit_of au js) (eqb-true a au)

-- Other records.

found_au : (k : ℕ) (cs : List Copy) (d : Copy) → copy_at k cs ≡ Some d → d.au ≡ k
found_au k [] d e = absurd cc
found_au k (x ∷ cs) d e = here (eqb x.au k) refl e (λ rest. found_au k cs d rest)
  where
    here : (b : Bool) → eqb x.au k ≡ b → cond b (Some x) (copy_at k cs) ≡ Some d
        → (copy_at k cs ≡ Some d → d.au ≡ k) → d.au ≡ k
    here true is e later = let same : x ≡ d = cc in subst (λ y. y.au ≡ k) same (eqb-true x.au k is)
    here false is e later = later e

changed_at : (a au : ℕ) (f : Copy → Copy) (cs : List Copy) → ((c : Copy) → (f c).au ≡ c.au)
    → copy_at au (copy_changed a f cs) ≡ option_map (λ c. cond (eqb a c.au) (f c) c) (copy_at au cs)
changed_at a au f [] same = refl
changed_at a au f (c ∷ cs) same =
    ap (λ b. copy_at au (cond b (f c ∷ cs) (c ∷ copy_changed a f cs))) (eqb_swap c.au a)
    ∙ by_tests (eqb a c.au) refl (eqb c.au au) refl (changed_at a au f cs same)
  where
    other : (x : Option Copy) → ((d : Copy) → x ≡ Some d → eqb a d.au ≡ false)
        → x ≡ option_map (λ c. cond (eqb a c.au) (f c) c) x
    other None h = refl
    other (Some d) h = ap (λ b. Some (cond b (f d) d)) (sym (h d refl))

    not_a : (d : Copy) → eqb a c.au ≡ true → eqb c.au au ≡ false → d.au ≡ au → eqb a d.au ≡ false
    not_a d is isnt at = by_test (eqb a d.au) refl
      where
        by_test : (b : Bool) → eqb a d.au ≡ b → b ≡ false
        by_test false e = refl
        by_test true e =
            absurd (both_ways _ isnt (eq-eqb c.au au (sym (eqb-true a c.au is) ∙ eqb-true a d.au e ∙ at)))

    by_tests : (b : Bool) → eqb a c.au ≡ b → (d : Bool) → eqb c.au au ≡ d
        → copy_at au (copy_changed a f cs) ≡ option_map (λ c. cond (eqb a c.au) (f c) c) (copy_at au cs)
        → copy_at au (cond b (f c ∷ cs) (c ∷ copy_changed a f cs))
        ≡ option_map (λ c. cond (eqb a c.au) (f c) c) (cond d (Some c) (copy_at au cs))
    by_tests true is true at rest =
        ap (λ t. cond t (Some (f c)) (copy_at au cs)) (ap (λ k. eqb k au) (same c) ∙ at)
        ∙ sym (ap (λ t. Some (cond t (f c) c)) is)
    by_tests true is false at rest =
        ap (λ t. cond t (Some (f c)) (copy_at au cs)) (ap (λ k. eqb k au) (same c) ∙ at)
        ∙ other (copy_at au cs) (λ d e. not_a d is at (found_au au cs d e))
    by_tests false is true at rest =
        ap (λ t. cond t (Some c) (copy_at au (copy_changed a f cs))) at ∙ sym (ap (λ t. Some (cond t (f c) c)) is)
    by_tests false is false at rest = ap (λ t. cond t (Some c) (copy_at au (copy_changed a f cs))) at ∙ rest

-- the openings of closed polls stay
audit_same : (au : ℕ) (all longer : List Record) (before : Audit) (xs : List Record)
    → ((k : ℕ) → is_closed k xs ≡ true → opening_of k longer ≡ opening_of k all)
    → audit_from au longer before xs ≡ audit_from au all before xs
unfolding is_closed audit_after
audit_same au all longer before [] h = refl
audit_same au all longer before (x ∷ xs) h =
    ap (λ a. audit_from au longer a xs) (by_record x (λ k e. h k (or_left _ _ e)))
    ∙ audit_same au all longer (audit_after au all before x) xs (λ k e. h k (or_right _ _ e))
  where
    by_record : (x : Record) → ((k : ℕ) → closes k x ≡ true → opening_of k longer ≡ opening_of k all)
        → audit_after au longer before x ≡ audit_after au all before x
    by_record (Closed number Agreed tick) h =
        ap (λ o. cond (is_of_au au o) (record { tick = tick; noted = false }) before)
        (h number (eq-eqb number number refl))
    by_record x h = refl

audit_last : (au : ℕ) (all : List Record) (before : Audit) (js : List Record) (r : Record)
    → audit_from au all before (js ++ r ∷ []) ≡ audit_after au all (audit_from au all before js) r
audit_last au all before [] r = refl
audit_last au all before (j ∷ js) r = audit_last au all (audit_after au all before j) js r

-- no opening of a closed poll comes later
opening_stays : (js : List Record) (r : Record) → MayFollow js r → (k : ℕ) → is_closed k js ≡ true
    → opening_of k (js ++ r ∷ []) ≡ opening_of k js
opening_stays js r may k over = opening_more k js r ∙ ap (first_opening _) (none r may) ∙ first_stays _
  where
    none : (r : Record) → MayFollow js r → opening_in k r ≡ None
    none (PollOpened number au nonce inner tick limits kind) e = by_number (eqb number k) refl
      where
        by_number : (b : Bool) → eqb number k ≡ b
            → cond {A = Option Opening} b
            (Some (record { au = au; nonce = nonce; inner = inner; limits = limits; kind = kind })) None
            ≡ None
        by_number true same =
            absurd
            (let both : false
            ≡ true = sym (unnamed number js e).running ∙ ap (λ m. is_closed m js) (eqb-true number k same)
            ∙ over in cc)
        by_number false same = refl
    none r e = refl

audit_more : (au : ℕ) (js : List Record) (r : Record) → MayFollow js r
    → audit_of au (js ++ r ∷ []) ≡ audit_after au (js ++ r ∷ []) (audit_of au js) r
unfolding audit_of
audit_more au js r may =
    audit_last au _ _ js r
    ∙ ap (λ a. audit_after au (js ++ r ∷ []) a r) (audit_same au js _ _ js (opening_stays js r may))

abbrev counted : List Replacement → Option Replacement → ℕ
counted rs None = length rs
counted rs (Some r) = length rs + 1

count_more : (au : ℕ) (js : List Record) (r : Record)
    → length (replacements au (js ++ r ∷ [])) ≡ counted (replacements au js) (replacement_in au r)
count_more au js r = ap length (filter_map_more (replacement_in au) js r) ∙ by_replacement (replacement_in au r)
  where
    push : (rs : List Replacement) (r : Replacement) → length (rs ++ r ∷ []) ≡ length rs + 1
    push [] r = refl
    push (s ∷ rs) r = let more = push rs r in omega (arith, more)

    by_replacement : (o : Option Replacement) → length (pushed (replacements au js) o) ≡ counted (replacements au js) o
    by_replacement None = refl
    by_replacement (Some r) = push (replacements au js) r

-- the copy after a record
abbrev copy_after : ℕ → List Record → Record → Copy → Copy
copy_after au all r c =
    record {
      au = c.au;
      blocks = replaced_if c.blocks (replacement_in au r);
      version = elim (replacement_in au r) [ None ↦ c.version | Some x ↦ c.version + 1 ];
      opened = opened_after au c.opened r;
      audit = audit_after au all c.audit r;
    }

counts : (au : ℕ) (js : List Record) (o : Option Replacement)
    → counted (replacements au js) o
    ≡ elim o [ None ↦ length (replacements au js) | Some x ↦ length (replacements au js) + 1 ]
counts au js None = refl
counts au js (Some r) = refl

copy_more : (au : ℕ) (js : List Record) (r : Record) → MayFollow js r → deposit_in au r ≡ None
    → copy_as au (js ++ r ∷ []) ≡ copy_after au (js ++ r ∷ []) r (copy_as au js)
copy_more au js r may none = λ i. record {
  au = au;
  blocks = contents_more au js r none i;
  version = (count_more au js r ∙ counts au js _) i;
  opened = opened_more au None js r i;
  audit = audit_more au js r may i;
}

held_more : (au : ℕ) (js : List Record) (r : Record) → MayFollow js r → deposit_in au r ≡ None
    → copy_of au (js ++ r ∷ []) ≡ option_map (copy_after au (js ++ r ∷ []) r) (copy_of au js)
held_more au js r may none =
    ap (copy_by au _) (deposit_first au js r ∙ ap (first _) none ∙ stays (deposit_of au js))
    ∙ by_deposit (deposit_of au js)
  where
    stays : (d : Option (List (List ℕ))) → first d None ≡ d
    stays None = refl
    stays (Some d) = refl

    by_deposit : (d : Option (List (List ℕ)))
        → copy_by au (js ++ r ∷ []) d ≡ option_map (copy_after au (js ++ r ∷ []) r) (copy_by au js d)
    by_deposit None = refl
    by_deposit (Some d) = ap (λ c. Some c) (copy_more au js r may none)

-- where the state's copies are the journal's, they are after one record more

module _ (rules : Rules) (js : List Record) (cs : List Copy) (are : (au : ℕ) → copy_at au cs ≡ copy_of au js) where
  -- the record changes one copy as f does
  by_change : (r : Record) (a : ℕ) (f : Copy → Copy) → MayFollow js r → ((au : ℕ) → deposit_in au r ≡ None)
      → ((c : Copy) → (f c).au ≡ c.au)
      → ((au : ℕ)
      → copy_after au (js ++ r ∷ []) r (copy_as au js) ≡ cond (eqb a au) (f (copy_as au js)) (copy_as au js))
      → (au : ℕ) → copy_at au (copy_changed a f cs) ≡ copy_of au (js ++ r ∷ [])
  by_change r a f may none same does au =
      changed_at a au f cs same ∙ ap (option_map (λ c. cond (eqb a c.au) (f c) c)) (are au)
      ∙ by_deposit (deposit_of au js) ∙ sym (held_more au js r may (none au))
    where
      by_deposit : (d : Option (List (List ℕ)))
          → option_map (λ c. cond (eqb a c.au) (f c) c) (copy_by au js d)
          ≡ option_map (copy_after au (js ++ r ∷ []) r) (copy_by au js d)
      by_deposit None = refl
      by_deposit (Some d) = ap (λ c. Some c) (sym (does au))

  -- the record changes none
  by_none : (r : Record) → MayFollow js r → ((au : ℕ) → deposit_in au r ≡ None)
      → ((au : ℕ) → copy_after au (js ++ r ∷ []) r (copy_as au js) ≡ copy_as au js) → (au : ℕ)
      → copy_at au cs ≡ copy_of au (js ++ r ∷ [])
  by_none r may none does au = are au ∙ by_deposit (deposit_of au js) ∙ sym (held_more au js r may (none au))
    where
      by_deposit : (d : Option (List (List ℕ)))
          → copy_by au js d ≡ option_map (copy_after au (js ++ r ∷ []) r) (copy_by au js d)
      by_deposit None = refl
      by_deposit (Some d) = ap (λ c. Some c) (sym (does au))

  opened_by : (b : Bool) (c : Copy) (tick : ℕ)
      → record c { opened = cond b (later c.opened tick) c.opened } ≡ cond b (opened_at tick c) c
  opened_by true c tick = refl
  opened_by false c tick = refl

  replaced_when : (b : Bool) (c : Copy) (block : ℕ) (bytes : List ℕ)
      → record c {
        blocks =
            replaced_if c.blocks
            (cond {A = Option Replacement} b (Some (record { block = block; bytes = bytes })) None);
        version =
            elim (cond {A = Option Replacement} b (Some (record { block = block; bytes = bytes })) None) as (λ
            (_ : Option Replacement). ℕ) [
              | None
                  ↦ c.version
              | Some x ↦ c.version + 1
            ];
      } ≡ cond b (replaced_in block bytes c) c
  replaced_when true c block bytes = refl
  replaced_when false c block bytes = refl

  noted_by : (b : Bool) (c : Copy)
      → record c { audit = cond b (record { tick = c.audit.tick; noted = true }) c.audit }
      ≡ cond b (noted_overdue c) c
  noted_by true c = refl
  noted_by false c = refl

  agreed_by : (b : Bool) (c : Copy) (tick : ℕ)
      → record c { audit = cond b (record { tick = tick; noted = false }) c.audit } ≡ cond b (agreed_at tick c) c
  agreed_by true c tick = refl
  agreed_by false c tick = refl

  agreed : (n tick : ℕ) → MayFollow js (Closed n Agreed tick) → (found : Option Poll)
      → found ≡ running_by rules n js (opening_of n js) (is_closed n js)
      → (au : ℕ) → copy_at au (agreed_on found tick cs) ≡ copy_of au (js ++ Closed n Agreed tick ∷ [])
  unfolding is_of_au audit_after
  agreed n tick may found is = by_opening (opening_of n js) refl (is ∙ ap (running_by rules n js _) may.0)
    where
      r : Record
      r = Closed n Agreed tick

      same : opening_of n (js ++ r ∷ []) ≡ opening_of n js
      same = opening_more n js r ∙ first_stays _

      by_opening : (o : Option Opening) → opening_of n js ≡ o → found ≡ running_by rules n js o false → (au : ℕ)
          → copy_at au (agreed_on found tick cs) ≡ copy_of au (js ++ r ∷ [])
      by_opening None e is au =
          ap (λ p. copy_at au (agreed_on p tick cs)) is
          ∙ by_none r may (λ a. refl) (λ a. ap (λ x.
          record (copy_as a js) {
            audit = cond (is_of_au a x) (record { tick = tick; noted = false })
                (audit_of a js);
          }) (same ∙ e)) au
      by_opening (Some o) e is au =
          ap (λ p. copy_at au (agreed_on p tick cs)) is
          ∙ by_change r o.au _ may (λ a. refl) (λ c. refl) (λ a. ap (λ x.
          record (copy_as a js) {
            audit = cond (is_of_au a x) (record { tick = tick; noted = false })
                (audit_of a js);
          }) (same ∙ e)
          ∙ agreed_by _ _ tick) au

  pub copies_more : (r : Record) → MayFollow js r → (au : ℕ)
      → copy_at au (copies_after (polls_of rules js) r cs) ≡ copy_of au (js ++ r ∷ [])
  unfolding audit_after
  copies_more (Deposit a blocks) may = one_deposit js a blocks cs may are
  copies_more (PollOpened number a nonce inner tick limits kind) may =
      by_change _ a _ may (λ au. refl) (λ c. refl) (λ au. opened_by _ _ tick)
  copies_more (Replaced number a block bytes) may =
      by_change _ a _ may (λ au. refl) (λ c. refl) (λ au. replaced_when _ _ block bytes)
  copies_more (Closed number Agreed tick) may = agreed number tick may _ (poll_found rules number js)
  copies_more (Overdue a tick) may = by_change _ a noted_overdue may (λ au. refl) (λ c. refl) (λ au. noted_by _ _)
  copies_more r may = by_none r may (λ au. refl) (λ au. refl)

-- the blocks of an AU, held or not

pub blocks_are : (js : List Record) (cs : List Copy) → ((au : ℕ) → copy_at au cs ≡ copy_of au js) → (au : ℕ)
    → blocks_at au cs ≡ contents_of au js
unfolding contents_of
blocks_are js cs are au = ap blocks_in (are au) ∙ by_deposit (deposit_of au js) refl
  where
    none : (rs : List Replacement) → replaced_by [] rs ≡ []
    none [] = refl
    none (r ∷ rs) = none rs

    by_deposit : (d : Option (List (List ℕ))) → deposit_of au js ≡ d → blocks_in (copy_by au js d) ≡ contents_of au js
    by_deposit None e = sym (ap (λ x. replaced_by (unwrap_or x []) (replacements au js)) e ∙ none (replacements au js))
    by_deposit (Some d) e = refl
