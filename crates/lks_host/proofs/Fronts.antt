-- What a crash leaves of a disk on which a journal was to begin.
use Rattle.std.proofs.Common.{◌≡◌, ◌≤◌, ◌<◌, ◌+◌, ◌∙◌, inl, inr, ⊎_elim, ap, sym, subst, refl, arith, ℕ, List, []}
use Rattle.std.proofs.Common.{◌∷◌, ◌++◌, get_or, length, take, append_assoc}
use Rattle.std.specs.Prelude.{map, max, Result, Ok, Err, IfOk, OnErr}
use Rattle.std.proofs.lemmas.List.{append-nil, map-append, map_more, take-map}
use Rattle.lks_base.specs.declared.records.Record.{Record}
use Rattle.lks_disk.specs.Device.{Only}
use Rattle.lks_disk.specs.Face.{Face}
use Rattle.lks_field.specs.Frames.{HoldsBodies}
use Rattle.lks_host.specs.Adopting.{LeavesFront}
use Rattle.lks_host.specs.Bodies.{bodies_of}
use Rattle.lks_host.specs.Hosted.{HasFront, disk_hosted}
use Rattle.lks_host.specs.declared.faults.HostFault.{HostFault}
use Rattle.lks_host.specs.declared.hosts.Host.{Host}
use Rattle.lks_journal.specs.Adding.{HoldsEither}
use Rattle.lks_journal.specs.Settled.{IsSettled}
use Rattle.lks_journal.specs.Tearing.{CanLeaveTorn}
use Rattle.lks_journal.specs.declared.journals.Journal.{Journal}
use Rattle.lks_law.specs.Batches.{alone}
use Rattle.lks_record.specs.Spelling.{batch_spelling}

-- the batches from before and of the first records, and the next one
pub next_front : (before : List (List Record)) (list : List Record) (i : ℕ) (r d : Record) → i < length list
    → r ≡ get_or list i d
    → bodies_of (before ++ map alone (take i list)) ++ batch_spelling (r ∷ []) ∷ []
    ≡ bodies_of (before ++ map alone (take (i + 1) list))
next_front before list i r d within is =
    sym (map-append batch_spelling (before ++ map alone (take i list)) (alone r ∷ []))
    ∙ ap bodies_of (append_assoc before (map alone (take i list)) (alone r ∷ []))
    ∙ ap (λ (q : Record). bodies_of (before ++ (map alone (take i list) ++ alone q ∷ []))) is
    ∙ ap (λ (bs : List (List Record)). bodies_of (before ++ bs)) (sym (map_more alone list i d within))

-- a byte that was written to nothing is torn to at most a byte
pub torn_short : (may_leave : List ℕ → Type 0) (c : List ℕ) → Only [] may_leave → CanLeaveTorn may_leave 0 1 c
    → length c ≤ 1
torn_short may_leave c only left = omega (arith, left.torn.no_longer, ap length (only left.from left.left), max_one)
  where
    max_one : max 0 (0 + 1) ≡ 1
    max_one = refl

module _ {D : Type 0} (f : Face D) where
  pub front_none : (batches : List (List Record)) (disk : D) → ((c : List ℕ) → f.may_leave disk c → length c ≤ 1)
      → HasFront f batches disk
  front_none batches disk few = record { leaves = λ c may. inl (few c may) }

  pub front_or_next : (before : List (List Record)) (list : List Record) (i : ℕ) (r d : Record) (disk : D)
      → i < length list → r ≡ get_or list i d
      → ((c : List ℕ) → f.may_leave disk c
      → HoldsEither (bodies_of (before ++ map alone (take i list)))
      (bodies_of (before ++ map alone (take i list)) ++ batch_spelling (r ∷ []) ∷ []) c)
      → LeavesFront f before (map alone list) disk
  front_or_next before list i r d disk within is either = record {
    leaves = λ c may. ⊎_elim
        (λ first. (i, subst (λ bs. HoldsBodies (bodies_of (before ++ bs)) c) (sym (take-map alone i list)) first))
        (λ next. (
          i + 1,
          subst (λ bs. HoldsBodies (bodies_of (before ++ bs)) c) (sym (take-map alone (i + 1) list))
              (subst (λ bs. HoldsBodies bs c) (next_front before list i r d within is) next),
        )) (either c may);
  }

  -- nothing was appended
  pub front_still : (journal : Journal D) (before more : List (List Record))
      → IsSettled f journal (bodies_of before) → LeavesFront f before more journal.disk
  front_still journal before more settled = record {
    leaves =
        λ c may. (
          0,
          subst (HoldsBodies (bodies_of (before ++ take 0 more))) (sym (settled.durable c may))
              (subst (λ bs. HoldsBodies (bodies_of bs) (f.seen journal.disk)) (sym (append-nil before))
              settled.holds),
        );
  }

  -- a journal that begins with nothing is left so
  pub front_first : (batches : List (List Record)) (disk : D) → LeavesFront f [] batches disk → HasFront f batches disk
  front_first batches disk front = record { leaves = λ c may. inr (front.leaves c may) }

  -- a host that wasn't made, whether its peer was begun or not
  pub front_begun : {A E : Type 0} (disk : D) (fault : HostFault) (records : A → List Record) (list : List Record)
      (Q : A → Type 0) (begun : Result A E) (made : Result (Host D) (D × HostFault))
      → Only [] (f.may_leave disk)
      → OnErr begun (made ≡ Err (disk, fault)) → IfOk begun Q → ((a : A) → Q a → records a ≡ list)
      → OnErr made (IfOk begun (λ a. HasFront f (map alone (records a)) (disk_hosted made)))
      → OnErr made (HasFront f (map alone list) (disk_hosted made))
  front_begun disk fault records list Q begun (Ok host) settled unmade is same front = tt
  front_begun disk fault records list Q (Ok a) (Err e) settled unmade is same front =
      subst (λ (js : List Record). HasFront f (map alone js) e.0) (same a is) front
  front_begun {A = A} {E = E} disk fault records list Q (Err x) (Err e) settled unmade is same front =
      let there : e.0 ≡ disk = ap disk_hosted unmade in
      front_none (map alone list) e.0
      (λ c may. omega (arith, ap length (settled c (subst (λ (d : D). f.may_leave d c) there may))))
