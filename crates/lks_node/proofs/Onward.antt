-- A node that goes on, order by order.
use Rattle.std.proofs.Common.{◌≡◌, ◌≤◌, ◌+◌, ◌∙◌, ◌++◌, ℕ, List, [], ◌∷◌, Option, Some, None, ap, sym, subst, refl}
use Rattle.std.proofs.Common.{arith, length, length-append, append_assoc}
use Rattle.std.proofs.lemmas.List.{append-nil}
use Rattle.lks_base.specs.declared.limits.TheConstants.{MOST_EVENTS}
use Rattle.lks_base.specs.declared.plans.AuPlan.{AuPlan}
use Rattle.lks_base.specs.declared.plans.Holding.{Holding}
use Rattle.lks_base.specs.declared.plans.Plan.{Plan}
use Rattle.lks_disk.specs.Face.{Face}
use Rattle.lks_outside.specs.declared.questions.Question.{Question}
use Rattle.lks_law.specs.Polls.{Station}
use Rattle.lks_law.specs.Questions.{Verdicts}
use Rattle.lks_node.specs.Being.{IsAt, Stays}
use Rattle.lks_node.specs.Ending.{Ends, HadRoom, Halts, HasRoom, Turns}
use Rattle.lks_node.specs.Going.{Progress, after, after_all, asked_for, does, replies}
use Rattle.lks_node.specs.Replies.{reply}
use Rattle.lks_node.specs.Telling.{Begins, IsFoundLast, Tell}
use Rattle.lks_node.specs.declared.ends.Rest.{Rest}
use Rattle.lks_node.specs.declared.ends.Rest.TheVariants as rest
use Rattle.lks_node.specs.declared.ends.NodeStop.TheVariants.{Rested}
use Rattle.lks_node.specs.declared.ends.NodeStop.{NodeStop}
use Rattle.lks_node.specs.declared.nodes.Node.{Node}
use Rattle.lks_node.specs.declared.orders.Order.{Order}
use Rattle.lks_node.specs.declared.orders.Order.TheVariants.{Hear, Do, Pass}
use Rattle.lks_inbox.specs.Received.{envelope_of, asked_by}
use Rattle.std.specs.Option.{option_to_list}

-- One order more.

tell_more : (plan : Plan) (id : ℕ) (bytes : List ℕ) (os : List Order) (o : Order) (more rest : List ℕ)
    → Tell plan id bytes os more → Begins plan id more o rest → Tell plan id bytes (os ++ o ∷ []) rest
tell_more plan id bytes [] o more rest tell begins =
    (rest, subst (λ (xs : List ℕ). Begins plan id xs o rest) (sym tell) begins, refl)
tell_more plan id bytes (x ∷ os) o more rest tell begins =
    (tell.0, tell.1, tell_more plan id tell.0 os o more rest tell.2 begins)

after_more : (verdict : Verdicts) (own : Station) (p : Progress) (os : List Order) (o : Order)
    → after_all verdict own p (os ++ o ∷ []) ≡ after verdict own (after_all verdict own p os) o
unfolding after_all
after_more verdict own p [] o = refl
after_more verdict own p (x ∷ os) o = after_more verdict own (after verdict own p x) os o

replies_more : (verdict : Verdicts) (own : Station) (p : Progress) (os : List Order) (o : Order)
    → replies verdict own p (os ++ o ∷ [])
    ≡ replies verdict own p os ++ reply (does verdict own (after_all verdict own p os) o)
unfolding replies after_all
replies_more verdict own p [] o = append-nil (reply (does verdict own p o))
replies_more verdict own p (x ∷ os) o =
    ap (λ rest. reply (does verdict own p x) ++ rest) (replies_more verdict own (after verdict own p x) os o)
    ∙ sym (append_assoc (reply (does verdict own p x)) _ _)

room_more : (verdict : Verdicts) (own : Station) (p : Progress) (os : List Order) (o : Order)
    → HadRoom verdict own p os → HasRoom (after_all verdict own p os).batches → HadRoom verdict own p (os ++ o ∷ [])
unfolding after_all
room_more verdict own p [] o had one = (one, tt)
room_more verdict own p (x ∷ os) o had one = (had.0, room_more verdict own (after verdict own p x) os o had.1 one)

-- What the judge was asked.

at_most_one : (id : ℕ) (o : Order) → length (asked_for id o) ≤ 1
at_most_one id (Hear from bytes) = by_question (asked_by (envelope_of from id bytes))
  where
    by_question : {X : Type 0} (q : Option X) → length (option_to_list q) ≤ 1
    by_question None = omega arith
    by_question (Some q) = omega arith
at_most_one id (Do i) = omega arith
at_most_one id (Pass ticks) = omega arith

pub few_asked : (verdict : Verdicts) (own : Station) (p : Progress) (os : List Order)
    → length (after_all verdict own p os).heard ≤ length p.heard + length os
unfolding after_all
few_asked verdict own p [] = omega arith
few_asked verdict own p (o ∷ os) =
    let rest = few_asked verdict own (after verdict own p o) os in
    let both : length (p.heard ++ asked_for own.id o)
    ≡ length p.heard + length (asked_for own.id o) = length-append p.heard (asked_for own.id o) in
    let one = at_most_one own.id o in
    omega (arith, rest, both, one)

-- So many orders were answered.

module _ {D : Type 0} (f : Face D) (verdict : Verdicts) (plan : Plan) (own : Station) (aus : List AuPlan)
    (copies : List Holding) (p : Progress) (left before : Option (List ℕ)) where
  pub record Went (n : ℕ) (left_then taken_then : Option (List ℕ)) (node : Node D) (asked : List Question) : Type 0
    where
      pub orders : List Order
      pub count : length orders ≡ n
      pub told : (bytes : List ℕ) → left ≡ Some bytes
          → (more : List ℕ) × Tell plan own.id bytes orders more × (left_then ≡ Some more)
      pub said : (bytes : List ℕ) → before ≡ Some bytes → taken_then ≡ Some (bytes ++ replies verdict own p orders)
      pub room : f.told node.host.journal.disk → HadRoom verdict own p orders
      pub at : IsAt f aus copies (after_all verdict own p orders) node asked

  pub went_none : (node : Node D) (asked : List Question) → IsAt f aus copies p node asked
      → Went 0 left before node asked
  unfolding after_all replies
  went_none node asked at =
      record {
        orders = [];
        count = refl;
        told = λ bytes is. (bytes, refl, is);
        said = λ bytes is. is ∙ ap Some (sym (append-nil bytes));
        room = λ t. tt;
        at = at;
      }

  pub went_on : (n : ℕ) (l t m s : Option (List ℕ)) (node next : Node D) (asked now : List Question)
      (w : Went n l t node asked)
      → (f.told next.host.journal.disk → f.told node.host.journal.disk)
      → Turns f verdict plan own aus copies (after_all verdict own p w.orders) l m t s next now
      → Went (n + 1) m s next now
  went_on n l t m s node next asked now w back turn = record {
    orders = w.orders ++ turn.order ∷ [];
    count =
        let both : length (w.orders ++ turn.order ∷ [])
        ≡ length w.orders + 1 = length-append w.orders (turn.order ∷ []) in omega (arith, both, w.count);
    told = λ bytes is.
        let one = w.told bytes is in
        let two = turn.told one.0 one.2 in
        (two.0, tell_more plan own.id bytes w.orders turn.order one.0 two.0 one.1 two.1, two.2);
    said = λ bytes is.
        turn.said (bytes ++ replies verdict own p w.orders) (w.said bytes is)
        ∙ ap Some
        (append_assoc bytes _ _
        ∙ ap (λ more. bytes ++ more) (sym (replies_more verdict own p w.orders turn.order)));
    room = λ t. room_more verdict own p w.orders turn.order (w.room (back t)) (turn.room t);
    at = subst (λ q. IsAt f aus copies q next now) (sym (after_more verdict own p w.orders turn.order)) turn.at;
  }

  pub ended : (n : ℕ) (l t now : Option (List ℕ)) (node next : Node D) (asked heard : List Question) (stop : NodeStop)
      (w : Went n l t node asked)
      → (f.told next.host.journal.disk → f.told node.host.journal.disk) → n ≤ MOST_EVENTS
      → Halts f verdict plan own aus copies n (after_all verdict own p w.orders) l t now next heard stop
      → Ends f verdict plan own aus copies p left before now next heard stop
  ended n l t now node next asked heard stop w back few halts = record {
    orders = w.orders;
    few = let count = w.count in omega (arith, count, few);
    left_then = l;
    taken_then = t;
    told = w.told;
    said = w.said;
    room = λ t. w.room (back t);
    halts =
        subst
        (λ k. Halts f verdict plan own aus copies k (after_all verdict own p w.orders) l t now next heard stop)
        (sym w.count) halts;
  }

  -- a turn that ended in the words of the node as it is now
  pub turns_as : (v : Verdicts) (w : Station) (q : Progress) (l m t s : Option (List ℕ)) (next : Node D)
      (now : List Question)
      → v ≡ verdict → w ≡ own
      → Turns f v plan w aus copies q l m t s next now → Turns f verdict plan own aus copies q l m t s next now
  turns_as v w q l m t s next now same is turn =
      subst (λ (x : Verdicts). Turns f x plan own aus copies q l m t s next now) same
      (subst (λ (x : Station). Turns f v plan x aus copies q l m t s next now) is turn)

  pub halts_as : (v : Verdicts) (w : Station) (n : ℕ) (q : Progress) (l t s : Option (List ℕ)) (next : Node D)
      (now : List Question) (stop : NodeStop)
      → v ≡ verdict → w ≡ own
      → Halts f v plan w aus copies n q l t s next now stop
      → Halts f verdict plan own aus copies n q l t s next now stop
  halts_as v w n q l t s next now stop same is halts =
      subst (λ (x : Verdicts). Halts f x plan own aus copies n q l t s next now stop) same
      (subst (λ (x : Station). Halts f v plan x aus copies n q l t s next now stop) is halts)

  -- behind the last order that may be
  pub halts_last : (n : ℕ) (q : Progress) (l t : Option (List ℕ)) (node : Node D) (asked : List Question) (r : Rest)
      → n ≡ MOST_EVENTS → ((bytes : List ℕ) → l ≡ Some bytes → IsFoundLast bytes r) → (r ≡ rest.Full → ⊥)
      → IsAt f aus copies q node asked → Halts f verdict plan own aus copies n q l t t node asked (Rested r)
  halts_last n q l t node asked rest.Done most found full at = record { next = None; why = found; leaves = (at, refl) }
  halts_last n q l t node asked rest.TooMany most found full at =
      record { next = None; why = λ bytes told. (most, found bytes told); leaves = (at, refl) }
  halts_last n q l t node asked (rest.Unread e) most found full at =
      record { next = None; why = λ bytes told. tt; leaves = (at, refl) }
  halts_last n q l t node asked (rest.Bad i) most found full at =
      record { next = None; why = λ bytes told. absurd (found bytes told); leaves = (at, refl) }
  halts_last n q l t node asked rest.Memory most found full at =
      record { next = None; why = λ bytes told. tt; leaves = (at, refl) }
  halts_last n q l t node asked rest.Full most found full at = absurd (full refl)

module _ {D : Type 0} (f : Face D) where
  pub stays_here : (node : Node D) → Stays f node node
  stays_here node = record { own = refl; pool = refl; told = (λ t. t, λ t. t); unfused = refl }

  pub stays_then : (a b c : Node D) → Stays f a b → Stays f b c → Stays f a c
  stays_then a b c one two = record {
    own = two.own ∙ one.own;
    pool = two.pool ∙ one.pool;
    told = (λ t. two.told.0 (one.told.0 t), λ t. one.told.1 (two.told.1 t));
    unfused = two.unfused ∙ one.unfused;
  }
