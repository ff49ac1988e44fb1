-- A world goes on by turns.
use Rattle.std.proofs.Common.{◌≡◌, ◌∙◌, ap, sym, subst, ℕ, ◌+◌, List, [], ◌∷◌, ◌++◌, All, None, length, take, refl}
use Rattle.std.proofs.Common.{arith, append_assoc, length-append}
use Rattle.std.proofs.lemmas.List.{append-nil}
use Rattle.std.proofs.Math.Seq.{take-append_seam}
use Rattle.std.proofs.lemmas.List.Elements.{All-cons, All-nil}
use Rattle.lks_base.specs.declared.events.Event.{Event}
use Rattle.lks_base.specs.declared.plans.Plan.{Plan}
use Rattle.lks_disk.specs.Face.{Face}
use Rattle.lks_farm.specs.Seats.{AreFresh, FarmName, SeatSeen}
use Rattle.lks_law.specs.Due.{AreDue}
use Rattle.lks_race.specs.Racing.{Begin, GoesOn, IsSeat, Runs, begin_of}
use Rattle.lks_watch.specs.Watching.{Ears}
use Rattle.lks_world.specs.Giving.{IsOver}
use Rattle.lks_world.specs.Worlds.{HasWatched, HaveServed, Remembers, Seen, StandsAtFault, Start}

due_all : (plan : Plan) (history xs ys : List Event) → AreDue plan history xs → AreDue plan (history ++ xs) ys
    → AreDue plan history (xs ++ ys)
due_all plan history [] ys first then = subst (λ (h : List Event). AreDue plan h ys) (append-nil history) then
due_all plan history (x ∷ xs) ys first then = (
  first.0,
  due_all plan (history ++ x ∷ []) xs ys first.1
      (subst (λ (h : List Event). AreDue plan h ys) (sym (append_assoc history (x ∷ []) xs)) then),
)

module _ {D J B : Type 0} where
  -- nothing happened
  pub goes_start : (w : Seen D J B) → GoesOn (begin_of w) w
  goes_start w =
      record {
        plan = refl;
        pool = refl;
        start = refl;
        more = [];
        history = sym (append-nil w.history);
        due = tt;
        turns = omega arith;
      }

  -- one part of a race after another
  pub goes_then : (b : Begin) (old new : Seen D J B) → GoesOn b old → GoesOn (begin_of old) new → GoesOn b new
  goes_then b old new first next = record {
    plan = next.plan ∙ first.plan;
    pool = next.pool ∙ first.pool;
    start = next.start ∙ first.start;
    more = first.more ++ next.more;
    history =
        next.history ∙ ap (λ (h : List Event). h ++ next.more) first.history
        ∙ append_assoc b.history first.more next.more;
    due = due_all b.plan b.history first.more next.more first.due
        (subst (λ (h : List Event). AreDue b.plan h next.more) first.history
        (subst (λ (p : Plan). AreDue p old.history next.more) first.plan next.due));
    turns = omega (arith, next.turns, first.turns, length-append first.more next.more);
  }

  -- the history and the turns stay
  goes_same : (old new : Seen D J B) → Remembers old new → new.history ≡ old.history → new.turns ≡ old.turns
      → GoesOn (begin_of old) new
  goes_same old new remembers history turns = record {
    plan = remembers.plan;
    pool = remembers.pool;
    start = remembers.start;
    more = [];
    history = history ∙ sym (append-nil old.history);
    due = tt;
    turns = omega (arith, turns);
  }

  -- the fault that stops a world leaves all else
  pub goes_as : (b : Begin) (old new : Seen D J B) → GoesOn b old → begin_of new ≡ begin_of old → GoesOn b new
  goes_as b old new on same = goes_then b old new on (goes_same old new
      (record {
        plan = ap (λ (x : Begin). x.plan) same;
        pool = ap (λ (x : Begin). x.pool) same;
        start = ap (λ (x : Begin). x.start) same;
      })
      (ap (λ (x : Begin). x.history) same) (ap (λ (x : Begin). x.turns) same))

-- The judge and the bells have watched, and the disks served, since the beginning that the race's world remembered.
pub runs : {D J B : Type 0} (f : Face D) (e : Ears J B) (first w : Seen D J B) → GoesOn (begin_of first) w
    → (w.stopped ≡ None → IsOver w)
    → (w.stopped ≡ None → HasWatched e w.plan w.start.limits w.history w.judge w.bells) → StandsAtFault f e w
    → HaveServed f w.plan.peers w.start.faults w.disks w.stopped
    → Runs f e first w
runs f e first w on over watched halted served = record {
  on = on;
  over = over;
  watched =
      λ running. subst (λ (s : Start). HasWatched e first.plan s.limits w.history w.judge w.bells) on.start
      (subst (λ (p : Plan). HasWatched e p w.start.limits w.history w.judge w.bells) on.plan (watched running));
  halted = halted;
  served =
      subst (λ (s : Start). HaveServed f first.plan.peers s.faults w.disks w.stopped) on.start
      (subst (λ (p : Plan). HaveServed f p.peers w.start.faults w.disks w.stopped) on.plan served);
}

-- seats by way of which nothing was done hold no job
pub free_seats : (farm : FarmName) (k : ℕ) (seats : List SeatSeen) → AreFresh farm k seats → All (IsSeat farm) seats
free_seats farm k [] fresh = All-nil (IsSeat farm)
free_seats farm k (s ∷ ss) fresh =
    All-cons (IsSeat farm) s ss (ap (λ (x : SeatSeen). x.badge.farm) fresh.0, ap (λ (x : SeatSeen). x.held) fresh.0)
    (free_seats farm (k + 1) ss fresh.1)

-- what was written through a whole list stands there
pub seats_back : (n : ℕ) (xs ys : List SeatSeen) → length xs ≡ n → take n (xs ++ ys) ≡ xs
seats_back n xs ys count = subst (λ (k : ℕ). take k (xs ++ ys) ≡ xs) count (take-append_seam xs ys)
