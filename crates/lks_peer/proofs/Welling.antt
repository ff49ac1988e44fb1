-- A peer stays well, whatever it notes.
use Rattle.std.proofs.Common.{◌≡◌, ◌≤◌, ◌*◌, sym, subst, ℕ, Bool, true, false, List, refl}
use Rattle.std.specs.Prelude.{◌&&◌, nat_le, Some, None, Result, Ok, Err, OnOk, OnErr, find}
use Rattle.std.proofs.lemmas.List.Elements.{All-nil}
use Rattle.std.proofs.lemmas.Bool.{leb-true, lt-ltb}
use Rattle.lks_base.proofs.PlanBounds.{good_rules, few_aus}
use Rattle.lks_base.proofs.PlanLaws.{no_first, short_proof, stands}
use Rattle.lks_base.specs.Checking.{are_bounded, is_within, plan_fault}
use Rattle.lks_base.specs.declared.plans.PeerPlan.{PeerPlan}
use Rattle.lks_base.specs.declared.plans.Plan.{Plan}
use Rattle.lks_base.specs.declared.records.Record.{Record}
use Rattle.lks_base.specs.declared.reactions.Input.{Input}
use Rattle.lks_base.specs.declared.reactions.Reaction.{Reaction}
use Rattle.lks_law.specs.Facts.{IsHeard}
use Rattle.lks_law.specs.Table.{react_on}
use Rattle.lks_law.proofs.Fitting.{sound_after, reaction_fits}
use Rattle.lks_law.specs.Fitting.{Fits, AreFitting, IsSound, has_room}
use Rattle.lks_law.specs.Polls.{Station}
use Rattle.lks_law.specs.State.{State, after, blank}
use Rattle.lks_law.specs.World.{station_of}
use Rattle.lks_peer.specs.Knows.{state_of, IsSameButMarks, IsTied, IsMade, IsFit, IsWell}
use Rattle.lks_peer.specs.declared.known.Known.{Known}

module _ (own : Station) (old new : State) (fit : IsFit own old) where
  -- in the same state, and after a record that fits
  fit_same : new ≡ old → IsFit own new
  fit_same is = subst (IsFit own) (sym is) fit

  -- or where marks alone changed
  fit_marked : IsSameButMarks old new → IsFit own new
  fit_marked (marks, is) = subst (IsFit own) (sym is) (record {
    inner = fit.inner;
    outer = fit.outer;
    aus = fit.aus;
    proof = fit.proof;
    sound = record {
      counted = fit.sound.counted;
      small = fit.sound.small;
      asks = fit.sound.asks;
      held = fit.sound.held;
      pinned = fit.sound.pinned;
      cast = fit.sound.cast;
      legal = fit.sound.legal;
      repairs = fit.sound.repairs;
    };
  })

  fit_after : (r : Record) → Fits own old r → new ≡ after own old r → IsFit own new
  fit_after r fits is = record {
    inner = fit.inner;
    outer = fit.outer;
    aus = fit.aus;
    proof = fit.proof;
    sound = subst IsSound (sym is) (sound_after own old r fits fit.sound);
  }

module _ (own : Station) (pool : List ℕ) (old : Known) (well : IsWell own pool old) where
  pub well_same : (new : Known) → state_of new ≡ state_of old → IsTied own.id pool new → IsWell own pool new
  well_same new is tied = record { tied = tied; fit = fit_same own (state_of old) (state_of new) well.fit is }

  -- after a record that fits, or where there was no memory for it
  pub well_noted : {E : Type 0} (new : Known) (r : Record) (result : Result (Unit {0}) E)
      → Fits own (state_of old) r → OnOk result (state_of new ≡ after own (state_of old) r)
      → OnErr result (IsSameButMarks (state_of old) (state_of new)) → IsTied own.id pool new → IsWell own pool new
  well_noted new r (Ok _) fits is same tied =
      record { tied = tied; fit = fit_after own (state_of old) (state_of new) well.fit r fits is }
  well_noted new r (Err e) fits is same tied =
      record { tied = tied; fit = fit_marked own (state_of old) (state_of new) well.fit same }

  -- what it adds fits its state
  pub adds_fit : (tick : ℕ) (i : Input) (r : Reaction) → IsHeard i → has_room (state_of old) ≡ true
      → r ≡ react_on own (state_of old) tick i → AreFitting own (state_of old) r.records
  adds_fit tick i r heard room is =
      subst (λ (x : Reaction). AreFitting own (state_of old) x.records) (sym is)
      (reaction_fits own (state_of old) well.fit.inner room well.fit.sound tick i heard)

-- a peer that knows nothing yet
pub well_made : (own : Station) (pool : List ℕ) (known : Known) → IsMade own known → IsFit own (blank own)
    → IsWell own pool known
well_made own pool known made fit = record { tied = made.tied pool; fit = subst (IsFit own) (sym made.state) fit }

-- an outer circle has at most 16 peers, and a session gives at most 512 blocks
third : (a b c d e f g h i j : Bool) → (a && b && c && d && e && f && g && h && i && j) ≡ true → c ≡ true
third true true true d e f g h i j all = refl
third true true false d e f g h i j all = all
third true false c d e f g h i j all = absurd cc
third false b c d e f g h i j all = absurd cc

fourth : (a b c d e f g h i j : Bool) → (a && b && c && d && e && f && g && h && i && j) ≡ true → d ≡ true
fourth true true true true e f g h i j all = refl
fourth true true true false e f g h i j all = all
fourth true true false d e f g h i j all = absurd cc
fourth true false c d e f g h i j all = absurd cc
fourth false b c d e f g h i j all = absurd cc

few_repairs : (plan : Plan) → plan_fault plan ≡ None → plan.rules.repairs ≤ 512
unfolding plan_fault are_bounded
few_repairs plan good =
    let r = plan.rules in
    leb-true r.repairs 512
    (fourth (is_within 1 16 r.inner) (nat_le 1 r.quorum) (nat_le r.outer 16) (nat_le r.repairs 512)
    (nat_le r.pace 1000000)
    (nat_le r.refractory 1000000) (nat_le r.overdue 1000000) (nat_le r.unknown_pct 100) (nat_le r.debt_pct 100)
    (nat_le r.churn 16)
    (stands _ _ (no_first _ _ good)))

few_outer : (plan : Plan) → plan_fault plan ≡ None → plan.rules.outer ≤ 16
unfolding plan_fault are_bounded
few_outer plan good =
    let r = plan.rules in
    leb-true r.outer 16
    (third (is_within 1 16 r.inner) (nat_le 1 r.quorum) (nat_le r.outer 16) (nat_le r.repairs 512)
    (nat_le r.pace 1000000)
    (nat_le r.refractory 1000000) (nat_le r.overdue 1000000) (nat_le r.unknown_pct 100) (nat_le r.debt_pct 100)
    (nat_le r.churn 16)
    (stands _ _ (no_first _ _ good)))

-- an honest peer of a good plan goes by such numbers, and begins in such a state
pub fit_blank : (plan : Plan) (q : PeerPlan → Bool) (p : PeerPlan) → plan_fault plan ≡ None
    → find q plan.peers ≡ Some p → IsFit (station_of plan p) (blank (station_of plan p))
fit_blank plan q p good found =
    let rules = good_rules plan good in
    record {
      inner = rules.0;
      outer = few_outer plan good;
      aus = few_aus plan good;
      proof = short_proof plan q p good found;
      sound = record {
        counted = All-nil _;
        small = All-nil _;
        asks = All-nil _;
        held = All-nil _;
        pinned = All-nil _;
        cast = All-nil _;
        legal = (rules.1, rules.2, lt-ltb (2 * plan.rules.minority) plan.rules.quorum rules.3);
        repairs = few_repairs plan good;
      };
    }
