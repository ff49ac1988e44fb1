-- Hosts go on one at a time.
use Rattle.std.proofs.Common.{◌≡◌, ◌∙◌, ◌⊎◌, inl, inr, sym, ap, subst, ℕ, zero, suc, List, [], ◌∷◌, length, drop}
use Rattle.std.proofs.Common.{refl, arith}
use Rattle.std.specs.Prelude.{Option, Some, slice_get, slice_set, option_map, Result, Ok, Err, OnOk}
use Rattle.std.proofs.lemmas.Option.{slice_get-map}
use Rattle.std.specs.Option.{option_map_or}
use Rattle.std.proofs.Math.Seq.{drop-length}
use Rattle.lks_disk.specs.Face.{Face}
use Rattle.lks_base.specs.declared.records.Record.{Record}
use Rattle.lks_host.specs.Hosted.{StandsFor}
use Rattle.lks_host.specs.Journals.{journal_on}
use Rattle.lks_host.specs.declared.hosts.Host.{Host}
use Rattle.lks_law.specs.Batches.{with_batch, journal_at}
use Rattle.lks_law.specs.World.{Standing, World}
use Rattle.lks_world.specs.Hosts.{peer_in, peers_of, GoesOn, HaveGoneOn}

-- after a write at a place, another place has what it had, and this one what was written
pub set_where : {X : Type 0} (xs : List X) (i j : ℕ) (y x : X) → slice_get (slice_set xs i y) j ≡ Some x
    → (slice_get xs j ≡ Some x) ⊎ ((i ≡ j) × (y ≡ x))
set_where [] i j y x is = absurd cc
set_where (z ∷ zs) zero zero y x is = inr (refl, cc)
set_where (z ∷ zs) zero (suc j) y x is = inl is
set_where (z ∷ zs) (suc i) zero y x is = inl is
set_where (z ∷ zs) (suc i) (suc j) y x is =
    elim (set_where zs i j y x is) [ inl same ↦ inl same | inr here ↦ inr (ap suc here.0, here.1) ]

module _ {D : Type 0} (f : Face D) where
  pub nothing_more : (batches : List (List Record)) (js : List Record)
      → with_batch batches (drop (length js) js) ≡ batches
  nothing_more batches js = ap (with_batch batches) (drop-length js)

  same_host : (h : Host D) → GoesOn f h h
  same_host h = record {
    whole = λ e. e;
    room = omega arith;
    unfused = refl;
    pool = refl;
    stands = λ batches stood. subst (StandsFor f h) (sym (nothing_more batches (journal_on f h.journal.disk))) stood;
  }

  -- nobody did anything
  pub stayed : (hosts : List (Host D)) → HaveGoneOn f hosts hosts
  stayed hosts place k at = record { host = k; there = at; on = same_host k }

  -- one did
  pub one_went_on : (hosts : List (Host D)) (i : ℕ) (h k : Host D) → slice_get hosts i ≡ Some h → GoesOn f h k
      → HaveGoneOn f hosts (slice_set hosts i k)
  one_went_on hosts i h k there on place x at = elim (set_where hosts i place k x at) [
    | inl same ↦ record { host = x; there = same; on = same_host x }
    | inr here ↦ record {
      host = h;
      there = ap (slice_get hosts) (sym here.0) ∙ there;
      on = subst (GoesOn f h) here.1 on;
    }
  ]

pub ok_then : {T E : Type 0} {P Q : Type 0} (r : Result T E) → (P → Q) → OnOk r P → OnOk r Q
ok_then (Ok x) f p = f p
ok_then (Err e) f p = tt

-- the journal of a host's peer is that of its place in a world
pub journal_there : {D : Type 0} (f : Face D) (w : World) (hosts : List (Host D)) (place : ℕ) (h : Host D)
    → peers_of f hosts ≡ w.peers → slice_get hosts place ≡ Some h → journal_at place w ≡ journal_on f h.journal.disk
journal_there f w hosts place h peers there =
    ap (λ (ps : List Standing). option_map_or (λ (s : Standing). s.journal) (slice_get ps place) []) (sym peers)
    ∙ ap (λ (o : Option Standing). option_map_or (λ (s : Standing). s.journal) o [])
    (slice_get-map (peer_in f) hosts place ∙ ap (option_map (peer_in f)) there)
