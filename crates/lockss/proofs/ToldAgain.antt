-- What is told of journals is read as these journals.
use Rattle.std.proofs.Common.{◌≡◌, ◌+◌, ◌∙◌, ap, sym, subst, cond, ℕ, zero, suc, Bool, true, false, List, [], ◌∷◌}
use Rattle.std.proofs.Common.{◌++◌, length, filter, append_assoc, refl, arith}
use Rattle.std.specs.Prelude.{All, Option, None, Some, Ok, map, slice_get}
use Rattle.std.specs.Int.{to_be_bytes, w32}
use Rattle.std.specs.Option.{option_map_or}
use Rattle.std.proofs.lemmas.List.Elements.{All-cons, All-head, All-nil, All-tail}
use Rattle.lks_base.specs.declared.events.Event.{Event}
use Rattle.lks_base.specs.declared.plans.PeerPlan.{PeerPlan}
use Rattle.lks_base.specs.declared.plans.Plan.{Plan}
use Rattle.lks_base.specs.declared.records.Record.{Record}
use Rattle.lks_words.specs.declared.commands.Play.{Play}
use Rattle.lks_words.specs.declared.commands.Play.TheVariants.{Drill, Journals, Replay}
use Rattle.lks_disk.specs.Face.{Face}
use Rattle.lks_field.proofs.Takes.{IsBytes}
use Rattle.lks_field.specs.Frames.{AreBodies, frame, frames}
use Rattle.lks_gather.proofs.Worlds.{history_read}
use Rattle.lks_gather.specs.Sets.{set_of}
use Rattle.lks_gather.specs.Texts.{Filed, file_of, AreFiles, IsSaidPlan}
use Rattle.lks_gather.specs.Worlds.{AreFiledFor, books_of}
use Rattle.lks_host.specs.Bodies.{bodies_of, AreRead}
use Rattle.lks_law.proofs.Batches.{batches_are}
use Rattle.lks_law.proofs.Journals.{journals_are_own}
use Rattle.lks_law.specs.Batches.{batches_at, together}
use Rattle.lks_law.specs.Facts.{HasJournal}
use Rattle.lks_law.specs.World.{Standing, is_honest, world}
use Rattle.lks_print.proofs.FromReading.{said_script}
use Rattle.lks_record.proofs.Laws.{read_spells}
use Rattle.lks_record.specs.Spelling.{batch_spelling, IsBatch}
use Rattle.lks_script.specs.declared.steps.Script.{Script}
use Rattle.lks_world.specs.Disks.{honest_disks}
use Rattle.lks_world.specs.Held.{HaveBatches, HoldsBatches}
use Rattle.lks_world.specs.Sites.{id_for}
use Rattle.lockss.proofs.ReadBack.{journals_are}
use Rattle.lockss.specs.Deeds.{deed_of}
use Rattle.lockss.specs.Filed.{filed_from, journals_text}
use Rattle.lockss.specs.ReadingBack.{AreOn}

-- a script that was read has a plan that can be said
pub is_said : (command : Play) (s : Script) (bytes : List ℕ) → (deed_of command).script bytes ≡ Ok s
    → (deed_of command).reads_back ≡ true → IsSaidPlan s.plan
is_said Replay s bytes found reads = absurd cc
is_said (Drill seed) s bytes found reads = absurd cc
is_said Journals s bytes found reads = let is = said_script bytes s found in record { good = is.good; peers = is.peers }

-- Frames of bytes have bodies of bytes.

behind : (a b : List ℕ) → IsBytes (a ++ b) → IsBytes b
behind [] b h = h
behind (x ∷ a) b h = behind a b (λ i. h (suc i))

in_front : (a b : List ℕ) → IsBytes (a ++ b) → IsBytes a
in_front [] b h i = omega arith
in_front (x ∷ a) b h zero = h 0
in_front (x ∷ a) b h (suc i) = in_front a b (λ k. h (suc k)) i

-- batches that read back are batches
are_batches : (batches : List (List Record)) (rest : List ℕ) → IsBytes (frames (bodies_of batches) ++ rest)
    → AreRead batches → All IsBatch batches
unfolding frames
are_batches [] rest bytes read = All-nil IsBatch
are_batches (batch ∷ more) rest bytes read =
    let body = batch_spelling batch in
    let one : IsBytes body =
    behind (165 ∷ to_be_bytes w32 (length body)) body
    (in_front (frame body) (frames (bodies_of more))
    (in_front (frame body ++ frames (bodies_of more)) rest bytes)) in
    let others : IsBytes (frames (bodies_of more) ++ rest) = behind (frame body) (frames (bodies_of more) ++ rest)
    (subst IsBytes (append_assoc (frame body) (frames (bodies_of more)) rest) bytes) in
    All-cons IsBatch batch more (read_spells body batch one read.0).0 (are_batches more rest others read.1)

module _ (plan : Plan) (history : List Event) where
  -- the batches at each place read back, and frames can have them
  abbrev AreThere : ℕ → List Filed → Type 0
  AreThere k [] = Unit {0}
  AreThere k (j ∷ js) =
      AreRead (batches_at k plan history) × AreBodies (bodies_of (batches_at k plan history)) × AreThere (k + 1) js

  they_are_there : {D : Type 0} (f : Face D) (k : ℕ) (peers : List PeerPlan) (ds : List D) (journals : List Filed)
      → ((place : ℕ) (d : D) → slice_get (honest_disks peers ds) place ≡ Some d
      → HoldsBatches f plan history (k + place) d)
      → AreOn f (map id_for peers) ds journals → AreThere k journals
  they_are_there f k [] ds [] held are = tt
  they_are_there f k [] ds (j ∷ js) held are = absurd are
  they_are_there f k (p ∷ ps) [] js held are = absurd are
  they_are_there {D} f k (p ∷ ps) (d ∷ ds) js held are =
      by_peer p.corrupt js (λ n more. they_are_there f n ps ds more) held are
    where
      by_peer : (b : Bool) (js : List Filed)
          → ((n : ℕ) (more : List Filed)
          → ((place : ℕ) (e : D) → slice_get (honest_disks ps ds) place ≡ Some e
          → HoldsBatches f plan history (n + place) e)
          → AreOn f (map id_for ps) ds more → AreThere n more)
          → ((place : ℕ) (e : D) → slice_get (cond b (honest_disks ps ds) (d ∷ honest_disks ps ds)) place ≡ Some e
          → HoldsBatches f plan history (k + place) e)
          → AreOn f (cond b None (Some p.id) ∷ map id_for ps) (d ∷ ds) js → AreThere k js
      by_peer true js rest held are = rest k js held are
      by_peer false [] rest held are = absurd are
      by_peer false (j ∷ js) rest held are =
          let zeroth : k + 0 ≡ k = omega arith in
          let here = subst (λ n. HoldsBatches f plan history n d) zeroth (held 0 d refl) in (
            here.read,
            here.holds.are,
            rest (k + 1) js
                (λ place e at. let next : k + suc place ≡ (k + 1) + place = omega arith in
                subst (λ n. HoldsBatches f plan history n e) next (held (suc place) e at)) are.2,
          )

  filed_for : (tick k : ℕ) (ps : List PeerPlan) (peers : List Standing) → length peers ≡ length ps
      → ((i : ℕ) (t : Standing) → slice_get peers i ≡ Some t → HasJournal plan tick (slice_get ps i) t)
      → ((i : ℕ) (t : Standing) → slice_get peers i ≡ Some t
      → together (batches_at (k + i) plan history) ≡ t.journal)
      → AreThere k (filed_from plan history k ps) → AreFiles (filed_from plan history k ps)
      → AreFiledFor peers (filed_from plan history k ps)
  filed_for tick k [] [] long each same there files = tt
  filed_for tick k [] (t ∷ ts) long each same there files = absurd (omega (arith, long))
  filed_for tick k (p ∷ ps) [] long each same there files = absurd (omega (arith, long))
  filed_for tick k (p ∷ ps) (t ∷ ts) long each same there files =
      let own = (each 0 t refl).0 in
      let batches = batches_at k plan history in
      let zeroth : k + 0 ≡ k = omega arith in
      let file : Filed = record { peer = p.id; bodies = bodies_of batches } in
      let rest = filed_from plan history (k + 1) ps in
      let bytes = All-head (λ (g : Filed). IsBytes (file_of g.bodies)) file rest files in (
        sym (ap (λ o. o.id) own),
        record {
          batches = batches;
          are = are_batches batches (0 ∷ []) bytes there.0;
          sized = there.1;
          file_is = refl;
          list_is = sym (same 0 t refl) ∙ ap (λ n. together (batches_at n plan history)) zeroth;
        },
        filed_for tick (k + 1) ps ts (omega (arith, long)) (λ i s at. each (suc i) s at)
            (λ i s at. let next : (k + 1) + i ≡ k + suc i = omega arith in
            ap (λ n. together (batches_at n plan history)) next ∙ same (suc i) s at) there.2
            (All-tail (λ (g : Filed). IsBytes (file_of g.bodies)) file rest files),
      )

  -- the journals on disks that hold those of a history
  pub told_again : {D : Type 0} (f : Face D) (ds : List D) (journals : List Filed) → HaveBatches f plan history ds
      → AreOn f (map id_for plan.peers) ds journals → AreFiles journals → IsSaidPlan plan
      → set_of (journals_text plan history) ≡ Ok (record { plan = plan; set = books_of (world plan history).peers })
  unfolding journals_text
  told_again f ds journals held are files said =
      let honest = filter is_honest plan.peers in
      let peers = (world plan history).peers in
      let own = journals_are_own plan history in
      let same = journals_are f plan history ds journals held are in
      let there = they_are_there f 0 plan.peers ds journals
      (λ place d at. let same : place ≡ 0 + place = omega arith in
      subst (λ n. HoldsBatches f plan history n d) same (held place d at)) are in
      history_read plan history (filed_from plan history 0 honest) said (subst AreFiles same files)
      (filed_for (world plan history).tick 0 honest peers own.count own.each
      (λ i t at. let zeroth : 0 + i ≡ i = omega arith in
      ap (λ n. together (batches_at n plan history)) zeroth ∙ batches_are plan history i
      ∙ ap (λ (o : Option Standing). option_map_or (λ (s : Standing). s.journal) o []) at)
      (subst (AreThere 0) same there) (subst AreFiles same files))
