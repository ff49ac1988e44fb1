-- What a crash leaves of the disks of a world that a fault stopped.
use Rattle.std.proofs.Common.{◌≡◌, ◌∙◌, ◌⊎◌, inl, inr, ⊎_elim, ap, sym, subst, refl, ℕ, List, [], ◌∷◌, ◌++◌, drop}
use Rattle.std.proofs.Common.{length}
use Rattle.std.specs.Prelude.{Option, Some, None, Result, Ok, Err, OnErr, slice_get, slice_set}
use Rattle.lks_base.specs.declared.events.Event.TheVariants.{Step}
use Rattle.lks_base.specs.declared.events.PeerStep.{PeerStep}
use Rattle.lks_base.specs.declared.plans.Plan.{Plan}
use Rattle.lks_base.specs.declared.reactions.Reaction.{Reaction}
use Rattle.lks_base.specs.declared.records.Record.{Record}
use Rattle.lks_disk.specs.Face.{Face}
use Rattle.lks_field.specs.Frames.{HoldsBodies}
use Rattle.lks_host.specs.Bodies.{bodies_of}
use Rattle.lks_host.specs.Cutting.{CutsOff, Falls}
use Rattle.lks_host.specs.Hosted.{StandsFor}
use Rattle.lks_host.specs.Journals.{journal_on}
use Rattle.lks_host.specs.declared.hosts.Host.{Host}
use Rattle.lks_host.specs.declared.outcomes.AfterCut.{AfterCut}
use Rattle.lks_host.specs.declared.outcomes.AfterCut.TheVariants as outcome
use Rattle.lks_law.proofs.Batches.{added_is, batches_more}
use Rattle.lks_law.specs.Batches.{added_at, batches_at, with_batch}
use Rattle.lks_law.specs.World.{Deed, Standing, happens, peers_after}
use Rattle.lks_world.proofs.HostLaws.{journal_there, nothing_more, set_where}
use Rattle.lks_world.specs.Endings.{PeersEnd}
use Rattle.lks_world.specs.Held.{with_next}
use Rattle.lks_world.specs.Hosts.{HaveFallen, HaveGoneOn, journal_in, peers_of}
use Rattle.lks_world.specs.Sites.{hosts_of}
use Rattle.lks_world.specs.States.{AreLeft, IsStateOf, events_in, world_in}
use Rattle.lks_world.specs.declared.cutting.Ending.{Ending}
use Rattle.lks_world.specs.declared.cutting.Ending.TheVariants.{Whole, Kept, Lost}
use Rattle.lks_world.specs.declared.states.State.{State}

module _ {D : Type 0} (f : Face D) where
  -- nothing was added
  pub falls_none : (h : Host D) (before after : List (List Record)) → StandsFor f h before
      → Falls f before after h.journal.disk
  falls_none h before after stood =
      record {
        leaves = λ c may. inl
            (subst (HoldsBodies (bodies_of before)) (sym (stood.disk.durable c may)) stood.disk.holds);
      }

  -- all was
  pub falls_whole : (h : Host D) (before after : List (List Record)) → StandsFor f h after
      → Falls f before after h.journal.disk
  falls_whole h before after stood =
      record {
        leaves = λ c may. inr
            (subst (HoldsBodies (bodies_of after)) (sym (stood.disk.durable c may)) stood.disk.holds);
      }

  -- whatever a step came to while the power failed
  pub falls_ended : (batches : List (List Record)) (r : Reaction) (calls : ℕ) (h k : Host D) (o : AfterCut)
      → CutsOff f batches r calls h k o → Falls f batches (with_batch batches r.records) k.journal.disk
  falls_ended batches r calls h k (outcome.Whole x) is = falls_whole k batches (with_batch batches r.records) is.1
  falls_ended batches r calls h k (outcome.Kept records) is = falls_whole k batches (with_batch batches r.records) is.3
  falls_ended batches r calls h k outcome.Lost is = falls_none k batches (with_batch batches r.records) is.1

  pub fallen_same : (hosts : List (Host D)) (peers : List Standing) → HaveFallen f hosts peers hosts
  fallen_same hosts peers place k at =
      record { host = k; there = at; falls = λ batches stood. falls_none k batches _ stood }

  -- the journal of a host's peer
  journal_of : (hosts : List (Host D)) (place : ℕ) (h : Host D) → slice_get hosts place ≡ Some h
      → journal_in place (peers_of f hosts) ≡ journal_on f h.journal.disk
  journal_of hosts place h there =
      journal_there f (record { peers = peers_of f hosts; bag = []; tick = 0 }) hosts place h refl there

  -- hosts went on, to these peers or nowhere
  pub fallen_on : (before after : List (Host D)) (peers : List Standing) → HaveGoneOn f before after
      → (peers_of f after ≡ peers_of f before) ⊎ (peers_of f after ≡ peers) → HaveFallen f before peers after
  fallen_on before after peers on either place k at =
      let went = on place k at in
      let h = went.host in
      let now : List Record = journal_on f k.journal.disk in
      record {
        host = h;
        there = went.there;
        falls = λ batches stood.
            let stands = went.on.stands batches stood in
            ⊎_elim
            (λ same.
            let still : journal_on f k.journal.disk
            ≡ journal_on f h.journal.disk = sym (journal_of after place k at) ∙ ap (journal_in place) same
            ∙ journal_of before place h went.there in
            falls_none k batches _
            (subst (StandsFor f k)
            (ap (λ js. with_batch batches (drop (length (journal_on f h.journal.disk)) js)) still
            ∙ nothing_more f batches (journal_on f h.journal.disk)) stands))
            (λ there.
            let grown : journal_on f k.journal.disk
            ≡ journal_in place peers = sym (journal_of after place k at) ∙ ap (journal_in place) there in
            falls_whole k batches _
            (subst (λ js. StandsFor f k (with_batch batches (drop (length (journal_on f h.journal.disk)) js)))
            grown stands))
            either;
      }

  -- one host did something
  pub one_fell : (hosts : List (Host D)) (peers : List Standing) (i : ℕ) (h k : Host D) (added : List Record)
      → slice_get hosts i ≡ Some h → journal_in i peers ≡ journal_on f h.journal.disk ++ added
      → ((batches : List (List Record)) → StandsFor f h batches
      → Falls f batches (with_batch batches added) k.journal.disk)
      → HaveFallen f hosts peers (slice_set hosts i k)
  one_fell hosts peers i h k added there grown fell place x at = elim (set_where hosts i place k x at) [
    | inl same ↦ record { host = x; there = same; falls = λ batches stood. falls_none x batches _ stood }
    | inr here ↦ record {
      host = h;
      there = ap (slice_get hosts) (sym here.0) ∙ there;
      falls = λ batches stood.
          subst
          (λ (y : Host D). Falls f batches
          (with_batch batches (drop (length (journal_on f h.journal.disk)) (journal_in place peers)))
          y.journal.disk) here.1
          (subst (λ rs. Falls f batches (with_batch batches rs) k.journal.disk)
          (sym
          (ap (λ j. drop (length (journal_on f h.journal.disk)) (journal_in j peers)) (sym here.0)
          ∙ added_is (journal_on f h.journal.disk) (journal_in i peers) added grown)) (fell batches stood));
    }
  ]

  -- The state was that of a history.

  module _ (plan : Plan) (s t : State D) (is : IsStateOf f plan s) (same : events_in t ≡ events_in s) where
    -- a step was begun
    pub left_by : (p : PeerStep)
        → HaveFallen f (hosts_of s.sites.items) (happens (world_in f s) (Step p)).peers (hosts_of t.sites.items)
        → AreLeft f plan (Some p) t
    left_by p fallen place k at =
        let fell = fallen place k at in
        let h = events_in s in
        let batches = batches_at place plan h in
        let next : with_batch batches
        (drop (length (journal_on f fell.host.journal.disk))
        (journal_in place (happens (world_in f s) (Step p)).peers))
        ≡ batches_at place plan (h ++ Step p ∷ []) =
        ap (λ js. with_batch batches (drop (length js) (journal_in place (happens (world_in f s) (Step p)).peers)))
        (sym (journal_there f (world_in f s) (hosts_of s.sites.items) place fell.host refl fell.there))
        ∙ ap (λ w. with_batch batches (added_at place w (happens w (Step p)))) is.world
        ∙ sym (batches_more place plan h (Step p)) in
        subst (λ es. Falls f (batches_at place plan es) (batches_at place plan (es ++ Step p ∷ [])) k.journal.disk)
        (sym same)
        (subst (λ bs. Falls f batches bs k.journal.disk) next
        (fell.falls batches (is.hosts place fell.host fell.there).stands))

    -- none was
    pub left_idle : HaveFallen f (hosts_of s.sites.items) (peers_of f (hosts_of s.sites.items))
        (hosts_of t.sites.items)
        → AreLeft f plan None t
    left_idle fallen place k at =
        let fell = fallen place k at in
        let batches = batches_at place plan (events_in s) in
        let js = journal_on f fell.host.journal.disk in
        let none : with_batch batches (drop (length js) (journal_in place (peers_of f (hosts_of s.sites.items))))
        ≡ batches =
        ap (λ now. with_batch batches (drop (length js) now))
        (journal_of (hosts_of s.sites.items) place fell.host fell.there)
        ∙ nothing_more f batches js in
        subst (λ es. Falls f (batches_at place plan es) (batches_at place plan es) k.journal.disk) (sym same)
        (subst (λ bs. Falls f batches bs k.journal.disk) none
        (fell.falls batches (is.hosts place fell.host fell.there).stands))

    -- and no disk was called
    pub left_still : (next : Option PeerStep) → t.sites.items ≡ s.sites.items → AreLeft f plan next t
    left_still next sites place k at =
        let there : slice_get (hosts_of s.sites.items) place
        ≡ Some k = ap (λ ss. slice_get (hosts_of ss) place) (sym sites) ∙ at in
        subst (λ es. Falls f (batches_at place plan es) (batches_at place plan (with_next es next)) k.journal.disk)
        (sym same) (falls_none k (batches_at place plan (events_in s)) _ (is.hosts place k there).stands)

-- peers that a step ended so stayed as they were, or have its records
pub ended_either : (tick : ℕ) (deed : Option Deed) (calls : ℕ) (before after peers : List Standing) (e : Ending)
    → PeersEnd tick deed calls before after e → peers ≡ peers_after tick before deed
    → (after ≡ before) ⊎ (after ≡ peers)
ended_either tick deed calls before after peers (Whole done) end is = inr (end.2 ∙ sym is)
ended_either tick deed calls before after peers (Kept notes) end is = inr (end.1 ∙ sym is)
ended_either tick deed calls before after peers Lost end is = inl end.0

pub fell_each : {D T F : Type 0} (f : Face D) (r : Result T F) (h k : Host D)
    (made : List (List Record) → List (List Record))
    → ((batches : List (List Record)) → StandsFor f h batches
    → OnErr r (Falls f batches (made batches) k.journal.disk))
    → OnErr r ((batches : List (List Record)) → StandsFor f h batches → Falls f batches (made batches) k.journal.disk)
fell_each f (Ok x) h k made fell = tt
fell_each f (Err e) h k made fell = fell
