-- The first step that is due of some peer.
use Rattle.std.proofs.Common.{◌≡◌, ◌<◌, ◌+◌, ◌∙◌, ap, sym, ℕ, suc, List, [], ◌∷◌, ◌++◌, length, get_or, drop, refl}
use Rattle.std.proofs.Common.{add-one, drop-cons}
use Rattle.std.specs.Prelude.{Some, None, slice_get}
use Rattle.std.specs.List.{flat_map, range_with_len}
use Rattle.lks_base.specs.declared.events.Due.{Due}
use Rattle.lks_base.specs.declared.events.Due.TheVariants.{Own}
use Rattle.lks_base.specs.declared.events.PeerStep.{PeerStep}
use Rattle.lks_law.specs.Due.{first_own}
use Rattle.lks_base.specs.declared.plans.Plan.{Plan}
use Rattle.lks_base.specs.declared.records.Record.{Record}
use Rattle.lks_disk.specs.Face.{Face}
use Rattle.lks_host.proofs.Journals.{journal_is}
use Rattle.lks_host.specs.Journals.{journal_on}
use Rattle.lks_host.specs.declared.hosts.Host.{Host}
use Rattle.lks_law.proofs.Journals.{polls_keep}
use Rattle.lks_law.proofs.Turning.{ready_is, turns_are}
use Rattle.lks_law.proofs.Writing.{written_in}
use Rattle.lks_law.specs.Batches.{batches_at}
use Rattle.lks_law.specs.Journal.{opened_numbers, openings}
use Rattle.lks_law.specs.State.{state_of}
use Rattle.lks_law.specs.Turning.{ready_on, turns_on}
use Rattle.lks_law.specs.World.{world}
use Rattle.lks_law.specs.Written.{AreWritten}
use Rattle.lks_world.proofs.Keeping.{peer_there}
use Rattle.lks_world.specs.Hosts.{peer_in, peers_of}
use Rattle.lks_world.specs.Sites.{hosts_of}
use Rattle.lks_world.specs.States.{events_in, IsStateOf, own_steps, site_steps, steps_of, steps_on, steps_there}
use Rattle.lks_world.specs.declared.settling.Course.{Course}
use Rattle.lks_world.specs.declared.settling.Course.TheVariants.{Settling, Delivering, Finishing}
use Rattle.lks_world.specs.declared.settling.OwnSteps.TheVariants.{Ready, Turns}
use Rattle.lks_world.specs.declared.states.State.{State}
use Rattle.lks_world.specs.declared.sites.Site.{Site}
use Rattle.lks_world.specs.declared.sites.Site.TheVariants as site
use Rattle.lks_world.specs.declared.settling.OwnSteps.{OwnSteps}

here : (xs ys : List PeerStep) (s : PeerStep) → slice_get xs 0 ≡ Some s → first_own (xs ++ ys) ≡ Some (Own s)
here [] ys s e = absurd cc
here (x ∷ xs) ys s e = let same : x ≡ s = cc in ap (λ y. Some (Own y)) same

later : (xs ys : List PeerStep) → slice_get xs 0 ≡ None → first_own (xs ++ ys) ≡ first_own ys
later [] ys e = refl
later (x ∷ xs) ys e = absurd cc

pub front : {X : Type 0} (peers : List X) (i : ℕ) (p : X) → i < length peers → p ≡ get_or peers i p
    → drop i peers ≡ p ∷ drop (i + 1) peers
front peers i p within is =
    drop-cons peers i p within ∙ ap (λ q. q ∷ drop (suc i) peers) (sym is)
    ∙ ap (λ k. p ∷ drop k peers) (sym (add-one i))

module _ {X : Type 0} (steps : X → List PeerStep) where
  pub first_here : (peers : List X) (i : ℕ) (p : X) (s : PeerStep) → i < length peers → p ≡ get_or peers i p
      → slice_get (steps p) 0 ≡ Some s → first_own (flat_map steps (drop i peers)) ≡ Some (Own s)
  first_here peers i p s within is e =
      ap (λ ps. first_own (flat_map steps ps)) (front peers i p within is)
      ∙ here (steps p) (flat_map steps (drop (i + 1) peers)) s e

  pub first_later : (peers : List X) (i : ℕ) (p : X) → i < length peers → p ≡ get_or peers i p
      → slice_get (steps p) 0 ≡ None
      → first_own (flat_map steps (drop i peers)) ≡ first_own (flat_map steps (drop (i + 1) peers))
  first_later peers i p within is e =
      ap (λ ps. first_own (flat_map steps ps)) (front peers i p within is)
      ∙ later (steps p) (flat_map steps (drop (i + 1) peers)) e

-- what comes first of two lists of steps

pub first_front : (xs ys : List PeerStep) (d : Due) → Some d ≡ first_own xs → Some d ≡ first_own (xs ++ ys)
first_front [] ys d e = absurd cc
first_front (x ∷ xs) ys d e = e

pub first_behind : (xs ys : List PeerStep) → None ≡ first_own xs → first_own ys ≡ first_own (xs ++ ys)
first_behind [] ys e = refl
first_behind (x ∷ xs) ys e = absurd cc

module _ {D : Type 0} (f : Face D) where
  -- the steps of the sites are those of their peers
  steps_siteed : (part : OwnSteps) (sites : List (Site D))
      → ((place : ℕ) (h : Host D) → slice_get (hosts_of sites) place ≡ Some h
      → steps_on part h.peer ≡ steps_of part (peer_in f h))
      → flat_map (site_steps part) sites ≡ flat_map (steps_of part) (peers_of f (hosts_of sites))
  steps_siteed part [] same = refl
  steps_siteed part (site.Host h ∷ ss) same = λ i. same 0 h refl i ++ steps_siteed part ss (λ place. same (suc place)) i
  steps_siteed part (site.Idle d ∷ ss) same = steps_siteed part ss same

  -- a peer is in the state that its journal says
  pub state_is : (plan : Plan) (s : State D) → IsStateOf f plan s → (place : ℕ) (h : Host D)
      → slice_get (hosts_of s.sites.items) place ≡ Some h
      → h.peer.state ≡ state_of h.peer.own (journal_on f h.journal.disk)
  state_is plan s is place h at =
      let stood = (is.hosts place h at).stands in
      stood.state ∙ ap (state_of h.peer.own) (sym (journal_is f h (batches_at place plan (events_in s)) stood))

  -- a peer takes in its state the steps that it takes over its journal
  steps_there_are : (plan : Plan) (s : State D) → IsStateOf f plan s → (part : OwnSteps) (place : ℕ) (h : Host D)
      → slice_get (hosts_of s.sites.items) place ≡ Some h → steps_on part h.peer ≡ steps_of part (peer_in f h)
  steps_there_are plan s is part place h at = by_part part
    where
      journal : List Record
      journal = journal_on f h.journal.disk

      state : h.peer.state ≡ state_of h.peer.own journal
      state = state_is plan s is place h at

      there : slice_get (world plan (events_in s)).peers place ≡ Some (peer_in f h)
      there = peer_there f plan s is place h at

      written : AreWritten [] journal
      written = written_in plan (events_in s) place (peer_in f h) there

      numbered : opened_numbers journal ≡ range_with_len 1 (openings journal)
      numbered = (polls_keep plan (events_in s) place (peer_in f h) there).numbered

      by_part : (part : OwnSteps) → steps_on part h.peer ≡ steps_of part (peer_in f h)
      by_part Ready = ap (ready_on h.peer.own) state ∙ ready_is h.peer.own journal written numbered
      by_part Turns = ap (turns_on h.peer.own) state ∙ turns_are h.peer.own journal written numbered

  -- the steps of all sites are those of the peers in the world
  pub part_is : (plan : Plan) (s : State D) → IsStateOf f plan s → (part : OwnSteps)
      → flat_map (site_steps part) s.sites.items ≡ flat_map (steps_of part) (peers_of f (hosts_of s.sites.items))
  part_is plan s is part = steps_siteed part s.sites.items (steps_there_are plan s is part)

  pub steps_are : (plan : Plan) (s : State D) → IsStateOf f plan s → (course : Course)
      → steps_there course s.sites.items ≡ own_steps course (peers_of f (hosts_of s.sites.items))
  steps_are plan s is Settling = part_is plan s is Ready
  steps_are plan s is Delivering = refl
  steps_are plan s is Finishing = λ i. part_is plan s is Ready i ++ part_is plan s is Turns i
