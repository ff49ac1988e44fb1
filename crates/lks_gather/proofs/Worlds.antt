-- What every history leaves in journals is printed so that it reads back, and holds.
use Rattle.std.proofs.Common.{◌≡◌, ℕ, suc, List, [], ◌∷◌, length, filter, map, Some, None, Ok, refl, sym, ap, subst}
use Rattle.std.proofs.Common.{arith}
use Rattle.std.specs.Prelude.{slice_get}
use Rattle.lks_base.specs.Checking.{plan_fault}
use Rattle.lks_base.specs.declared.events.Event.{Event}
use Rattle.lks_base.specs.declared.plans.PeerPlan.{PeerPlan}
use Rattle.lks_base.specs.declared.plans.Plan.{Plan}
use Rattle.lks_evidence.specs.declared.findings.Shelf.{Shelf}
use Rattle.lks_evidence.specs.Histories.{AreShelvesOf}
use Rattle.lks_evidence.specs.Holding.{SetHolds}
use Rattle.lks_evidence.proofs.Histories.{history_holds}
use Rattle.lks_law.specs.Facts.{HasJournal}
use Rattle.lks_law.specs.Histories.{IsHistory}
use Rattle.lks_law.specs.World.{Standing, is_honest, world}
use Rattle.lks_law.proofs.Journals.{journals_are_own}
use Rattle.lks_gather.specs.declared.gathered.Gathered.{Gathered}
use Rattle.lks_gather.specs.Sets.{Book, Said, set_of, book_on, said_by}
use Rattle.lks_gather.specs.Texts.{Filed, set_text, AreFiles, AreTheirs, IsSaidPlan}
use Rattle.lks_gather.specs.Worlds.{AreFiledFor, book_of, books_of}
use Rattle.lks_gather.proofs.Honest.{all_filed}
use Rattle.lks_gather.proofs.Printed.{set_again}

theirs : (plan : Plan) (tick : ℕ) (ps : List PeerPlan) (peers : List Standing) (journals : List Filed)
    → length peers ≡ length ps
    → ((k : ℕ) (s : Standing) → slice_get peers k ≡ Some s → HasJournal plan tick (slice_get ps k) s)
    → AreFiledFor peers journals → AreTheirs ps journals (books_of peers)
theirs plan tick [] [] [] long each filed = tt
theirs plan tick [] [] (f ∷ journals) long each filed = absurd filed
theirs plan tick [] (t ∷ peers) journals long each filed = absurd (omega (arith, long))
theirs plan tick (p ∷ ps) [] journals long each filed = absurd (omega (arith, long))
theirs plan tick (p ∷ ps) (t ∷ peers) [] long each filed = absurd filed
theirs plan tick (p ∷ ps) (t ∷ peers) (f ∷ journals) long each filed =
    let own = (each 0 t refl).0 in (
      ap (λ o. o.id) own,
      record { peer = sym filed.0; list = filed.1 },
      theirs plan tick ps peers journals (omega (arith, long)) (λ k s at. each (suc k) s at) filed.2,
    )

pub history_read : (plan : Plan) (history : List Event) (journals : List Filed) → IsSaidPlan plan
    → AreFiles journals → AreFiledFor (world plan history).peers journals
    → set_of (set_text plan journals) ≡ Ok (record { plan = plan; set = books_of (world plan history).peers })
history_read plan history journals said bytes filed =
    let own = journals_are_own plan history in
    let peers = (world plan history).peers in
    set_again plan journals (books_of peers) bytes said
    (all_filed plan journals (books_of peers) said.good
    (theirs plan (world plan history).tick (filter is_honest plan.peers) peers journals own.count own.each
    filed))

shelves_of : (peers : List Standing) (set : List Shelf) → map book_on set ≡ books_of peers → AreShelvesOf peers set
shelves_of [] [] e = tt
shelves_of [] (s ∷ set) e = absurd cc
shelves_of (t ∷ peers) [] e = absurd cc
shelves_of (t ∷ peers) (s ∷ set) e =
    let head : book_on s ≡ book_of t = cc in
    let tail : map book_on set ≡ books_of peers = cc in
    (ap (λ (b : Book). b.peer) head, ap (λ (b : Book). b.list) head, shelves_of peers set tail)

pub gathered_holds : (plan : Plan) (history : List Event) (g : Gathered) → plan_fault plan ≡ None
    → IsHistory plan history → said_by g ≡ record { plan = plan; set = books_of (world plan history).peers }
    → SetHolds g.plan g.set.items
gathered_holds plan history g good is e =
    let plan_is : plan ≡ g.plan = sym (ap (λ (x : Said). x.plan) e) in
    let set_is : map book_on g.set.items ≡ books_of (world plan history).peers = ap (λ (x : Said). x.set) e in
    subst (λ (p : Plan). SetHolds p g.set.items) plan_is
    (history_holds plan history good is g.set.items (shelves_of (world plan history).peers g.set.items set_is))
