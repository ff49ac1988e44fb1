-- What a host's step came to while its power failed, it came to for all peers of a world.
use Rattle.std.proofs.Common.{◌≡◌, ◌∙◌, ap, sym, subst, ℕ, List, [], refl}
use Rattle.std.specs.Prelude.{Option, Some, None, Result, Ok, Err, IfOk, IfSome, OnErr, slice_set}
use Rattle.lks_base.specs.declared.records.Record.{Record}
use Rattle.lks_disk.specs.Face.{Face}
use Rattle.lks_host.specs.Cutting.{Falls}
use Rattle.lks_host.specs.Hosted.{StandsFor}
use Rattle.lks_host.specs.declared.hosts.Host.{Host}
use Rattle.lks_law.proofs.Linking.{at_own}
use Rattle.lks_law.specs.Batches.{with_batch}
use Rattle.lks_law.specs.Entries.{notes_at}
use Rattle.lks_law.specs.World.{Deed, Standing, peer_at, peers_after, reaction_at, with_records}
use Rattle.lks_world.proofs.Ending.{nothing_added, with_nothing}
use Rattle.lks_world.proofs.SiteLaws.{ActsAt, acts_there, acts_found, acts_added, acts_fell, burns_one}
use Rattle.lks_world.specs.Endings.{answer_to, BurnsFor, EndsAs, HostEnds, PeersEnd, SitesBurnFor}
use Rattle.lks_world.specs.Hosts.{HaveFallen, peer_in, peers_of, with_added}
use Rattle.lks_world.specs.Sites.{hosts_of}
use Rattle.lks_world.specs.declared.cutting.Ending.{Ending}
use Rattle.lks_world.specs.declared.cutting.Ending.TheVariants.{Whole, Kept, Lost}
use Rattle.lks_world.specs.declared.faults.WorldFault.{WorldFault}
use Rattle.lks_world.specs.declared.sites.Site.{Site}
use Rattle.lks_world.specs.declared.sites.Site.TheVariants as site

module _ {D : Type 0} (f : Face D) (id : ℕ) (sites : List (Site D)) (place : ℕ) (h : Host D)
    (acts : ActsAt f id sites place h) (k : Host D) where
  abbrev peers : List Standing
  peers = peers_of f (hosts_of sites)

  abbrev peers_now : List Standing
  peers_now = peers_of f (hosts_of (slice_set sites place (site.Host k)))

  -- the peer did nothing
  stay : peer_in f k ≡ peer_in f h → peers_now ≡ peers
  stay same = acts_added f id sites place h acts [] k (same ∙ sym (with_nothing (peer_in f h))) ∙ nothing_added id peers

  grow : (d : ℕ) (records : List Record) → d ≡ id → peer_in f k ≡ with_added (peer_in f h) records
      → peers_now ≡ with_records d records peers
  grow d records same grown =
      acts_added f id sites place h acts records k grown ∙ ap (λ (n : ℕ). with_records n records peers) (sym same)

  -- where it was told nothing
  untold : (tick calls : ℕ) (e : Ending) → HostEnds f (answer_to tick (peer_in f h) None) calls h k e
      → PeersEnd tick None calls peers peers_now e
  untold tick calls (Whole done) end = (end.0, end.1, stay (end.2 ∙ with_nothing (peer_in f h)), end.3)
  untold tick calls (Kept notes) end = absurd (end.2.adds refl)
  untold tick calls Lost end = absurd (end.1.adds refl)

  -- where it was told something
  heard : (tick calls : ℕ) (d : Deed) (e : Ending) → d.peer ≡ id
      → HostEnds f (answer_to tick (peer_in f h) (Some d)) calls h k e
      → PeersEnd tick (Some d) calls peers peers_now e
  heard tick calls d e same end =
      subst
      (λ (o : Option Standing). EndsAs (reaction_at tick o d.input)
      (notes_at o (reaction_at tick o d.input).records) calls peers
      (with_records d.peer (reaction_at tick o d.input).records peers) e peers_now)
      (sym found) (by_ending e end)
    where
      found : peer_at d.peer (peers_of f (hosts_of sites)) ≡ Some (peer_in f h)
      found = ap (λ (n : ℕ). peer_at n (peers_of f (hosts_of sites))) same ∙ acts_found f id sites place h acts

      by_ending : (e : Ending) → HostEnds f (answer_to tick (peer_in f h) (Some d)) calls h k e
          → EndsAs (answer_to tick (peer_in f h) (Some d))
          (notes_at (Some (peer_in f h)) (answer_to tick (peer_in f h) (Some d)).records) calls
          (peers_of f (hosts_of sites))
          (with_records d.peer (answer_to tick (peer_in f h) (Some d)).records (peers_of f (hosts_of sites))) e
          (peers_of f (hosts_of (slice_set sites place (site.Host k))))
      by_ending (Whole done) end =
          (end.0, end.1, grow d.peer (answer_to tick (peer_in f h) (Some d)).records same end.2, end.3)
      by_ending (Kept notes) end =
          (end.0, grow d.peer (answer_to tick (peer_in f h) (Some d)).records same end.1, end.2, end.3)
      by_ending Lost end = (stay end.0, end.1)

  pub peers_end : (tick : ℕ) (deed : Option Deed) (calls : ℕ) (r : Result Ending WorldFault)
      → IfSome deed (λ d. d.peer ≡ id) → IfOk r (HostEnds f (answer_to tick (peer_in f h) deed) calls h k)
      → IfOk r (PeersEnd tick deed calls peers peers_now)
  peers_end tick None calls (Ok e) whose ends = untold tick calls e ends
  peers_end tick (Some d) calls (Ok e) whose ends = heard tick calls d e whose ends
  peers_end tick deed calls (Err fault) whose ends = tt

  own_id : h.peer.own.id ≡ id
  own_id = at_own id peers (peer_in f h) (acts_found f id sites place h acts)

  pub sites_burn : (calls choice : ℕ) (r : Result Ending WorldFault)
      → IfOk r (λ e. BurnsFor f calls choice e h.journal.disk k.journal.disk)
      → IfOk r (SitesBurnFor f calls choice id sites (slice_set sites place (site.Host k)))
  sites_burn calls choice (Ok (Whole done)) burns = tt
  sites_burn calls choice (Ok (Kept notes)) burns =
      burns_one f h k calls choice burns id sites place (acts_there f id sites place h acts) own_id
  sites_burn calls choice (Ok Lost) burns =
      burns_one f h k calls choice burns id sites place (acts_there f id sites place h acts) own_id
  sites_burn calls choice (Err fault) burns = tt

  -- a refusal leaves of its disk what it was told to add, or not
  fell_as : (tick : ℕ) (deed : Option Deed) → IfSome deed (λ d. d.peer ≡ id)
      → ((batches : List (List Record)) → StandsFor f h batches
      → Falls f batches (with_batch batches (answer_to tick (peer_in f h) deed).records) k.journal.disk)
      → HaveFallen f (hosts_of sites) (peers_after tick peers deed) (hosts_of (slice_set sites place (site.Host k)))
  fell_as tick None whose fell =
      subst (λ ps. HaveFallen f (hosts_of sites) ps (hosts_of (slice_set sites place (site.Host k))))
      (nothing_added id peers) (acts_fell f id sites place h acts [] k fell)
  fell_as tick (Some d) whose fell =
      let found : peer_at d.peer peers
      ≡ Some (peer_in f h) = ap (λ (n : ℕ). peer_at n peers) whose ∙ acts_found f id sites place h acts in
      subst
      (λ o. HaveFallen f (hosts_of sites) (with_records d.peer (reaction_at tick o d.input).records peers)
      (hosts_of (slice_set sites place (site.Host k)))) (sym found)
      (subst
      (λ n. HaveFallen f (hosts_of sites) (with_records n (answer_to tick (peer_in f h) (Some d)).records peers)
      (hosts_of (slice_set sites place (site.Host k)))) (sym whose)
      (acts_fell f id sites place h acts (answer_to tick (peer_in f h) (Some d)).records k fell))

  pub sites_fell : (tick : ℕ) (deed : Option Deed) (r : Result Ending WorldFault) → IfSome deed (λ d. d.peer ≡ id)
      → ((batches : List (List Record)) → StandsFor f h batches
      → OnErr r
      (Falls f batches (with_batch batches (answer_to tick (peer_in f h) deed).records) k.journal.disk))
      → OnErr r
      (HaveFallen f (hosts_of sites) (peers_after tick peers deed)
      (hosts_of (slice_set sites place (site.Host k))))
  sites_fell tick deed (Ok e) whose fell = tt
  sites_fell tick deed (Err fault) whose fell = fell_as tick deed whose fell
