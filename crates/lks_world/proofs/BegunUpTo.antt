-- The disks of a world that was to begin, where a host was refused.
use Rattle.std.proofs.Common.{◌≡◌, ◌<◌, ◌≤◌, ◌∙◌, ap, sym, subst, ℕ, zero, suc, Bool, true, false, cond, List, []}
use Rattle.std.proofs.Common.{◌∷◌, ◌++◌, length, drop, refl, arith, add-one}
use Rattle.std.specs.Prelude.{Option, Some, None, filter, map, option_map, reverse, slice_get}
use Rattle.std.specs.Option.{option_map_or}
use Rattle.std.proofs.lemmas.List.{length-map, map-append}
use Rattle.std.proofs.lemmas.List.Elements.{filter-append}
use Rattle.std.proofs.lemmas.Option.{slice_get-map}
use Rattle.lks_base.specs.declared.plans.PeerPlan.{PeerPlan}
use Rattle.lks_base.specs.declared.plans.Plan.{Plan}
use Rattle.lks_disk.specs.Face.{Face}
use Rattle.lks_field.specs.Frames.{frames, HoldsBodies}
use Rattle.lks_host.proofs.Fronts.{front_none}
use Rattle.lks_host.specs.Bodies.{bodies_of, AreRead}
use Rattle.lks_host.specs.Hosted.{HasFront}
use Rattle.lks_host.specs.declared.hosts.Host.{Host}
use Rattle.lks_law.specs.Batches.{alone, batches_at}
use Rattle.lks_law.specs.World.{Standing, is_honest, standing_of, start}
use Rattle.lks_world.proofs.BeginLaws.{AreMade, last_first}
use Rattle.lks_world.proofs.CountLaws.{some_is}
use Rattle.lks_world.proofs.SiteLaws.{corrupt_site, honest_site}
use Rattle.lks_world.specs.Begun.{StopsAt}
use Rattle.lks_world.specs.Disks.{honest_disks}
use Rattle.lks_world.specs.Held.{AreFresh, HaveBegunUpTo, HoldsBatches}
use Rattle.lks_world.specs.Hosts.{disk_in, disks_of, peer_in, peers_of}
use Rattle.lks_world.specs.Sites.{disks_at, hosts_of, id_for, ids_at, AreSites}
use Rattle.lks_world.specs.declared.sites.Site.{Site}
use Rattle.lks_world.specs.declared.sites.Site.TheVariants as site

-- The disk of the next peer stands behind those of the hosts that were made.

pub next_disk : {D : Type 0} (ps qs : List PeerPlan) (p : PeerPlan) (sites : List (Site D)) (e : D) (rest : List D)
    → AreSites ps sites → p.corrupt ≡ false
    → honest_disks (ps ++ p ∷ qs) (disks_at sites ++ e ∷ rest) ≡ disks_of (hosts_of sites) ++ e ∷ honest_disks qs rest
next_disk [] qs p [] e rest are good = rw good refl
next_disk [] qs p (s ∷ ss) e rest are good = absurd cc
next_disk (q ∷ ps) qs p [] e rest are good = absurd cc
next_disk (q ∷ ps) qs p (site.Host h ∷ ss) e rest are good =
    let first : Some h.peer.own.id ≡ id_for q = cc in
    let others : ids_at ss ≡ map id_for ps = cc in
    rw (honest_site q h.peer.own.id first).good (ap (λ ds. disk_in h ∷ ds) (next_disk ps qs p ss e rest others good))
next_disk (q ∷ ps) qs p (site.Idle d ∷ ss) e rest are good =
    let first : None ≡ id_for q = cc in
    let others : ids_at ss ≡ map id_for ps = cc in
    rw (corrupt_site q first) (next_disk ps qs p ss e rest others good)

-- the disks behind it, whatever stood before it
pub later_disks : {D : Type 0} (ps qs : List PeerPlan) (p : PeerPlan) (sites : List (Site D)) (taken : List D)
    (d : D) (rest : List D)
    → AreSites ps sites → length taken ≡ length sites → p.corrupt ≡ false
    → drop (suc (length (hosts_of sites))) (honest_disks (ps ++ p ∷ qs) (taken ++ d ∷ rest)) ≡ honest_disks qs rest
later_disks [] qs p [] [] d rest are same good = rw good refl
later_disks [] qs p [] (t ∷ ts) d rest are same good = absurd cc
later_disks [] qs p (s ∷ ss) taken d rest are same good = absurd cc
later_disks (q ∷ ps) qs p [] taken d rest are same good = absurd cc
later_disks (q ∷ ps) qs p (s ∷ ss) [] d rest are same good = absurd cc
later_disks (q ∷ ps) qs p (site.Host h ∷ ss) (t ∷ ts) d rest are same good =
    let first : Some h.peer.own.id ≡ id_for q = cc in
    let others : ids_at ss ≡ map id_for ps = cc in
    rw (honest_site q h.peer.own.id first).good (later_disks ps qs p ss ts d rest others (omega (arith, same)) good)
later_disks (q ∷ ps) qs p (site.Idle e ∷ ss) (t ∷ ts) d rest are same good =
    let first : None ≡ id_for q = cc in
    let others : ids_at ss ≡ map id_for ps = cc in
    rw (corrupt_site q first) (later_disks ps qs p ss ts d rest others (omega (arith, same)) good)

-- Places of lists that are joined.

at_front : {X : Type 0} (xs ys : List X) (i : ℕ) (x : X) → slice_get xs i ≡ Some x → slice_get (xs ++ ys) i ≡ Some x
at_front [] ys i x there = absurd cc
at_front (z ∷ zs) ys zero x there = there
at_front (z ∷ zs) ys (suc i) x there = at_front zs ys i x there

before_seam : {X : Type 0} (xs ys : List X) (i : ℕ) → i < length xs → slice_get (xs ++ ys) i ≡ slice_get xs i
before_seam [] ys i less = absurd (omega (arith, less))
before_seam (z ∷ zs) ys zero less = refl
before_seam (z ∷ zs) ys (suc i) less = before_seam zs ys i (omega (arith, less))

at_seam : {X : Type 0} (xs ys : List X) (x : X) (n : ℕ) → n ≡ length xs → slice_get (xs ++ x ∷ ys) n ≡ Some x
at_seam {X = X} xs ys x n is = ap (slice_get (xs ++ x ∷ ys)) is ∙ seam xs
  where
    seam : (zs : List X) → slice_get (zs ++ x ∷ ys) (length zs) ≡ Some x
    seam [] = refl
    seam (z ∷ zs) = seam zs

behind_seam : {X : Type 0} (xs ys : List X) (x : X) (n : ℕ) → n ≡ length xs → drop (suc n) (xs ++ x ∷ ys) ≡ ys
behind_seam {X = X} xs ys x n is = ap (λ k. drop (suc k) (xs ++ x ∷ ys)) is ∙ seam xs
  where
    seam : (zs : List X) → drop (suc (length zs)) (zs ++ x ∷ ys) ≡ ys
    seam [] = refl
    seam (z ∷ zs) = seam zs

-- what the journal of a place begins with
begins_with : (plan : Plan) (place : ℕ) (s : Standing)
    → slice_get (map (standing_of plan) (filter is_honest plan.peers)) place ≡ Some s
    → batches_at place plan [] ≡ map alone s.journal
unfolding batches_at start
begins_with plan place s there = ap (λ o. map alone (option_map_or (λ (t : Standing). t.journal) o [])) there

honest_first : (p : PeerPlan) (left : List PeerPlan) → p.corrupt ≡ false
    → filter is_honest (p ∷ left) ≡ p ∷ filter is_honest left
honest_first p left good = rw good refl

-- the peers of the plan, at the next one
parted : (plan : Plan) (done left : List PeerPlan) (p : PeerPlan) → plan.peers ≡ done ++ p ∷ left → p.corrupt ≡ false
    → map (standing_of plan) (filter is_honest plan.peers)
    ≡ map (standing_of plan) (filter is_honest done)
    ++ standing_of plan p ∷ map (standing_of plan) (filter is_honest left)
parted plan done left p all good =
    ap (map (standing_of plan))
    (ap (filter is_honest) all ∙ filter-append is_honest done (p ∷ left)
    ∙ ap (λ ps. filter is_honest done ++ ps) (honest_first p left good))
    ∙ map-append (standing_of plan) (filter is_honest done) (p ∷ filter is_honest left)

module _ {D : Type 0} (f : Face D) (pool : List ℕ) (plan : Plan) (first : List D)
    (sites sites_after : List (Site D)) (disks disks_after : List D) (p : PeerPlan) (done left : List PeerPlan)
    (made : AreMade f pool plan first sites disks done) (all : plan.peers ≡ done ++ p ∷ left)
    (stops : StopsAt f plan p sites disks sites_after disks_after) where
  abbrev hosts : List (Host D)
  hosts = hosts_of sites

  abbrev later : List D
  later = honest_disks left (reverse stops.rest)

  parts : map (standing_of plan) (filter is_honest plan.peers)
      ≡ peers_of f hosts ++ standing_of plan p ∷ map (standing_of plan) (filter is_honest left)
  parts =
      parted plan done left p all stops.honest
      ∙ ap (λ ss. ss ++ standing_of plan p ∷ map (standing_of plan) (filter is_honest left)) (sym made.peers)

  -- the disks of hosts that were made hold what their journals begin with
  begun_at : (i : ℕ) (h : Host D) → slice_get hosts i ≡ Some h → HoldsBatches f plan [] i h.journal.disk
  begun_at i h at =
      let has = made.begun i h at in
      let here : slice_get (peers_of f hosts) i
      ≡ Some (peer_in f h) = slice_get-map (peer_in f) hosts i ∙ ap (option_map (peer_in f)) at in
      let is = begins_with plan i (peer_in f h)
      (ap (λ ss. slice_get ss i) parts
      ∙ at_front (peers_of f hosts) (standing_of plan p ∷ map (standing_of plan) (filter is_honest left)) i
      (peer_in f h) here) in
      record {
        holds = subst (λ bs. HoldsBodies (bodies_of bs) (f.seen h.journal.disk)) (sym is) has.stands.disk.holds;
        durable = has.stands.disk.durable;
        read = subst AreRead (sym is) has.stands.read;
        room =
            let sized = ap (λ bs. length (frames (bodies_of bs))) is in
            omega (arith, has.room, has.stands.disk.end, sized);
      }

  earlier : (i : ℕ) (disk : D) → slice_get (disks_of hosts) i ≡ Some disk → HoldsBatches f plan [] i disk
  earlier i disk at = by_host (slice_get hosts i) refl (sym (slice_get-map disk_in hosts i) ∙ at)
    where
      by_host : (o : Option (Host D)) → slice_get (hosts_of sites) i ≡ o → option_map disk_in o ≡ Some disk
          → HoldsBatches f plan [] i disk
      by_host None e there = absurd cc
      by_host (Some h) e there = subst (HoldsBatches f plan [] i) (some_is there) (begun_at i h e)

  own_begins : batches_at (length hosts) plan [] ≡ map alone (standing_of plan p).journal
  own_begins =
      begins_with plan (length hosts) (standing_of plan p)
      (ap (λ ss. slice_get ss (length hosts)) parts
      ∙ at_seam (peers_of f hosts) (map (standing_of plan) (filter is_honest left)) (standing_of plan p)
      (length hosts) (sym (length-map hosts (peer_in f))))

  disks_now : honest_disks plan.peers (disks_at sites_after ++ reverse disks_after)
      ≡ disks_of hosts ++ stops.now ∷ later
  disks_now =
      ap (λ ps. honest_disks ps (disks_at sites_after ++ reverse disks_after)) all
      ∙ ap (honest_disks (done ++ p ∷ left))
      (ap (λ ss. disks_at ss ++ reverse disks_after) stops.same
      ∙ ap (λ ds. disks_at sites ++ ds) (last_first disks_after stops.rest stops.now stops.stays))
      ∙ next_disk done left p sites stops.now (reverse stops.rest) made.placed stops.honest

  later_before : drop (suc (length hosts)) (honest_disks plan.peers (reverse first)) ≡ later
  later_before =
      ap (λ ps. drop (suc (length hosts)) (honest_disks ps (reverse first))) all
      ∙ ap (λ ds. drop (suc (length hosts)) (honest_disks (done ++ p ∷ left) ds))
      (made.taken.2 ∙ ap (λ ds. made.taken.0 ++ ds) (last_first disks stops.rest stops.disk stops.there))
      ∙ later_disks done left p sites made.taken.0 stops.disk (reverse stops.rest) made.placed made.taken.1 stops.honest

  pub begun_up_to : HaveBegunUpTo f plan (reverse first) (disks_at sites_after ++ reverse disks_after)
  begun_up_to =
      let count : length (disks_of hosts) ≡ length hosts = length-map hosts disk_in in
      record {
        place = length hosts;
        earlier =
            λ i disk less at. earlier i disk
            (sym (before_seam (disks_of hosts) (stops.now ∷ later) i (omega (arith, less, count)))
            ∙ ap (λ ds. slice_get ds i) (sym disks_now) ∙ at);
        own = λ disk at.
            let same = some_is
            (sym (at_seam (disks_of hosts) later stops.now (length hosts) (sym count))
            ∙ ap (λ ds. slice_get ds (length hosts)) (sym disks_now) ∙ at) in
            subst (HasFront f (batches_at (length hosts) plan [])) same
            (subst (λ bs. HasFront f bs stops.now) (sym own_begins) stops.front);
        later =
            ap (λ n. drop n (honest_disks plan.peers (disks_at sites_after ++ reverse disks_after)))
            (add-one (length hosts))
            ∙ ap (drop (suc (length hosts))) disks_now
            ∙ behind_seam (disks_of hosts) later stops.now (length hosts) (sym count) ∙ sym later_before
            ∙ ap (λ n. drop n (honest_disks plan.peers (reverse first))) (sym (add-one (length hosts)));
      }

-- an honest peer's disk is one of them
honest_among : {D : Type 0} (peers : List PeerPlan) (disks : List D) (i : ℕ) (disk : D)
    → slice_get (honest_disks peers disks) i ≡ Some disk → (k : ℕ) × (slice_get disks k ≡ Some disk)
honest_among [] disks i disk at = absurd cc
honest_among (p ∷ ps) [] i disk at = absurd cc
honest_among {D = D} (p ∷ ps) (d ∷ ds) i disk at = by_kind p.corrupt i at (honest_among ps ds)
  where
    by_kind : (b : Bool) (j : ℕ) → slice_get (cond b (honest_disks ps ds) (d ∷ honest_disks ps ds)) j ≡ Some disk
        → ((m : ℕ) (e : D) → slice_get (honest_disks ps ds) m ≡ Some e → (k : ℕ) × (slice_get ds k ≡ Some e))
        → (k : ℕ) × (slice_get (d ∷ ds) k ≡ Some disk)
    by_kind true j there rest = let r = rest j disk there in (suc r.0, r.1)
    by_kind false zero there rest = (0, there)
    by_kind false (suc j) there rest = let r = rest j disk there in (suc r.0, r.1)

-- where nothing was done, the disks are fresh
pub none_up_to : {D : Type 0} (f : Face D) (plan : Plan) (disks : List D) → AreFresh f disks
    → HaveBegunUpTo f plan disks disks
none_up_to f plan disks fresh = record {
  place = 0;
  earlier = λ i disk less at. absurd (omega (arith, less));
  own = λ disk at. front_none f (batches_at 0 plan []) disk (λ c may.
      let there = honest_among plan.peers disks 0 disk at in
      omega (arith, ap length ((fresh there.0 disk there.1).settled c may)));
  later = refl;
}
