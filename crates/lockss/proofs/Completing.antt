-- What follows where no fault is counted.
use Rattle.std.proofs.Common.{◌≡◌, ◌↔◌, ◌∙◌, ap, sym, subst, inl, inr, ℕ, Bool, true, false, List, refl, arith}
use Rattle.std.specs.Prelude.{Option, Some, None, option_map, slice_get, map, Result, Ok, Err}
use Rattle.std.proofs.lemmas.Option.{slice_get-map}
use Rattle.lks_base.specs.declared.plans.PeerPlan.{PeerPlan}
use Rattle.lks_words.specs.declared.commands.Command.{Command}
use Rattle.lks_words.specs.declared.commands.Command.TheVariants as command
use Rattle.lks_words.specs.declared.commands.Play.{Play}
use Rattle.lks_words.specs.declared.commands.Play.TheVariants.{Replay}
use Rattle.lks_disk.specs.Counts.{Rose}
use Rattle.lks_disk.specs.Face.{Face}
use Rattle.lks_evidence.specs.Holding.{IsYes, SetHolds}
use Rattle.lks_evidence.specs.Search.{finding}
use Rattle.lks_evidence.specs.declared.findings.Finding.{Finding}
use Rattle.lks_evidence.specs.declared.findings.Finding.TheVariants.{Yes, No}
use Rattle.lks_gather.specs.Sets.{Said, said_by, set_of}
use Rattle.lks_gather.specs.declared.gathered.Gathered.{Gathered}
use Rattle.lks_outside.specs.declared.sinks.WriteStop.{WriteStop}
use Rattle.lks_outside.specs.declared.sinks.WriteStop.TheVariants as writing
use Rattle.lks_outside.specs.declared.sources.ReadStop.TheVariants as reading
use Rattle.lks_script.specs.declared.faults.ScriptFault.TheVariants as script
use Rattle.lks_script.specs.declared.steps.Script.{Script}
use Rattle.lks_world.proofs.ServingLaws.{place_among}
use Rattle.lks_world.specs.Counts.{ServesHonest}
use Rattle.lks_world.specs.Worlds.{HaveServed}
use Rattle.lks_world.specs.declared.faults.WorldFault.TheVariants as world
use Rattle.lockss.specs.Codes.{status_of}
use Rattle.lockss.specs.Complete.{AreThere, Completes, Concludes, HasJournals, HasWork, NoneRose}
use Rattle.lockss.specs.Findings.{is_doubt}
use Rattle.lockss.specs.Handed.{Devices, Senses}
use Rattle.lockss.specs.Deeds.{deed_of, play_of}
use Rattle.lockss.specs.Promise.{AreRead, Comes, Examines, Finds, FindsNone, PlaysTo, Promise, RacesTo}
use Rattle.lockss.specs.declared.ends.End.{End}
use Rattle.lockss.specs.declared.ends.End.TheVariants as end
use Rattle.lockss.specs.declared.ends.Played.{Played}
use Rattle.lockss.specs.declared.ends.Played.TheVariants.{Stopped, Told, Unmade, Untold}
use Rattle.lockss.specs.declared.ends.Raced.{Raced}
use Rattle.lockss.specs.declared.ends.Raced.TheVariants as raced
use Rattle.lockss.specs.declared.ends.Unscripted.{Unscripted}
use Rattle.lockss.specs.declared.ends.Unscripted.TheVariants.{Unread, Unsaid}
use Rattle.lockss.specs.declared.statuses.Status.{Status}

-- where no disk's count rose, no disk is blamed
blames_none : {D : Type 0} (f : Face D) (peers : List PeerPlan) (disks disks_after : List D) (peer : ℕ)
    → ServesHonest f peers disks disks_after (Some (world.Disk peer)) → NoneRose f disks disks_after → ⊥
blames_none f peers disks disks_after peer served none =
    let risen = served.honest.cause peer refl in
    let at = place_among peers disks disks_after risen.place risen.disk risen.now risen.there risen.stays in
    none at.place risen.disk risen.now at.before at.after risen.rose

-- and so of disks whose counts are as those had at first
blames_none_since : {D : Type 0} (f : Face D) (peers : List PeerPlan) (disks disks_after : List D) (peer : ℕ)
    → HaveServed f peers (map f.faults disks) disks_after (Some (world.Disk peer)) → NoneRose f disks disks_after
    → ⊥
blames_none_since {D = D} f peers disks disks_after peer served none =
    let risen = served.serves.honest.cause peer refl in
    let at = place_among peers served.first disks_after risen.place risen.disk risen.now risen.there risen.stays in
    let counted : option_map f.faults (slice_get disks at.place) ≡ Some (f.faults risen.disk) =
    sym (slice_get-map f.faults disks at.place) ∙ ap (λ counts. slice_get counts at.place) (sym served.counted)
    ∙ slice_get-map f.faults served.first at.place ∙ ap (option_map f.faults) at.before in
    by_disk at.place risen.now at.after risen.rose (slice_get disks at.place) refl counted
  where
    by_disk : (place : ℕ) (now : D) → slice_get disks_after place ≡ Some now → {count : ℕ}
        → Rose count (f.faults now) → (o : Option D) → slice_get disks place ≡ o
        → option_map f.faults o ≡ Some count → ⊥
    by_disk place now after rose None there counted = absurd cc
    by_disk place now after {count} rose (Some disk) there counted =
        let same : f.faults disk ≡ count = cc in
        none place disk now there after (subst (λ n. Rose n (f.faults now)) (sym same) rose)

module _ {S D K J B : Type 0} (left : S → Option (List ℕ)) (failed : S → ℕ) (e : Senses D K J B)
    (source source_after : S) (before after : Devices D K J B)
    (no_read : Rose (failed source) (failed source_after) → ⊥)
    (no_write : Rose (e.failed before.sink) (e.failed after.sink) → ⊥)
    (none : NoneRose e.face before.disks after.disks) where
  -- the bytes that were read are those that were there
  same_bytes : (reads : Bool) (c : Play) (bytes there : List ℕ)
      → AreRead left failed source source_after (deed_of c).reads (deed_of c).script reads bytes
      → AreThere reads there (left source) → there ≡ bytes
  same_bytes false c bytes there read are = are ∙ sym read.0
  same_bytes true c bytes there read are = (read.1 there are.0).0

  completes_found : (c : Play) (bytes : List ℕ) (s : Script) → AreThere (deed_of c).reads bytes (left source)
      → (deed_of c).script bytes ≡ Ok s → (none : Unscripted)
      → FindsNone left failed source source_after (deed_of c).reads (deed_of c).script none
      → Completes (status_of (end.Unscripted none))
  completes_found c bytes s there is (Unread reading.Failed) finds = absurd (no_read (finds.1 refl))
  completes_found c bytes s there is (Unread reading.TooLong) finds =
      let are = subst (λ r. AreThere r bytes (left source)) finds.0 there in
      let many = (finds.2 bytes are.0).0 in
      let few = are.1 in
      absurd (omega (arith, many, few))
  completes_found c bytes s there is (Unread reading.Memory) finds = inr (inr refl)
  completes_found c bytes s there is (Unsaid (script.BadLine line)) finds =
      let bad = sym is ∙ ap (deed_of c).script (same_bytes (deed_of c).reads c finds.0 bytes finds.1 there)
      ∙ finds.2 line refl in
      absurd cc
  completes_found c bytes s there is (Unsaid script.Memory) finds = inr (inr refl)

  completes_played : (c : Play) (s : Script) (played : Played) → PlaysTo e (deed_of c) s before after played
      → Completes (status_of (end.Played played))
  completes_played c s (Unmade (world.Disk peer)) is =
      absurd (blames_none e.face s.plan.peers before.disks after.disks peer is.served none)
  completes_played c s (Unmade world.Memory) is = inr (inr refl)
  completes_played c s (Untold (world.Disk peer)) is =
      absurd (blames_none e.face s.plan.peers before.disks after.disks peer is.1.kept.served none)
  completes_played c s (Untold world.Memory) is = inr (inr refl)
  completes_played c s (Stopped (world.Disk peer)) is =
      absurd (blames_none e.face s.plan.peers before.disks after.disks peer is.kept.served none)
  completes_played c s (Stopped world.Memory) is = inr (inr refl)
  completes_played c s (Told (Ok false)) is = inl refl
  completes_played c s (Told (Ok true)) is = inr (inl refl)
  completes_played c s (Told (Err writing.Failed)) is = absurd (no_write (is.3.0 refl))
  completes_played c s (Told (Err writing.Memory)) is = inr (inr refl)

  completes_raced : (s : Script) (came : Raced) → RacesTo e s before after came → Completes (status_of (end.Raced came))
  completes_raced s (raced.Unmade (world.Disk peer)) is =
      absurd (blames_none e.face s.plan.peers before.disks after.disks peer is.served none)
  completes_raced s (raced.Unmade world.Memory) is = inr (inr refl)
  completes_raced s (raced.Stopped (world.Disk peer)) is =
      absurd (blames_none e.face s.plan.peers before.disks after.disks peer is.kept.served none)
  completes_raced s (raced.Stopped world.Memory) is = inr (inr refl)
  completes_raced s (raced.Halted (world.Disk peer)) is =
      absurd (blames_none_since e.face s.plan.peers before.disks after.disks peer is.0.served none)
  completes_raced s (raced.Halted world.Memory) is = inr (inr refl)
  completes_raced s (raced.Told (Ok false)) is = inl refl
  completes_raced s (raced.Told (Ok true)) is = inr (inl refl)
  completes_raced s (raced.Told (Err writing.Failed)) is = absurd (no_write (is.1.0 refl))
  completes_raced s (raced.Told (Err writing.Memory)) is = inr (inr refl)

  completes_at : (c : Play) (bytes : List ℕ) (s : Script) → AreThere (deed_of c).reads bytes (left source)
      → (deed_of c).script bytes ≡ Ok s → (came : End)
      → Comes left failed e source source_after before after (Some (command.Play c)) came
      → Completes (status_of came)
  unfolding completes_found
  completes_at c bytes s there is end.Unnamed comes = absurd cc
  completes_at c bytes s there is end.Unbegun comes = inr (inr refl)
  completes_at c bytes s there is (end.Unscripted unscripted) comes =
      completes_found c bytes s there is unscripted comes.0
  completes_at c bytes s there is (end.Played played) comes = completes_played c comes.0 played comes.2
  completes_at c bytes s there is (end.Raced came) comes = absurd comes
  completes_at c bytes s there is (end.Examined told) comes = absurd comes

  completes_race : (threads : ℕ) (bytes : List ℕ) (s : Script) → AreThere (deed_of Replay).reads bytes (left source)
      → (deed_of Replay).script bytes ≡ Ok s → (came : End)
      → Comes left failed e source source_after before after (Some (command.Race threads)) came
      → Completes (status_of came)
  unfolding completes_found
  completes_race threads bytes s there is end.Unnamed comes = absurd cc
  completes_race threads bytes s there is end.Unbegun comes = inr (inr refl)
  completes_race threads bytes s there is (end.Unscripted unscripted) comes =
      completes_found Replay bytes s there is unscripted comes.0
  completes_race threads bytes s there is (end.Played played) comes = absurd comes
  completes_race threads bytes s there is (end.Raced came) comes = completes_raced comes.0 came comes.2
  completes_race threads bytes s there is (end.Examined told) comes = absurd comes

  completes_for : (words : Option Command) (play : Play) → play_of words ≡ Some play → (bytes : List ℕ) (s : Script)
      → AreThere (deed_of play).reads bytes (left source) → (deed_of play).script bytes ≡ Ok s → (came : End)
      → Comes left failed e source source_after before after words came → Completes (status_of came)
  completes_for None play named bytes s there is came comes = absurd cc
  completes_for (Some command.Evidence) play named bytes s there is came comes = absurd cc
  completes_for (Some (command.Play c)) play named bytes s there is came comes =
      let same : c ≡ play = cc in
      completes_at play bytes s there is came
      (subst (λ (p : Play). Comes left failed e source source_after before after (Some (command.Play p)) came)
      same comes)
  completes_for (Some (command.Race threads)) play named bytes s there is came comes =
      let same : play ≡ Replay = cc in
      completes_race threads bytes s
      (subst (λ (p : Play). AreThere (deed_of p).reads bytes (left source)) same there)
      (subst (λ (p : Play). (deed_of p).script bytes ≡ Ok s) same is) came comes

  pub completes : (words : Option Command) (answer : Status)
      → Promise left failed e source source_after before after words answer → HasWork words (left source)
      → Completes answer
  completes words answer says work =
      subst Completes (sym says.answered)
      (completes_for words work.play work.named work.bytes work.script work.there work.reads says.end says.came)

module _ {S D K J B : Type 0} (left : S → Option (List ℕ)) (failed : S → ℕ) (e : Senses D K J B)
    (source source_after : S) (before after : Devices D K J B)
    (no_read : Rose (failed source) (failed source_after) → ⊥)
    (no_write : Rose (e.failed before.sink) (e.failed after.sink) → ⊥) (bytes : List ℕ)
    (there : AreThere true bytes (left source)) (said : Said) (is : set_of bytes ≡ Ok said) where
  concludes_none : (none : Unscripted) → FindsNone left failed source source_after true set_of none
      → Concludes said (status_of (end.Unscripted none))
  concludes_none (Unread reading.Failed) finds = absurd (no_read (finds.1 refl))
  concludes_none (Unread reading.TooLong) finds =
      let many = (finds.2 bytes there.0).0 in
      let few = there.1 in
      absurd (omega (arith, many, few))
  concludes_none (Unread reading.Memory) finds = inl refl
  concludes_none (Unsaid (script.BadLine line)) finds =
      let bad = sym is ∙ ap set_of (finds.1.1 bytes there.0).0 ∙ finds.2 line refl in
      absurd cc
  concludes_none (Unsaid script.Memory) finds = inl refl

  concludes_by : (g : Gathered) → said_by g ≡ said → (f : Finding) → IsYes f ↔ SetHolds g.plan g.set.items
      → (doubted : Bool) → doubted ≡ is_doubt f → Concludes said (status_of (end.Examined (Ok doubted)))
  concludes_by g same (Yes replaced) holds false told = inr (g, same, inl (refl, holds.0 tt))
  concludes_by g same (Yes replaced) holds true told = absurd cc
  concludes_by g same (No doubt) holds false told = absurd cc
  concludes_by g same (No doubt) holds true told = inr (g, same, inr (refl, λ held. holds.1 held))

  one_said : (a b : Said) (r : Result Said ℕ) → r ≡ Ok a → r ≡ Ok b → a ≡ b
  one_said a b r first second = let e = sym first ∙ second in cc

  concludes_read : (g : Gathered) → Finds left failed source source_after true set_of (said_by g)
      → (told : Result Bool WriteStop) → Examines e before after g told
      → Concludes said (status_of (end.Examined told))
  concludes_read g finds (Err writing.Failed) examines = absurd (no_write (examines.tells.0 refl))
  concludes_read g finds (Err writing.Memory) examines = inl refl
  concludes_read g finds (Ok doubted) examines =
      let read = ap set_of ((finds.read.1 bytes there.0).0) in
      concludes_by g (one_said (said_by g) said (set_of finds.bytes) finds.script (sym read ∙ is))
      (finding g.plan g.set.items) examines.holds doubted examines.tells.0

  concludes_at : (came : End) → Comes left failed e source source_after before after (Some command.Evidence) came
      → Concludes said (status_of came)
  concludes_at end.Unnamed comes = absurd cc
  concludes_at end.Unbegun comes = inl refl
  concludes_at (end.Unscripted none) comes = concludes_none none comes.0
  concludes_at (end.Played played) comes = absurd comes
  concludes_at (end.Raced came) comes = absurd comes
  concludes_at (end.Examined told) comes = concludes_read comes.0 comes.1 told comes.2

pub concludes : {S D K J B : Type 0} (left : S → Option (List ℕ)) (failed : S → ℕ) (e : Senses D K J B)
    (source source_after : S) (before after : Devices D K J B)
    → (Rose (failed source) (failed source_after) → ⊥) → (Rose (e.failed before.sink) (e.failed after.sink) → ⊥)
    → (words : Option Command) (answer : Status)
    → Promise left failed e source source_after before after words answer
    → (work : HasJournals words (left source)) → Concludes work.said answer
concludes left failed e source source_after before after no_read no_write words answer says work =
    subst (Concludes work.said) (sym says.answered)
    (concludes_at left failed e source source_after before after no_read no_write work.bytes work.there work.said
    work.reads says.end
    (subst (λ w. Comes left failed e source source_after before after w says.end) work.named says.came))
