use Rattle.std.proofs.Common.{◌≡◌, ◌∙◌, ◌+◌, ◌≤◌, ◌<◌, ◌⊎◌, inl, inr, ⊎_elim, ap, sym, subst, ℕ, List, [], length}
use Rattle.std.proofs.Common.{refl, arith, rules}
use Rattle.std.specs.Prelude.{IsErrOf}
use Rattle.lks_base.specs.declared.reactions.Input.{Input}
use Rattle.lks_base.specs.declared.reactions.Reaction.{Reaction}
use Rattle.lks_base.specs.declared.records.Record.{Record}
use Rattle.lks_disk.specs.Counts.{raised}
use Rattle.lks_law.specs.Table.{react_on}
use Rattle.lks_host.proofs.Cuts.{cut_lies, cut_read, falls_cut, on_err, kept_by_count, lost_by_count, little_longer}
use Rattle.lks_host.proofs.Cuts.{none_or_some, burns_kept, raised_between}
use Rattle.lks_host.specs.Cutting.{Falls, IsCutShort}
use Rattle.lks_host.specs.Faults.{as_journal}
use Rattle.lks_host.specs.Hosted.{StandsFor, LiesOn}
use Rattle.lks_host.specs.declared.faults.HostFault.TheVariants.{Memory}
use Rattle.lks_journal.specs.declared.faults.JournalFault.TheVariants.{Cut}
use Rattle.lks_law.specs.Batches.{with_batch}
use Rattle.lks_law.specs.Polls.{Station}
use Rattle.lks_peer.specs.Knows.{Knowing}
use Rattle.lks_record.specs.Spelling.{batch_spelling}
use Rattle.lks_host.proofs.cutting.cut_step.Given.{Over}
use Rattle.lks_host.proofs.cutting.cut_step.Goals.{In-Ok, In-Err-Cut}
use Rattle.lks_host.proofs.cutting.cut_step.Goals as goal

-- each disk tells what it holds
tells : (g : Over) (disk : g.row.D.Denot) → g.D.Disk.face.told disk
tells g disk = (g.met.D.CrashDisk g.world.𝓛 g.world.𝓜 g.world.𝓡 ((λ s x. x), (λ x. x), (λ x. x), λ x. x)).tells disk

-- what a peer answers
abbrev answered : Knowing → ℕ → Input → Reaction
answered k tick input = react_on k.own k.state tick input

-- Of a step that was done.

stands_done : (g : Over) (c : In-Ok g) (batches : List (List Record))
    → StandsFor g.D.Disk.face c.args.host.now batches
    → StandsFor g.D.Disk.face c.step-done.new.self (with_batch batches c.in-Ok.reaction.records)
stands_done g c batches at =
    c.in-Ok.ensures.stands (tells g c.fuse.new.self.journal.disk) batches (c.fuse.ensures.stands batches at)

lies_done : (g : Over) (c : In-Ok g) (batches : List (List Record)) → StandsFor g.D.Disk.face c.args.host.now batches
    → LiesOn g.D.Disk.face c.power_cut.new.self.peer.own c.power_cut.new.self.journal.disk
    (with_batch batches c.in-Ok.reaction.records)
lies_done g c batches at =
    c.power_cut.ensures.lies (with_batch batches c.in-Ok.reaction.records) (stands_done g c batches at)

-- Of one that was cut off.

is_cut : (g : Over) (c : In-Err-Cut g) → IsErrOf (as_journal c.step-done.result) Cut
is_cut g c = search rules

enough : (g : Over) (c : In-Err-Cut g) → IsErrOf c.step-done.result Memory → ⊥
enough g c = search rules

same_own : (g : Over) (c : In-Err-Cut g) → c.fuse.new.self.peer.own ≡ c.power_cut.new.self.peer.own
same_own g c = sym (ap (λ (k : Knowing). k.own) c.power_cut.ensures.peer ∙ c.step-done.ensures.stepped.own)

some_added : (g : Over) (c : In-Err-Cut g)
    → (answered c.fuse.new.self.peer c.args.tick c.args.input.now).records ≡ [] → ⊥
some_added g c none = c.step-done.ensures.stepped.calls.uncut none (is_cut g c)

-- the disk holds the batches from before, or the new one too
lies_cut : (g : Over) (c : In-Err-Cut g) (batches : List (List Record))
    → StandsFor g.D.Disk.face c.args.host.now batches
    → LiesOn g.D.Disk.face c.fuse.new.self.peer.own c.power_cut.new.self.journal.disk batches
    ⊎
    ((2 ≤ c.args.fuse.calls)
    × LiesOn g.D.Disk.face c.fuse.new.self.peer.own c.power_cut.new.self.journal.disk
    (with_batch batches (answered c.fuse.new.self.peer c.args.tick c.args.input.now).records))
lies_cut g c batches at =
    let stood = c.fuse.ensures.stands batches at in
    let read = c.step-done.ensures.read (enough g c) in
    cut_lies g.D.Disk.face c.fuse.new.self c.step-done.new.self c.power_cut.new.self.journal.disk batches
    (answered c.fuse.new.self.peer c.args.tick c.args.input.now).records c.args.fuse.calls
    (as_journal c.step-done.result) stood
    read.fit (c.step-done.ensures.adds (tells g c.fuse.new.self.journal.disk) batches stood) (is_cut g c)
    c.fuse.ensures.fused.left read.read c.power_cut.ensures.lost

-- the fuse was too short for it, and burned
short_fuse : (g : Over) (c : In-Err-Cut g)
    → IsCutShort (answered c.args.host.now.peer c.args.tick c.args.input.now) c.args.fuse.calls
short_fuse g c =
    let some = some_added g c in
    let few : c.args.fuse.calls
    < 4 = omega (
      arith,
      ((c.step-done.ensures.stepped.calls.called some).fuse.cut (is_cut g c)).1,
      c.fuse.ensures.fused.left,
    ) in
    subst (λ (k : Knowing). IsCutShort (answered k c.args.tick c.args.input.now) c.args.fuse.calls) c.fuse.ensures.peer
    (record { adds = some; few = few })

burned : (g : Over) (c : In-Err-Cut g)
    → g.D.Disk.face.burns c.step-done.new.self.journal.disk
    ≡ raised (g.D.Disk.face.burns c.args.host.now.journal.disk)
burned g c =
    let fuse = (c.step-done.ensures.stepped.calls.called (some_added g c)).fuse in
    raised_between _ _ _ _ c.fuse.ensures.fused.burns
    (fuse.burn c.fuse.ensures.fused.whole (fuse.cut (is_cut g c)).2) refl

-- Goals.

pub recover-requires-clause-can : goal.recover-requires-clause-can
recover-requires-clause-can g c =
    let stands = c.requires.can.stands (tells g c.args.host.now.journal.disk) in
    let lies = lies_done g (goal.at.recover-requires-clause-can g c).In-Ok stands.0 stands.1 in
    λ κs lives.
    record {
      pooled = search rules;
      unfused = search rules;
      lies = (with_batch stands.0 c.in-Ok.reaction.records, lies);
    }

pub recover-requires-in-Err-Cut-clause-can : goal.recover-requires-in-Err-Cut-clause-can
recover-requires-in-Err-Cut-clause-can g c =
    let cut = (goal.at.recover-requires-in-Err-Cut-clause-can g c).In-Err-Cut in
    let stands = c.requires.can.stands (tells g c.args.host.now.journal.disk) in
    let batches = stands.0 in
    let more = with_batch batches (answered c.fuse.new.self.peer c.args.tick c.args.input.now).records in
    let lies = lies_cut g cut batches stands.1 in
    let disk = c.power_cut.new.self.journal.disk in
    λ κs lives. record {
      pooled = search rules;
      unfused = search rules;
      lies = elim lies [
        | inl before ↦ (batches, subst (λ (o : Station). LiesOn g.D.Disk.face o disk batches) (same_own g cut) before)
        | inr after ↦ (more, subst (λ (o : Station). LiesOn g.D.Disk.face o disk more) (same_own g cut) after.1)
      ];
    }

pub returns-in_ok-recover-in-Ok-clause-cuts : goal.returns-in_ok-recover-in-Ok-clause-cuts
returns-in_ok-recover-in-Ok-clause-cuts g c = λ batches at.
    let lies = lies_done g (goal.at.returns-in_ok-recover-in-Ok-clause-cuts g c).In-Ok batches at in
    let still = ap (λ (k : Knowing). answered k c.args.tick c.args.input.now) c.fuse.ensures.peer in
    let same : c.in-Ok.reaction
    ≡ answered c.args.host.now.peer c.args.tick c.args.input.now = c.in-Ok.ensures.stepped.reaction ∙ still in
    let now = (answered c.fuse.new.self.peer c.args.tick c.args.input.now).records in
    let spent : (now ≡ [] → ⊥) → 4 ≤ c.args.fuse.calls = λ some.
    let passed : g.D.Disk.face.left c.step-done.new.self.journal.disk + 4
    ≡ g.D.Disk.face.left c.fuse.new.self.journal.disk = (c.in-Ok.ensures.stepped.calls.called some).fuse.passes
    c.fuse.ensures.fused.fused in
    omega (arith, passed, c.fuse.ensures.fused.left) in (
      same,
      subst (λ (r : Reaction). StandsFor g.D.Disk.face c.recover.new.self (with_batch batches r.records)) same
          (c.in_ok-recover-in-Ok.ensures.recovers (with_batch batches c.in-Ok.reaction.records) lies).stands,
      ⊎_elim (λ none. inl (sym (ap (λ (r : Reaction). r.records) still) ∙ none)) (λ some. inr (spent some))
          (none_or_some now),
      c.in_ok-recover-in-Ok.ensures.behaves.unset c.power_cut.ensures.lost.unfused ∙ c.power_cut.ensures.lost.burns
          ∙ c.in-Ok.ensures.stepped.behaves.unburned ∙ c.fuse.ensures.fused.burns,
    )

pub returns-in_ok-recover-in-Ok-clause-end : goal.returns-in_ok-recover-in-Ok-clause-end
returns-in_ok-recover-in-Ok-clause-end g c =
    let done = (goal.at.returns-in_ok-recover-in-Ok-clause-end g c).In-Ok in
    let stands = c.requires.can.stands (tells g c.args.host.now.journal.disk) in
    let there = stands_done g done stands.0 stands.1 in
    let back = (c.in_ok-recover-in-Ok.ensures.recovers (with_batch stands.0 c.in-Ok.reaction.records)
    (lies_done g done stands.0 stands.1)).stands in
    omega (arith, back.disk.end, there.disk.end, c.in-Ok.ensures.stepped.end, c.fuse.ensures.end)

pub returns-then-found-before-clause-cuts : goal.returns-then-found-before-clause-cuts
returns-then-found-before-clause-cuts g c = λ batches at.
    let cut = (goal.at.returns-then-found-before-clause-cuts g c).In-Err-Cut in
    let still = ap (λ (k : Knowing). answered k c.args.tick c.args.input.now) c.fuse.ensures.peer in
    let records = (answered c.fuse.new.self.peer c.args.tick c.args.input.now).records in
    let read = cut_read g.D.Disk.face c.recover-in-Err-Cut.new.self batches records c.args.fuse.calls
    c.in_ok-found-in-Err-Cut.found c.power_cut.new.self c.fuse.new.self.peer.own (same_own g cut)
    (some_added g cut) (lies_cut g cut batches at)
    c.in_ok-found-in-Err-Cut.ensures.recovers in
    let kept = kept_by_count g.D.Disk.face c.recover-in-Err-Cut.new.self batches records c.args.fuse.calls
    c.in_ok-found-in-Err-Cut.found c.count-before.result read (c.count-before.ensures.all batches at)
    c.if-found-before.true in (
      kept.last ∙ ap (λ (r : Reaction). r.records) still,
      short_fuse g cut,
      kept.two,
      subst (λ (r : Reaction). StandsFor g.D.Disk.face c.recover-in-Err-Cut.new.self (with_batch batches r.records))
          still kept.stands,
      raised_between _ _ _ _ refl (burned g cut)
          (c.in_ok-found-in-Err-Cut.ensures.behaves.unset c.power_cut.ensures.lost.unfused
          ∙ c.power_cut.ensures.lost.burns),
    )

pub returns-then-found-before-clause-end : goal.returns-then-found-before-clause-end
returns-then-found-before-clause-end g c =
    let cut = (goal.at.returns-then-found-before-clause-end g c).In-Err-Cut in
    let stands = c.requires.can.stands (tells g c.args.host.now.journal.disk) in
    let batches = stands.0 in
    let records = (answered c.fuse.new.self.peer c.args.tick c.args.input.now).records in
    let read = cut_read g.D.Disk.face c.recover-in-Err-Cut.new.self batches records c.args.fuse.calls
    c.in_ok-found-in-Err-Cut.found c.power_cut.new.self c.fuse.new.self.peer.own (same_own g cut)
    (some_added g cut) (lies_cut g cut batches stands.1)
    c.in_ok-found-in-Err-Cut.ensures.recovers in
    let kept = kept_by_count g.D.Disk.face c.recover-in-Err-Cut.new.self batches records c.args.fuse.calls
    c.in_ok-found-in-Err-Cut.found c.count-before.result read (c.count-before.ensures.all batches stands.1)
    c.if-found-before.true in
    let told = c.step-done.ensures.read (enough g cut) in
    let short : (records ≡ [] → ⊥)
    → length (batch_spelling records)
    ≤ 32763 = λ more. omega (arith, (told.read more).short, told.batch.short) in
    let longer = little_longer g.D.Disk.face c.fuse.new.self c.recover-in-Err-Cut.new.self batches records
    (c.fuse.ensures.stands batches stands.1) kept.stands short in
    omega (arith, longer, c.fuse.ensures.end)

pub returns-else-found-before-clause-cuts : goal.returns-else-found-before-clause-cuts
returns-else-found-before-clause-cuts g c = λ batches at.
    let cut = (goal.at.returns-else-found-before-clause-cuts g c).In-Err-Cut in
    let records = (answered c.fuse.new.self.peer c.args.tick c.args.input.now).records in
    let read = cut_read g.D.Disk.face c.recover-in-Err-Cut.new.self batches records c.args.fuse.calls
    c.in_ok-found-in-Err-Cut.found c.power_cut.new.self c.fuse.new.self.peer.own (same_own g cut)
    (some_added g cut) (lies_cut g cut batches at)
    c.in_ok-found-in-Err-Cut.ensures.recovers in
    let lost = lost_by_count g.D.Disk.face c.recover-in-Err-Cut.new.self batches records c.args.fuse.calls
    c.in_ok-found-in-Err-Cut.found c.count-before.result read (c.count-before.ensures.all batches at)
    (omega (arith, c.if-found-before.false)) in (
      short_fuse g cut,
      lost.stands,
      raised_between _ _ _ _ refl (burned g cut)
          (c.in_ok-found-in-Err-Cut.ensures.behaves.unset c.power_cut.ensures.lost.unfused
          ∙ c.power_cut.ensures.lost.burns),
    )

pub returns-else-found-before-clause-end : goal.returns-else-found-before-clause-end
returns-else-found-before-clause-end g c =
    let cut = (goal.at.returns-else-found-before-clause-end g c).In-Err-Cut in
    let stands = c.requires.can.stands (tells g c.args.host.now.journal.disk) in
    let batches = stands.0 in
    let stood = c.fuse.ensures.stands batches stands.1 in
    let records = (answered c.fuse.new.self.peer c.args.tick c.args.input.now).records in
    let read = cut_read g.D.Disk.face c.recover-in-Err-Cut.new.self batches records c.args.fuse.calls
    c.in_ok-found-in-Err-Cut.found c.power_cut.new.self c.fuse.new.self.peer.own (same_own g cut)
    (some_added g cut) (lies_cut g cut batches stands.1)
    c.in_ok-found-in-Err-Cut.ensures.recovers in
    let lost = lost_by_count g.D.Disk.face c.recover-in-Err-Cut.new.self batches records c.args.fuse.calls
    c.in_ok-found-in-Err-Cut.found c.count-before.result read (c.count-before.ensures.all batches stands.1)
    (omega (arith, c.if-found-before.false)) in
    omega (arith, lost.stands.disk.end, stood.disk.end, c.fuse.ensures.end)

-- Of one that failed: whatever was done of it, a crash leaves the batches from before, or the new one too.

pub returns-in-Err-Failed-clause-falls : goal.returns-in-Err-Failed-clause-falls
returns-in-Err-Failed-clause-falls g c = λ batches at.
    subst
    (λ (k : Knowing). Falls g.D.Disk.face batches
    (with_batch batches (answered k c.args.tick c.args.input.now).records) c.power_cut.new.self.journal.disk)
    c.fuse.ensures.peer
    (falls_cut g.D.Disk.face c.fuse.new.self c.step-done.new.self c.power_cut.new.self.journal.disk
    c.power_cut.new.self.journal.disk batches
    (answered c.fuse.new.self.peer c.args.tick c.args.input.now).records (as_journal c.step-done.result)
    (c.step-done.ensures.adds (tells g c.fuse.new.self.journal.disk) batches (c.fuse.ensures.stands batches at))
    c.power_cut.ensures.lost (λ b may. may))

pub returns-in-Err-Memory-clause-falls : goal.returns-in-Err-Memory-clause-falls
returns-in-Err-Memory-clause-falls g c = λ batches at.
    subst
    (λ (k : Knowing). Falls g.D.Disk.face batches
    (with_batch batches (answered k c.args.tick c.args.input.now).records) c.power_cut.new.self.journal.disk)
    c.fuse.ensures.peer
    (falls_cut g.D.Disk.face c.fuse.new.self c.step-done.new.self c.power_cut.new.self.journal.disk
    c.power_cut.new.self.journal.disk batches
    (answered c.fuse.new.self.peer c.args.tick c.args.input.now).records (as_journal c.step-done.result)
    (c.step-done.ensures.adds (tells g c.fuse.new.self.journal.disk) batches (c.fuse.ensures.stands batches at))
    c.power_cut.ensures.lost (λ b may. may))

pub returns-in_err-recover-in-Ok-clause-falls : goal.returns-in_err-recover-in-Ok-clause-falls
returns-in_err-recover-in-Ok-clause-falls g c = λ batches at.
    let lies = lies_done g (goal.at.returns-in_err-recover-in-Ok-clause-falls g c).In-Ok batches at in
    on_err c.from_residual.result
    (subst
    (λ (k : Knowing). Falls g.D.Disk.face batches
    (with_batch batches (answered k c.args.tick c.args.input.now).records) c.recover.new.self.journal.disk)
    c.fuse.ensures.peer
    (falls_cut g.D.Disk.face c.fuse.new.self c.step-done.new.self c.power_cut.new.self.journal.disk
    c.recover.new.self.journal.disk batches (answered c.fuse.new.self.peer c.args.tick c.args.input.now).records
    (as_journal c.step-done.result)
    (c.step-done.ensures.adds (tells g c.fuse.new.self.journal.disk) batches (c.fuse.ensures.stands batches at))
    c.power_cut.ensures.lost
    (c.in_err-recover-in-Ok.ensures.recovers (with_batch batches c.in-Ok.reaction.records) lies).leaves))

pub returns-in_err-found-in-Err-Cut-clause-falls : goal.returns-in_err-found-in-Err-Cut-clause-falls
returns-in_err-found-in-Err-Cut-clause-falls g c = λ batches at.
    let f = g.D.Disk.face in
    let cut = (goal.at.returns-in_err-found-in-Err-Cut-clause-falls g c).In-Err-Cut in
    let more = with_batch batches (answered c.fuse.new.self.peer c.args.tick c.args.input.now).records in
    let disk = c.power_cut.new.self.journal.disk in
    let less =
    ⊎_elim
    (λ before.
    (c.in_err-found-in-Err-Cut.ensures.recovers batches
    (subst (λ (o : Station). LiesOn f o disk batches) (same_own g cut) before)).leaves)
    (λ after.
    (c.in_err-found-in-Err-Cut.ensures.recovers more
    (subst (λ (o : Station). LiesOn f o disk more) (same_own g cut) after.1)).leaves)
    (lies_cut g cut batches at) in
    on_err c.from_residual-in_err-found-in-Err-Cut.result
    (subst
    (λ (k : Knowing). Falls f batches (with_batch batches (answered k c.args.tick c.args.input.now).records)
    c.recover-in-Err-Cut.new.self.journal.disk) c.fuse.ensures.peer
    (falls_cut g.D.Disk.face c.fuse.new.self c.step-done.new.self c.power_cut.new.self.journal.disk
    c.recover-in-Err-Cut.new.self.journal.disk batches
    (answered c.fuse.new.self.peer c.args.tick c.args.input.now).records (as_journal c.step-done.result)
    (c.step-done.ensures.adds (tells g c.fuse.new.self.journal.disk) batches (c.fuse.ensures.stands batches at))
    c.power_cut.ensures.lost less))

pub returns-in-Err-Failed-clause-fuse : goal.returns-in-Err-Failed-clause-fuse
returns-in-Err-Failed-clause-fuse g c = record {
  allowed = search rules;
  chosen = search rules;
  burns = inl (
      c.power_cut.ensures.lost.burns
      ∙ burns_kept g.D.Disk.face c.fuse.new.self.journal c.step-done.new.self.journal
      (answered c.fuse.new.self.peer c.args.tick c.args.input.now).records (as_journal c.step-done.result)
      c.step-done.ensures.stepped.calls c.fuse.ensures.fused.whole (search rules)
      ∙ c.fuse.ensures.fused.burns);
}

pub returns-in-Err-Memory-clause-fuse : goal.returns-in-Err-Memory-clause-fuse
returns-in-Err-Memory-clause-fuse g c = record {
  allowed = search rules;
  chosen = search rules;
  burns = inl (
      c.power_cut.ensures.lost.burns
      ∙ burns_kept g.D.Disk.face c.fuse.new.self.journal c.step-done.new.self.journal
      (answered c.fuse.new.self.peer c.args.tick c.args.input.now).records (as_journal c.step-done.result)
      c.step-done.ensures.stepped.calls c.fuse.ensures.fused.whole (search rules)
      ∙ c.fuse.ensures.fused.burns);
}
