use Rattle.std.proofs.Common.{◌∙◌, ◌++◌, ap, sym, subst, List}
use Rattle.std.specs.List.{filter_map}
use Rattle.lks_base.specs.declared.reactions.Reaction.{Reaction}
use Rattle.lks_base.specs.declared.records.Record.{Record}
use Rattle.lks_host.specs.Cutting.{Falls}
use Rattle.lks_host.specs.Hosted.{StandsFor}
use Rattle.lks_host.specs.Journals.{journal_on}
use Rattle.lks_host.specs.Stepping.{IsWritten}
use Rattle.lks_law.specs.Batches.{with_batch}
use Rattle.lks_law.specs.Entries.{note_of, note_with}
use Rattle.lks_law.specs.Turning.{has_inner_in}
use Rattle.lks_world.proofs.Acting.{reacts, grown, more, noted}
use Rattle.lks_world.specs.Hosts.{peer_in, with_added}
use Rattle.lks_world.proofs.Fallen.{falls_whole}
use Rattle.lks_world.proofs.Stopped.{err_then}
use Rattle.lks_world.proofs.states.act_as.Goals as goal

pub returns-clause-sends : goal.returns-clause-sends
returns-clause-sends g c =
    let ready = c.requires.ready in
    let same = c.in-Ok.ensures.stepped.reaction
    ∙ reacts g.D.Disk.face c.args.host.now ready.batches ready.stands ready.written c.args.tick c.args.input.now
    in
    ap (λ (r : Reaction). r.sends) same

pub returns-clause-notes : goal.returns-clause-notes
returns-clause-notes g c =
    let laws = g.met.D.CrashDisk g.world.𝓛 g.world.𝓜 g.world.𝓡 ((λ s x. x), (λ x. x), (λ x. x), λ x. x) in
    let f = g.D.Disk.face in
    let h = c.args.host.now in
    let k = c.react.new.host in
    let ready = c.requires.ready in
    let r = c.in-Ok.reaction in
    let same = c.in-Ok.ensures.stepped.reaction
    ∙ reacts f h ready.batches ready.stands ready.written c.args.tick c.args.input.now in
    let written = subst (λ (x : Reaction). IsWritten h.peer.own h.peer.state x.records)
    (sym c.in-Ok.ensures.stepped.reaction) (c.in-Ok.ensures.read (λ e. absurd cc)) in
    c.in_ok-notes.ensures
    ∙ ap (filter_map (note_with (has_inner_in k.peer.state))) c.as_slice.ensures
    ∙ noted f h ready.batches ready.stands ready.written k r.records c.in-Ok.ensures.stepped.own
    (c.in-Ok.ensures.stands (laws.tells h.journal.disk) ready.batches ready.stands) written
    ∙ ap (λ (x : Reaction). filter_map (note_of (journal_on f h.journal.disk ++ x.records)) x.records) same

pub returns-clause-peer : goal.returns-clause-peer
returns-clause-peer g c =
    let laws = g.met.D.CrashDisk g.world.𝓛 g.world.𝓜 g.world.𝓡 ((λ s x. x), (λ x. x), (λ x. x), λ x. x) in
    let f = g.D.Disk.face in
    let h = c.args.host.now in
    let ready = c.requires.ready in
    let same = c.in-Ok.ensures.stepped.reaction
    ∙ reacts f h ready.batches ready.stands ready.written c.args.tick c.args.input.now in
    grown f h ready.batches ready.stands ready.written c.react.new.host c.in-Ok.reaction.records
    c.in-Ok.ensures.stepped.own (c.in-Ok.ensures.stands (laws.tells h.journal.disk) ready.batches ready.stands)
    ∙ ap (λ (x : Reaction). with_added (peer_in f h) x.records) same

pub returns-clause-on : goal.returns-clause-on
returns-clause-on g c =
    let laws = g.met.D.CrashDisk g.world.𝓛 g.world.𝓜 g.world.𝓡 ((λ s x. x), (λ x. x), (λ x. x), λ x. x) in
    let f = g.D.Disk.face in
    let h = c.args.host.now in
    let k = c.react.new.host in
    let ready = c.requires.ready in
    let stepped = c.in-Ok.ensures.stepped in
    let stands = c.in-Ok.ensures.stands (laws.tells h.journal.disk) in
    record {
      whole = λ e. stepped.broken;
      room = stepped.end;
      unfused = stepped.behaves.fused;
      pool = stepped.pool;
      stands = λ batches stood.
          subst (λ (rs : List Record). StandsFor f k (with_batch batches rs))
          (sym
          (more f h ready.batches ready.stands ready.written k c.in-Ok.reaction.records stepped.own
          (stands ready.batches ready.stands)))
          (stands batches stood);
    }

pub returns-in-Err-clause-falls : goal.returns-in-Err-clause-falls
returns-in-Err-clause-falls g c = λ batches stood.
    let laws = g.met.D.CrashDisk g.world.𝓛 g.world.𝓜 g.world.𝓡 ((λ s x. x), (λ x. x), (λ x. x), λ x. x) in
    let h = c.args.host.now in
    let ready = c.requires.ready in
    subst
    (λ (r : Reaction). Falls g.D.Disk.face batches (with_batch batches r.records) c.react.new.host.journal.disk)
    (reacts g.D.Disk.face h ready.batches ready.stands ready.written c.args.tick c.args.input.now)
    (record { leaves = (c.in-Err.ensures.adds (laws.tells h.journal.disk) batches stood).crash })

pub returns-in_err-notes-clause-falls : goal.returns-in_err-notes-clause-falls
returns-in_err-notes-clause-falls g c = λ batches stood.
    let laws = g.met.D.CrashDisk g.world.𝓛 g.world.𝓜 g.world.𝓡 ((λ s x. x), (λ x. x), (λ x. x), λ x. x) in
    let h = c.args.host.now in
    let ready = c.requires.ready in
    err_then c.from_residual.result
    (subst
    (λ (r : Reaction). Falls g.D.Disk.face batches (with_batch batches r.records) c.react.new.host.journal.disk)
    (c.in-Ok.ensures.stepped.reaction
    ∙ reacts g.D.Disk.face h ready.batches ready.stands ready.written c.args.tick c.args.input.now)
    (falls_whole g.D.Disk.face c.react.new.host batches (with_batch batches c.in-Ok.reaction.records)
    (c.in-Ok.ensures.stands (laws.tells h.journal.disk) batches stood)))
