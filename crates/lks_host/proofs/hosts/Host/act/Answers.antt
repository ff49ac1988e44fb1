use Rattle.std.proofs.Common.{◌≡◌, List, ap, subst, sym}
use Rattle.std.specs.Prelude.{Err}
use Rattle.lks_base.specs.declared.reactions.Reaction.{Reaction}
use Rattle.lks_base.specs.declared.records.Record.{Record}
use Rattle.lks_host.proofs.Fitting.{reaction_fits}
use Rattle.lks_host.proofs.Standing.{stands_after, read_more}
use Rattle.lks_host.specs.Bodies.{bodies_of, ReadBack}
use Rattle.lks_host.specs.Fits.{FitsBatch}
use Rattle.lks_host.specs.Stepping.{IsWritten}
use Rattle.lks_host.specs.declared.faults.HostFault.TheVariants.{Memory}
use Rattle.lks_host.specs.declared.hosts.Host.{Host}
use Rattle.lks_journal.specs.Settled.{IsSettled}
use Rattle.lks_law.specs.Batches.{with_batch}
use Rattle.lks_host.proofs.hosts.Host.act.Goals as goal

pub returns-in-Ok-keep-clause-stands : goal.returns-in-Ok-keep-clause-stands
returns-in-Ok-keep-clause-stands g c = λ told batches stood.
    let host : Host
    g.row.D.Denot = record {
      alloc = c.args.self.now.alloc;
      peer = c.answer.new.peer;
      journal = c.keep.new.journal;
      broken = c.args.self.now.broken;
    } in
    let records = c.in-Ok.reaction.records in
    stands_after g.D.Disk.face c.args.self.now host batches records stood c.in-Ok.ensures.own.0
    c.in-Ok.ensures.state c.in-Ok.ensures.fits
    (subst
    (λ (records : List Record). IsSettled g.D.Disk.face c.keep.new.journal
    (bodies_of (with_batch batches records))) c.as_slice.ensures
    (c.in-Ok-keep.ensures.adds told batches stood.disk).ok)
    (read_more batches records stood.read
    (subst ReadBack c.as_slice.ensures (c.in-Ok-keep.ensures.read (λ e. absurd cc))))

pub keep-requires-clause-fits : goal.keep-requires-clause-fits
keep-requires-clause-fits g c =
    subst FitsBatch (sym c.as_slice.ensures)
    (subst (λ (r : Reaction). FitsBatch r.records) (sym c.in-Ok.ensures.reaction)
    (reaction_fits c.args.self.now.peer.own c.args.self.now.peer.state c.in-Ok.ensures.fit c.args.tick
    c.args.input.now c.requires.heard))

pub returns-in-Ok-keep-clause-read : goal.returns-in-Ok-keep-clause-read
returns-in-Ok-keep-clause-read g c = λ fresh enough.
    subst (λ (r : Reaction). IsWritten c.args.self.now.peer.own c.args.self.now.peer.state r.records)
    c.in-Ok.ensures.reaction
    (record {
      batch = subst (λ (r : Reaction). FitsBatch r.records) (sym c.in-Ok.ensures.reaction)
          (reaction_fits c.args.self.now.peer.own c.args.self.now.peer.state c.in-Ok.ensures.fit c.args.tick
          c.args.input.now c.requires.heard);
      read = subst ReadBack c.as_slice.ensures (c.in-Ok-keep.ensures.read (λ e. absurd cc));
      fit = c.in-Ok.ensures.fits;
    })

pub returns-in-Err-clause-read : goal.returns-in-Err-clause-read
returns-in-Err-clause-read g c = λ fresh enough.
    subst (λ (r : Reaction). IsWritten c.args.self.now.peer.own c.args.self.now.peer.state r.records)
    c.in-Ok.ensures.reaction
    (record {
      batch = subst (λ (r : Reaction). FitsBatch r.records) (sym c.in-Ok.ensures.reaction)
          (reaction_fits c.args.self.now.peer.own c.args.self.now.peer.state c.in-Ok.ensures.fit c.args.tick
          c.args.input.now c.requires.heard);
      read =
          subst ReadBack c.as_slice.ensures
          (c.in-Err.ensures.read (λ e. let same : c.in-Err.fault ≡ Memory = cc in enough (ap Err same)));
      fit = c.in-Ok.ensures.fits;
    })
