-- A host before and after a step.
use Rattle.std.specs.Prelude.{◌≡◌, ◌≤◌, ◌+◌, ◌-◌, ℕ, false, List, Result, IfOk, OnOk}
use Rattle.lks_base.specs.declared.reactions.Reaction.{Reaction}
use Rattle.lks_disk.specs.Face.{Face}
use Rattle.lks_base.specs.declared.records.Record.{Record}
use Rattle.lks_host.specs.Behaving.{Behaves, CallsFor}
use Rattle.lks_host.specs.Bodies.{ReadBack}
use Rattle.lks_host.specs.Faults.{as_journal, is_refused}
use Rattle.lks_host.specs.Fits.{FitsBatch}
use Rattle.lks_host.specs.Hosted.{StandsFor}
use Rattle.lks_law.specs.Fitting.{AreFitting}
use Rattle.lks_law.specs.Polls.{Station}
use Rattle.lks_law.specs.State.{State, after_all}
use Rattle.lks_host.specs.declared.faults.HostFault.{HostFault}
use Rattle.lks_host.specs.declared.hosts.Host.{Host}

-- No call of the host was refused, its blocks are in this pool, there is room for one batch more, and it stands for
-- what its disk holds.
pub record CanStep {D : Type 0} (f : Face D) (pool : List ℕ) (host : Host D) : Type 0 where
  pub pooled : pool ≡ host.peer.pool
  pub whole : host.broken ≡ false
  pub room : 32768 ≤ 2147483647 - (host.journal.end + 1)
  pub stands : f.told host.journal.disk → (batches : List (List Record)) × StandsFor f host batches

-- The reaction is handed out once its records are in the peer's journal, and the peer is in the state that they make.
-- After a refusal the host is broken.
pub record Stepped {D : Type 0} (f : Face D) (old new : Host D) (r : Reaction)
    (result : Result Reaction HostFault) : Type 0 where
  pub reaction : IfOk result (λ x. x ≡ r)
  pub state : OnOk result (new.peer.state ≡ after_all old.peer.own old.peer.state r.records)
  pub own : new.peer.own ≡ old.peer.own
  pub pool : new.peer.pool ≡ old.peer.pool
  pub broken : new.broken ≡ is_refused result
  pub end : new.journal.end ≤ old.journal.end + 32768
  pub calls : CallsFor f old.journal new.journal r.records (as_journal result)
  pub behaves : Behaves f old.journal.disk new.journal.disk (as_journal result)

-- these records fit a batch, which reads back, and the state to which they are added
pub record IsWritten (own : Station) (s : State) (records : List Record) : Type 0 where
  pub batch : FitsBatch records
  pub read : ReadBack records
  pub fit : AreFitting own s records
