-- Results of jobs and the steps for which they were made.
use Rattle.std.proofs.Common.{◌≡◌, ◌∙◌, ap, sym, subst, refl, ℕ, List}
use Rattle.std.specs.Prelude.{Option, Some, None, IfSome, Result}
use Rattle.lks_base.specs.declared.events.Due.{Due}
use Rattle.lks_base.specs.declared.events.Due.TheVariants as dues
use Rattle.lks_base.specs.declared.events.Envelope.{Envelope}
use Rattle.lks_base.specs.declared.events.PeerStep.{PeerStep}
use Rattle.lks_blocks.specs.Block.{AllOf}
use Rattle.lks_disk.specs.Face.{Face}
use Rattle.lks_host.specs.Hosted.{StandsFor}
use Rattle.lks_host.specs.Stepping.{CanStep, Stepped}
use Rattle.lks_host.specs.Working.{IsResultOf}
use Rattle.lks_host.specs.declared.faults.HostFault.{HostFault}
use Rattle.lks_host.specs.declared.hosts.Host.{Host}
use Rattle.lks_base.specs.declared.reactions.Input.{Input}
use Rattle.lks_base.specs.declared.reactions.Reaction.{Reaction}
use Rattle.lks_base.specs.declared.records.Record.{Record}
use Rattle.lks_law.specs.Table.{react_on}
use Rattle.lks_law.specs.World.{Deed, deed_of, own_deed_of}
use Rattle.lks_work.specs.Names.{name_done, refs_done, step_named}
use Rattle.lks_work.specs.declared.jobs.JobName.{JobName}
use Rattle.lks_work.specs.declared.results.JobDone.{JobDone}
use Rattle.lks_work.specs.declared.results.JobDone.TheVariants as results
use Rattle.lks_world.specs.Beside.{IsFor, IsForDue}

-- the input of the step that was worked for
named : (pool : List ℕ) (bag : List Envelope) (d : JobDone) → AllOf pool (refs_done d)
    → IfSome (deed_of bag (step_named (name_done d))) (λ x. IsResultOf pool x.input d)
unfolding deed_of own_deed_of
named pool bag (results.Vote done) of = record { of = of; work = refl }
named pool bag (results.Tally done) of = record { of = of; work = refl }

nothing_done : (pool : List ℕ) (deed : Option Deed) → IfSome deed (λ x. IfSome None (IsResultOf pool x.input))
nothing_done pool None = tt
nothing_done pool (Some x) = tt

-- a result for a step is one of what the step is to its peer
pub result_of_step : (pool : List ℕ) (bag : List Envelope) (s : PeerStep) (o : Option JobDone) (deed : Option Deed)
    → deed ≡ deed_of bag s → IfSome o (IsFor pool s) → IfSome deed (λ x. IfSome o (IsResultOf pool x.input))
result_of_step pool bag s None deed is for = nothing_done pool deed
result_of_step pool bag s (Some d) deed is for =
    subst (λ (x : Option Deed). IfSome x (λ y. IsResultOf pool y.input d)) (sym (is ∙ ap (deed_of bag) for.step))
    (named pool bag d for.of)

-- and one that is named as it is
pub result_named : (pool : List ℕ) (due : Due) (name : JobName) (o : Option JobDone)
    → due ≡ dues.Own (step_named name) → IfSome o (λ d. name_done d ≡ name)
    → IfSome o (λ d. AllOf pool (refs_done d)) → IfSome o (IsForDue pool due)
result_named pool due name None is named of = tt
result_named pool due name (Some d) is named of =
    record { of = of; work = is ∙ ap (λ n. dues.Own (step_named n)) (sym named) }

-- A host that told a place is as it was.
module _ {D : Type 0} (f : Face D) (old mid new : Host D) where
  abbrev told_host : Host D
  told_host = record old { peer = record old.peer { places = mid.peer.places } }

  stands_told : (batches : List (List Record)) → StandsFor f old batches → StandsFor f told_host batches
  stands_told batches stands = record { state = stands.state; disk = stands.disk; read = stands.read; fit = stands.fit }

  pub told_can : (pool : List ℕ) → mid ≡ told_host → CanStep f pool old → CanStep f pool mid
  told_can pool same can = subst (CanStep f pool) (sym same) (record {
    pooled = can.pooled;
    whole = can.whole;
    room = can.room;
    stands = λ told. let is = can.stands told in (is.0, stands_told is.0 is.1);
  })

  pub told_stepped : (tick : ℕ) (input : Input) (result : Result Reaction HostFault) → mid ≡ told_host
      → Stepped f mid new (react_on mid.peer.own mid.peer.state tick input) result
      → Stepped f old new (react_on old.peer.own old.peer.state tick input) result
  told_stepped tick input result same stepped =
      let s = subst (λ h. Stepped f h new (react_on h.peer.own h.peer.state tick input) result) same stepped in
      record {
        reaction = s.reaction;
        state = s.state;
        own = s.own;
        pool = s.pool;
        broken = s.broken;
        end = s.end;
        calls = s.calls;
        behaves = s.behaves;
      }

  -- what holds of it holds of it as it was
  pub told_stands : (P : Host D → List (List Record) → Type 0) → mid ≡ told_host
      → ((batches : List (List Record)) → P told_host batches → P old batches)
      → (f.told mid.journal.disk → (batches : List (List Record)) → StandsFor f mid batches → P mid batches)
      → f.told old.journal.disk → (batches : List (List Record)) → StandsFor f old batches → P old batches
  told_stands P same back holds told batches stands =
      back batches
      (subst (λ h. f.told h.journal.disk → (bs : List (List Record)) → StandsFor f h bs → P h bs) same holds
      told batches (stands_told batches stands))
