-- A vote is borne out where it is over the version to which its voter's journal commits it.
use Rattle.std.proofs.Common.{◌≡◌, ◌∙◌, ap, Bool, true, false, cond, List, refl}
use Rattle.std.specs.Prelude.{ℕ, Option, Some, None, ◌==◌, ◌&&◌}
use Rattle.lks_base.specs.declared.plans.AuPlan.{AuPlan}
use Rattle.lks_base.specs.declared.records.Record.{Record}
use Rattle.lks_law.specs.Journal.{contents_at}
use Rattle.lks_law.specs.Sessions.{Commitment, commitment_of}
use Rattle.lks_tally.specs.declared.ballots.Ballot.{Ballot}
use Rattle.lks_tally.specs.declared.ballots.Vote.{Vote}
use Rattle.lks_evidence.specs.Records.{commitments}
use Rattle.lks_evidence.specs.Recounts.{version_if, version_of}
use Rattle.lks_evidence.specs.Rules.{is_deposited, is_joined, is_for, is_over, is_committed, bears_out}

abbrev over_if : Ballot → Vote → Option (List (List ℕ)) → Bool
over_if q v None = false
over_if q v (Some blocks) = is_over q blocks v

module _ (aus : List AuPlan) (q : Ballot) (journal : List Record) (v : Vote) where
  by_version : over_if q v (version_of aus q journal) ≡ bears_out aus q journal v
  unfolding version_of bears_out is_committed
  by_version =
      by_tests (is_deposited aus q.au journal) (is_joined q journal) (commitments q.poll journal == 1)
      (commitment_of q.poll journal)
    where
      by_for : (c : Commitment) (t : Bool)
          → over_if q v (cond t (Some (contents_at q.au c.version journal)) None)
          ≡ (t && is_over q (contents_at q.au c.version journal) v)
      by_for c true = refl
      by_for c false = refl

      by_tests : (a b d : Bool) (o : Option Commitment)
          → over_if q v (cond (a && (b && d)) (version_if q journal o) None)
          ≡ (a && (b && (d && is_committed q journal v o)))
      by_tests true true true None = refl
      by_tests true true true (Some c) = by_for c (is_for q journal c)
      by_tests true true false o = refl
      by_tests true false d o = refl
      by_tests false b d o = refl

  pub borne : (blocks : List (List ℕ)) → Some blocks ≡ version_of aus q journal
      → is_over q blocks v ≡ bears_out aus q journal v
  borne blocks e = ap (over_if q v) e ∙ by_version

  pub not_borne : None ≡ version_of aus q journal → false ≡ bears_out aus q journal v
  not_borne e = ap (over_if q v) e ∙ by_version
