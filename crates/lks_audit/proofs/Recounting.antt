-- Votes that were counted elsewhere keep the hashes that a count here would keep.
use Rattle.std.proofs.Common.{◌≡◌, ◌∙◌, ap, sym, ℕ, true, List, refl, arith, length}
use Rattle.std.specs.Prelude.{if◌then◌else◌}
use Rattle.std.proofs.lemmas.Int.{clamps}
use Rattle.lks_audit.proofs.Counts.{verdict_is}
use Rattle.lks_audit.specs.Kept.{kept_tallied}
use Rattle.lks_audit.specs.Seen.{poll_of, IsOn}
use Rattle.lks_audit.specs.Tallying.{IsSameTally}
use Rattle.lks_law.specs.Polls.{Station}
use Rattle.lks_law.specs.Reacting.{verdict_of}
use Rattle.lks_law.specs.State.{Copy, blocks_at}
use Rattle.lks_poller.specs.Polling.{Polled}
use Rattle.lks_tally.specs.Counting.{verdict_on}
use Rattle.lks_tally.specs.Keeping.{kept_after}
use Rattle.lks_tally.specs.Running.{may_tally}
use Rattle.lks_tally.specs.declared.ballots.Verdict.{Verdict}
use Rattle.lks_tally.specs.declared.ballots.Verdict.TheVariants as verdict
use Rattle.lks_work.specs.declared.results.TallyDone.{TallyDone}

-- a second count keeps no more
counted_twice : (v : Verdict) (kept count : ℕ) → kept_after v (kept_after v kept count) count ≡ kept_after v kept count
counted_twice verdict.Inquorate kept count = refl
counted_twice verdict.Agreed kept count = refl
counted_twice (verdict.Loss b) kept count = omega (arith, clamps)
counted_twice (verdict.Split b) kept count = omega (arith, clamps)

module _ (own : Station) (copies : List Copy) (s : Polled) (done : TallyDone) (on : IsOn own.id copies s)
    (same : IsSameTally copies s done) where
  -- its verdict is that of the poll's votes
  told : done.verdict ≡ verdict_of own (poll_of s) (blocks_at s.tally.ballot.au copies)
  told =
      done.told
      ∙ (λ i. verdict_on (same.tally.1 i).quorum (same.tally.1 i).minority (same.tally.0 i) (same.tally.2 i)
      (same.blocks i))
      ∙ sym (verdict_is own (blocks_at s.tally.ballot.au copies) s on)

  pub kept_elsewhere : may_tally (poll_of s) ≡ true
      → kept_tallied own copies (poll_of s) done.job.tally.kept ≡ kept_tallied own copies (poll_of s) s.tally.kept
  kept_elsewhere ready =
      let blocks = blocks_at s.tally.ballot.au copies in
      let v = verdict_of own (poll_of s) blocks in
      let kept : done.job.tally.kept
      ≡ kept_after v s.tally.kept (length blocks) = same.kept
      ∙ (λ i. kept_after (told i) s.tally.kept (on.count i)) in
      ap (λ b. if b then kept_after v done.job.tally.kept (length blocks) else done.job.tally.kept) ready
      ∙ ap (λ k. kept_after v k (length blocks)) kept
      ∙ counted_twice v s.tally.kept (length blocks)
      ∙ sym (ap (λ b. if b then kept_after v s.tally.kept (length blocks) else s.tally.kept) ready)
