use Rattle.std.proofs.Common.{arith, refl}
use Rattle.std.proofs.lemmas.Result.{err_from_is_err_and}
use Rattle.lks_outside.proofs.Progress.{keeps_written, writes_on, stops_writing, writes_none, wrote_all, no_bytes}
use Rattle.lks_outside.proofs.Progress.{some_bytes}
use Rattle.lks_outside.proofs.sinks.write_all.Goals as goal

pub returns-in_err-n-clause-part : goal.returns-in_err-n-clause-part
returns-in_err-n-clause-part g c =
    let p = err_from_is_err_and c.from_residual.result c.from_residual.ensures.1 in
    rw p.1 (λ bytes told.
    let written = c.turns.invariant.written bytes told in
    stops_writing _ _ _ _ (keeps_written _ _ _ _ _ written c.in_err-n.ensures.kept)
    (cc (c.turns-test.true, c.is_empty.ensures)))

pub returns-in_err-n-clause-empty : goal.returns-in_err-n-clause-empty
returns-in_err-n-clause-empty g c =
    λ none. some_bytes _ (cc (c.turns-test.true, c.is_empty.ensures)) (c.turns.invariant.empty none).0

pub returns-then-n-eq0-clause-part : goal.returns-then-n-eq0-clause-part
returns-then-n-eq0-clause-part g c = λ bytes told.
    let written = c.turns.invariant.written bytes told in
    stops_writing _ _ _ _ (writes_none _ _ _ _ _ _ written c.if-n-eq0.true (c.in_ok-n.ensures.took _ written.taken))
    (cc (c.turns-test.true, c.is_empty.ensures))

pub returns-then-n-eq0-clause-empty : goal.returns-then-n-eq0-clause-empty
returns-then-n-eq0-clause-empty g c =
    λ none. some_bytes _ (cc (c.turns-test.true, c.is_empty.ensures)) (c.turns.invariant.empty none).0

pub turns-preserved : goal.turns-preserved
turns-preserved g c = record {
  written =
      λ bytes told. let written = c.turns.invariant.written bytes told in
      writes_on _ _ _ _ _ _ _ written c.split_at.ensures.back (c.in_ok-n.ensures.took _ written.taken);
  empty = λ none. some_bytes _ (cc (c.turns-test.true, c.is_empty.ensures)) (c.turns.invariant.empty none).0;
  count = omega (arith, c.turns.invariant.count, c.in_ok-n.ensures.count);
}

pub returns-clause-whole : goal.returns-clause-whole
returns-clause-whole g c =
    λ bytes told. wrote_all _ _ _ _ (c.turns.invariant.written bytes told)
    (no_bytes _ (cc (c.turns-test.false, c.is_empty.ensures)))

pub returns-clause-empty : goal.returns-clause-empty
returns-clause-empty g c = λ none. (refl, (c.turns.invariant.empty none).1)
