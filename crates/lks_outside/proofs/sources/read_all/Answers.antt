use Rattle.std.proofs.Common.{◌≡◌, ◌-◌, length, vec_len, rules, arith, ap}
use Rattle.std.proofs.lemmas.Result.{err_from_is_err_and}
use Rattle.lks_outside.proofs.Progress.{reads_on, ends_read, stops_reading}
use Rattle.lks_outside.proofs.sources.read_all.Goals as goal

pub returns-in_err-n-clause-ends : goal.returns-in_err-n-clause-ends
returns-in_err-n-clause-ends g c =
    let p = err_from_is_err_and c.from_residual.result c.from_residual.ensures.1 in
    rw (p.1, p.2) (λ bytes told.
    let read = c.turns.invariant.read bytes told in
    stops_reading c.args.most (vec_len c.turns.out) _ c.read_more.new.out.items _ _ _ _ read (search rules)
    c.turns.invariant.within (c.in_err-n.ensures.ends read.rest read.left))

pub returns-then-n-eq0-clause-ends : goal.returns-then-n-eq0-clause-ends
returns-then-n-eq0-clause-ends g c = λ bytes told.
    let read = c.turns.invariant.read bytes told in
    let done = ends_read (c.args.most - vec_len c.turns.out) _ _ _ _ _ _ read c.if-n-eq0.true
    (c.in_ok-n.ensures.ends read.rest read.left) in
    let length_is : vec_len c.read_more.new.out ≡ length c.read_more.new.out.items = search rules in
    (done.0, omega (arith, ap length done.0, c.in_ok-n.ensures.most), done.1)

pub turns-preserved : goal.turns-preserved
turns-preserved g c = record {
  within = c.in_ok-n.ensures.most;
  read =
      λ bytes told. let read = c.turns.invariant.read bytes told in
      reads_on (c.args.most - vec_len c.turns.out) _ _ _ _ _ _ read (c.in_ok-n.ensures.ends read.rest read.left);
  count = omega (arith, c.turns.invariant.count, c.in_ok-n.ensures.count);
}
