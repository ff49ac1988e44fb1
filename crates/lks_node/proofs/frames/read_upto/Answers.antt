use Rattle.std.proofs.Common.{◌≡◌, length, vec_len, rules, arith}
use Rattle.lks_node.proofs.HowFar.{reads_on, reads_all, reads_none}
use Rattle.lks_node.proofs.frames.read_upto.Goals as goal

pub turns-preserved : goal.turns-preserved
turns-preserved g c = record {
  within = c.in_ok-n.ensures.most;
  read =
      λ bytes told. let read = c.turns.invariant.read bytes told in
      reads_on c.in_ok-n.n _ _ _ _ _ read (c.in_ok-n.ensures.gave read.rest read.left);
  count = omega (arith, c.turns.invariant.count, c.in_ok-n.ensures.count);
}

pub returns-then-n-eq0-clause-gave : goal.returns-then-n-eq0-clause-gave
returns-then-n-eq0-clause-gave g c = λ bytes told.
    let read = c.turns.invariant.read bytes told in
    let same : vec_len c.read_more.new.out ≡ length c.read_more.new.out.items = search rules in
    reads_none c.args.most c.in_ok-n.n _ _ _ _ _ read c.if-n-eq0.true (c.in_ok-n.ensures.gave read.rest read.left)
    (omega (arith, same, c.in_ok-n.ensures.most))

pub returns-clause-gave : goal.returns-clause-gave
returns-clause-gave g c = λ bytes told.
    let read = c.turns.invariant.read bytes told in
    let all : length c.turns.out.items ≡ c.args.most = search rules in
    reads_all c.args.most _ _ _ read all
