use Rattle.std.specs.Prelude.{IsPermutation}
use Rattle.std.proofs.Common.{◌≡◌, ℕ, List, [], ◌++◌, map, length, sym, ap, ◌∙◌, subst, append-nil, arith, rules}
use Rattle.lks_farm.specs.declared.rule.View.{View}
use Rattle.lks_farm.specs.Seats.{HandSeen}
use Rattle.lks_farm.specs.Sharing.{view_knowing}
use Rattle.lks_farm.proofs.Moves.{moment_count, moment_end}
use Rattle.lks_farm.proofs.queues.Queue.drain.Goals as goal

as_whole : (v : View) → v.parts ≡ 128 → v ≡ view_knowing 128 v.pool v.put (v.got ++ [])
as_whole v all = ap (λ (n : ℕ). view_knowing n v.pool v.put v.got) all
    ∙ ap (view_knowing 128 v.pool v.put) (sym (append-nil v.got))

pub loop-init : goal.loop-init
loop-init g c =
    let old = c.args.hand.now.knows in
    let same : c.count-count.new.hand.knows ≡ old = ap (λ (h : HandSeen). h.knows) c.count-count.ensures.same in
    let count = moment_count c.count-count.result old c.requires.whole c.count-count.ensures.count in
    record {
      of = search rules;
      got =
          same ∙ as_whole old c.requires.whole
          ∙ ap (λ (l : List _). view_knowing 128 old.pool old.put (old.got ++ map g.T.Entries.entry l))
          (sym c.requires.empty);
      left = omega (arith, count, ap (λ (v : View). length v.got) same);
      many = ap (λ (l : List _). length l) c.requires.empty;
      room = omega arith;
    }

pub unreachable-requires : goal.unreachable-requires
unreachable-requires g c =
    let i = c.loop.invariant in
    let old = c.args.hand.now.knows in
    let v = c.loop.hand.knows in
    let w : View = view_knowing 128 old.pool old.put (old.got ++ map g.T.Entries.entry c.loop.out.items) in
    let count = moment_count 0 v (ap (λ (u : View). u.parts) {y = w} i.got) c.in-None.ensures.none.1 in
    omega (arith, count, ap (λ (u : View). length u.put) {y = w} i.got, i.left)

pub returns : goal.returns
returns g c =
    let i = c.loop.invariant in
    let old = c.args.hand.now.knows in
    let v = c.loop.hand.knows in
    let w : View = view_knowing 128 old.pool old.put (old.got ++ map g.T.Entries.entry c.loop.out.items) in
    let put : length v.put ≡ length old.put = ap (λ (u : View). length u.put) {y = w} i.got in
    let whole = moment_end c.count-left.result v (ap (λ (u : View). u.parts) {y = w} i.got)
    c.count-left.ensures.count (omega (arith, put, i.left)) in
    subst (λ (u : View). IsPermutation u.put u.got) {y = w} i.got whole
