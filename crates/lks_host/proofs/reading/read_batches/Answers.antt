use Rattle.std.proofs.Common.{◌≡◌, ◌<◌, ◌+◌, ◌∙◌, ap, sym, subst, ℕ, List, ◌∷◌, length, drop, arith, rules}
use Rattle.std.specs.Prelude.{OnOk}
use Rattle.std.proofs.Math.Seq.{drop-length}
use Rattle.lks_base.specs.declared.records.Record.{Record}
use Rattle.lks_host.proofs.ReadingBack.{read_next, read_last, read_ends, next_body}
use Rattle.lks_host.specs.Bodies.{with_front, records_of}
use Rattle.lks_record.specs.Reading.{decode_of, Gives}
use Rattle.lks_host.proofs.reading.read_batches.Goals as goal

pub returns-in_err-batch : goal.returns-in_err-batch
returns-in_err-batch c =
    let i = c.loop-body.body-index in
    let lt : i < length c.args.bodies.now = omega arith in
    let at : drop i c.args.bodies.now
    ≡ c.body-item.result
    ∷ drop (i + 1) c.args.bodies.now = next_body c.args.bodies.now i c.body-item.result lt c.body-item.is in
    let same : c.from_residual.result ≡ c.decode_batch.result = search rules in
    let never : OnOk c.decode_batch.result ⊥ = search rules in
    subst (λ r. Gives (λ list. list.items) r (records_of c.args.bodies.now)) (sym same)
    (read_ends (λ list. list.items) c.decode_batch.result c.loop-body.list.items c.body-item.result
    (drop (i + 1) c.args.bodies.now) c.args.bodies.now never
    (subst (λ (b : List ℕ). Gives (λ list. list.items) c.decode_batch.result (decode_of b)) c.as_slice.ensures
    c.decode_batch.ensures.exact)
    (ap (λ (l : List (List ℕ)). with_front c.loop-body.list.items (records_of l)) (sym at) ∙ c.loop-body.invariant))

pub loop-body-preserved : goal.loop-body-preserved
loop-body-preserved c =
    let i = c.loop-body.body-index in
    let lt : i < length c.args.bodies.now = omega arith in
    let at : drop i c.args.bodies.now
    ≡ c.body-item.result
    ∷ drop (i + 1) c.args.bodies.now = next_body c.args.bodies.now i c.body-item.result lt c.body-item.is in
    let read = ap decode_of (sym c.as_slice.ensures) ∙ c.in_ok-batch.ensures.exact in
    ap (λ (l : List Record). with_front l (records_of (drop (i + 1) c.args.bodies.now))) c.in_ok-append.ensures.items
    ∙ sym
    (read_next c.loop-body.list.items c.in_ok-batch.batch.items c.body-item.result
    (drop (i + 1) c.args.bodies.now) read)
    ∙ ap (λ (l : List (List ℕ)). with_front c.loop-body.list.items (records_of l)) (sym at) ∙ c.loop-body.invariant

pub returns : goal.returns
returns c =
    let e : c.loop-body.body-index ≡ length c.args.bodies.now = omega arith in
    sym c.loop-body.invariant
    ∙ ap (λ (l : List (List ℕ)). with_front c.loop-body.list.items (records_of l))
    (ap (λ (n : ℕ). drop n c.args.bodies.now) e ∙ drop-length c.args.bodies.now)
    ∙ read_last c.loop-body.list.items
