use Rattle.lks_peer.proofs.Knowing.{tied_replaced}
use Rattle.std.proofs.Common.{◌∙◌, ap, rules, refl}
use Rattle.std.specs.Prelude.{map}
use Rattle.lks_audit.specs.Kept.{kept_of, kept_before}
use Rattle.lks_peer.proofs.Counting.{kept_forgotten}
use Rattle.lks_peer.proofs.known.replace.Goals as goal

pub returns-clause-tied : goal.returns-clause-tied
returns-clause-tied g c id tied =
    tied_replaced id c.args.pool.now c.args.au c.args.block c.args.bytes.now c.args.known.now _ c.answer.new.self
    (search rules) c.in_ok-replace.ensures.of c.answer.ensures.on (search rules) refl refl tied

pub returns-clause-kept : goal.returns-clause-kept
returns-clause-kept g c =
    ap kept_of c.forget.ensures ∙ kept_forgotten c.args.au c.args.block c.answer.new.self
    ∙ ap (map (kept_before c.args.au c.args.block)) c.answer.ensures.kept
