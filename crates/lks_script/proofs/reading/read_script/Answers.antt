use Rattle.std.proofs.Common.{◌≡◌, refl, sym, ap, subst, ◌∙◌, arith}
use Rattle.lks_script.specs.Grammar.{Answers, end_in, lines_in, script_of}
use Rattle.lks_script.proofs.Lines.{goes_on, is_bad, comes_to_end}
use Rattle.lks_script.proofs.Sound.{plan_is_good, steps_are_good}
use Rattle.lks_script.proofs.reading.read_script.Goals as goal

pub lines-init : goal.lines-init
unfolding script_of
lines-init c = (refl, omega arith)

pub returns-in-Err-Bad-clause-exact : goal.returns-in-Err-Bad-clause-exact
returns-in-Err-Bad-clause-exact c =
    rw c.bad_line.ensures
    (sym c.lines.invariant.0 ∙ ap (lines_in c.lines.line c.lines.draft) c.in-Some.ensures.some
    ∙ is_bad c.lines.line c.lines.draft c.in-Some.row.now c.in-Some.more.now
    (rw c.in-Err-Bad.field-0-is at c.in-Err-Bad.ensures))

pub lines-preserved : goal.lines-preserved
lines-preserved c = (
  sym (goes_on c.lines.line c.lines.draft c.in-Ok.longer c.in-Some.row.now c.in-Some.more.now c.in-Ok.ensures)
      ∙ sym (ap (lines_in c.lines.line c.lines.draft) c.in-Some.ensures.some) ∙ c.lines.invariant.0,
  omega (arith, c.in-Some.ensures.less),
)

pub returns : goal.returns
returns c =
    let whole : end_in c.lines.line c.lines.draft c.lines.rest.now ≡ script_of c.args.bytes.now =
    sym (comes_to_end c.lines.line c.lines.draft c.lines.rest.now)
    ∙ sym (ap (lines_in c.lines.line c.lines.draft) c.in_default.ensures.none) ∙ c.lines.invariant.0 in
    let exact : Answers c.finish.result (script_of c.args.bytes.now) = subst (λ said. Answers c.finish.result said)
    whole c.finish.ensures in
    record {
      exact = exact;
      good = plan_is_good c.finish.result c.args.bytes.now exact;
      steps = steps_are_good c.finish.result c.args.bytes.now exact;
    }
