use Rattle.std.proofs.Common.{◌∙◌, length, refl, sym}
use Rattle.std.proofs.lemmas.Option.{slice_get_read}
use Rattle.lks_world.proofs.GivingLaws.{left_here, left_later}
use Rattle.lks_world.proofs.Places.{none_from}
use Rattle.lks_world.proofs.giving.work_left.Goals as goal

pub returns-in-Some-clause-first : goal.returns-in-Some-clause-first
returns-in-Some-clause-first g c =
    left_here c.args.out.now c.args.sites.now c.loop-place.place c.index-sites-place.result c.work_left.result
    c.in-Some.name c.loop-place-test.true c.index-sites-place.is c.work_left.ensures c.in-Some.is
    ∙ c.loop-place.invariant

pub returns-in-Some-clause-there : goal.returns-in-Some-clause-there
returns-in-Some-clause-there g c = (
  c.index-sites-place.result,
  slice_get_read c.args.sites.now (length c.args.sites.now) c.loop-place.place c.index-sites-place.result refl
      c.loop-place-test.true c.index-sites-place.is,
  sym c.work_left.ensures ∙ c.in-Some.is,
)

pub loop-place-preserved : goal.loop-place-preserved
loop-place-preserved g c =
    left_later c.args.out.now c.args.sites.now c.loop-place.place c.index-sites-place.result c.work_left.result
    c.loop-place-test.true c.index-sites-place.is c.work_left.ensures
    (none_from c.work_left.result c.in_default.not-Some)
    ∙ c.loop-place.invariant
