use Rattle.std.proofs.Common.{◌≡◌, ◌∙◌, ◌++◌, ◌∷◌, [], ap, sym, subst, refl}
use Rattle.std.specs.Prelude.{Some, None, find, option_map, slice_get}
use Rattle.std.specs.List.{flat_map}
use Rattle.lks_watch.specs.Watching.{ears}
use Rattle.lks_work.specs.Names.{is_left, name_of, step_named}
use Rattle.lks_world.proofs.GivingLaws.{job_there, left_ready, none_left, ready_site}
use Rattle.lks_world.proofs.Places.{none_from}
use Rattle.lks_world.proofs.SameSites.{same_pooled}
use Rattle.lks_world.proofs.Turned.{kept_refused, kept_still, seen_still}
use Rattle.lks_world.specs.Giving.{site_works, AreWorksOut, HandsOut, HasTurn}
use Rattle.lks_world.specs.Worlds.{Seen, seen_in}
use Rattle.lks_world.proofs.worlds.World.give_work.Goals as goal

pub returns-in_default-clause-gives : goal.returns-in_default-clause-gives
returns-in_default-clause-gives g c =
    let a = c.self.inside in
    let runs : a.stopped
    ≡ None = ap (λ (v : Seen g.row.D.Denot g.row.J.Denot g.row.B.Denot). v.stopped) c.self.view_is
    ∙ c.requires.running in
    let none : find (is_left a.out.items) (flat_map site_works a.state.sites.items) ≡ None =
    (λ i. find (is_left (sym c.as_slice.ensures.value i)) (flat_map site_works (sym c.deref.ensures.value i)))
    ∙ sym c.work_left.ensures.first
    ∙ ap (option_map (λ r. r.1)) (none_from c.work_left.result c.in_default.not-Some) in (
      refl,
      subst (λ (v : Seen g.row.D.Denot g.row.J.Denot g.row.B.Denot). AreWorksOut v) c.self.view_is
          (none_left g.D.Disk.face a.plan a.state (c.self.invariant.state runs) a.out.items none),
    )

pub hand_out-requires : goal.hand_out-requires
hand_out-requires g c =
    let a = c.self.inside in
    let runs : a.stopped
    ≡ None = ap (λ (v : Seen g.row.D.Denot g.row.J.Denot g.row.B.Denot). v.stopped) c.self.view_is
    ∙ c.requires.running in
    let site = c.in-Some.ensures.there in
    let there = subst (λ ss. slice_get ss c.in-Some.place ≡ Some site.0) c.deref.ensures.value site.1 in
    record {
      ready = (
        site.0,
        there,
        ready_site g.D.Disk.face a.plan a.state (c.self.invariant.state runs) c.as_slice.result.now c.in-Some.name
            c.in-Some.place site.0 there site.2,
      );
    }

pub invariant_of-self : goal.invariant_of-self
invariant_of-self g c =
    let a = c.self.inside in
    let runs : a.stopped
    ≡ None = ap (λ (v : Seen g.row.D.Denot g.row.J.Denot g.row.B.Denot). v.stopped) c.self.view_is
    ∙ c.requires.running in
    kept_still g.D.Disk.face (ears g.J.EffortJudge.heard g.J.EffortJudge.verdict g.B.Bell.rung g.B.Bell.limit) a
    c.self.invariant runs c.hand_out.new.sites c.hand_out.new.out c.in-Ok.ensures.same

pub invariant_of-self-in-Err : goal.invariant_of-self-in-Err
invariant_of-self-in-Err g c =
    let a = c.self.inside in
    let runs : a.stopped
    ≡ None = ap (λ (v : Seen g.row.D.Denot g.row.J.Denot g.row.B.Denot). v.stopped) c.self.view_is
    ∙ c.requires.running in
    kept_refused g.D.Disk.face (ears g.J.EffortJudge.heard g.J.EffortJudge.verdict g.B.Bell.rung g.B.Bell.limit) a
    c.self.invariant runs c.hand_out.new.sites c.hand_out.new.out c.in-Err.ensures.same

pub returns-in-Ok-clause-gives : goal.returns-in-Ok-clause-gives
returns-in-Ok-clause-gives g c =
    let f = g.D.Disk.face in
    let a = c.self.inside in
    let kept = c.self.invariant in
    let runs : a.stopped
    ≡ None = ap (λ (v : Seen g.row.D.Denot g.row.J.Denot g.row.B.Denot). v.stopped) c.self.view_is
    ∙ c.requires.running in
    let j = c.in-Ok.job in
    let named : name_of j ≡ c.in-Some.name = c.in-Ok.ensures.name in
    let found : find (is_left a.out.items) (flat_map site_works a.state.sites.items) ≡ Some c.in-Some.name =
    (λ i. find (is_left (sym c.as_slice.ensures.value i)) (flat_map site_works (sym c.deref.ensures.value i)))
    ∙ sym c.work_left.ensures.first ∙ ap (option_map (λ r. r.1)) c.in-Some.is in
    let left = left_ready f a.plan a.state (kept.state runs) a.out.items c.in-Some.name found in
    let site = c.in-Some.ensures.there in
    let there = subst (λ ss. slice_get ss c.in-Some.place ≡ Some site.0) c.deref.ensures.value site.1 in
    subst
    (λ (v : Seen g.row.D.Denot g.row.J.Denot g.row.B.Denot). HandsOut j v
    (seen_in
    (record a { state = record a.state { sites = c.hand_out.new.sites }; out = c.hand_out.new.out })))
    c.self.view_is
    (record {
      place = left.0;
      ready = left.1 ∙ ap (λ n. Some (step_named n)) (sym named);
      left = ap (is_left a.out.items) named ∙ left.2;
      turn =
          subst (λ (v : Seen g.row.D.Denot g.row.J.Denot g.row.B.Denot). HasTurn v) (sym c.self.view_is)
          c.requires.turn;
      job =
          job_there f a.plan a.state (kept.state runs) c.in-Some.name c.in-Some.place site.0 j there named
          (c.in-Ok.ensures.job site.0 there);
      of = c.in-Ok.ensures.of a.state.pool.now (same_pooled f a.plan a.state (kept.state runs));
      same =
          seen_still f (ears g.J.EffortJudge.heard g.J.EffortJudge.verdict g.B.Bell.rung g.B.Bell.limit) a kept runs
          c.hand_out.new.sites c.hand_out.new.out c.in-Ok.ensures.same
          ∙ ap (λ o. record (seen_in a) { out = o })
          (c.in-Ok.ensures.out ∙ ap (λ n. a.out.items ++ n ∷ []) (sym named));
    })
