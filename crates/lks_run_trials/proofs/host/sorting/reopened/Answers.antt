use Rattle.lks_run_trials.proofs.host.sorting.reopened.Goals as goal

pub returns-in-Ok : goal.returns-in-Ok
returns-in-Ok g c = record {
  end = c.in-Ok.ensures.end;
  settled = λ told. c.in-Ok.ensures.settled (c.in-Ok.ensures.called.told.1 told);
}
