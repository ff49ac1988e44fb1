use Rattle.lockss.proofs.ToldAgain.{is_said}
use Rattle.lockss.proofs.runs.obey_play.Goals as goal

pub play-played-requires-clause-said : goal.play-played-requires-clause-said
play-played-requires-clause-said g c κs within =
    is_said c.args.told c.in-Ok.script c.in-Ok.ensures.finds.bytes c.in-Ok.ensures.finds.script
