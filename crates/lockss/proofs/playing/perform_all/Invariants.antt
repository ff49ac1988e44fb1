use Rattle.std.proofs.Common.{◌≡◌, true, List, drop}
use Rattle.std.specs.Prelude.{Option, None}
use Rattle.lks_base.specs.declared.events.Event.{Event}
use Rattle.lks_base.specs.declared.events.PeerStep.{PeerStep}
use Rattle.lks_script.specs.StepRules.{are_steps_of}
use Rattle.lks_watch.specs.Watching.{Watches, ears, watching}
use Rattle.lks_world.specs.Counts.{ServesHonest}
use Rattle.lks_world.specs.Follows.{Follows, FollowsUpTo}
use Rattle.lks_world.specs.Spending.{AreSpent, AreSpentUpTo}
use Rattle.lks_world.specs.Worlds.{Remembers}
use Rattle.lks_world.specs.declared.faults.WorldFault.{WorldFault}
use Rattle.lockss.specs.Playing.{CountsPower}
use Rattle.lockss.proofs.playing.perform_all.Given as goal

abbrev pub invariant-loop-step : goal.invariant-loop-step
invariant-loop-step g l = record {
  plan : l.world.plan ≡ l.fn.world.plan;
  remembers : Remembers l.fn.world l.world;
  turns : l.world.turns ≡ l.fn.world.turns;
  running : l.world.stopped ≡ None;
  legal : are_steps_of l.fn.world.plan (drop l.step-index l.steps) ≡ true;
  follows : (after : List Event)
      → Follows (g.J.EffortJudge.verdict l.fn.world.judge) l.fn.world.plan l.world.history
      (drop l.step-index l.steps) after
      → Follows (g.J.EffortJudge.verdict l.fn.world.judge) l.fn.world.plan l.fn.world.history l.steps after;
  up_to : (after : List Event) (next : Option PeerStep)
      → FollowsUpTo (g.J.EffortJudge.verdict l.fn.world.judge) l.fn.world.plan l.world.history
      (drop l.step-index l.steps) after next
      → FollowsUpTo (g.J.EffortJudge.verdict l.fn.world.judge) l.fn.world.plan l.fn.world.history l.steps after next;
  watches : Watches l.fn.world.plan l.fn.world.history l.world.history
      (watching (ears g.J.EffortJudge.heard g.J.EffortJudge.verdict g.B.Bell.rung g.B.Bell.limit) l.fn.world.judge
      l.fn.world.bells)
      (watching (ears g.J.EffortJudge.heard g.J.EffortJudge.verdict g.B.Bell.rung g.B.Bell.limit) l.world.judge
      l.world.bells);
  serves : ServesHonest g.D.Disk.face l.fn.world.plan.peers l.fn.world.disks l.world.disks None;
  power : CountsPower g.D.Disk.face l.fn.world l.world None;
  spent : (after : List Event) (disks : List g.row.D.Denot)
      → AreSpent g.D.Disk.face (g.J.EffortJudge.verdict l.fn.world.judge) l.fn.world.plan l.world.history
      l.world.disks (drop l.step-index l.steps) after disks
      → AreSpent g.D.Disk.face (g.J.EffortJudge.verdict l.fn.world.judge) l.fn.world.plan l.fn.world.history
      l.fn.world.disks l.steps after disks;
  spent_up_to : (fault : WorldFault) (after : List Event) (disks : List g.row.D.Denot)
      → AreSpentUpTo g.D.Disk.face (g.J.EffortJudge.verdict l.fn.world.judge) l.fn.world.plan l.world.history
      l.world.disks (drop l.step-index l.steps) fault after disks
      → AreSpentUpTo g.D.Disk.face (g.J.EffortJudge.verdict l.fn.world.judge) l.fn.world.plan l.fn.world.history
      l.fn.world.disks l.steps fault after disks;
}
