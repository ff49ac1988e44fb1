use Rattle.std.proofs.Common.{◌∙◌, ap, sym, arith}
use Rattle.std.specs.Prelude.{Some}
use Rattle.lks_base.specs.declared.events.PeerStep.TheVariants as step
use Rattle.lks_base.specs.declared.names.PollName.{PollName}
use Rattle.lks_sessions.proofs.Keyed.{work_within}
use Rattle.lks_sessions.proofs.sessions.ready_among.Goals as goal
use Rattle.lks_sessions.specs.declared.stages.PinnedSession.{PinnedSession}
use Rattle.lks_voter.specs.States.{Joining}

pub returns : goal.returns
returns c =
    ap (λ (q : PollName). Some (step.Work c.args.id q)) (c.poll.ensures ∙ ap (λ (k : Joining). k.poll) c.joined.ensures)
    ∙ (ap (λ (p : PinnedSession). Some (step.Work c.args.id p.committed.joined.poll)) (sym c.index-pinned-k.is)
    ∙ sym (work_within c.args.id c.args.pinned.now c.args.k c.index-pinned-k.result (omega arith) c.index-pinned-k.is))
