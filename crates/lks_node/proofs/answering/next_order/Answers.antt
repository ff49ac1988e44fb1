use Rattle.std.proofs.Common.{subst}
use Rattle.lks_node.specs.Framing.{frame_of, IsFound}
use Rattle.lks_node.specs.declared.answering.TheConstants.{MOST_BODY}
use Rattle.lks_node.specs.declared.frames.Frame.{Frame}
use Rattle.lks_node.proofs.FrameLaws.{ended_none}
use Rattle.lks_node.proofs.answering.next_order.Goals as goal

pub returns-in-Ok-End-clause-found : goal.returns-in-Ok-End-clause-found
returns-in-Ok-End-clause-found g c = λ bytes told.
    ended_none MOST_BODY bytes
    (subst (λ (x : Frame). IsFound (frame_of MOST_BODY bytes) (g.S.Source.left c.read_frame.new.source) x)
    c.in-Ok-End.field-0-is (c.in-Ok-End.ensures.found bytes told))
