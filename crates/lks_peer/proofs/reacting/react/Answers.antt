use Rattle.std.proofs.Common.{List, subst, sym}
use Rattle.lks_audit.specs.Seen.{polls_of}
use Rattle.lks_law.specs.State.{poll_at}
use Rattle.lks_peer.proofs.Asking.{asks_small}
use Rattle.lks_peer.specs.Knows.{state_of, AsksSmall}
use Rattle.lks_poller.specs.Polling.{Polled}
use Rattle.lks_peer.proofs.reacting.react.Goals as goal

pub nudge-requires : goal.nudge-requires
nudge-requires c =
    subst (λ (ss : List Polled). AsksSmall (poll_at c.in-Nudge.number (polls_of ss))) (sym c.as_slice-polls.ensures)
    (asks_small (state_of c.args.known.now) c.in-Nudge.number c.requires.well.fit.sound)
