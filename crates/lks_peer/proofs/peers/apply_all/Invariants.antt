use Rattle.std.proofs.Common.{◌≡◌, drop}
use Rattle.lks_law.specs.Fitting.{AreFitting}
use Rattle.lks_law.specs.State.{after_all}
use Rattle.lks_audit.specs.Kept.{kept_of}
use Rattle.lks_peer.specs.Keeping.{kept_after_all}
use Rattle.lks_peer.specs.Knows.{state_of, IsWell}
use Rattle.lks_peer.proofs.peers.apply_all.Given as goal

abbrev pub invariant-loop-r : goal.invariant-loop-r
invariant-loop-r g l = record {
  well : IsWell l.own l.pool l.known;
  fits : AreFitting l.own (state_of l.known) (drop l.r-index l.records);
  left : after_all l.own (state_of l.known) (drop l.r-index l.records)
      ≡ after_all l.own (state_of l.fn.known) l.records;
  kept : kept_after_all l.own (state_of l.known) (drop l.r-index l.records) (kept_of l.known.polls)
      ≡ kept_after_all l.own (state_of l.fn.known) l.records (kept_of l.fn.known.polls);
}
