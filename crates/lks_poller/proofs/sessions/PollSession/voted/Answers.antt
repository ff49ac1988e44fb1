use Rattle.std.proofs.Common.{◌≡◌, true, false, sym, subst}
use Rattle.lks_base.specs.Checking.{has_member}
use Rattle.lks_tally.specs.declared.ballots.Vote.{Vote}
use Rattle.lks_poller.specs.Polling.{Polled}
use Rattle.lks_poller.specs.Shown.{shown_session}
use Rattle.lks_poller.proofs.Soundness.{unvoted_parts, sound_inner, sound_outer, place_left}
use Rattle.lks_poller.proofs.sessions.PollSession.voted.Goals as goal

pub add_inner-requires-clause-new : goal.add_inner-requires-clause-new
add_inner-requires-clause-new c =
    let unvoted = subst (λ (s : Polled). has_member s.voters c.args.voter ≡ false) (sym c.self.view_is)
    c.requires.new in
    (unvoted_parts (shown_session c.self.inside) c.self.invariant c.args.voter unvoted).0

pub add_inner-requires-clause-room : goal.add_inner-requires-clause-room
add_inner-requires-clause-room c =
    let unvoted = subst (λ (s : Polled). has_member s.voters c.args.voter ≡ false) (sym c.self.view_is)
    c.requires.new in
    let member : has_member c.self.inside.inner c.args.voter ≡ true = cc in
    place_left (shown_session c.self.inside) (record { voter = c.args.voter; hashes = c.args.hashes }) c.self.invariant
    unvoted member

pub invariant_of-self-then-has_member : goal.invariant_of-self-then-has_member
invariant_of-self-then-has_member c =
    let unvoted = subst (λ (s : Polled). has_member s.voters c.args.voter ≡ false) (sym c.self.view_is)
    c.requires.new in
    let member : has_member c.self.inside.inner c.args.voter ≡ true = cc in
    let vote : Vote = record { voter = c.args.voter; hashes = c.args.hashes } in
    rw c.in_ok-add_inner.ensures.tally
    (rw c.in_ok-add_inner.ensures.voters
    (sound_inner (shown_session c.self.inside) vote c.self.invariant unvoted member))

pub invariant_of-self-else-has_member : goal.invariant_of-self-else-has_member
invariant_of-self-else-has_member c =
    let unvoted = subst (λ (s : Polled). has_member s.voters c.args.voter ≡ false) (sym c.self.view_is)
    c.requires.new in
    let member : has_member c.self.inside.inner c.args.voter ≡ false = cc in
    let vote : Vote = record { voter = c.args.voter; hashes = c.args.hashes } in
    rw c.in_ok-add_outer.ensures.votes
    (rw c.in_ok-add_outer.ensures.voters
    (sound_outer (shown_session c.self.inside) vote c.self.invariant unvoted member))
