use Rattle.std.proofs.Common.{◌∙◌}
use Rattle.std.specs.Prelude.{map}
use Rattle.lks_law.specs.Taking.{Pinned}
use Rattle.lks_peer.proofs.Listing.{tallies_left}
use Rattle.lks_sessions.specs.Kept.{voter_of}
use Rattle.lks_work.specs.Names.{is_left}
use Rattle.lks_work.specs.declared.jobs.JobName.TheVariants as names
use Rattle.lks_peer.proofs.jobs.work_left.Goals as goal

pub returns-in-None : goal.returns-in-None
returns-in-None c =
    c.tally_left.ensures
    ∙ tallies_left (is_left c.args.out.now) c.args.id
    (map (λ (p : Pinned). names.Vote c.args.id p.committed.joined.poll)
    (voter_of c.args.known.now.sessions).pinned) c.as_slice.result.now c.args.known.now.polls
    c.vote_left.result c.as_slice.ensures c.vote_left.ensures c.in-None.is
