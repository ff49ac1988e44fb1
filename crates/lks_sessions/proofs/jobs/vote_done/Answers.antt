use Rattle.std.proofs.Common.{rules}
use Rattle.lks_sessions.proofs.Sending.{vote_seen, vote_count}
use Rattle.lks_sessions.specs.Working.{IsJobOf}
use Rattle.lks_sessions.proofs.jobs.vote_done.Goals as goal

pub vote_with-requires-clause-few : goal.vote_with-requires-clause-few
vote_with-requires-clause-few c =
    let own = c.args.own.now in
    let p = c.args.session.now in
    let job : IsJobOf own p p.refs c.args.done.job = search rules in
    vote_count own p c.args.done.hashes (vote_seen own p c.args.done.job c.args.done.hashes job c.args.done.hashed)
    c.requires.counted
