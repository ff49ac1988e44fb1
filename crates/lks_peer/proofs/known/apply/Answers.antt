use Rattle.std.proofs.Common.{subst}
use Rattle.lks_law.specs.Fitting.{Fits}
use Rattle.lks_peer.specs.Knows.{state_of}
use Rattle.lks_sessions.specs.Sendable.{MayServe}
use Rattle.lks_peer.proofs.Knowing.{vote_fits, ask_fits, replace_fits, tied_on}
use Rattle.lks_peer.proofs.known.apply.Goals as goal

pub vote-requires : goal.vote-requires
vote-requires g c =
    let fits = subst (Fits c.args.own.now (state_of c.args.known.now)) c.in-VoteIn.is c.requires.fits in
    record {
      may =
          vote_fits c.args.own.now c.args.pool.now c.args.known.now c.requires.tied c.in-VoteIn.number
          c.in-VoteIn.voter c.in-VoteIn.hashes fits;
      marks = fits.2;
    }

pub serve-requires : goal.serve-requires
unfolding MayServe
serve-requires g c = subst (Fits c.args.own.now (state_of c.args.known.now)) c.in-Served.is c.requires.fits

pub ask-requires : goal.ask-requires
ask-requires g c =
    ask_fits c.args.own.now c.args.pool.now c.args.known.now c.requires.tied c.in-Asked.number c.in-Asked.block
    c.in-Asked.voter
    (subst (Fits c.args.own.now (state_of c.args.known.now)) c.in-Asked.is c.requires.fits)

pub replace-requires : goal.replace-requires
replace-requires g c =
    replace_fits c.args.own.now c.args.pool.now c.args.known.now c.requires.tied c.in-Replaced.number
    c.in-Replaced.au c.in-Replaced.block c.in-Replaced.bytes
    (subst (Fits c.args.own.now (state_of c.args.known.now)) c.in-Replaced.is c.requires.fits)

pub returns-in-PollOpened-clause-tied : goal.returns-in-PollOpened-clause-tied
returns-in-PollOpened-clause-tied g c = c.open.ensures.tied c.args.pool.now c.requires.tied

pub returns-in-Nominated-clause-tied : goal.returns-in-Nominated-clause-tied
returns-in-Nominated-clause-tied g c =
    tied_on c.args.own.now.id c.args.pool.now c.args.known.now c.nominate.new.known c.nominate.ensures.tied
    c.requires.tied

pub returns-in-OuterOpened-clause-tied : goal.returns-in-OuterOpened-clause-tied
returns-in-OuterOpened-clause-tied g c =
    tied_on c.args.own.now.id c.args.pool.now c.args.known.now c.widen.new.known c.widen.ensures.tied
    c.requires.tied

pub returns-in-VoteIn-clause-tied : goal.returns-in-VoteIn-clause-tied
returns-in-VoteIn-clause-tied g c =
    tied_on c.args.own.now.id c.args.pool.now c.args.known.now c.vote.new.known c.vote.ensures.tied c.requires.tied

pub returns-in-Shut-clause-tied : goal.returns-in-Shut-clause-tied
returns-in-Shut-clause-tied g c =
    tied_on c.args.own.now.id c.args.pool.now c.args.known.now c.shut.new.known c.shut.ensures.tied c.requires.tied

pub returns-in-Asked-clause-tied : goal.returns-in-Asked-clause-tied
returns-in-Asked-clause-tied g c =
    tied_on c.args.own.now.id c.args.pool.now c.args.known.now c.ask.new.known c.ask.ensures.tied c.requires.tied

pub returns-in-RepairBad-clause-tied : goal.returns-in-RepairBad-clause-tied
returns-in-RepairBad-clause-tied g c =
    tied_on c.args.own.now.id c.args.pool.now c.args.known.now c.give_up.new.known c.give_up.ensures.tied
    c.requires.tied

pub returns-in-Overdue-clause-tied : goal.returns-in-Overdue-clause-tied
returns-in-Overdue-clause-tied g c =
    tied_on c.args.own.now.id c.args.pool.now c.args.known.now c.note.new.known c.note.ensures.tied c.requires.tied

pub returns-in-Tuned-clause-tied : goal.returns-in-Tuned-clause-tied
returns-in-Tuned-clause-tied g c =
    tied_on c.args.own.now.id c.args.pool.now c.args.known.now c.tune.new.known c.tune.ensures.tied c.requires.tied

pub returns-in-Joined-clause-tied : goal.returns-in-Joined-clause-tied
returns-in-Joined-clause-tied g c =
    tied_on c.args.own.now.id c.args.pool.now c.args.known.now c.join.new.known c.join.ensures.tied c.requires.tied

pub returns-in-Committed-clause-tied : goal.returns-in-Committed-clause-tied
returns-in-Committed-clause-tied g c =
    tied_on c.args.own.now.id c.args.pool.now c.args.known.now c.commit.new.known c.commit.ensures.tied
    c.requires.tied

pub returns-in-Voted-clause-tied : goal.returns-in-Voted-clause-tied
returns-in-Voted-clause-tied g c =
    tied_on c.args.own.now.id c.args.pool.now c.args.known.now c.cast.new.known c.cast.ensures.tied c.requires.tied

pub returns-in-Served-clause-tied : goal.returns-in-Served-clause-tied
returns-in-Served-clause-tied g c =
    tied_on c.args.own.now.id c.args.pool.now c.args.known.now c.serve.new.known c.serve.ensures.tied
    c.requires.tied

pub returns-in-Ended-clause-tied : goal.returns-in-Ended-clause-tied
returns-in-Ended-clause-tied g c =
    tied_on c.args.own.now.id c.args.pool.now c.args.known.now c.end_session.new.known c.end_session.ensures.tied
    c.requires.tied
