use Rattle.std.proofs.Common.{◌∙◌, sym}
use Rattle.lks_evidence.proofs.Recounting.{chosen_is, chosen_not, recount_says, recount_same}
use Rattle.lks_evidence.proofs.judging.doubt_poll.Goals as goal

pub doubt_votes-requires : goal.doubt_votes-requires
doubt_votes-requires c =
    let case = c.args.case.now in
    (chosen_is case.plan.now case.set.now case.poller c.args.before.now c.args.r.now c.args.last
    c.in-Some.recount c.requires.last
    (sym c.in-Some.is ∙ c.in_ok-recount.ensures)).0.hashes

pub returns-in_ok-why-in-Some-clause-why : goal.returns-in_ok-why-in-Some-clause-why
returns-in_ok-why-in-Some-clause-why c =
    let case = c.args.case.now in
    let chosen = chosen_is case.plan.now case.set.now case.poller c.args.before.now c.args.r.now c.args.last
    c.in-Some.recount c.requires.last
    (sym c.in-Some.is ∙ c.in_ok-recount.ensures) in
    c.in_ok-why-in-Some.ensures.why case.plan.now case.set.now chosen.0.doubt
    ∙ recount_says case.plan.now case.set.now case.poller c.args.before.now c.args.r.now c.in-Some.recount
    chosen.0 chosen.1

pub returns-in_ok-why-in-Some-clause-last : goal.returns-in_ok-why-in-Some-clause-last
returns-in_ok-why-in-Some-clause-last c =
    let case = c.args.case.now in
    let chosen = chosen_is case.plan.now case.set.now case.poller c.args.before.now c.args.r.now c.args.last
    c.in-Some.recount c.requires.last
    (sym c.in-Some.is ∙ c.in_ok-recount.ensures) in
    recount_same case.plan.now case.set.now case.poller c.args.before.now c.in-Some.recount
    c.doubt_votes.new.self chosen.0
    c.in_ok-why-in-Some.ensures.same c.in_ok-why-in-Some.ensures.hashes

pub returns-in-None-clause-why : goal.returns-in-None-clause-why
returns-in-None-clause-why c =
    let case = c.args.case.now in
    sym
    (chosen_not case.plan.now case.set.now case.poller c.args.before.now c.args.r.now c.args.last
    (sym c.in-None.is ∙ c.in_ok-recount.ensures))
