use Rattle.lks_law.proofs.Breaking.{lax_numbers, one_vote, one_voter, later_votes, strange_vote, strange_bytes}
use Rattle.lks_law.proofs.Breaking.{no_envelope}
use Rattle.lks_law.proofs.laws.rules_can_be_broken.Goals as goal

pub returns-clause-few : goal.returns-clause-few
returns-clause-few c = one_vote

pub returns-clause-lax : goal.returns-clause-lax
returns-clause-lax c = lax_numbers

pub returns-clause-twice : goal.returns-clause-twice
returns-clause-twice c = one_voter

pub returns-clause-later : goal.returns-clause-later
returns-clause-later c = later_votes

pub returns-clause-uncast : goal.returns-clause-uncast
returns-clause-uncast c = strange_vote

pub returns-clause-unread : goal.returns-clause-unread
returns-clause-unread c = strange_bytes

pub returns-clause-unsent : goal.returns-clause-unsent
returns-clause-unsent c = no_envelope
