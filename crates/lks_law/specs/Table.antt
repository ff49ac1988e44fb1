-- What a peer does as a poller and as a voter: over its journal, and in its state.
use Rattle.std.specs.Prelude.{ℕ, List}
use Rattle.lks_base.specs.declared.messages.Message.{Message}
use Rattle.lks_base.specs.declared.messages.Message.TheVariants as message
use Rattle.lks_base.specs.declared.names.Judged.{Judged}
use Rattle.lks_base.specs.declared.reactions.Input.{Input}
use Rattle.lks_base.specs.declared.reactions.Input.TheVariants as input
use Rattle.lks_base.specs.declared.reactions.Reaction.{Reaction}
use Rattle.lks_base.specs.declared.records.Record.{Record}
use Rattle.lks_law.specs.Answering.{invitation_in, proof_in, work_in, request_in, end_in}
use Rattle.lks_law.specs.Polls.{Station}
use Rattle.lks_law.specs.Reacting.{for_poll, open_in, widen_in, shut_in, tally_in, nudge_in, give_up_in, check_in}
use Rattle.lks_law.specs.Reacting.{challenge_in, nominate_in, vote_in_poll, repair_in}
use Rattle.lks_law.specs.Reaction.{on_open, on_widen, on_shut, on_tally, on_nudge, on_give_up, on_check, on_challenge}
use Rattle.lks_law.specs.Reaction.{on_nominate, on_vote, on_repair}
use Rattle.lks_law.specs.State.{State, poll_at}
use Rattle.lks_law.specs.Voting.{poll_named, on_invitation, on_proof, on_work, on_request, on_end, on_tune}

abbrev pub on_message : Station → List Record → ℕ → ℕ → Message → Judged → Reaction
on_message own journal tick from (message.Poll n au) judged = on_invitation own journal tick (poll_named from n) au
on_message own journal tick from (message.PollChallenge n agrees) judged = on_challenge own journal from n agrees
on_message own journal tick from (message.PollProof n nonce kind proof) judged =
    on_proof own journal (poll_named from n) nonce kind judged
on_message own journal tick from (message.Nominate n nominees) judged = on_nominate journal from n nominees
on_message own journal tick from (message.Vote n hashes proof) judged = on_vote journal from n hashes judged
on_message own journal tick from (message.RepairRequest n b) judged = on_request own journal (poll_named from n) b
on_message own journal tick from (message.Repair n b bytes) judged = on_repair own journal from n b bytes
on_message own journal tick from (message.Receipt n) judged = on_end journal (poll_named from n)

-- what a peer with this journal adds and sends at this tick
unfoldable pub reaction : Station → List Record → ℕ → Input → Reaction
reaction own journal tick (input.OpenPoll au) = on_open own journal tick au
reaction own journal tick (input.Widen n) = on_widen own journal n
reaction own journal tick (input.Shut n) = on_shut own journal tick n
reaction own journal tick (input.Tally n) = on_tally own journal tick n
reaction own journal tick (input.Nudge n) = on_nudge journal n
reaction own journal tick (input.GiveUp n) = on_give_up journal n
reaction own journal tick (input.Work q) = on_work own journal q
reaction own journal tick (input.Expire q) = on_end journal q
reaction own journal tick input.Check = on_check own journal tick
reaction own journal tick (input.Tune quorum minority repairs) = on_tune own quorum minority repairs
reaction own journal tick (input.Got from m judged) = on_message own journal tick from m judged

abbrev pub receive_in : Station → State → ℕ → ℕ → Message → Judged → Reaction
receive_in own s tick from (message.Poll n au) judged =
    invitation_in own s.voter s.copies s.numbers.repairs tick (poll_named from n) au
receive_in own s tick from (message.PollChallenge n agrees) judged =
    for_poll (poll_at n s.polls) (challenge_in own from agrees)
receive_in own s tick from (message.PollProof n nonce kind proof) judged =
    proof_in own s.voter s.copies s.refs (poll_named from n) nonce kind judged
receive_in own s tick from (message.Nominate n nominees) judged =
    for_poll (poll_at n s.polls) (nominate_in from nominees)
receive_in own s tick from (message.Vote n hashes proof) judged =
    for_poll (poll_at n s.polls) (vote_in_poll from hashes judged s.copies)
receive_in own s tick from (message.RepairRequest n b) judged = request_in s.voter (poll_named from n) b
receive_in own s tick from (message.Repair n b bytes) judged =
    for_poll (poll_at n s.polls) (repair_in own from b bytes s.copies)
receive_in own s tick from (message.Receipt n) judged = end_in s.voter (poll_named from n)

-- what a peer in this state adds and sends at this tick
unfoldable pub react_on : Station → State → ℕ → Input → Reaction
react_on own s tick (input.OpenPoll au) = open_in own s tick au
react_on own s tick (input.Widen n) = for_poll (poll_at n s.polls) (widen_in own)
react_on own s tick (input.Shut n) = for_poll (poll_at n s.polls) (shut_in own tick)
react_on own s tick (input.Tally n) = for_poll (poll_at n s.polls) (tally_in own tick s.copies)
react_on own s tick (input.Nudge n) = for_poll (poll_at n s.polls) nudge_in
react_on own s tick (input.GiveUp n) = for_poll (poll_at n s.polls) give_up_in
react_on own s tick (input.Work q) = work_in own s.voter q
react_on own s tick (input.Expire q) = end_in s.voter q
react_on own s tick input.Check = check_in own s.copies tick
react_on own s tick (input.Tune quorum minority repairs) = on_tune own quorum minority repairs
react_on own s tick (input.Got from m judged) = receive_in own s tick from m judged
