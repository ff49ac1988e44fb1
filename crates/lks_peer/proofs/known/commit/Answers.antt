use Rattle.std.proofs.Common.{◌∙◌, ap, sym, subst, ℕ, List, refl}
use Rattle.std.specs.Prelude.{All}
use Rattle.lks_audit.specs.Copied.{IsOf, copies_of}
use Rattle.lks_blocks.specs.Block.{bytes_of}
use Rattle.lks_law.specs.State.{after, blocks_at}
use Rattle.lks_peer.proofs.Knowing.{tied_pinned, tied_still}
use Rattle.lks_peer.proofs.Pinning.{pins}
use Rattle.lks_peer.specs.Knows.{state_of}
use Rattle.lks_sessions.specs.Kept.{voter_of}
use Rattle.lks_peer.proofs.known.commit.Goals as goal

pub returns-in_err-refs-clause-tied : goal.returns-in_err-refs-clause-tied
returns-in_err-refs-clause-tied c = tied_still c.args.known.now

pub returns-in_err-commit-clause-tied : goal.returns-in_err-commit-clause-tied
returns-in_err-commit-clause-tied c =
    tied_pinned c.args.known.now (record c.args.known.now { sessions = c.commit.new.self }) c.in_ok-refs.refs refl
    refl refl
    (λ pool of. c.in_ok-refs.ensures.of pool (subst (All (IsOf pool)) (sym c.as_slice.ensures) of)) c.commit.ensures.of

pub returns-clause-state : goal.returns-clause-state
unfolding after
returns-clause-state c =
    let blocks : ℕ → List (List ℕ) = λ au. blocks_at au (copies_of c.args.known.now.copies) in
    let pinned = pins c.args.poll blocks (bytes_of c.in_ok-refs.refs) (voter_of c.args.known.now.sessions).sessions
    c.au_of-au.result c.au_of-au.ensures
    (λ au is. c.in_ok-refs.ensures.blocks au is ∙ ap (λ held. blocks_at au (copies_of held)) c.as_slice.ensures) in
    λ i.
    record (state_of c.args.known.now) {
      voter = c.in_ok-commit.ensures.state c.args.own.now.rules blocks pinned
          i;
    }

pub returns-clause-tied : goal.returns-clause-tied
returns-clause-tied c =
    tied_pinned c.args.known.now (record c.args.known.now { sessions = c.commit.new.self }) c.in_ok-refs.refs refl
    refl refl
    (λ pool of. c.in_ok-refs.ensures.of pool (subst (All (IsOf pool)) (sym c.as_slice.ensures) of)) c.commit.ensures.of
