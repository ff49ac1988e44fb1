-- A session pins the blocks of its AU.
use Rattle.std.proofs.Common.{◌≡◌, ◌∙◌, ℕ, List, refl}
use Rattle.std.specs.Prelude.{Option, Some, None, option_map}
use Rattle.lks_base.specs.declared.names.PollName.{PollName}
use Rattle.lks_law.specs.Fitting.{Where}
use Rattle.lks_law.specs.Taking.{Session, session_at}
use Rattle.lks_sessions.specs.Sendable.{PinsBlocks}

-- what a joined session is committed to
pub pins : (q : PollName) (blocks : ℕ → List (List ℕ)) (refs : List (List ℕ)) (ss : List Session) (au : Option ℕ)
    → au ≡ option_map (λ (s : Session). s.joined.au) (session_at q ss)
    → ((a : ℕ) → au ≡ Some a → refs ≡ blocks a) → PinsBlocks blocks q refs ss
pins q blocks refs ss au is are = by_session (session_at q ss) (λ a named. are a (is ∙ named))
  where
    by_session : (o : Option Session)
        → ((a : ℕ) → option_map (λ (s : Session). s.joined.au) o ≡ Some a → refs ≡ blocks a)
        → Where o (λ s. refs ≡ blocks s.joined.au)
    by_session None are = tt
    by_session (Some s) are = are s.joined.au refl
