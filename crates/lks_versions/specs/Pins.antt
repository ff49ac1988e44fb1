-- Which session pins which version.
use Rattle.std.specs.Prelude.{ℕ, Bool, cond, not, ◌&&◌, ◌==◌, Option, None, Some, List, [], ◌∷◌, ◌++◌, filter}
use Rattle.lks_base.specs.declared.names.PollName.{PollName}
use Rattle.lks_versions.specs.declared.versions.Pin.{Pin}

-- whether two names are of one poll
abbrev pub is_poll : PollName → PollName → Bool
is_poll p q = (p.poller == q.poller) && (p.number == q.number)

-- the version that a poll pins
abbrev pub pin_of : PollName → List Pin → Option ℕ
pin_of poll [] = None
pin_of poll (p ∷ ps) = cond (is_poll p.poll poll) (Some p.version) (pin_of poll ps)

-- one pin more
abbrev pub pins_with : PollName → ℕ → List Pin → List Pin
pins_with poll version pins = pins ++ record { poll = poll; version = version } ∷ []

-- the pins of all other polls
abbrev pub pins_without : PollName → List Pin → List Pin
pins_without poll pins = filter (λ (p : Pin). not (is_poll p.poll poll)) pins
