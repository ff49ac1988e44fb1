-- What is heard of bells, and what an alarm does to them.
use Rattle.std.specs.Prelude.{◌≡◌, ℕ, Bool, List, [], ◌∷◌, ◌++◌, length, map, filter, nat_lt, if◌then◌else◌}
use Rattle.lks_outside.specs.declared.alarms.Alarm.{Alarm}

-- the alarms that a bell rang for, and how many it wants
pub record Heard : Type 0 where
  pub rung : List Alarm
  pub limit : ℕ

abbrev pub heard_of : {B : Type 0} → (B → List Alarm) → (B → ℕ) → B → Heard
heard_of rung limit b = record { rung = rung b; limit = limit b }

abbrev pub seen : {B : Type 0} → (B → List Alarm) → (B → ℕ) → List B → List Heard
seen rung limit bells = map (heard_of rung limit) bells

abbrev pub wants : Heard → Bool
wants h = nat_lt (length h.rung) h.limit

-- a bell that wants more rings, and another stays silent
abbrev pub after : Alarm → Heard → Heard
after a h = if wants h then record h { rung = h.rung ++ a ∷ [] } else h

abbrev pub wanting : {B : Type 0} → (B → List Alarm) → (B → ℕ) → List B → List B
wanting rung limit bells = filter (λ b. wants (heard_of rung limit b)) bells

-- the alarm makes of the old bells some that rang for it, if they wanted more, and the new bells are those of them that
-- still do
abbrev pub Raises : {B : Type 0} → (B → List Alarm) → (B → ℕ) → Alarm → List B → List B → Type 0
Raises {B} rung limit a old new =
    (rang : List B) × (seen rung limit rang ≡ map (after a) (seen rung limit old)) × (new ≡ wanting rung limit rang)

-- what is heard of the bells after an alarm
abbrev pub raised : Alarm → List Heard → List Heard
raised a bells = filter wants (map (after a) bells)

-- of bells with these limits that rang for the same alarms from the first on, those that want more
abbrev pub left_of : List Alarm → List ℕ → List Heard
left_of alarms limits = filter wants (map (λ limit. record { rung = alarms; limit = limit }) limits)
