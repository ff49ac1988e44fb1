-- Which words name which command.
use Rattle.std.specs.Prelude.{ℕ, ◌==◌, ◌≤◌, ◌-◌, ◌^◌, List, [], ◌∷◌, Option, Some, None, option_map, codes}
use Rattle.std.specs.Prelude.{if◌then◌else◌}
use Rattle.std.specs.Str.{bytes_eq}
use Rattle.lks_words.specs.Numbers.{number_in}
use Rattle.lks_words.specs.declared.commands.Command.{Command}
use Rattle.lks_words.specs.declared.commands.Command.TheVariants.{Play, Race, Evidence}
use Rattle.lks_words.specs.declared.commands.Play.TheVariants.{Replay, Drill, Journals}

-- so many threads, at least one
abbrev pub race_by : Option ℕ → Option Command
race_by None = None
race_by (Some n) = if n == 0 then None else Some (Race n)

-- how many threads race, in decimal, at most 64
unfoldable pub race_of : List ℕ → Option Command
race_of threads = race_by (number_in 64 threads)

-- drill, and a seed of 64 bits in decimal; or race, and how many threads
unfoldable pub numbered_in : List ℕ → List ℕ → Option Command
numbered_in word number =
    if bytes_eq word (codes "race") then race_of number
    else if bytes_eq word (codes "drill") then option_map (λ n. Play (Drill n)) (number_in (2 ^ 64 - 1) number)
    else None

-- replay, journals or evidence, alone
unfoldable pub alone_in : List ℕ → Option Command
alone_in word =
    if bytes_eq word (codes "replay") then Some (Play Replay)
    else if bytes_eq word (codes "journals") then Some (Play Journals)
    else if bytes_eq word (codes "evidence") then Some Evidence
    else None

unfoldable pub command_in : List (List ℕ) → Option Command
command_in [] = None
command_in (word ∷ []) = alone_in word
command_in (word ∷ number ∷ []) = numbered_in word number
command_in (word ∷ number ∷ more ∷ others) = None

-- the command of a first word and a second one, as they were found
abbrev pub command_of : Option (List ℕ) → Option (List ℕ) → Option Command
command_of None number = None
command_of (Some word) None = alone_in word
command_of (Some word) (Some number) = numbered_in word number

-- a race has a thread at least, and at most 64
abbrev pub HasThreads : Command → Type 0
HasThreads (Play play) = Unit {0}
HasThreads (Race threads) = (1 ≤ threads) × (threads ≤ 64)
HasThreads Evidence = Unit {0}
