-- What a node answers to a frame.
use Rattle.std.specs.Prelude.{ℕ, List, [], ◌∷◌, ◌++◌, length}
use Rattle.std.specs.Int.{to_be_bytes, w16, w32}
use Rattle.lks_base.specs.declared.reactions.Outgoing.{Outgoing}
use Rattle.lks_base.specs.declared.reactions.Reaction.{Reaction}

-- to whom, how long, and the bytes
abbrev pub send_bytes : Outgoing → List ℕ
send_bytes o = to_be_bytes w16 o.to ++ (to_be_bytes w32 (length o.bytes) ++ o.bytes)

unfoldable pub sends_bytes : List Outgoing → List ℕ
sends_bytes [] = []
sends_bytes (o ∷ os) = send_bytes o ++ sends_bytes os

-- how many records were added, how much is sent, and what
unfoldable pub reply_body : Reaction → List ℕ
reply_body r = to_be_bytes w16 (length r.records) ++ (to_be_bytes w16 (length r.sends) ++ sends_bytes r.sends)

-- in a frame
unfoldable pub reply : Reaction → List ℕ
reply r = to_be_bytes w32 (length (reply_body r)) ++ reply_body r
