-- What a poll hashes: the key of a vote, and the nonce of a poll. Numbers are written with the high byte first.
use Rattle.std.specs.Prelude.{ℕ, Bool, true, false, List, ◌++◌, codes}
use Rattle.std.specs.Int.{w16, w32, to_be_bytes}
use Rattle.sha2.specs.Sha256.{sha256}
use Rattle.sha2.specs.Sha512.{sha512_256}

-- the hash of some bytes: SHA-512/256 for the second kind, and SHA-256 for the first
abbrev pub hash_of : Bool → List ℕ → List ℕ
hash_of true bytes = sha512_256 bytes
hash_of false bytes = sha256 bytes

-- the key of a voter's vote in a poll of a poller on an AU of so many blocks
unfoldable pub key_of : Bool → ℕ → ℕ → List ℕ → ℕ → ℕ → ℕ → List ℕ
key_of second poller number nonce voter au count =
    hash_of second (codes "LOCKSS/1" ++ to_be_bytes w16 poller ++ to_be_bytes w32 number ++ nonce
    ++ to_be_bytes w16 voter ++ to_be_bytes w16 au ++ to_be_bytes w16 count)

-- the nonce of a poll, from the seed of its poller
unfoldable pub nonce_from : List ℕ → ℕ → List ℕ
nonce_from seed number = sha256 (codes "nonce" ++ seed ++ to_be_bytes w32 number)
