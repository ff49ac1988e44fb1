-- Kinds of hash.
use Rattle.std.specs.Prelude.{Bool, true, false}
use Rattle.lks_base.specs.declared.names.HashKind.{HashKind}
use Rattle.lks_base.specs.declared.names.HashKind.TheVariants.{Sha256, Sha512_256}

-- whether it is SHA-512/256
abbrev pub is_second : HashKind → Bool
is_second Sha256 = false
is_second Sha512_256 = true

-- whether two are the same
abbrev pub is_kind : HashKind → HashKind → Bool
is_kind Sha256 Sha256 = true
is_kind Sha256 Sha512_256 = false
is_kind Sha512_256 Sha256 = false
is_kind Sha512_256 Sha512_256 = true
