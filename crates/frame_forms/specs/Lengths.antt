-- Frames of which only the length counts.
use Rattle.std.specs.Prelude.{ℕ, Bool, ◌&&◌, ◌||◌, leb, eqb, length}
use Rattle.base.specs.Bytes.{Bytes}

-- a UUID: 0 or 16 bytes
abbrev pub is_uuid : Bytes → Bool
is_uuid s = eqb (length s) 0 || eqb (length s) 16

-- an identity: 1 to 255 bytes
abbrev pub is_identity : Bytes → Bool
is_identity s = leb 1 (length s) && leb (length s) 255

-- the most bytes that a value takes
abbrev pub value_room : ℕ
value_room = 256

-- a value: 0 to 256 bytes
abbrev pub is_value : Bytes → Bool
is_value s = leb (length s) value_room
