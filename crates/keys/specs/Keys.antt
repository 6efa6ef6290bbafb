-- Keys and subtrees.
use Rattle.std.specs.Prelude.{ℕ, ◌-◌, Bool, false, not, ◌&&◌, ◌||◌, List, [], ◌∷◌, leb, eqb, length, get_or, take}
use Rattle.base.specs.Bytes.{Bytes, is_nil, prefix, holds, every}
use Rattle.base.specs.Cuts.{pieces}

-- the most bytes that a key or a subtree takes
abbrev pub key_room : ℕ
key_room = 96

-- a name of a key: one or more bytes, none of them zero. It holds no slash, being cut out between slashes
abbrev pub is_name : Bytes → Bool
is_name name = not (is_nil name) && not (holds 0 name)

-- the pieces between slashes: nothing before the first slash, and a name behind each
abbrev pub slashed : List Bytes → Bool
slashed [] = false
slashed (first ∷ []) = false
slashed (first ∷ name ∷ names) = is_nil first && every is_name (name ∷ names)

-- a key: at most 96 bytes; names, each behind a slash, and at least one of them
unfoldable pub is_key : Bytes → Bool
is_key s = leb (length s) key_room && slashed (pieces 47 s)

-- a subtree: empty, or at most 96 bytes: a key and a final slash
unfoldable pub is_subtree : Bytes → Bool
is_subtree s = is_nil s || (leb (length s) key_room && (eqb (get_or s (length s - 1) 0) 47 && is_key (take (length s - 1) s)))

-- a key is under a subtree that it begins with, and so every key under the empty one
abbrev pub under : Bytes → Bytes → Bool
under subtree key = prefix subtree key
