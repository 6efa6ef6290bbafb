-- The rules for keys and subtrees as grammars. That `is_key` and `is_subtree` of `Keys` decide them is proved in proofs/KeyGrammar.
use Rattle.std.specs.Prelude.{◌<◌, [], ◌∷◌, ◌++◌, length}
use Rattle.base.specs.Bytes.{Bytes, Lacks}

-- bytes that are neither slash nor zero
abbrev pub Plain : Bytes → Type 0
Plain s = Lacks 47 s × Lacks 0 s

-- a slash and a name, once or more often; a name is one byte or more, none of them slash or zero
pub data Key : Bytes → Type 0 where
  one : (name : Bytes) → 0 < length name → Plain name → Key (47 ∷ name)
  more : (name rest : Bytes) → 0 < length name → Plain name → Key rest → Key (47 ∷ name ++ rest)

-- empty, or a key and a final slash
pub data Subtree : Bytes → Type 0 where
  whole : Subtree []
  below : (key : Bytes) → Key key → Subtree (key ++ (47 ∷ []))
