-- The version, and marks: each field of a row, of a header and of an answer holds a number of its own.
use Rattle.std.specs.Prelude.{ℕ, List, [], ◌∷◌, ◌++◌, ◌≡◌, replicate}
use Rattle.base.specs.Bytes.{Bytes}
use Rattle.frame_forms.specs.Lengths.{value_room}
use Rattle.keys.specs.Keys.{key_room}

-- 0.8.0: a million times the major, a thousand times the minor, and the patch
abbrev pub version : ℕ
version = 8000

-- the bytes of a row, those of the key and those of the value; its lengths, that of the key and that of the value; the
-- stamps, number and expiry; the bytes of a subtree; the fields of a server's header, of a client's and of an answer
pub record Marked (cell : Bytes) (lengths stamps : List ℕ) (subtree : Bytes) (server client answer : List ℕ) : Type 0 where
  pub of_cell : cell ≡ replicate key_room 1 ++ replicate value_room 2
  pub of_lengths : lengths ≡ 3 ∷ 4 ∷ []
  pub of_stamps : stamps ≡ 5 ∷ 6 ∷ []
  pub of_server : server ≡ 7 ∷ 8 ∷ 9 ∷ 10 ∷ []
  pub of_subtree : subtree ≡ replicate key_room 11
  pub of_client : client ≡ 12 ∷ 13 ∷ 14 ∷ 15 ∷ 16 ∷ []
  pub of_answer : answer ≡ 17 ∷ 18 ∷ 19 ∷ 20 ∷ []
