-- Messages that lie one after another, split into the parts that a socket sends.
use Rattle.std.specs.Prelude.{ℕ, zero, suc, ◌+◌, ◌≤◌, Bool, true, false, cond, not, ◌||◌, List, [], ◌∷◌, ◌++◌, ◌≡◌, length, take, drop, Some, None}
use Rattle.std.proofs.Math.Option.{get_or}
use Rattle.base.specs.Bytes.{Bytes, is_nil}
use Rattle.frames.specs.Messages.{frames_in}
use Rattle.frames.specs.Runs.{message_in, messages_in}
use Rattle.frames.specs.Steps.{Step, found, step_of}
use Rattle.parts.specs.Build.{Part, part_of}

-- ---- the next frame
-- a frame at a place, its body counted from the front of the bytes
abbrev pub placed : ℕ → Step → Step
placed at None = None
placed at (Some f) = found (at + f.start) f.len f.more

-- whether a whole message begins at a place
abbrev pub begins_message : Bytes → ℕ → Bool
begins_message s at = not (is_nil (message_in (drop at s)))

-- whether a frame may be given: inside a message it may; between two messages, if the whole message is there
unfoldable pub may_begin : Bytes → ℕ → Bool → Bool
may_begin s at inside = inside || begins_message s at

-- the frame at a place, if one may be given
unfoldable pub taken_at : Bytes → ℕ → Bool → Step
taken_at s at inside = cond (may_begin s at inside) (placed at (step_of (drop at s))) None

-- ---- all frames
-- the parts that n calls take from a place on: each call begins where the body before it ends, inside its message if that
-- frame promised another
abbrev pub taken_on : (ℕ → Bool → List Part) → Bytes → Step → List Part
taken_on rest s None = []
taken_on rest s (Some f) = part_of f.more (take f.len (drop f.start s)) ∷ rest (f.start + f.len) f.more

unfoldable pub taken : ℕ → Bytes → ℕ → Bool → List Part
taken zero s at inside = []
taken (suc n) s at inside = taken_on (taken n s) s (taken_at s at inside)

-- the parts of a message: each but the last promises another
unfoldable pub as_parts : List Bytes → List Part
as_parts [] = []
as_parts (b ∷ []) = part_of false b ∷ []
as_parts (b ∷ c ∷ bs) = part_of true b ∷ as_parts (c ∷ bs)

unfoldable pub as_parts_all : List Bytes → List Part
as_parts_all [] = []
as_parts_all (m ∷ ms) = as_parts (get_or (frames_in m) []) ++ as_parts_all ms

-- What is taken of any bytes are the parts of the whole messages that they begin with, and nothing of what comes after.
-- A walk ends, wherever it begins: no number of calls takes more parts than there are bytes.
pub record TakesApart (s : Bytes) : Type 0 where
  pub parts : (n : ℕ) → length s ≤ n → taken n s 0 false ≡ as_parts_all (messages_in s)
  pub ends : (n at : ℕ) (inside : Bool) → length (taken n s at inside) ≤ length s
