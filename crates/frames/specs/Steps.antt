-- A frame: the flag octet, the size, the body. Two bits of the flag octet may be set and no others: the lower one promises another frame, the
-- higher one says that the size takes eight octets and not one.
use Rattle.std.specs.Prelude.{ℕ, zero, suc, Bool, true, false, cond, [], ◌∷◌, leb, length, take, drop, Option, Some, None}
use Rattle.base.specs.Bytes.{Bytes}
use Rattle.base.specs.Octets.{number}
use Rattle.frames.specs.declared.step.Frame.{Frame}

-- the frame that some bytes begin with, if they begin with one; a frame by its fields
abbrev pub Step : Type 0
Step = Option Frame

abbrev pub found : ℕ → ℕ → Bool → Step
found start len more = Some (record { start = start; len = len; more = more })

-- a body of len bytes behind a head of start bytes, if the bytes that are left behind the head hold it whole
abbrev pub frame_within : ℕ → ℕ → ℕ → Bool → Step
frame_within start len left more = cond (leb len left) (found start len more) None

-- a size of one octet; of eight. The bytes are those behind the flag octet
unfoldable pub short_of : Bool → Bytes → Step
short_of more [] = None
short_of more (size ∷ rest) = frame_within 2 size (length rest) more

unfoldable pub long_of : Bool → Bytes → Step
long_of more s = cond (leb 8 (length s)) (frame_within 9 (number (take 8 s)) (length (drop 8 s)) more) None

-- by the flag octet
unfoldable pub flagged : ℕ → Bytes → Step
flagged zero s = short_of false s
flagged (suc zero) s = short_of true s
flagged (suc (suc zero)) s = long_of false s
flagged (suc (suc (suc zero))) s = long_of true s
flagged (suc (suc (suc (suc _)))) s = None

-- the frame that some bytes begin with
unfoldable pub step_of : Bytes → Step
step_of [] = None
step_of (flag ∷ s) = flagged flag s
