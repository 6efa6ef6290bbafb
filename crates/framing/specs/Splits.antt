-- A message that is split into its frames: how its framing is, where the walk over its frames stops, and where the
-- bodies of the first five lie.
use Rattle.std.specs.Prelude.{ℕ, zero, suc, ◌+◌, ◌<◌, cond, List, [], ◌≡◌, leb, ltb, length, get_or, take, drop, set, Some, None, Result, Ok, Err}
use Rattle.std.proofs.Math.Option.{Option, none, some}
use Rattle.base.specs.Bytes.{Bytes}
use Rattle.frames.specs.Messages.{frames_in, frame_at}
use Rattle.frames.specs.Runs.{end_in}
use Rattle.frames.specs.Steps.{Step, step_of}
use Rattle.framing.specs.declared.Place.{Place}
use Rattle.framing.specs.declared.Flaw.TheVariants.{Broken, Surplus}
use Rattle.framing.specs.declared.Flaw.{Flaw}
use Rattle.framing.specs.declared.Places.{Places}
use Rattle.framing.specs.declared.Split.{Split}

-- ---- the framing
-- by where the message ends that the bytes begin with, and by the frames of all the bytes
abbrev pub framing_by : Option ℕ → Option (List Bytes) → Result ℕ Flaw
framing_by none bodies = Err Broken
framing_by (some n) none = Err Surplus
framing_by (some n) (some bodies) = Ok (length bodies)

unfoldable pub framing_of : Bytes → Result ℕ Flaw
framing_of s = framing_by (end_in s) (frames_in s)

-- ---- where the walk stops
-- of bytes that begin with a step, the stop of what is behind it being found by rest
abbrev pub stop_through : (Bytes → ℕ) → Bytes → Step → ℕ
stop_through rest s None = 0
stop_through rest s (Some f) = cond f.more (f.start + f.len + rest (drop f.len (drop f.start s))) (f.start + f.len)

-- at most n frames
unfoldable pub stop_up_to : ℕ → Bytes → ℕ
stop_up_to zero s = 0
stop_up_to (suc n) s = stop_through (stop_up_to n) s (step_of s)

-- behind the first frame that promises no other, or in front of one that is broken
unfoldable pub stop_in : Bytes → ℕ
stop_in s = stop_up_to (length s) s

-- ---- the bodies
-- a place by its fields, and the part of some bytes there
abbrev pub lies_at : ℕ → ℕ → Place
lies_at start len = record { start = start; len = len }

abbrev pub part_at : Bytes → Place → Bytes
part_at s p = take p.len (drop p.start s)

-- the part of some bytes that is the body of frame k, one of the first five, by its place
abbrev pub placed_at : Bytes → Places → ℕ → Bytes
placed_at s p k = part_at s (get_or p.bodies k (lies_at 0 0))

abbrev pub body_in : Bytes → Places → ℕ → Bytes
body_in s p k = cond (ltb k 5) (placed_at s p k) []

-- places with that of frame k noted, if it is one of the first five
abbrev pub noted : Places → ℕ → ℕ → ℕ → Places
noted p k start len = cond (leb 5 k) p (record { bodies = set p.bodies k (lies_at start len) })

-- r is what s splits into: each of the first five bodies is found at its place, and is empty where there is no such
-- frame
pub record IsSplit (s : Bytes) (r : Split) : Type 0 where
  pub framing : r.framing ≡ framing_of s
  pub stop : r.stop ≡ stop_in s
  pub bodies : (k : ℕ) → k < 5 → placed_at s r.places k ≡ frame_at k s
