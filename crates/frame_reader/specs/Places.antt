-- What stands at a place of a message.
use Rattle.std.specs.Prelude.{ℕ, drop}
use Rattle.base.specs.Bytes.{Bytes}
use Rattle.frames.specs.Steps.{Step, step_of}

-- the frame at a place; its start counts from that place
abbrev pub step_at : Bytes → ℕ → Step
step_at s at = step_of (drop at s)
