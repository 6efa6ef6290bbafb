-- The calls on a server, with all that they are given besides its state.
use Rattle.std.specs.Prelude.{ℕ}
use Rattle.base.specs.Bytes.{Bytes}

pub data Call : Type 0 where
  -- a message, a tick, the length of the output
  kvset : Bytes → ℕ → ℕ → Call
  -- a tick, the length of the output
  tick : ℕ → ℕ → Call
  -- a message, the length of the output
  icanhaz : Bytes → ℕ → Call
