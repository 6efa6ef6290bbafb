-- The value frame of a message, as hosts are told of it.
use Rattle.std.specs.Prelude.{ℕ, ◌-◌, ◌≤◌, ◌≡◌, length, drop}
use Rattle.base.specs.Bytes.{Bytes}
use Rattle.ports.specs.Ports.{value_in}

-- the last n bytes of a message are its value frame
pub record IsValueLength (msg : Bytes) (n : ℕ) : Type 0 where
  pub within : n ≤ length msg
  pub is : drop (length msg - n) msg ≡ value_in msg
