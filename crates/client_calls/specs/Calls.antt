-- The calls on a client, with all that they are given besides its state.
use Rattle.std.specs.Prelude.{ℕ}
use Rattle.base.specs.Bytes.{Bytes}

pub data Call : Type 0 where
  -- a message at the snapshot entry
  snapshot : Bytes → Call
  -- a message and a tick at the subscriber entry
  subscriber : Bytes → ℕ → Call
  -- writing ICANHAZ: the length of the output
  write_icanhaz : ℕ → Call
  -- writing KVSET: key, UUID, properties, value, and the length of the output
  write_kvset : Bytes → Bytes → Bytes → Bytes → ℕ → Call
  -- whether the server is gone: a tick
  ask : ℕ → Call
  -- the value of a key: the key, and the length of the output
  lookup : Bytes → ℕ → Call
