-- The header of a client that waits.
use Rattle.std.specs.Prelude.{ℕ}
use Rattle.client_state.specs.declared.Header.{Header}
use Rattle.numbers.specs.Sequences.{sequence}
use Rattle.numbers.specs.Ticks.{tick}

-- from tick t on, for a subtree of so many bytes, without rows
abbrev pub waiting_header : ℕ → ℕ → Header
waiting_header t length = record { phase = 0; number = sequence 0; clock = tick t; subtree_length = length; count = 0 }
