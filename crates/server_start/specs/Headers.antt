-- The header of a server as a start makes it.
use Rattle.std.specs.Prelude.{ℕ}
use Rattle.numbers.specs.Sequences.{sequence}
use Rattle.numbers.specs.Ticks.{tick}
use Rattle.server_state.specs.declared.Header.{Header}

-- without rows, at a number and a tick
abbrev pub header_at : ℕ → ℕ → Header
header_at n t = record { number = sequence n; last_tick = tick t; last_published = tick t; count = 0 }
