-- Ticks, which are milliseconds up to 2^62.
use Rattle.std.specs.Prelude.{ℕ, Bool, leb}
use Rattle.numbers.specs.declared.tick.Tick.{Tick}

abbrev pub max_tick : ℕ
max_tick = 4611686018427387904

-- a number as a tick
abbrev pub tick : ℕ → Tick
tick t = record { 0 = t }

abbrev pub is_time : Tick → Bool
is_time t = leb t.0 max_tick
