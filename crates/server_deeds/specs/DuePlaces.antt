-- The row that is due first, by its place among the rows: what the search for it finds. `by_place` ties it to `least_due`
-- of server_calls.
use Rattle.std.specs.Prelude.{ℕ, suc, cond, List, [], ◌∷◌, map, ltb, Option, Some, None}
use Rattle.cells.specs.Cells.{cells}
use Rattle.numbers.specs.Ticks.{tick}
use Rattle.numbers.specs.declared.tick.Tick.{Tick}
use Rattle.server_state.specs.Stamps.{stamp_count, stamp_expiry}
use Rattle.server_deeds.specs.declared.due.Due.{Due}

-- the expiries of the first n rows
unfoldable pub expiries_of : ℕ → List ℕ → List ℕ
expiries_of n stamps = map stamp_expiry (cells stamp_count n stamps)

-- a row that is due at a place
abbrev pub due_at : ℕ → Tick → Option Due
due_at at e = Some (record { at = at; expiry = e })

-- that, and the one found behind it: of equal expiries the first goes
abbrev pub before : ℕ → Tick → Option Due → Option Due
before at e None = due_at at e
before at e (Some d) = cond (ltb d.expiry.0 e.0) (Some d) (due_at at e)

abbrev pub earlier : ℕ → ℕ → Tick → Option Due → Option Due
earlier t at e rest = cond (ltb e.0 t) (before at e rest) rest

unfoldable pub due_from : ℕ → ℕ → List ℕ → Option Due
due_from i t [] = None
due_from i t (e ∷ es) = earlier t i (tick e) (due_from (suc i) t es)
