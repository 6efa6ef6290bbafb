-- Rows that are due: their expiry is below the tick. Of those the one with the least expiry goes, the one with the
-- least key among equals.
use Rattle.std.specs.Prelude.{ℕ, cond, ◌&&◌, [], ◌∷◌, leb, ltb}
use Rattle.std.proofs.Math.Option.{Option, none, some}
use Rattle.base.specs.Bytes.{Bytes}
use Rattle.rows.specs.Rows.{Rows}
use Rattle.server_state.specs.Views.{Held}

-- a row and, of the rows behind it, the one to go: the row goes before it if it is due and expires no later, its key
-- being less
abbrev pub sooner : ℕ → Bytes → Option ℕ → Option (Bytes × ℕ) → Option (Bytes × ℕ)
sooner t k none best = best
sooner t k (some e) none = cond (ltb e t) (some (k, e)) none
sooner t k (some e) (some b) = cond (ltb e t && leb e b.1) (some (k, e)) (some b)

-- the key and the expiry of the row that goes at tick t; none where no row is due
unfoldable pub least_due : ℕ → Rows Held → Option (Bytes × ℕ)
least_due t [] = none
least_due t (r ∷ l) = sooner t r.0 r.1.expiry (least_due t l)
