-- What a Tick does: it removes a row that is due, or gives a sign of life where nothing was published for 1,000 ms, or neither.
use Rattle.std.specs.Prelude.{ℕ, ◌-◌, cond, leb}
use Rattle.std.proofs.Math.Option.{Option, none, some}
use Rattle.base.specs.Bytes.{Bytes}
use Rattle.server_calls.specs.Due.{least_due}
use Rattle.server_state.specs.Views.{Held, Ledger}

pub data Deed : Type 0 where
  -- the row of a key expires
  expire : Bytes → Deed
  beat quiet : Deed

abbrev pub deed_of : ℕ → ℕ → Option (Bytes × ℕ) → Deed
deed_of t published (some b) = expire b.0
deed_of t published none = cond (leb 1000 (t - published)) beat quiet

unfoldable pub deed : Ledger Held → ℕ → Deed
deed b t = deed_of t b.last_published (least_due t b.rows)
