-- A row that expired: its removal is written, and it is taken out of every array.
use Rattle.std.specs.Prelude.{ℕ, ◌-◌, List, ◌≡◌}
use Rattle.base.specs.Bytes.{Bytes}
use Rattle.base.specs.Output.{Written}
use Rattle.cells.specs.Cells.{cells, remove_at}
use Rattle.row_cells.specs.Texts.{row_key}
use Rattle.row_change.specs.Changes.{Altered}
use Rattle.row_change.specs.declared.Change.TheVariants.{Remove}
use Rattle.server_calls.specs.Refusals.{expiry}
use Rattle.server_state.specs.Stamps.{stamp_count}

pub record Expired (n i number : ℕ) (bytes lengths stamps out bytes' lengths' stamps' : List ℕ) (written : ℕ) (out' : Bytes) : Type 0 where
  pub cell : Bytes
  pub lens : List ℕ
  pub wrote : Written out 0 (expiry number (row_key i bytes lengths)) written out'
  pub rows : Altered (Remove i) cell lens n bytes lengths bytes' lengths'
  pub stamps_gone : cells stamp_count (n - 1) stamps' ≡ remove_at i (cells stamp_count n stamps)
