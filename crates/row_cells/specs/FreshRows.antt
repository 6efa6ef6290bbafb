-- A row that is to be stored.
use Rattle.std.specs.Prelude.{◌++◌, ◌≡◌, length}
use Rattle.base.specs.Bytes.{Bytes}
use Rattle.row_cells.specs.Texts.{key_length, value_length, cell_key, cell_value}
use Rattle.row_cells.specs.declared.fresh.Row.{Row}

-- its bytes: the key's and, behind them, the value's
abbrev pub cell_of : Row → Bytes
cell_of r = r.key ++ r.value

-- it holds a key and a value
pub record IsRow (r : Row) (k v : Bytes) : Type 0 where
  pub key : cell_key (cell_of r) r.lengths ≡ k
  pub value : cell_value (cell_of r) r.lengths ≡ v
  pub key-length : key_length r.lengths ≡ length k
  pub value-length : value_length r.lengths ≡ length v
