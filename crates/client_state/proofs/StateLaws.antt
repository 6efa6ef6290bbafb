-- How many keys and values a state has, and what a change of one row makes of them. Assumes nothing.
use mathlib.Core.List.{List}
use mathlib.Core.Path.{◌≡◌, sym, ◌∙◌}
use Prim.Native.Nat.{ℕ}
use lib.ListN.{length}
use Rattle.base.specs.Bytes.{Bytes}
use Rattle.cells.proofs.ListLaws.{length-zip}
use Rattle.client_state.specs.Views.{key_list, value_list}
use Rattle.client_state.specs.declared.Client.{Client}
use Rattle.row_cells.proofs.TextLaws.{keys_long, values_long}
use Rattle.row_cells.specs.Texts.{cell_key, cell_value, row, rows_of}
use Rattle.row_change.proofs.ChangeLaws.{zip-changed, keys_after, values_after}
use Rattle.row_change.specs.Changes.{changed, count_after, Fits, Altered}
use Rattle.row_change.specs.declared.Change.{Change}

module _ (c : Client) where
  pub key_count : length (key_list c) ≡ c.header.count
  key_count = keys_long c.header.count c.bytes c.lengths

  pub value_count : length (value_list c) ≡ c.header.count
  value_count = values_long c.header.count c.bytes c.lengths

  pub as_many : length (key_list c) ≡ length (value_list c)
  as_many = key_count ∙ sym value_count

  pub row_count : length (rows_of (key_list c) (value_list c)) ≡ c.header.count
  unfolding rows_of
  row_count = length-zip row c.header.count (key_list c) (value_list c) key_count value_count

-- ---- a change of one row
-- each array of c' is that of c, changed: the changed row has `cell` and `lens`
pub record RowChanged (change : Change) (cell : Bytes) (lens : List ℕ) (c c' : Client) : Type 0 where
  pub of_rows : Altered change cell lens c.header.count c.bytes c.lengths c'.bytes c'.lengths
  pub of_count : c'.header.count ≡ count_after change c.header.count

module _ {change : Change} {cell : Bytes} {lens : List ℕ} {c c' : Client} (f : Fits change c.header.count) (a : RowChanged change cell lens c c') where
  pub keys_changed : key_list c' ≡ changed change (cell_key cell lens) (key_list c)
  keys_changed = rw a.of_count (keys_after change c.header.count f a.of_rows)

  values_changed : value_list c' ≡ changed change (cell_value cell lens) (value_list c)
  values_changed = rw a.of_count (values_after change c.header.count f a.of_rows)

  pub rows-changed : rows_of (key_list c') (value_list c') ≡ changed change (cell_key cell lens, cell_value cell lens) (rows_of (key_list c) (value_list c))
  unfolding rows_of
  rows-changed =
      rw (keys_changed, values_changed)
      (zip-changed row change c.header.count (cell_key cell lens) (cell_value cell lens) (key_list c) (value_list c) (key_count c) (value_count c) f)
