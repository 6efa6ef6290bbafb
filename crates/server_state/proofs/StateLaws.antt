-- How many keys and entries a state has, and what a change of one row, made in every array, makes of them. Assumes
-- nothing.
use Prim.Native.Nat.{ℕ, ◌≤◌}
use mathlib.Core.Bool.{true}
use mathlib.Core.List.{List}
use mathlib.Core.Path.{◌≡◌, sym, ◌∙◌}
use lib.ListN.{length}
use Rattle.base.specs.Bytes.{Bytes}
use Rattle.cells.proofs.CellLaws.{length-cells}
use Rattle.cells.proofs.ListLaws.{length-zip}
use Rattle.cells.specs.Cells.{cells}
use Rattle.numbers.specs.Sequences.{max_sequence}
use Rattle.numbers.specs.Ticks.{max_tick}
use Rattle.row_cells.proofs.TextLaws.{keys_long, values_long}
use Rattle.row_cells.specs.Faults.{GoodRows}
use Rattle.row_cells.specs.Texts.{cell_key, cell_value, values_of, row, rows_of}
use Rattle.row_change.proofs.ChangeLaws.{zip-changed, keys_after, values_after, every-changed, every_weaker}
use Rattle.row_change.specs.Changes.{changed, count_after, Fits, stores, Altered}
use Rattle.row_change.specs.declared.Change.{Change}
use Rattle.server_state.proofs.FormLaws.{GoodServer, stamped_higher}
use Rattle.server_state.specs.IllFormed.{stamped}
use Rattle.server_state.specs.Stamps.{stamp_count}
use Rattle.server_state.specs.Views.{entry, key_list, entry_list}
use Rattle.server_state.specs.declared.Server.{Server}

module _ (s : Server) where
  pub key_count : length (key_list s) ≡ s.header.count
  key_count = keys_long s.header.count s.bytes s.lengths

  pub entry_count : length (entry_list s) ≡ s.header.count
  unfolding entry_list
  entry_count =
      length-zip entry s.header.count (values_of s.header.count s.bytes s.lengths) (cells stamp_count s.header.count s.stamps) (values_long s.header.count s.bytes s.lengths) (length-cells stamp_count s.header.count s.stamps)

  pub as_many : length (key_list s) ≡ length (entry_list s)
  as_many = key_count ∙ sym entry_count

  pub row_count : length (rows_of (key_list s) (entry_list s)) ≡ s.header.count
  unfolding rows_of
  row_count = length-zip row s.header.count (key_list s) (entry_list s) key_count entry_count

-- ---- a change of one row
-- each array of s' is that of s, changed: the changed row has `cell`, `lens` and `own`
pub record Restamped (change : Change) (cell : Bytes) (lens own : List ℕ) (s s' : Server) : Type 0 where
  pub of_rows : Altered change cell lens s.header.count s.bytes s.lengths s'.bytes s'.lengths
  pub of_stamps : cells stamp_count (count_after change s.header.count) s'.stamps
      ≡ changed change own (cells stamp_count s.header.count s.stamps)
  pub of_count : s'.header.count ≡ count_after change s.header.count

module _ {change : Change} {cell : Bytes} {lens own : List ℕ} {s s' : Server} (f : Fits change s.header.count)
    (c : Restamped change cell lens own s s') where
  n : ℕ
  n = s.header.count

  pub keys_changed : key_list s' ≡ changed change (cell_key cell lens) (key_list s)
  keys_changed = rw c.of_count (keys_after change s.header.count f c.of_rows)

  entries_changed : entry_list s' ≡ changed change (entry (cell_value cell lens) own) (entry_list s)
  unfolding entry_list
  entries_changed =
      rw (c.of_count, values_after change s.header.count f c.of_rows, c.of_stamps)
      (zip-changed entry change s.header.count (cell_value cell lens) own (values_of s.header.count s.bytes s.lengths) (cells stamp_count s.header.count s.stamps) (values_long s.header.count s.bytes s.lengths) (length-cells stamp_count s.header.count s.stamps) f)

  -- the rows
  pub rows-changed : rows_of (key_list s') (entry_list s') ≡ changed change (cell_key cell lens, entry (cell_value cell lens) own) (rows_of (key_list s) (entry_list s))
  unfolding rows_of
  rows-changed =
      rw (keys_changed, entries_changed)
      (zip-changed row change s.header.count (cell_key cell lens) (entry (cell_value cell lens) own) (key_list s) (entry_list s) (key_count s) (entry_count s) f)

  -- what a row that is stored must have beside its key and its value
  pub good_after : GoodServer s → GoodRows s'.header.count s'.bytes s'.lengths → (stores change ≡ true → stamped s'.header.number.0 own ≡ true)
      → s.header.number.0 ≤ s'.header.number.0 → s'.header.number.0 ≤ max_sequence → s'.header.last_published.0 ≤ s'.header.last_tick.0
      → s'.header.last_tick.0 ≤ max_tick → GoodServer s'
  good_after g rows right higher below times ticks = record {
    rows = rows;
    are_stamped = rw (c.of_count, c.of_stamps) (every-changed (stamped s'.header.number.0) change own (cells stamp_count s.header.count s.stamps) (every_weaker (stamped s.header.number.0) (stamped s'.header.number.0) (stamped_higher s.header.number.0 s'.header.number.0 higher) (cells stamp_count s.header.count s.stamps) g.are_stamped) right);
    number = below;
    published = times;
    tick = ticks;
  }
