-- What the cells of rows hold: keys and values.
use Rattle.std.specs.Prelude.{ℕ, get_or, take, drop}
use mathlib.Core.List.{List, zip_with}
use Rattle.base.specs.Bytes.{Bytes}
use Rattle.cells.specs.Cells.{cells, cell_at}
use Rattle.keys.specs.Keys.{key_room}
use Rattle.row_cells.specs.Sizes.{cell_size, length_count}
use Rattle.rows.specs.Rows.{Rows}

-- of a row's lengths: how long its key is, and how long its value
abbrev pub key_length : List ℕ → ℕ
key_length lengths = get_or lengths 0 0

abbrev pub value_length : List ℕ → ℕ
value_length lengths = get_or lengths 1 0

-- of a row's bytes and its lengths: the key, and behind the room for it the value
abbrev pub cell_key : Bytes → List ℕ → Bytes
cell_key cell lengths = take (key_length lengths) cell

abbrev pub cell_value : Bytes → List ℕ → Bytes
cell_value cell lengths = take (value_length lengths) (drop key_room cell)

-- of row i
abbrev pub row_key : ℕ → Bytes → List ℕ → Bytes
row_key i bytes lengths = cell_key (cell_at cell_size i bytes) (cell_at length_count i lengths)

abbrev pub row_value : ℕ → Bytes → List ℕ → Bytes
row_value i bytes lengths = cell_value (cell_at cell_size i bytes) (cell_at length_count i lengths)

-- of the first n rows
unfoldable pub keys_of : ℕ → Bytes → List ℕ → List Bytes
keys_of n bytes lengths = zip_with cell_key (cells cell_size n bytes) (cells length_count n lengths)

unfoldable pub values_of : ℕ → Bytes → List ℕ → List Bytes
values_of n bytes lengths = zip_with cell_value (cells cell_size n bytes) (cells length_count n lengths)

-- rows made of keys and of what is held under them
abbrev pub row : {A : Type 0} → Bytes → A → Bytes × A
row key held = (key, held)

unfoldable pub rows_of : {A : Type 0} → List Bytes → List A → Rows A
rows_of keys held = zip_with row keys held
