-- What a server's state is, besides its bits: its number, its two clocks, and its rows in key order.
use Rattle.std.specs.Prelude.{ℕ, ◌≡◌, length}
use mathlib.Core.List.{List, zip_with}
use Rattle.std.proofs.Math.Option.{Option}
use Rattle.base.specs.Bytes.{Bytes}
use Rattle.cells.specs.Cells.{cells}
use Rattle.row_cells.specs.Sizes.{length_count, byte_count, word_count}
use Rattle.row_cells.specs.Texts.{keys_of, values_of, rows_of}
use Rattle.rows.specs.Rows.{Rows, map_rows}
use Rattle.server_state.specs.Stamps.{stamp_count, stamp_number, stamp_expiry, expiry_in}
use Rattle.server_state.specs.declared.Header.{Header}
use Rattle.server_state.specs.declared.Server.{Server}

-- what is held under a key: a value, and the tick that it expires at, if any
pub record Held : Type 0 where
  pub value : Bytes
  pub expiry : Option ℕ

-- what a server holds under a key: besides, the number of the row's last set
pub record Entry : Type 0 where
  pub value : Bytes
  pub expiry : Option ℕ
  pub number : ℕ

-- a number, the ticks of the last call and of the last publication, and rows
pub record Ledger (A : Type 0) : Type 0 where
  pub number : ℕ
  pub last_tick : ℕ
  pub last_published : ℕ
  pub rows : Rows A

-- ---- a state
-- the state whose arrays are lent one by one, with its header beside them
abbrev pub lent : Bytes → List ℕ → List ℕ → Header → Server
lent bytes lengths stamps header = record { bytes = bytes; lengths = lengths; stamps = stamps; header = header }

-- a state whose arrays have their sizes, as those of every Server that a function is given
pub record SizedServer (s : Server) : Type 0 where
  pub bytes : length s.bytes ≡ byte_count
  pub lengths : length s.lengths ≡ word_count length_count
  pub stamps : length s.stamps ≡ word_count stamp_count

-- of a value and the stamps of its row
abbrev pub entry : Bytes → List ℕ → Entry
entry value stamps = record { value = value; expiry = expiry_in (stamp_expiry stamps); number = stamp_number stamps }

-- the keys of its rows, and what it holds under them
abbrev pub key_list : Server → List Bytes
key_list s = keys_of s.header.count s.bytes s.lengths

unfoldable pub entry_list : Server → List Entry
entry_list s = zip_with entry (values_of s.header.count s.bytes s.lengths) (cells stamp_count s.header.count s.stamps)

-- and its rows
abbrev pub row_list : Server → Rows Entry
row_list s = rows_of (key_list s) (entry_list s)

unfoldable pub view : Server → Ledger Entry
view s = record {
  number = s.header.number.0;
  last_tick = s.header.last_tick.0;
  last_published = s.header.last_published.0;
  rows = row_list s;
}

-- ---- what the refusals read of it
unfoldable pub plain : Entry → Held
plain e = record { value = e.value; expiry = e.expiry }

unfoldable pub ledger_of : Ledger Entry → Ledger Held
ledger_of v = record { number = v.number; last_tick = v.last_tick; last_published = v.last_published; rows = map_rows plain v.rows }
