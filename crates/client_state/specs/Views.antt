-- What a client's state is, besides its bits: whether it is live, its number, its silence clock, its subtree, and its
-- rows in key order.
use Rattle.std.specs.Prelude.{ℕ, Bool, not, List, eqb, take}
use Rattle.base.specs.Bytes.{Bytes}
use Rattle.client_state.specs.declared.Client.{Client}
use Rattle.client_state.specs.declared.Header.{Header}
use Rattle.row_cells.specs.Texts.{keys_of, values_of, rows_of}
use Rattle.rows.specs.Rows.{Rows}

-- a client's copy of the part of the map under a subtree: keys and values
pub record Replica : Type 0 where
  pub live : Bool
  pub number : ℕ
  pub clock : ℕ
  pub subtree : Bytes
  pub rows : Rows Bytes

-- ---- a state
-- the state whose arrays are lent one by one, with its header beside them
abbrev pub lent : Bytes → List ℕ → Bytes → Header → Client
lent bytes lengths subtree header = record { bytes = bytes; lengths = lengths; subtree = subtree; header = header }

-- the phase 0 is that of a client that waits
abbrev pub is_waiting : ℕ → Bool
is_waiting phase = eqb phase 0

-- of the subtree's array as many bytes count as its length says
abbrev pub subtree_of : Client → Bytes
subtree_of c = take c.header.subtree_length c.subtree

-- the keys of its rows, and the values that it holds under them
abbrev pub key_list : Client → List Bytes
key_list c = keys_of c.header.count c.bytes c.lengths

abbrev pub value_list : Client → List Bytes
value_list c = values_of c.header.count c.bytes c.lengths

unfoldable pub view : Client → Replica
view c = record {
  live = not (is_waiting c.header.phase);
  number = c.header.number.0;
  clock = c.header.clock.0;
  subtree = subtree_of c;
  rows = rows_of (key_list c) (value_list c);
}
