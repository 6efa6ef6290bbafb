-- What an ICANHAZ is refused for, as it is found over the rows and by the split of the message.
use Rattle.std.specs.Prelude.{ℕ, List, ◌++◌, map}
use Rattle.answers.specs.declared.refusal.Refusal.{Refusal}
use Rattle.base.specs.Bytes.{Bytes}
use Rattle.base.specs.Checks.{Check}
use Rattle.cells.specs.Cells.{cells}
use Rattle.framing.specs.Splits.{body_in}
use Rattle.framing.specs.declared.Split.{Split}
use Rattle.ports.specs.Bodies.{icanhaz_by}
use Rattle.row_cells.specs.Sizes.{length_count}
use Rattle.row_cells.specs.Texts.{value_length, keys_of, rows_of}
use Rattle.rows.specs.Rows.{Rows}
use Rattle.server_calls.specs.Refusals.{room_checks}
use Rattle.server_state.specs.IllFormed.{ill_forms}
use Rattle.server_state.specs.declared.Server.{Server}

-- of n rows: their keys, with the lengths of their values
abbrev pub length_rows : ℕ → Bytes → List ℕ → Rows ℕ
length_rows n bytes lengths = rows_of (keys_of n bytes lengths) (map value_length (cells length_count n lengths))

unfoldable pub request_checks : Server → Bytes → Split → ℕ → List (Check Refusal)
request_checks s msg split room =
    ill_forms s
    ++ (icanhaz_by msg split
    ++ room_checks (length_rows s.header.count s.bytes s.lengths) (body_in msg split.places 0) (body_in msg split.places 2) room)
