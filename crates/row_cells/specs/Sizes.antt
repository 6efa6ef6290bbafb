-- The sizes of the arrays that hold rows.
use Rattle.std.specs.Prelude.{ℕ, ◌+◌, ◌*◌}
use Rattle.frame_forms.specs.Lengths.{value_room}
use Rattle.keys.specs.Keys.{key_room}

-- how many rows there is room for
abbrev pub max_rows : ℕ
max_rows = 64

-- the bytes of a row: room for a key, and for a value behind it
abbrev pub cell_size : ℕ
cell_size = key_room + value_room

-- the lengths of a row: that of its key, and that of its value
abbrev pub length_count : ℕ
length_count = 2

-- the bytes of all rows, and the words of all rows of which each has so many
abbrev pub byte_count : ℕ
byte_count = max_rows * cell_size

abbrev pub word_count : ℕ → ℕ
word_count each = max_rows * each
