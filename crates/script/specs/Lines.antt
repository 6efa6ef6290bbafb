-- A line is fields with a bar between each two of them.
use Rattle.std.specs.Prelude.{ℕ, List, [], ◌∷◌, ◌++◌, get_or, drop}
use Rattle.base.specs.Bytes.{Bytes}
use Rattle.base.specs.Cuts.{pieces}

abbrev pub bar : ℕ
bar = 124

-- the fields of a line: the line cut at each bar
abbrev pub line_fields : Bytes → List Bytes
line_fields line = pieces bar line

-- the line that some fields make
abbrev pub barred : List Bytes → Bytes
barred [] = []
barred (f ∷ []) = f
barred (f ∷ g ∷ fs) = f ++ bar ∷ barred (g ∷ fs)

-- field k, counted from 0; no bytes where the line has fewer
unfoldable pub field_at : ℕ → Bytes → Bytes
field_at k line = get_or (line_fields line) k []

-- a line from field k on: its other fields, with their bars
unfoldable pub from_field : ℕ → Bytes → Bytes
from_field k line = barred (drop k (line_fields line))
