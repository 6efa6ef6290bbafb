-- Changes of one row, as they are made in every array of cells.
use Rattle.std.specs.Prelude.{ℕ, ◌+◌, ◌-◌, ◌≤◌, ◌<◌, Bool, true, false, List, ◌≡◌, leb, set}
use Rattle.base.specs.Bytes.{Bytes}
use Rattle.cells.specs.Cells.{cells, insert_at, remove_at}
use Rattle.row_cells.specs.Sizes.{max_rows, cell_size, length_count}
use Rattle.row_change.specs.declared.Change.TheVariants.{Leave, Remove, Replace, Insert}
use Rattle.row_change.specs.declared.Change.{Change}

-- a list after a change, where the changed row has a in it
abbrev pub changed : {A : Type 0} → Change → A → List A → List A
changed Leave a l = l
changed (Remove i) a l = remove_at i l
changed (Replace i) a l = set l i a
changed (Insert i) a l = insert_at i a l

abbrev pub count_after : Change → ℕ → ℕ
count_after Leave n = n
count_after (Remove i) n = n - 1
count_after (Replace i) n = n
count_after (Insert i) n = n + 1

-- a change that n rows allow, of which there are at most so many as there is room for, before and after
abbrev pub Fits : Change → ℕ → Type 0
Fits Leave n = n ≤ max_rows
Fits (Remove i) n = (i < n) × (n ≤ max_rows)
Fits (Replace i) n = (i < n) × (n ≤ max_rows)
Fits (Insert i) n = (i ≤ n) × (n < max_rows)

-- whether a change would add a row to as many as there is room for
abbrev pub is_over : Change → ℕ → Bool
is_over Leave n = false
is_over (Remove i) n = false
is_over (Replace i) n = false
is_over (Insert i) n = leb max_rows n

-- whether a change leaves a row that holds what is given
abbrev pub stores : Change → Bool
stores Leave = false
stores (Remove i) = false
stores (Replace i) = true
stores (Insert i) = true

-- the cells of n rows, changed: the changed row has `cell` and `lens`
pub record Altered (change : Change) (cell : Bytes) (lens : List ℕ) (n : ℕ) (bytes lengths bytes' lengths' : List ℕ) : Type 0 where
  pub of_bytes : cells cell_size (count_after change n) bytes' ≡ changed change cell (cells cell_size n bytes)
  pub of_lengths : cells length_count (count_after change n) lengths' ≡ changed change lens (cells length_count n lengths)
