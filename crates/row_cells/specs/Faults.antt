-- What makes rows ill-formed, as tests on their bits.
use Rattle.std.specs.Prelude.{ℕ, ◌≤◌, Bool, true, not, ◌&&◌, List, [], ◌∷◌, ◌≡◌, leb, ltb}
use Rattle.answers.specs.declared.refusal.Refusal.TheVariants.{IllFormed}
use Rattle.answers.specs.declared.refusal.Refusal.{Refusal}
use Rattle.base.specs.Bytes.{Bytes, every}
use Rattle.base.specs.Checks.Check.{when}
use Rattle.base.specs.Checks.{Check}
use Rattle.cells.specs.Cells.{cells}
use Rattle.frame_forms.specs.Lengths.{value_room}
use Rattle.keys.specs.Keys.{key_room, is_key}
use Rattle.row_cells.specs.Sizes.{max_rows, length_count}
use Rattle.row_cells.specs.Texts.{key_length, value_length, keys_of}
use Rattle.rows.specs.Rows.{rising}

-- of a row's lengths: the key fits its room, and the value has 1 to 256 bytes
abbrev pub fitting : List ℕ → Bool
fitting lengths = leb (key_length lengths) key_room && (leb 1 (value_length lengths) && leb (value_length lengths) value_room)

-- of n rows: more than there is room for; a key longer than its room, or a value of no bytes or of more than 256; a key
-- that is none; keys that do not rise
abbrev pub row_faults : ℕ → Bytes → List ℕ → List (Check Refusal)
row_faults n bytes lengths =
    when (ltb max_rows n) IllFormed
    ∷ when (not (every fitting (cells length_count n lengths))) IllFormed
    ∷ when (not (every is_key (keys_of n bytes lengths))) IllFormed
    ∷ when (not (rising (keys_of n bytes lengths))) IllFormed
    ∷ []

-- none of these
pub record GoodRows (n : ℕ) (bytes : Bytes) (lengths : List ℕ) : Type 0 where
  pub few : n ≤ max_rows
  pub fit : every fitting (cells length_count n lengths) ≡ true
  pub are_keys : every is_key (keys_of n bytes lengths) ≡ true
  pub rise : rising (keys_of n bytes lengths) ≡ true
