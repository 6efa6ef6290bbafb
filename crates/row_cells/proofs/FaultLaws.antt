-- What is known of rows that pass, and what is to be shown of them. Assumes nothing.
use Prim.Native.Nat.{ℕ}
use native.Mathlib.Omega.{arith}
use mathlib.Core.List.{List, zip_with}
use mathlib.Core.Option.{none}
use mathlib.Core.Path.{◌≡◌, refl}
use borrow.Author.Tests.{le-ltb, ltb-false, not-false}
use Rattle.base.proofs.CheckLaws.{passed}
use Rattle.base.specs.Bytes.{Bytes, every}
use Rattle.base.specs.Checks.{first_refusal}
use Rattle.cells.specs.Cells.{cells}
use Rattle.row_cells.specs.Faults.{row_faults, GoodRows}
use Rattle.row_cells.specs.Sizes.{max_rows}
use Rattle.row_cells.specs.Texts.{keys_of}
use Rattle.rows.specs.Rows.{rising}

module _ (n : ℕ) (bytes : Bytes) (lengths : List ℕ) where
  pub good_rows : first_refusal (row_faults n bytes lengths) ≡ none → GoodRows n bytes lengths
  good_rows e =
      let faults = row_faults n bytes lengths in
      record {
        few = ltb-false max_rows n (passed 0 faults e);
        fit = not-false _ (passed 1 faults e);
        are_keys = not-false _ (passed 2 faults e);
        rise = not-false _ (passed 3 faults e);
      }

  pub rows_good : GoodRows n bytes lengths → first_refusal (row_faults n bytes lengths) ≡ none
  unfolding first_refusal
  rows_good g = rw (le-ltb max_rows n g.few, g.fit, g.are_keys, g.rise)

-- no rows are good rows
pub no_rows : (n : ℕ) (bytes : Bytes) (lengths : List ℕ) → n ≡ 0 → GoodRows n bytes lengths
unfolding keys_of cells every rising zip_with
no_rows n bytes lengths e = record { few = rw e (omega arith); fit = rw e refl; are_keys = rw e refl; rise = rw e refl }
