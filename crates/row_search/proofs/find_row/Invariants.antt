-- `row_search::find_row` meets its contract. The loop keeps that the keys between the two places answer for all of them:
-- the key in the middle tells which half does. Once there are none left between, the key is missing there. The measure is
-- how many are left between. Assumes nothing.
use Prim.Native.Nat.{ℕ, ◌-◌, ◌≤◌}
use mathlib.Core.List.{List}
use mathlib.Core.Path.{◌≡◌}
use Rattle.base.specs.Bytes.{Bytes}
use Rattle.row_cells.specs.Texts.{keys_of}
use Rattle.row_search.specs.Places.{place_of}
use Rattle.row_search.proofs.FindLaws.{between}
use Rattle.row_search.proofs.find_row.Given as goal

pub record Halving (k : Bytes) (ks : List Bytes) (count lo hi : ℕ) : Type 0 where
  pub from : lo ≤ hi
  pub to : hi ≤ count
  pub keeps : place_of 0 k ks ≡ place_of lo k (between lo hi ks)

abbrev pub invariant-loop-lo : goal.invariant-loop-lo
invariant-loop-lo l = Halving l.key (keys_of l.count l.bytes l.lengths) l.count l.lo l.hi

abbrev pub decreases-loop-lo : goal.decreases-loop-lo
decreases-loop-lo l = l.hi - l.lo
