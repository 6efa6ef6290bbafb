-- `row_checks::are_fitting` meets its contract: the flag tells of the rows passed, and of all at the end. Assumes nothing.
use mathlib.Core.Path.{◌≡◌}
use lib.ListN.{take}
use Rattle.base.specs.Bytes.{every}
use Rattle.cells.specs.Cells.{cells}
use Rattle.row_cells.specs.Faults.{fitting}
use Rattle.row_cells.specs.Sizes.{length_count}
use Rattle.row_checks.proofs.are_fitting.Given as goal

abbrev pub invariant-loop-i : goal.invariant-loop-i
invariant-loop-i l = l.good ≡ every fitting (take l.i (cells length_count l.count l.lengths))
