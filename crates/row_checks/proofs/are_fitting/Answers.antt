-- `row_checks::are_fitting` meets its contract: the flag tells of the rows passed, and of all at the end. Assumes nothing.
use native.Mathlib.Omega.{arith}
use mathlib.Core.List.{[]}
use mathlib.Core.Path.{refl, ap, ◌∙◌}
use lib.Seq.{take_all}
use Rattle.base.specs.Bytes.{every}
use Rattle.cells.proofs.CellLaws.{length-cells, cell-at}
use Rattle.cells.specs.Cells.{cells, cell_at}
use Rattle.row_cells.specs.Faults.{fitting}
use Rattle.row_cells.specs.Sizes.{length_count}
use Rattle.row_checks.proofs.PassLaws.{fitting-more}
use Rattle.row_checks.proofs.are_fitting.Goals as goal

pub loop-i-init : goal.loop-i-init
unfolding every
loop-i-init c = refl

pub loop-i-preserved : goal.loop-i-preserved
loop-i-preserved c =
    let l = c.loop-i in
    let a = c.args in
    let cs = cells length_count a.count a.lengths.now in
    let n = length-cells length_count a.count a.lengths.now in
    rw (c.key_length_at-key.ensures, c.value_length_at-value.ensures)
    (fitting-more cs l.i l.good (cell_at length_count l.i a.lengths.now) (cell-at length_count a.count l.i a.lengths.now [] (omega arith)) (omega arith) l.invariant)

pub returns : goal.returns
returns c =
    let l = c.loop-i in
    let a = c.args in
    let n = length-cells length_count a.count a.lengths.now in
    l.invariant ∙ ap (every fitting) (take_all l.i (cells length_count a.count a.lengths.now) (omega arith))
