-- `row_change::change_cells` meets its contract: cells move, and the cell of the changed row is written. Assumes nothing.
use Rattle.std.proofs.Common.{arith, length-append, mul-le-mul_left}
use Rattle.cells.proofs.CellLaws.{cells_replaced, cells_inserted}
use Rattle.row_change.proofs.change_cells.Goals as goal

pub returns-in-Replace : goal.returns-in-Replace
returns-in-Replace g c =
    let fits = rw c.in-Replace.is at c.requires.0 in
    let all = mul-le-mul_left c.args.stride fits.1 in
    let written = c.write_cell.ensures in
    rw c.in-Replace.is (cells_replaced _ _ _ _ _ _ (simp length-append c.requires.1.1) fits.0 (omega arith) written)

pub returns-in-Insert : goal.returns-in-Insert
returns-in-Insert g c =
    let fits = rw c.in-Insert.is at c.requires.0 in
    let put_in = c.insert_cell.ensures in
    rw c.in-Insert.is (cells_inserted _ _ _ _ _ _ (simp length-append c.requires.1.1) fits.0 put_in)
