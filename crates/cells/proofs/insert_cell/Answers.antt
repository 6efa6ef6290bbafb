-- `cells::insert_cell` meets its contract: the cells above have moved up, and the cell that is free is written.
-- Assumes nothing.
use Rattle.std.proofs.Common.{arith, length-append}
use Rattle.cells.proofs.CellLaws.{cell_in}
use Rattle.cells.proofs.insert_cell.Goals as goal

pub returns : goal.returns
returns g c =
    let p = c.requires in
    cell_in _ _ _ _ _ _ _ p.0 (omega arith) (simp length-append p.1.1) c.shift_up.ensures c.write_cell.ensures
