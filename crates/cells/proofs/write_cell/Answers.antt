-- `cells::write_cell` meets its contract: both pieces fit into the cell, and lie there one behind the other. Assumes
-- nothing.
use Rattle.std.proofs.Common.{arith}
use Rattle.cells.proofs.CellLaws.{put_both}
use Rattle.cells.proofs.write_cell.Goals as goal

pub returns : goal.returns
returns g c = put_both _ _ _ _ _ _ (omega arith) c.copy_from_slice.ensures.after c.copy_from_slice-2.ensures.after
