-- `cells::part` meets its contract: the part begins in the cell and ends in it. Assumes nothing.
use Rattle.std.proofs.Common.{◌+◌, ◌*◌, ◌-◌, ◌≡◌, arith}
use Rattle.cells.proofs.CellLaws.{part_of_cell}
use Rattle.cells.proofs.part.Goals as goal

pub returns : goal.returns
returns g c =
    let a = c.args in
    let from = a.stride * a.i + a.at in
    let run : from + a.len - from ≡ a.len = omega arith in
    rw run (part_of_cell _ _ _ _ _ c.requires.1)
