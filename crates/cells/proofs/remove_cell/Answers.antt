-- `cells::remove_cell` meets its contract: the cells above move down by one. Assumes nothing.
use Rattle.std.proofs.Common.{◌+◌, ◌*◌, ◌-◌, ◌≡◌, arith}
use Rattle.cells.proofs.CellLaws.{moved_down}
use Rattle.cells.proofs.remove_cell.Goals as goal

pub returns : goal.returns
returns g c =
    let a = c.args in
    let from = a.stride * a.at in
    let to = a.stride * a.last in
    let run : to + a.stride - (from + a.stride) ≡ to - from = omega arith in
    let copied = c.copy_within.ensures in
    moved_down _ _ _ _ _ c.requires.0 c.requires.1 copied.len (rw run at copied.after)
