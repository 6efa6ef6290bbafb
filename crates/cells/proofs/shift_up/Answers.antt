-- `cells::shift_up` meets its contract: the cells move up by one. Assumes nothing.
use Rattle.cells.proofs.CellLaws.{moved_up}
use Rattle.cells.proofs.shift_up.Goals as goal

pub returns : goal.returns
returns g c =
    let copied = c.copy_within.ensures in
    moved_up _ _ _ _ _ c.requires.0 c.requires.1 copied.len copied.after
