-- `server_state::validate::are_stamped` meets its contract: the flag tells of the rows passed, and of all at the end. Assumes nothing.
use mathlib.Core.Path.{◌≡◌}
use lib.ListN.{take}
use Rattle.base.specs.Bytes.{every}
use Rattle.cells.specs.Cells.{cells}
use Rattle.server_state.specs.IllFormed.{stamped}
use Rattle.server_state.specs.Stamps.{stamp_count}
use Rattle.server_state.proofs.validate.are_stamped.Given as goal

abbrev pub invariant-loop-i : goal.invariant-loop-i
invariant-loop-i l = l.good ≡ every (stamped l.number.0) (take l.i (cells stamp_count l.count l.stamps))
