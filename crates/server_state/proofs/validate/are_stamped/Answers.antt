-- `server_state::validate::are_stamped` meets its contract: the flag tells of the rows passed, and of all at the end. Assumes nothing.
use native.Mathlib.Omega.{arith}
use mathlib.Core.List.{[]}
use mathlib.Core.Path.{refl, ap, ◌∙◌}
use lib.Dec.{ltb}
use lib.Seq.{take_all}
use Rattle.base.specs.Bytes.{every}
use Rattle.cells.proofs.CellLaws.{length-cells, cell-at}
use Rattle.cells.specs.Cells.{cells, cell_at}
use Rattle.server_state.proofs.FormLaws.{stamped-more}
use Rattle.server_state.specs.IllFormed.{stamped}
use Rattle.server_state.specs.Stamps.{stamp_count, is_expiry}
use Rattle.server_state.proofs.validate.are_stamped.Goals as goal

pub loop-i-init : goal.loop-i-init
unfolding every
loop-i-init c = refl

pub loop-i-preserved : goal.loop-i-preserved
loop-i-preserved c =
    let l = c.loop-i in
    let a = c.args in
    let n = length-cells stamp_count a.count a.stamps.now in
    stamped-more a.number.0 (cells stamp_count a.count a.stamps.now) l.i l.good (cell_at stamp_count l.i a.stamps.now)
    (cell-at stamp_count a.count l.i a.stamps.now [] (omega arith)) (omega arith) l.invariant
    (c.is_above-above.ensures ∙ ap (ltb a.number.0) c.number_at.ensures)
    (c.is_expiry.ensures ∙ ap is_expiry c.expiry_at.ensures)

pub returns : goal.returns
returns c =
    let l = c.loop-i in
    let a = c.args in
    let n = length-cells stamp_count a.count a.stamps.now in
    l.invariant ∙ ap (every (stamped a.number.0)) (take_all l.i (cells stamp_count a.count a.stamps.now) (omega arith))
