-- `cells::element_at` meets its contract: the element is in the array, and in its cell. Assumes nothing.
use Rattle.std.proofs.Common.{refl, arith, ◌∙◌}
use Rattle.std.proofs.lemmas.List.{get_or_read_under}
use Rattle.cells.proofs.CellLaws.{element_of}
use Rattle.cells.proofs.element_at.Goals as goal

pub returns : goal.returns
returns g c = λ d.
    let read = c.index-all-stride in
    get_or_read_under c.args.all.now _ _ read.result d read.is (omega arith) refl ∙ element_of _ _ _ _ d c.requires.1
