-- `base::bytes::find_byte` meets its contract by the library's search. Assumes nothing.
use Rattle.base.proofs.CutLaws.{found_by}
use Rattle.base.proofs.bytes.find_byte.Goals as goal

pub returns : goal.returns
returns c = found_by _ _ _ c.place_of.ensures
