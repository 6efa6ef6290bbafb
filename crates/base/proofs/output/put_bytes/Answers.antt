-- `base::output::put_bytes` meets its contract: either there is room and the copy is whole, or nothing is touched. Assumes nothing.
use Rattle.std.proofs.Common.{refl, sym, ◌∙◌}
use Rattle.std.proofs.lemmas.Bool.{leb-true}
use Rattle.base.proofs.OutputLaws.{wrote}
use Rattle.base.proofs.output.put_bytes.Goals as goal

pub returns : goal.returns
returns c = wrote (leb-true _ _ (sym c.has_room.ensures ∙ c.if-not-has_room.false)) refl c.copy.ensures
