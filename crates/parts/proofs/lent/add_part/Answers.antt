-- `parts::lent::add_part` meets its contract: the message that the numbers tell, with the part. Assumes nothing.
use Rattle.parts.proofs.NumberLaws.{is_added}
use Rattle.parts.proofs.lent.add_part.Goals as goal

pub returns : goal.returns
returns c = is_added c.built_of.ensures c.put_part-next.ensures c.numbers_of.ensures
