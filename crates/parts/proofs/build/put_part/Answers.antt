-- `parts::build::put_part` meets its contract: only an open message takes a part. Assumes nothing.
use Rattle.parts.proofs.BuildLaws.{at_open}
use Rattle.parts.proofs.build.put_part.Goals as goal

pub returns-in-Open : goal.returns-in-Open
returns-in-Open c = at_open c.in-Open.is c.put_at.ensures
