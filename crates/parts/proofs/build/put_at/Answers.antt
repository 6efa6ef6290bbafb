-- `parts::build::put_at` meets its contract: the place that the frame's writer gives back tells whether the frame was written. Assumes nothing.
use Rattle.parts.proofs.BuildLaws.{not_put}
use Rattle.parts.proofs.build.put_at.Goals as goal

pub returns-then-next-at : goal.returns-then-next-at
returns-then-next-at c = not_put _ _ _ _ _ _ c.put_frame-next.ensures c.if-next-at.true
