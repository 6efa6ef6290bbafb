-- `wire_examples::judge::list_frames` is safe and ends: each frame moves the place on. Assumes nothing.
use native.Mathlib.Omega.{arith}
use mathlib.Core.Path.{sym, ◌∙◌}
use Rattle.parts.proofs.WalkLaws.{taken_moves}
use Rattle.wire_examples.proofs.judge.list_frames.Goals as goal

pub overflow_add-at : goal.overflow_add-at
overflow_add-at g c = omega (arith, taken_moves _ _ _ _ _ _ (sym c.in-Some.is ∙ c.next_frame.ensures))

pub loop-frame-smaller : goal.loop-frame-smaller
loop-frame-smaller g c = omega (arith, taken_moves _ _ _ _ _ _ (sym c.in-Some.is ∙ c.next_frame.ensures))
