-- `wire_examples::judge::list_frames` ends: the measure is what is left of the bytes. Assumes nothing.
use Rattle.std.proofs.Common.{length, ◌-◌}
use Rattle.wire_examples.proofs.judge.list_frames.Given as goal

abbrev pub decreases-loop-frame : goal.decreases-loop-frame
decreases-loop-frame g l = length l.s - l.at
