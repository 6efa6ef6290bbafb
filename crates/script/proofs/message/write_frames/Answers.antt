-- `script::message::write_frames` meets its contract: all fits, or nothing is touched. Assumes nothing.
use native.Mathlib.Omega.{arith}
use Rattle.base.proofs.OutputLaws.{no_room}
use Rattle.script.proofs.message.write_frames.Goals as goal

pub returns-then-out-frames_length : goal.returns-then-out-frames_length
returns-then-out-frames_length c = no_room (omega arith)
