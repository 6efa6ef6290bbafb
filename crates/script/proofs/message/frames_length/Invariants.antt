-- `script::message::frames_length` meets its contract: the length so far, and that of the rest. Assumes nothing.
use Prim.Native.Nat.{◌+◌, min}
use mathlib.Core.Path.{◌≡◌}
use lib.ListN.{length}
use Rattle.base.specs.Output.{largest}
use Rattle.script.specs.Messages.{message_of}
use Rattle.script.proofs.message.frames_length.Given as goal

abbrev pub invariant-loop-front : goal.invariant-loop-front
invariant-loop-front l = min (length (message_of l.line)) largest ≡ min (l.n + length (message_of l.rest)) largest

abbrev pub decreases-loop-front : goal.decreases-loop-front
decreases-loop-front l = length l.rest
