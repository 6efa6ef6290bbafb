-- `framing::split_message` meets its contract: what is known of the message behind each frame (`Passed`) goes on from
-- frame to frame. Assumes nothing.
use Prim.Native.Nat.{◌-◌}
use lib.ListN.{length}
use Rattle.framing.proofs.SplitLaws.{Passed}
use Rattle.framing.proofs.split_message.Given as goal

abbrev pub invariant-loop-start : goal.invariant-loop-start
invariant-loop-start l = Passed l.msg l.places l.at l.n

abbrev pub decreases-loop-start : goal.decreases-loop-start
decreases-loop-start l = length l.msg - l.at
